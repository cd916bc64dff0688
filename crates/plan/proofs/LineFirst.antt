-- The first broken line of a list of lines, about things of any type.
--
--   on_broken, on_unbroken
--                   one more line in front, broken or not
--   front_first     where one of the lines in front is broken, the lines behind do not count
--   first_is        what first_broken answers: 0 and no line is broken, or the number of the first broken one
--   past            lines that are unbroken are passed over
--   is_first        and it answers that number only
--   none_broken     it answers 0 where no line is broken
--   first_exactly   all this in one: it answers so, and nothing else
--   passed          where it answers 0, and no line has that number, every line is unbroken
--   first_about     lines said of things that have others are broken where they are broken by those; about_unbroken, unbroken_about: so they are
--                   unbroken exactly where they are by those
--
-- Assumes nothing.
use mathlib.Core.Path.{◌≡◌, refl, sym, ◌∙◌, ap, subst}
use mathlib.Core.Logic.{◌⊎◌, inl, inr, ◌↔◌}
use mathlib.Core.Bool.{Bool, true, false}
use Prim.Native.Nat.{ℕ}
use mathlib.Core.List.Memᴰ
use mathlib.Core.List.{List, [], ◌∷◌, ◌++◌, map}
use native.Mathlib.Omega.{arith}
use lib.Dec.{leb}
use borrow.Author.Tests.{leb-true}
use Rattle.plan.specs.Lists.{all}
use Rattle.plan.specs.Refusals.{Line, about, first_broken}
use Rattle.plan.specs.Claims.{Unbroken, FirstIn}
use Rattle.plan.proofs.Lists.{both, each, in_map, map_in}

module _ {A : Type 0} where
  -- one more line in front, broken or not
  pub on_broken : (l : Line A) (ls : List (Line A)) (b : A) → l.broken b ≡ true → first_broken (l ∷ ls) b ≡ l.number
  on_broken l ls b e = ap (λ (t : Bool). elim t [ true ↦ l.number | false ↦ first_broken ls b ]) e

  pub on_unbroken : (l : Line A) (ls : List (Line A)) (b : A) → l.broken b ≡ false → first_broken (l ∷ ls) b ≡ first_broken ls b
  on_unbroken l ls b e = ap (λ (t : Bool). elim t [ true ↦ l.number | false ↦ first_broken ls b ]) e

  pub front_first : (rest : List (Line A)) (b : A) (ls : List (Line A)) → (first_broken ls b ≡ 0 → ⊥) → first_broken (ls ++ rest) b ≡ first_broken ls b
  front_first rest b [] h = absurd (h refl)
  front_first rest b (l ∷ ls) h = go (l.broken b) h (front_first rest b ls)
    where
      go : (t : Bool) → (◌≡◌ {A = ℕ} (elim t [ true ↦ l.number | false ↦ first_broken ls b ]) 0 → ⊥)
          → ((first_broken ls b ≡ 0 → ⊥) → first_broken (ls ++ rest) b ≡ first_broken ls b)
          → ◌≡◌ {A = ℕ} (elim t [ true ↦ l.number | false ↦ first_broken (ls ++ rest) b ]) (elim t [ true ↦ l.number | false ↦ first_broken ls b ])
      go true h below = refl
      go false h below = below h

  more : (l : Line A) (ls : List (Line A)) (b : A) → l.broken b ≡ false → Unbroken ls b → Unbroken (l ∷ ls) b
  more l ls b e h = each (λ (k : Line A). k.broken b ≡ false) e h

  pub first_is : (ls : List (Line A)) (b : A) → ((first_broken ls b ≡ 0) × Unbroken ls b) ⊎ FirstIn ls b (first_broken ls b)
  first_is [] b = inl (refl, λ l m. absurd (Memᴰ.not-nil m))
  first_is (l ∷ ls) b = go (l.broken b) refl (first_is ls b)
    where
      here : l.broken b ≡ true → FirstIn (l ∷ ls) b (first_broken (l ∷ ls) b)
      here e = record {
        before = [];
        line = l;
        after = ls;
        split = refl;
        number = sym (on_broken l ls b e);
        broken = e;
        unbroken = λ k m. absurd (Memᴰ.not-nil m);
      }

      later : l.broken b ≡ false → FirstIn ls b (first_broken ls b) → FirstIn (l ∷ ls) b (first_broken (l ∷ ls) b)
      later e f = record {
        before = l ∷ f.before;
        line = f.line;
        after = f.after;
        split = ap (λ (k : List (Line A)). l ∷ k) f.split;
        number = f.number ∙ sym (on_unbroken l ls b e);
        broken = f.broken;
        unbroken = more l f.before b e f.unbroken;
      }

      go : (t : Bool) → l.broken b ≡ t → ((first_broken ls b ≡ 0) × Unbroken ls b) ⊎ FirstIn ls b (first_broken ls b)
          → ((first_broken (l ∷ ls) b ≡ 0) × Unbroken (l ∷ ls) b) ⊎ FirstIn (l ∷ ls) b (first_broken (l ∷ ls) b)
      go true e k = inr (here e)
      go false e (inl k) = inl (on_unbroken l ls b e ∙ k.0, more l ls b e k.1)
      go false e (inr k) = inr (later e k)

  -- lines that are unbroken are passed over
  pub past : (before : List (Line A)) (ls : List (Line A)) (b : A) → Unbroken before b → first_broken (before ++ ls) b ≡ first_broken ls b
  past [] ls b h = refl
  past (l ∷ before) ls b h = on_unbroken l (before ++ ls) b (h l (Memᴰ.head refl)) ∙ past before ls b (λ k m. h k (Memᴰ.tail m))

  pub is_first : (ls : List (Line A)) (b : A) (n : ℕ) → FirstIn ls b n → first_broken ls b ≡ n
  is_first ls b n f =
      ap (λ (k : List (Line A)). first_broken k b) f.split
      ∙ past f.before (f.line ∷ f.after) b f.unbroken
      ∙ on_broken f.line f.after b f.broken
      ∙ f.number

  pub none_broken : (ls : List (Line A)) (b : A) → Unbroken ls b → first_broken ls b ≡ 0
  none_broken [] b h = refl
  none_broken (l ∷ ls) b h = on_unbroken l ls b (h l (Memᴰ.head refl)) ∙ none_broken ls b (λ k m. h k (Memᴰ.tail m))

  pub first_exactly : (ls : List (Line A)) (b : A) (n : ℕ) → (first_broken ls b ≡ n) ↔ (((n ≡ 0) × Unbroken ls b) ⊎ FirstIn ls b n)
  first_exactly ls b n = (λ e. subst Out e (first_is ls b), back)
    where
      Out : ℕ → Type 0
      Out m = ((m ≡ 0) × Unbroken ls b) ⊎ FirstIn ls b m

      back : ((n ≡ 0) × Unbroken ls b) ⊎ FirstIn ls b n → first_broken ls b ≡ n
      back (inl h) = none_broken ls b h.1 ∙ sym h.0
      back (inr f) = is_first ls b n f

  pub passed : (ls : List (Line A)) (b : A) → all (λ (l : Line A). leb 1 l.number) ls ≡ true → first_broken ls b ≡ 0 → Unbroken ls b
  passed [] b p e = λ l m. absurd (Memᴰ.not-nil m)
  passed (l ∷ ls) b p e =
      let (from-1, below) = both (leb 1 l.number) (all (λ (l : Line A). leb 1 l.number) ls) p in
      go from-1 (l.broken b) refl (passed ls b below)
    where
      go : leb 1 l.number ≡ true → (t : Bool) → l.broken b ≡ t → (first_broken ls b ≡ 0 → Unbroken ls b) → Unbroken (l ∷ ls) b
      go from-1 true q below = let z : l.number ≡ 0 = sym (on_broken l ls b q) ∙ e in absurd (omega (arith, leb-true 1 l.number from-1))
      go from-1 false q below = more l ls b q (below (sym (on_unbroken l ls b q) ∙ e))

-- ---- lines about what a thing has

module _ {A B : Type 0} (f : B → A) where
  pub first_about : (ls : List (Line A)) (b : B) → first_broken (map (about f) ls) b ≡ first_broken ls (f b)
  first_about [] b = refl
  first_about (l ∷ ls) b = ap (λ (n : ℕ). elim (l.broken (f b)) [ true ↦ l.number | false ↦ n ]) (first_about ls b)

  pub unbroken_about : (ls : List (Line A)) (b : B) → Unbroken ls (f b) → Unbroken (map (about f) ls) b
  unbroken_about ls b h l m = let (x, n, q) = map_in (about f) ls m in ap (λ (y : Line B). y.broken b) q ∙ h x n

  pub about_unbroken : (ls : List (Line A)) (b : B) → Unbroken (map (about f) ls) b → Unbroken ls (f b)
  about_unbroken ls b h l m = h (about f l) (in_map (about f) m)
