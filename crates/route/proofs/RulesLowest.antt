-- The first number that passes a test, and the lowest setting.
--
--   First f i n o     o is the first of the n numbers from i on that pass, or none, and none of them pass
--   find_iota         what `find` over consecutive numbers answers is this; find_is, find_none: and whatever is this is what it answers
--   find_iota_split   the first of n + m numbers is the first of the first n of them, or else that of the other m (otherwise)
--   find_cong         two tests that agree on the elements of a list find the same in it
--   halves, weight, all_modes
--                     2^(m-1) is half of 2^m, and fits into 16 bits; 2^m is at most 2^maxModes
--   settle_both       of the settings of the modes up to m those with mode m off come first, then those with it on
--   lowest_claim      THE CLAIM: `lowest` is the lowest setting that works; there is none exactly when the route is not permitted
--
-- Assumes nothing.
use mathlib.Core.Path.{◌≡◌, refl, sym, ◌∙◌, ap, subst}
use mathlib.Core.Logic.{◌⊎◌, inl, inr}
use mathlib.Core.Bool.{Bool, true, false}
use mathlib.Core.Option.{Option, none, some}
use Prim.Native.Nat.{ℕ, zero, suc, ◌+◌, ◌*◌, ◌-◌, ◌%◌, ◌^◌, ◌≤◌, ◌<◌}
use mathlib.Core.List.{List, [], ◌∷◌, ◌++◌, Memᴰ}
use native.Mathlib.Omega.{arith}
use native.Mathlib.Nat.{eq-or-lt_of_le, pow-suc}
use native.Mathlib.Numerals.{sub-one}
use lib.Pow.{pow_mono}
use lib.Dec.{leb}
use borrow.Author.Tests.{leb-true, leb-false}
use Rattle.plan.specs.Bounds.{max_modes}
use Rattle.plan.specs.Lists.{iota}
use Rattle.plan.proofs.Lists.{test, never, untrue, iota_split}
use Rattle.route.specs.Permission.{passes, works, Permitted, or_else, otherwise, find}
use Rattle.route.specs.Claims.{LowestClaim}
use Rattle.route.proofs.MaskBits.{shifted}

pub find_cong : {A : Type 0} (f g : A → Bool) (xs : List A) → ((a : A) → Memᴰ a xs → f a ≡ g a) → find f xs ≡ find g xs
find_cong f g [] h = refl
find_cong f g (x ∷ xs) h = λ i. or_else (h x (Memᴰ.head refl) i) x (find_cong f g xs (λ a m. h a (Memᴰ.tail m)) i)

-- ---- what a mode counts in a setting

pub halves : (m : ℕ) → 1 ≤ m → 2 ^ (m - 1) + 2 ^ (m - 1) ≡ 2 ^ m
halves zero h = absurd (omega arith)
halves (suc k) h = rw (sub-one, pow-suc) (omega arith)

pub weight : (m : ℕ) → m ≤ max_modes → (1 * 2 ^ (m - 1)) % 65536 ≡ 2 ^ (m - 1)
weight m h = shifted (m - 1) 16 (omega arith)

pub all_modes : (m : ℕ) → m ≤ max_modes → 2 ^ m ≤ 2 ^ max_modes
all_modes m h = pow_mono {i = m} {j = max_modes} h

module _ (f : ℕ → Bool) where
  -- ---- the first of a run

  abbrev pub First : ℕ → ℕ → Option ℕ → Type 0
  First i n none = (τ : ℕ) → i ≤ τ → τ < i + n → f τ ≡ false
  First i n (some σ) = (i ≤ σ) × (σ < i + n) × (f σ ≡ true) × ((τ : ℕ) → i ≤ τ → τ < σ → f τ ≡ false)

  from_next : (i : ℕ) → f i ≡ false → (τ : ℕ) → i ≤ τ → (suc i ≤ τ → f τ ≡ false) → f τ ≡ false
  from_next i h τ l below = go (eq-or-lt_of_le l)
    where
      go : (i ≡ τ) ⊎ (i < τ) → f τ ≡ false
      go (inl e) = ap f (sym e) ∙ h
      go (inr k) = below k

  first_next : (i n : ℕ) → f i ≡ false → (o : Option ℕ) → First (suc i) n o → First i (suc n) o
  first_next i n h none g = λ τ l u. from_next i h τ l (λ k. g τ k (omega arith))
  first_next i n h (some σ) g = (omega (arith, g.0), omega (arith, g.1), g.2, λ τ l u. from_next i h τ l (λ k. g.3 τ k u))

  find_iota : (i n : ℕ) → First i n (find f (iota i n))
  find_iota i zero = λ τ l u. absurd (omega arith)
  find_iota i (suc n) = go (test (f i)) (find_iota (suc i) n)
    where
      go : (f i ≡ true) ⊎ (f i ≡ false) → First (suc i) n (find f (iota (suc i) n)) → First i (suc n) (find f (iota i (suc n)))
      go (inl t) g =
          let here : First i (suc n) (some i) = (omega arith, omega arith, t, λ τ l u. absurd (omega arith)) in
          subst (λ (b : Bool). First i (suc n) (or_else b i (find f (iota (suc i) n)))) (sym t) here
      go (inr t) g =
          subst (λ (b : Bool). First i (suc n) (or_else b i (find f (iota (suc i) n)))) (sym t) (first_next i n t (find f (iota (suc i) n)) g)

  -- there is only one first
  first_one : (i n σ : ℕ) → First i n (some σ) → (o : Option ℕ) → First i n o → o ≡ some σ
  first_one i n σ h none g = absurd (never h.2 (g σ h.0 h.1))
  first_one i n σ h (some τ) g = go (test (leb σ τ)) (test (leb τ σ))
    where
      go : (leb σ τ ≡ true) ⊎ (leb σ τ ≡ false) → (leb τ σ ≡ true) ⊎ (leb τ σ ≡ false) → some τ ≡ some σ
      go (inl k) (inl l) = let e : τ ≡ σ = omega (arith, leb-true σ τ k, leb-true τ σ l) in ap {B = Option ℕ} some e
      go (inr k) l = absurd (never g.2 (h.3 τ g.0 (leb-false σ τ k)))
      go (inl k) (inr l) = absurd (never h.2 (g.3 σ h.0 (leb-false τ σ l)))

  find_is : (i n σ : ℕ) → First i n (some σ) → find f (iota i n) ≡ some σ
  find_is i n σ h = first_one i n σ h (find f (iota i n)) (find_iota i n)

  pub find_none : (i n : ℕ) → First i n none → find f (iota i n) ≡ none
  find_none i n h = go (find f (iota i n)) (find_iota i n)
    where
      go : (o : Option ℕ) → First i n o → o ≡ none
      go none g = refl
      go (some σ) g = absurd (never g.2 (h σ g.0 g.1))

  -- ---- a run in two parts

  find_append : (xs ys : List ℕ) → find f (xs ++ ys) ≡ otherwise (find f xs) (find f ys)
  find_append [] ys = refl
  find_append (x ∷ xs) ys = go (f x) (find_append xs ys)
    where
      go : (b : Bool) → find f (xs ++ ys) ≡ otherwise (find f xs) (find f ys)
          → or_else b x (find f (xs ++ ys)) ≡ otherwise (or_else b x (find f xs)) (find f ys)
      go true h = refl
      go false h = h

  find_iota_split : (s n m : ℕ) → find f (iota s (n + m)) ≡ otherwise (find f (iota s n)) (find f (iota (s + n) m))
  find_iota_split s n m = ap (find f) (iota_split s n m) ∙ find_append (iota s n) (iota (s + n) m)

  -- ---- the settings of the modes up to m, the higher ones being as s has them

  pub settle_both : (m s : ℕ) → 1 ≤ m
      → find f (iota s (2 ^ m)) ≡ otherwise (find f (iota s (2 ^ (m - 1)))) (find f (iota (s + 2 ^ (m - 1)) (2 ^ (m - 1))))
  settle_both m s h = ap (λ (n : ℕ). find f (iota s n)) (sym (halves m h)) ∙ find_iota_split s (2 ^ (m - 1)) (2 ^ (m - 1))

-- ---- settings

pub lowest_claim : LowestClaim
lowest_claim terms r = ((λ σ. (to σ, from σ)), (none_to, none_from))
  where
    top : ℕ
    top = 2 ^ terms.modes

    work : ℕ → Bool
    work σ = works terms (passes r) σ

    is : First work 0 top (find work (iota 0 top))
    is = find_iota work 0 top

    to : (σ : ℕ) → find work (iota 0 top) ≡ some σ → (σ < top) × (work σ ≡ true) × ((τ : ℕ) → τ < σ → work τ ≡ false)
    to σ e = let h = subst (First work 0 top) e is in (omega (arith, h.1), h.2, λ τ l. h.3 τ (omega arith) l)

    from : (σ : ℕ) → (σ < top) × (work σ ≡ true) × ((τ : ℕ) → τ < σ → work τ ≡ false) → find work (iota 0 top) ≡ some σ
    from σ h = find_is work 0 top σ (omega arith, omega (arith, h.0), h.1, λ τ l u. h.2 τ u)

    none_to : find work (iota 0 top) ≡ none → Permitted terms r → ⊥
    none_to e w = never w.2 (subst (First work 0 top) e is w.0 (omega arith) (omega (arith, w.1)))

    none_from : (Permitted terms r → ⊥) → find work (iota 0 top) ≡ none
    none_from h = find_none work 0 top (λ τ l u. untrue (work τ) (λ t. h (τ, omega (arith, u), t)))
