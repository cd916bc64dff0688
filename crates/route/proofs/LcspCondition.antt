-- Laws of conditioning a formula (specs/Lcsp.antt).
--
--   lit_true, lit_refl   the equality test of literals
--   in_set, set_in, not_in
--                        `l ∈? α` is true exactly where l is in α
--   Hit T α              the clause α holds a literal of T
--   satisfied_hit        where T satisfies Φ, every clause of Φ holds a literal of T
--   hit_satisfied        where every clause of Φ holds a literal of T, and T is consistent, T satisfies Φ
--   left_is              what conditioning leaves, in one go: the clauses that hold no literal of T, each without the literals whose
--                        opposite is in T
--   order_free           so conditioning on an assignment does not depend on its order
--
-- Assumes nothing.
use mathlib.Core.Path.{◌≡◌, refl, sym, ◌∙◌, ap, subst}
use mathlib.Core.Logic.{◌⊎◌, inl, inr, ◌↔◌}
use mathlib.Core.Bool.{Bool, true, false, not, ◌&&◌, ◌||◌, beq, true≢false}
use mathlib.Core.List.Memᴰ
use mathlib.Core.List.{List, [], ◌∷◌, map, Memᴰ}
use borrow.Author.Tests.{eqb-true, eq-eqb}
use Rattle.plan.specs.Lists.{any}
use Rattle.plan.proofs.Lists.{test, both, never, untrue, alike, beq_true, beq_refl, eqb_sym, in_any, any_some, in_map}
use Rattle.route.specs.Lcsp.{Var, graph, free, Lit, ¬ₗ, same_var, same_lit, Clause, Formula, ◌∈?◌, Consistent, unless, without, lacking, ◌given◌, ◌given_all◌, Satisfies}
use Rattle.route.specs.Claims.{OrderFreeClaim}

-- ---- the equality tests

var_true : (v w : Var) → same_var v w ≡ true → v ≡ w
var_true (graph a) (graph b) h = ap graph (eqb-true a b h)
var_true (graph a) (free b) h = absurd (true≢false (sym h))
var_true (free a) (graph b) h = absurd (true≢false (sym h))
var_true (free a) (free b) h = ap free (eqb-true a b h)

var_refl : (v : Var) → same_var v v ≡ true
var_refl (graph a) = eq-eqb a a refl
var_refl (free a) = eq-eqb a a refl

lit_true : (l m : Lit) → same_lit l m ≡ true → l ≡ m
lit_true l m h =
    let k = both (beq l.positive m.positive) (same_var l.var m.var) h in
    let e : l.positive ≡ m.positive = beq_true l.positive m.positive k.0 in
    let v : l.var ≡ m.var = var_true l.var m.var k.1 in
    λ i. record { positive = e i; var = v i }

lit_refl : (l : Lit) → same_lit l l ≡ true
lit_refl l = λ i. beq_refl l.positive i && var_refl l.var i

-- ---- they are symmetric

var_sym : (v w : Var) → same_var v w ≡ same_var w v
var_sym (graph a) (graph b) = eqb_sym a b
var_sym (graph a) (free b) = refl
var_sym (free a) (graph b) = refl
var_sym (free a) (free b) = eqb_sym a b

lit_sym : (l m : Lit) → same_lit l m ≡ same_lit m l
lit_sym l m = λ i. go l.positive m.positive i && var_sym l.var m.var i
  where
    go : (a b : Bool) → beq a b ≡ beq b a
    go true true = refl
    go true false = refl
    go false true = refl
    go false false = refl

-- m is the opposite of l exactly where l is the opposite of m
opposite_sym : (l m : Lit) → same_lit (¬ₗ l) m ≡ same_lit (¬ₗ m) l
opposite_sym l m = λ i. go l.positive m.positive i && var_sym l.var m.var i
  where
    go : (a b : Bool) → beq (not a) b ≡ beq (not b) a
    go true true = refl
    go true false = refl
    go false true = refl
    go false false = refl

-- ---- membership

-- it is `any` of the equality test
set_any : (l : Lit) (α : List Lit) → (l ∈? α) ≡ any (same_lit l) α
set_any l [] = refl
set_any l (m ∷ α) = ap (λ (t : Bool). same_lit l m || t) (set_any l α)

pub in_set : (l : Lit) (α : List Lit) → Memᴰ l α → (l ∈? α) ≡ true
in_set l α m = set_any l α ∙ in_any (same_lit l) α m (lit_refl l)

set_in : (l : Lit) (α : List Lit) → (l ∈? α) ≡ true → Memᴰ l α
set_in l α h = let (m, k, e) = any_some (same_lit l) α (sym (set_any l α) ∙ h) in Memᴰ.cast (lit_true l m e) k

pub not_in : (l : Lit) (α : List Lit) → (Memᴰ l α → ⊥) → (l ∈? α) ≡ false
not_in l α h = untrue (l ∈? α) (λ t. h (set_in l α t))

-- ---- a clause that holds a literal of T

abbrev pub Hit : List Lit → Clause → Type 0
Hit T α = (l : Lit) × Memᴰ l α × Memᴰ l T

without_in : (l : Lit) {m : Lit} (α : Clause) → Memᴰ m (without l α) → Memᴰ m α
without_in l [] k = k
without_in l {m} (x ∷ α) k = go (same_lit l x) k (without_in l α)
  where
    first : (m ≡ x) ⊎ Memᴰ m (without l α) → (Memᴰ m (without l α) → Memᴰ m α) → Memᴰ m (x ∷ α)
    first (inl e) below = Memᴰ.head e
    first (inr n) below = Memᴰ.tail (below n)

    go : (t : Bool) → Memᴰ m (unless t x (without l α)) → (Memᴰ m (without l α) → Memᴰ m α) → Memᴰ m (x ∷ α)
    go true n below = Memᴰ.tail (below n)
    go false n below = first (Memᴰ.cases_cons n) below

in_lacking : (l : Lit) {α : Clause} (Φ : Formula) → Memᴰ α Φ → (l ∈? α) ≡ false → Memᴰ α (lacking l Φ)
in_lacking l [] m h = m
in_lacking l {α} (β ∷ Φ) m h = go (l ∈? β) refl (Memᴰ.cases_cons m) (λ k. in_lacking l Φ k h)
  where
    go : (t : Bool) → (l ∈? β) ≡ t → (α ≡ β) ⊎ Memᴰ α Φ → (Memᴰ α Φ → Memᴰ α (lacking l Φ)) → Memᴰ α (unless t β (lacking l Φ))
    go true e (inl q) below = absurd (never (ap (λ (γ : Clause). l ∈? γ) q ∙ e) h)
    go true e (inr k) below = below k
    go false e (inl q) below = Memᴰ.head q
    go false e (inr k) below = Memᴰ.tail (below k)

pub satisfied_hit : (T : List Lit) (Φ : Formula) → Satisfies T Φ → (α : Clause) → Memᴰ α Φ → Hit T α
satisfied_hit [] Φ h α m = absurd (Memᴰ.not-nil (subst (Memᴰ α) h m))
satisfied_hit (l ∷ T) Φ h α m = go (test (l ∈? α)) (satisfied_hit T (Φ given l) h (without (¬ₗ l) α))
  where
    go : ((l ∈? α) ≡ true) ⊎ ((l ∈? α) ≡ false) → (Memᴰ (without (¬ₗ l) α) (Φ given l) → Hit T (without (¬ₗ l) α)) → Hit (l ∷ T) α
    go (inl t) below = (l, set_in l α t, Memᴰ.head refl)
    go (inr t) below =
        let k = below (in_map (without (¬ₗ l)) (in_lacking l Φ m t)) in
        (k.0, without_in (¬ₗ l) α k.1, Memᴰ.tail k.2)

-- ---- what conditioning leaves

-- a clause without the literals whose opposite passes the test
abbrev cut : (Lit → Bool) → Clause → Clause
cut f [] = []
cut f (m ∷ α) = unless (f (¬ₗ m)) m (cut f α)

-- the clauses none of whose literals pass, each cut
abbrev left : (Lit → Bool) → Formula → Formula
left f [] = []
left f (α ∷ Φ) = unless (any f α) (cut f α) (left f Φ)

-- being in T, as a test
abbrev among : List Lit → Lit → Bool
among T l = l ∈? T

-- by nothing, nothing is cut
cut_none : (α : Clause) → cut (among []) α ≡ α
cut_none [] = refl
cut_none (m ∷ α) = ap (λ (β : Clause). m ∷ β) (cut_none α)

none_among : (α : Clause) → any (among []) α ≡ false
none_among [] = refl
none_among (m ∷ α) = none_among α

left_none : (Φ : Formula) → left (among []) Φ ≡ Φ
left_none [] = refl
left_none (α ∷ Φ) = λ i. unless (none_among α i) (cut_none α i) (left_none Φ i)

-- by a further literal l, whose opposite is not in T
module _ (l : Lit) (T : List Lit) where
  cut_more : (α : Clause) → cut (among (l ∷ T)) α ≡ cut (among T) (without (¬ₗ l) α)
  cut_more [] = refl
  cut_more (m ∷ α) = ap (λ (t : Bool). unless (t || among T (¬ₗ m)) m (cut (among (l ∷ T)) α)) (opposite_sym m l) ∙ go (same_lit (¬ₗ l) m) (cut_more α)
    where
      go : (t : Bool) → cut (among (l ∷ T)) α ≡ cut (among T) (without (¬ₗ l) α)
          → unless (t || among T (¬ₗ m)) m (cut (among (l ∷ T)) α) ≡ cut (among T) (unless t m (without (¬ₗ l) α))
      go true e = e
      go false e = ap (unless (among T (¬ₗ m)) m) e

  any_more : among T (¬ₗ l) ≡ false → (α : Clause) → any (among (l ∷ T)) α ≡ ((l ∈? α) || any (among T) (without (¬ₗ l) α))
  any_more out [] = refl
  any_more out (m ∷ α) =
      (λ i. (lit_sym m l i || among T m) || any_more out α i) ∙ go (same_lit (¬ₗ l) m) refl
    where
      turn : (a b c d : Bool) → ((a || b) || (c || d)) ≡ ((a || c) || (b || d))
      turn true b c d = refl
      turn false true true d = refl
      turn false true false d = refl
      turn false false c d = refl

      skip : (a c d : Bool) → ((a || false) || (c || d)) ≡ ((a || c) || d)
      skip true c d = refl
      skip false c d = refl

      go : (t : Bool) → same_lit (¬ₗ l) m ≡ t
          → ((same_lit l m || among T m) || ((l ∈? α) || any (among T) (without (¬ₗ l) α)))
          ≡ ((same_lit l m || (l ∈? α)) || any (among T) (unless t m (without (¬ₗ l) α)))
      go true e =
          let gone : among T m ≡ false = subst (λ (x : Lit). among T x ≡ false) (lit_true (¬ₗ l) m e) out in
          ap (λ (b : Bool). (same_lit l m || b) || ((l ∈? α) || any (among T) (without (¬ₗ l) α))) gone
          ∙ skip (same_lit l m) (l ∈? α) (any (among T) (without (¬ₗ l) α))
      go false e = turn (same_lit l m) (among T m) (l ∈? α) (any (among T) (without (¬ₗ l) α))

  left_more : among T (¬ₗ l) ≡ false → (Φ : Formula) → left (among T) (Φ given l) ≡ left (among (l ∷ T)) Φ
  left_more out [] = refl
  left_more out (α ∷ Φ) = go (l ∈? α) (left_more out Φ) ∙ sym (λ i. unless (any_more out α i) (cut_more α i) (left (among (l ∷ T)) Φ))
    where
      go : (t : Bool) → left (among T) (Φ given l) ≡ left (among (l ∷ T)) Φ
          → left (among T) (map (without (¬ₗ l)) (unless t α (lacking l Φ)))
          ≡ unless (t || any (among T) (without (¬ₗ l) α)) (cut (among T) (without (¬ₗ l) α)) (left (among (l ∷ T)) Φ)
      go true e = e
      go false e = ap (unless (any (among T) (without (¬ₗ l) α)) (cut (among T) (without (¬ₗ l) α))) e

left_is : (T : List Lit) (Φ : Formula) → Consistent T → Φ given_all T ≡ left (among T) Φ
left_is [] Φ c = sym (left_none Φ)
left_is (l ∷ T) Φ c = left_is T (Φ given l) (λ m x y. c m (Memᴰ.tail x) (Memᴰ.tail y)) ∙ left_more l T out Φ
  where
    out : among T (¬ₗ l) ≡ false
    out = not_in (¬ₗ l) T (λ k. c l (Memᴰ.head refl) (Memᴰ.tail k))

-- where a literal of each clause passes, nothing is left
none_left : (f : Lit → Bool) (Φ : Formula) → ((α : Clause) → Memᴰ α Φ → any f α ≡ true) → left f Φ ≡ []
none_left f [] h = refl
none_left f (α ∷ Φ) h =
    ap (λ (t : Bool). unless t (cut f α) (left f Φ)) (h α (Memᴰ.head refl)) ∙ none_left f Φ (λ β m. h β (Memᴰ.tail m))

pub hit_satisfied : (T : List Lit) (Φ : Formula) → Consistent T → ((α : Clause) → Memᴰ α Φ → Hit T α) → Satisfies T Φ
hit_satisfied T Φ c h = left_is T Φ c ∙ none_left (among T) Φ (λ α m. passes α (h α m))
  where
    passes : (α : Clause) → Hit T α → any (among T) α ≡ true
    passes α (l, k, n) = in_any (among T) α k (in_set l T n)

-- ---- the order does not matter

same_members : (T U : List Lit) → ((l : Lit) → Memᴰ l T ↔ Memᴰ l U) → (l : Lit) → among T l ≡ among U l
same_members T U same l =
    alike (among T l) (among U l) (λ t. in_set l U ((same l).0 (set_in l T t))) (λ t. in_set l T ((same l).1 (set_in l U t)))

pub order_free : OrderFreeClaim
order_free X T U Φ assigns same = left_is T Φ consistent ∙ ap (λ (f : Lit → Bool). left f Φ) tests ∙ sym (left_is U Φ back)
  where
    consistent : Consistent T
    consistent = assigns.consistent

    back : Consistent U
    back l m n = consistent l ((same l).1 m) ((same (¬ₗ l)).1 n)

    tests : ◌≡◌ {A = Lit → Bool} (among T) (among U)
    tests = λ i l. same_members T U same l i
