-- "Comes before" is a strict total order on the routes from s to t.
--
--   first_eq, first_ne, first_gt
--                      of two numbers and a rest, the rest decides where the numbers are equal, and their order where they are not
--   before_irrefl      no list comes before itself
--   before_asym        of two lists at most one comes before the other
--   before_trans       what comes before one that comes before a third comes before the third
--   not_before_trans   the same of "does not come before"
--   before_cons        which of two lists comes first does not change by a belt in front of both
--   no_earlier         f ∷ s does not come before e ∷ r if it costs more, or as much and f has the higher index, or f the same and r is s
--   before_total       two routes from s to t of which neither comes before the other are equal
--   upward_claim       there is no route from s to t where s > t, and only the empty one where s = t (UpwardClaim)
--   no_longer          no route from s to t goes on where another ends
--   order_claim        all this as it is claimed (OrderClaim)
--   lower_known        which of two known Routes is lower at the first difference is told by the indices that they hold
--
-- Assumes nothing.
use mathlib.Core.Path.{◌≡◌, refl, sym, ◌∙◌, ap, subst}
use mathlib.Core.Logic.{◌⊎◌, inl, inr}
use mathlib.Core.Bool.{Bool, true, false, ◌&&◌, ◌||◌, true≢false, or-false}
use Prim.Native.Nat.{ℕ, ◌+◌, ◌≤◌, ◌<◌}
use mathlib.Core.List.{List, [], ◌∷◌, ◌++◌}
use native.Mathlib.Omega.{arith}
use native.Mathlib.Nat.{eq-or-lt_of_le}
use lib.ListN.{length}
use lib.Dec.{eqb, ltb}
use borrow.Author.Tests.{eqb-true, eqb-false, eq-eqb, ne_eqb, ltb-true, ltb-false, lt-ltb, le-ltb}
use Rattle.plan.specs.Plan.{Belt, plan_of, indices_of}
use Rattle.plan.specs.Reading.{Accepted}
use Rattle.plan.proofs.Lists.{test, both, either, neither}
use Rattle.plan.proofs.Reading.{belt_index}
use Rattle.route.specs.declared.belts.Route.{Route}
use Rattle.route.specs.Routes.{IsRoute, cost, first, lower, before}
use Rattle.route.specs.Values.{ids_of, Known, route_in, lower_ids}
use Rattle.route.specs.Claims.{OrderClaim, UpwardClaim}
use Rattle.route.proofs.RouteIndices.{route_length, known_indices}

-- ---- one number, and the rest

module _ (m n : ℕ) (x : Bool) where
  pub first_eq : m ≡ n → first m n x ≡ x
  first_eq e = λ i. le-ltb m n (omega arith) i || (eq-eqb m n e i && x)

  pub first_ne : (m ≡ n → ⊥) → first m n x ≡ ltb m n
  first_ne d = ap (λ (t : Bool). ltb m n || (t && x)) (ne_eqb m n d) ∙ or-false (ltb m n)

  pub first_lt : m < n → first m n x ≡ true
  first_lt h = ap (λ (t : Bool). t || (eqb m n && x)) (lt-ltb m n h)

  pub first_gt : n < m → first m n x ≡ false
  first_gt h = λ i. le-ltb m n (omega arith) i || (ne_eqb m n (λ e. omega arith) i && x)

  first_true : first m n x ≡ true → (m < n) ⊎ ((m ≡ n) × (x ≡ true))
  first_true h = go (either (ltb m n) (eqb m n && x) h)
    where
      go : (ltb m n ≡ true) ⊎ ((eqb m n && x) ≡ true) → (m < n) ⊎ ((m ≡ n) × (x ≡ true))
      go (inl l) = inl (ltb-true m n l)
      go (inr k) = let (e, t) = both (eqb m n) x k in inr (eqb-true m n e, t)

  first_false : first m n x ≡ false → (n < m) ⊎ ((m ≡ n) × (x ≡ false))
  first_false h = let (l, k) = neither (ltb m n) (eqb m n && x) h in go (ltb-false m n l) k (test (eqb m n))
    where
      go : n ≤ m → (eqb m n && x) ≡ false → (eqb m n ≡ true) ⊎ (eqb m n ≡ false) → (n < m) ⊎ ((m ≡ n) × (x ≡ false))
      go l k (inl e) = inr (eqb-true m n e, ap (λ (t : Bool). t && x) (sym e) ∙ k)
      go l k (inr e) = let d : m ≡ n → ⊥ = eqb-false m n e in inl (omega arith)

-- where m is not below n, and the rest does not hold where they are equal
not_first : (m n : ℕ) (x : Bool) → n ≤ m → (m ≡ n → x ≡ false) → first m n x ≡ false
not_first m n x h rest = go (eq-or-lt_of_le h)
  where
    go : (n ≡ m) ⊎ (n < m) → first m n x ≡ false
    go (inl e) = first_eq m n x (sym e) ∙ rest (sym e)
    go (inr l) = first_gt m n x l

-- adding the same to both numbers changes nothing
first_add : (c m n : ℕ) (x : Bool) → first (c + m) (c + n) x ≡ first m n x
first_add c m n x = go (test (ltb m n))
  where
    up : (n ≡ m) ⊎ (n < m) → first (c + m) (c + n) x ≡ first m n x
    up (inl e) = first_eq (c + m) (c + n) x (omega arith) ∙ sym (first_eq m n x (sym e))
    up (inr l) = first_gt (c + m) (c + n) x (omega arith) ∙ sym (first_gt m n x l)

    go : (ltb m n ≡ true) ⊎ (ltb m n ≡ false) → first (c + m) (c + n) x ≡ first m n x
    go (inl h) = let l : m < n = ltb-true m n h in first_lt (c + m) (c + n) x (omega arith) ∙ sym (first_lt m n x l)
    go (inr h) = up (eq-or-lt_of_le (ltb-false m n h))

-- where neither way round holds, the numbers are equal and so neither rest holds
neither_first : (m n : ℕ) (x y : Bool) → first m n x ≡ false → first n m y ≡ false → (m ≡ n) × (x ≡ false) × (y ≡ false)
neither_first m n x y h k = go (first_false m n x h) (first_false n m y k)
  where
    go : (n < m) ⊎ ((m ≡ n) × (x ≡ false)) → (m < n) ⊎ ((n ≡ m) × (y ≡ false)) → (m ≡ n) × (x ≡ false) × (y ≡ false)
    go (inl u) (inl v) = absurd (omega arith)
    go (inl u) (inr v) = absurd (omega (arith, v.0))
    go (inr u) (inl v) = absurd (omega (arith, u.0))
    go (inr u) (inr v) = (u.0, u.1, v.1)

first_asym : (m n : ℕ) (x y : Bool) → (x ≡ true → y ≡ false) → first m n x ≡ true → first n m y ≡ false
first_asym m n x y below h = go (first_true m n x h)
  where
    go : (m < n) ⊎ ((m ≡ n) × (x ≡ true)) → first n m y ≡ false
    go (inl a) = first_gt n m y a
    go (inr a) = first_eq n m y (sym a.0) ∙ below a.1

module _ (l m n : ℕ) (x y z : Bool) where
  first_trans : (x ≡ true → y ≡ true → z ≡ true) → first l m x ≡ true → first m n y ≡ true → first l n z ≡ true
  first_trans below h k = go (first_true l m x h) (first_true m n y k)
    where
      go : (l < m) ⊎ ((l ≡ m) × (x ≡ true)) → (m < n) ⊎ ((m ≡ n) × (y ≡ true)) → first l n z ≡ true
      go (inl a) (inl b) = first_lt l n z (omega arith)
      go (inl a) (inr b) = first_lt l n z (omega (arith, b.0))
      go (inr a) (inl b) = first_lt l n z (omega (arith, a.0))
      go (inr a) (inr b) = first_eq l n z (a.0 ∙ b.0) ∙ below a.1 b.1

  not_first_trans : (x ≡ false → y ≡ false → z ≡ false) → first l m x ≡ false → first m n y ≡ false → first l n z ≡ false
  not_first_trans below h k = go (first_false l m x h) (first_false m n y k)
    where
      go : (m < l) ⊎ ((l ≡ m) × (x ≡ false)) → (n < m) ⊎ ((m ≡ n) × (y ≡ false)) → first l n z ≡ false
      go (inl a) (inl b) = first_gt l n z (omega arith)
      go (inl a) (inr b) = first_gt l n z (omega (arith, b.0))
      go (inr a) (inl b) = first_gt l n z (omega (arith, a.0))
      go (inr a) (inr b) = first_eq l n z (a.0 ∙ b.0) ∙ below a.1 b.1

-- ---- lower at the first difference

lower_irrefl : (a : List Belt) → lower a a ≡ false
lower_irrefl [] = refl
lower_irrefl (e ∷ a) = first_eq e.index e.index (lower a a) refl ∙ lower_irrefl a

lower_asym : (a b : List Belt) → lower a b ≡ true → lower b a ≡ false
lower_asym [] [] h = refl
lower_asym [] (f ∷ b) h = refl
lower_asym (e ∷ a) [] h = absurd (true≢false (sym h))
lower_asym (e ∷ a) (f ∷ b) h = first_asym e.index f.index (lower a b) (lower b a) (lower_asym a b) h

lower_trans : (a b c : List Belt) → lower a b ≡ true → lower b c ≡ true → lower a c ≡ true
lower_trans [] [] c h k = absurd (true≢false (sym h))
lower_trans [] (f ∷ b) [] h k = absurd (true≢false (sym k))
lower_trans [] (f ∷ b) (g ∷ c) h k = refl
lower_trans (e ∷ a) [] c h k = absurd (true≢false (sym h))
lower_trans (e ∷ a) (f ∷ b) [] h k = absurd (true≢false (sym k))
lower_trans (e ∷ a) (f ∷ b) (g ∷ c) h k =
    first_trans e.index f.index g.index (lower a b) (lower b c) (lower a c) (lower_trans a b c) h k

not_lower_trans : (a b c : List Belt) → lower a b ≡ false → lower b c ≡ false → lower a c ≡ false
not_lower_trans [] [] [] h k = refl
not_lower_trans [] [] (g ∷ c) h k = absurd (true≢false k)
not_lower_trans [] (f ∷ b) c h k = absurd (true≢false h)
not_lower_trans (e ∷ a) b [] h k = refl
not_lower_trans (e ∷ a) [] (g ∷ c) h k = absurd (true≢false k)
not_lower_trans (e ∷ a) (f ∷ b) (g ∷ c) h k =
    not_first_trans e.index f.index g.index (lower a b) (lower b c) (lower a c) (not_lower_trans a b c) h k

-- ---- comes before

pub before_irrefl : (a : List Belt) → before a a ≡ false
before_irrefl a = first_eq (cost a) (cost a) (lower a a) refl ∙ lower_irrefl a

pub before_asym : (a b : List Belt) → before a b ≡ true → before b a ≡ false
before_asym a b h = first_asym (cost a) (cost b) (lower a b) (lower b a) (lower_asym a b) h

pub before_trans : (a b c : List Belt) → before a b ≡ true → before b c ≡ true → before a c ≡ true
before_trans a b c h k = first_trans (cost a) (cost b) (cost c) (lower a b) (lower b c) (lower a c) (lower_trans a b c) h k

pub not_before_trans : (a b c : List Belt) → before a b ≡ false → before b c ≡ false → before a c ≡ false
not_before_trans a b c h k = not_first_trans (cost a) (cost b) (cost c) (lower a b) (lower b c) (lower a c) (not_lower_trans a b c) h k

pub before_cons : (e : Belt) (a b : List Belt) → before (e ∷ a) (e ∷ b) ≡ before a b
before_cons e a b =
    first_add e.cost (cost a) (cost b) (lower (e ∷ a) (e ∷ b))
    ∙ ap (first (cost a) (cost b)) (first_eq e.index e.index (lower a b) refl)

pub no_earlier : (e f : Belt) (r s : List Belt) → cost (e ∷ r) ≤ cost (f ∷ s) → (cost (f ∷ s) ≡ cost (e ∷ r) → e.index ≤ f.index)
    → (f.index ≡ e.index → s ≡ r) → before (f ∷ s) (e ∷ r) ≡ false
no_earlier e f r s costs names same =
    not_first (cost (f ∷ s)) (cost (e ∷ r)) (lower (f ∷ s) (e ∷ r)) costs (λ c.
    not_first f.index e.index (lower s r) (names c) (λ n. ap (λ (q : List Belt). lower q r) (same n) ∙ lower_irrefl r))

-- ---- a belt leads higher

pub upward_claim : UpwardClaim
upward_claim b ok s t r h = (omega (arith, route_length ok s t r h), empty r (route_length ok s t r h))
  where
    empty : (r : List Belt) → s + length r ≤ t → s ≡ t → r ≡ []
    empty [] l e = refl
    empty (e ∷ r) l q = absurd (omega arith)

-- ---- of two different routes one comes before the other

module _ {b : List ℕ} (ok : Accepted b) where
  -- two routes that differ do so in a belt's index, or one of them goes on where the other ends
  lower_total : (s t : ℕ) (x y : List Belt) → IsRoute (plan_of b) s t x → IsRoute (plan_of b) s t y → lower x y ≡ false → lower y x ≡ false → x ≡ y
  lower_total s t [] [] p q h k = refl
  lower_total s t [] (f ∷ y) p q h k = absurd (true≢false h)
  lower_total s t (e ∷ x) [] p q h k = absurd (true≢false k)
  lower_total s t (e ∷ x) (f ∷ y) p q h k =
      let (n, l, r) = neither_first e.index f.index (lower x y) (lower y x) h k in
      let g : e ≡ f = belt_index ok e f p.0 q.0 n in
      let w : IsRoute (plan_of b) e.leads t y = subst (λ (u : Belt). IsRoute (plan_of b) u.leads t y) (sym g) q.2 in
      let rest : x ≡ y = lower_total e.leads t x y p.2 w l r in
      λ i. g i ∷ rest i

  pub before_total : (s t : ℕ) (x y : List Belt) → IsRoute (plan_of b) s t x → IsRoute (plan_of b) s t y
      → before x y ≡ false → before y x ≡ false → x ≡ y
  before_total s t x y p q h k =
      let (n, l, r) = neither_first (cost x) (cost y) (lower x y) (lower y x) h k in
      lower_total s t x y p q l r

  pub no_longer : (s t : ℕ) (x y : List Belt) → IsRoute (plan_of b) s t x → IsRoute (plan_of b) s t (x ++ y) → y ≡ []
  no_longer s t [] y p q = (upward_claim b ok s t y q).1 p
  no_longer s t (e ∷ x) y p q = no_longer e.leads t x y p.2 q.2

pub order_claim : OrderClaim
order_claim b ok s t =
    (before_irrefl, before_trans, λ x y p q d. go x y p q d (test (before x y)) (test (before y x)), no_longer ok s t)
  where
    go : (x y : List Belt) → IsRoute (plan_of b) s t x → IsRoute (plan_of b) s t y → (x ≡ y → ⊥)
        → (before x y ≡ true) ⊎ (before x y ≡ false) → (before y x ≡ true) ⊎ (before y x ≡ false) → (before x y ≡ true) ⊎ (before y x ≡ true)
    go x y p q d (inl h) k = inl h
    go x y p q d (inr h) (inl k) = inr k
    go x y p q d (inr h) (inr k) = absurd (d (before_total ok s t x y p q h k))

-- ---- routes as the code holds them

lower_indices : (a b : List Belt) → lower a b ≡ lower_ids (indices_of a) (indices_of b)
lower_indices [] [] = refl
lower_indices [] (f ∷ b) = refl
lower_indices (e ∷ a) [] = refl
lower_indices (e ∷ a) (f ∷ b) = ap (first e.index f.index) (lower_indices a b)

pub lower_known : {b : List ℕ} → Accepted b → (x y : Route) → Known b x → Known b y → lower (route_in b x) (route_in b y) ≡ lower_ids (ids_of x) (ids_of y)
lower_known {b} ok x y h k = lower_indices (route_in b x) (route_in b y) ∙ (λ i. lower_ids (known_indices ok x h i) (known_indices ok y k i))
