-- Admitted routes, and the first of them.
--
--   admits_is, is_admits           what it is that a subproblem admits a route
--   relaxed_some, relaxed_none     the relaxed route is an admitted one that no other comes before; if there is none, nothing is admitted
--   is_relaxed, no_relaxed         and what is so is the relaxed route
--   relaxed_claim                  all this as it is claimed (RelaxedClaim)
--
-- Assumes nothing.
use mathlib.Core.Path.{◌≡◌, refl, sym, ◌∙◌, ap, subst}
use mathlib.Core.Logic.{◌⊎◌, inl, inr}
use mathlib.Core.Bool.{Bool, true, false, not}
use mathlib.Core.Option.{Option, none, some}
use Prim.Native.Nat.{ℕ}
use mathlib.Core.List.Memᴰ
use mathlib.Core.List.{List, [], ◌∷◌, Memᴰ}
use borrow.Author.Tests.{not-true}
use Rattle.plan.specs.Lists.{any, all, keep}
use Rattle.plan.specs.Plan.{Belt, plan_of}
use Rattle.plan.specs.Reading.{Accepted}
use Rattle.plan.proofs.Lists.{both, and_is, never, untrue, each, all_in, all_is, any_none, none_any, in_keep, keep_in}
use Rattle.route.specs.Routes.{IsRoute, before, routes}
use Rattle.route.specs.Permission.{passes}
use Rattle.route.specs.Subproblems.{Subproblem, admits, earlier, first_of, relaxed}
use Rattle.route.specs.Claims.{RelaxedClaim}
use Rattle.route.proofs.RouteOrder.{before_irrefl, before_asym, not_before_trans, before_total, order_claim}
use Rattle.route.proofs.RouteEnumeration.{routes_claim}

-- ---- what is admitted

pub admits_is : (x : Subproblem) (r : List Belt) → admits x r ≡ true
    → ((e : ℕ) → Memᴰ e x.required → passes r e ≡ true) × ((e : ℕ) → Memᴰ e x.forbidden → passes r e ≡ false)
admits_is x r h =
    let (has, lacks) = both (all (passes r) x.required) (not (any (passes r) x.forbidden)) h in
    let gone : any (passes r) x.forbidden ≡ false = not-true (any (passes r) x.forbidden) lacks in
    (λ e m. all_in (passes r) x.required has m, λ e m. any_none (passes r) x.forbidden gone m)

pub is_admits : (x : Subproblem) (r : List Belt) → ((e : ℕ) → Memᴰ e x.required → passes r e ≡ true)
    → ((e : ℕ) → Memᴰ e x.forbidden → passes r e ≡ false) → admits x r ≡ true
is_admits x r h k =
    and_is (all (passes r) x.required) (not (any (passes r) x.forbidden))
    (all_is (passes r) x.required h) (ap not (none_any (passes r) x.forbidden k))

-- ---- the first of some routes

-- The key: o is one of the routes that have P, and none of these comes before it; or o is none, and no route has P. `first_of` gives
-- such an o where P is being in its list, so `relaxed` does where P is being admitted; and since the order is total, there is only one
abbrev First : (List Belt → Type 0) → Option (List Belt) → Type 0
First P none = (q : List Belt) → P q → ⊥
First P (some r) = P r × ((q : List Belt) → P q → before q r ≡ false)

-- two ways to say the same of routes have the same first
first_same : {P Q : List Belt → Type 0} → ((q : List Belt) → P q → Q q) → ((q : List Belt) → Q q → P q)
    → (o : Option (List Belt)) → First P o → First Q o
first_same to from none h = λ q m. h q (from q m)
first_same to from (some r) h = (to r h.0, λ q m. h.1 q (from q m))

-- one more route in front
first_earlier : (r : List Belt) (rs : List (List Belt)) (o : Option (List Belt)) → First (λ q. Memᴰ q rs) o
    → First (λ q. Memᴰ q (r ∷ rs)) (earlier r o)
first_earlier r rs none h = (Memᴰ.head refl, each (λ (q : List Belt). before q r ≡ false) (before_irrefl r) (λ q m. absurd (h q m)))
first_earlier r rs (some f) h = go (before f r) refl
  where
    -- where neither r nor the first of the others comes before w, none of them all does
    none_before : (w : List Belt) → before r w ≡ false → before f w ≡ false → (q : List Belt) → Memᴰ q (r ∷ rs) → before q w ≡ false
    none_before w a k = each (λ (q : List Belt). before q w ≡ false) a (λ q m. not_before_trans q f w (h.1 q m) k)

    go : (t : Bool) → before f r ≡ t → First (λ q. Memᴰ q (r ∷ rs)) (elim t [ true ↦ some f | false ↦ some r ])
    go true k = (Memᴰ.tail h.0, none_before f (before_asym f r k) (before_irrefl f))
    go false k = (Memᴰ.head refl, none_before r (before_irrefl r) k)

first_of_lem : (rs : List (List Belt)) → First (λ q. Memᴰ q rs) (first_of rs)
first_of_lem [] = λ q m. Memᴰ.not-nil m
first_of_lem (r ∷ rs) = first_earlier r rs (first_of rs) (first_of_lem rs)

-- ---- the relaxed route

module _ {b : List ℕ} (ok : Accepted b) (s t : ℕ) (x : Subproblem) where
  abbrev Admitted : List Belt → Type 0
  Admitted q = IsRoute (plan_of b) s t q × (admits x q ≡ true)

  -- THE LAW that the others go by: the relaxed route is the first of the admitted ones
  relaxed_is : First Admitted (relaxed (plan_of b) s t x)
  unfolding relaxed
  relaxed_is = first_same to from (relaxed (plan_of b) s t x) (first_of_lem (keep (admits x) (routes (plan_of b) s t)))
    where
      to : (q : List Belt) → Memᴰ q (keep (admits x) (routes (plan_of b) s t)) → Admitted q
      to q m = let (k, a) = keep_in (admits x) (routes (plan_of b) s t) m in (((routes_claim b ok s t).0 q).0 k, a)

      from : (q : List Belt) → Admitted q → Memᴰ q (keep (admits x) (routes (plan_of b) s t))
      from q (h, a) = in_keep (admits x) (routes (plan_of b) s t) (((routes_claim b ok s t).0 q).1 h) a

  pub relaxed_some : (r : List Belt) → relaxed (plan_of b) s t x ≡ some r
      → IsRoute (plan_of b) s t r × (admits x r ≡ true) × ((q : List Belt) → IsRoute (plan_of b) s t q → admits x q ≡ true → before q r ≡ false)
  relaxed_some r h = let (k, least) = subst (First Admitted) h relaxed_is in (k.0, k.1, λ q i a. least q (i, a))

  pub relaxed_none : relaxed (plan_of b) s t x ≡ none → (q : List Belt) → IsRoute (plan_of b) s t q → admits x q ≡ true → ⊥
  relaxed_none h q k a = subst (First Admitted) h relaxed_is q (k, a)

  pub is_relaxed : (r : List Belt) → IsRoute (plan_of b) s t r → admits x r ≡ true
      → ((q : List Belt) → IsRoute (plan_of b) s t q → admits x q ≡ true → before q r ≡ false) → relaxed (plan_of b) s t x ≡ some r
  is_relaxed r h a least = go (relaxed (plan_of b) s t x) relaxed_is
    where
      go : (o : Option (List Belt)) → First Admitted o → o ≡ some r
      go none k = absurd (k r (h, a))
      go (some q) ((i, c), k) = ap {B = Option (List Belt)} some (before_total ok s t q r i h (least q i c) (k r (h, a)))

  pub no_relaxed : ((q : List Belt) → IsRoute (plan_of b) s t q → admits x q ≡ true → ⊥) → relaxed (plan_of b) s t x ≡ none
  no_relaxed h = go (relaxed (plan_of b) s t x) relaxed_is
    where
      go : (o : Option (List Belt)) → First Admitted o → o ≡ none
      go none k = refl
      go (some q) ((i, c), k) = absurd (h q i c)

-- of two different routes one comes before the other: that no other comes before r is that r comes before every other
pub relaxed_claim : RelaxedClaim
relaxed_claim b ok s t x = (λ r. (to r, from r), (relaxed_none ok s t x, no_relaxed ok s t x))
  where
    Least : List Belt → Type 0
    Least r =
        IsRoute (plan_of b) s t r
        × (admits x r ≡ true)
        × ((q : List Belt) → IsRoute (plan_of b) s t q → admits x q ≡ true → (q ≡ r → ⊥) → before r q ≡ true)

    to : (r : List Belt) → relaxed (plan_of b) s t x ≡ some r → Least r
    to r h =
        let (i, a, least) = relaxed_some ok s t x r h in
        (i, a, λ q j c d. go q (least q j c) ((order_claim b ok s t).2 r q i j (λ e. d (sym e))))
      where
        go : (q : List Belt) → before q r ≡ false → (before r q ≡ true) ⊎ (before q r ≡ true) → before r q ≡ true
        go q n (inl k) = k
        go q n (inr k) = absurd (never k n)

    from : (r : List Belt) → Least r → relaxed (plan_of b) s t x ≡ some r
    from r (i, a, first) =
        is_relaxed ok s t x r i a (λ q j c. untrue (before q r) (λ k.
        never k (before_asym r q (first q j c (λ e. never k (ap (λ (y : List Belt). before y r) e ∙ before_irrefl r))))))
