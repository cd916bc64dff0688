-- The cut behind a required belt: a route from s to t has a belt g that leaves u exactly when s ≤ u < t and no other belt of it crosses u.
--
--   in_passes       a route passes a belt that is in it; on_route: and has the belt of the plan that it passes
--   route_between   the belts of a route lie between its ends
--   cut_claim       the cut as it is claimed (CutClaim)
--
-- Assumes nothing.
use mathlib.Core.Path.{◌≡◌, refl, sym, ◌∙◌, ap}
use mathlib.Core.Logic.{◌⊎◌, inl, inr}
use mathlib.Core.Bool.{true, false}
use Prim.Native.Nat.{ℕ, ◌≤◌, ◌<◌}
use mathlib.Core.List.{List, [], ◌∷◌, Memᴰ}
use native.Mathlib.Omega.{arith}
use lib.Dec.{eqb, ltb}
use borrow.Author.Tests.{eqb-true, eq-eqb, ltb-true, ltb-false}
use Rattle.plan.specs.Plan.{Belt, Plan, plan_of}
use Rattle.plan.specs.Reading.{Accepted}
use Rattle.plan.proofs.Lists.{test, each, in_any, any_some}
use Rattle.plan.proofs.Reading.{belt_index, belt_ends}
use Rattle.route.specs.Routes.{IsRoute}
use Rattle.route.specs.Permission.{passes}
use Rattle.route.specs.Subproblems.{Crosses, Restricts}
use Rattle.route.specs.Claims.{CutClaim}
use Rattle.route.proofs.RouteIndices.{route_belts}
use Rattle.route.proofs.RouteOrder.{upward_claim}

pub in_passes : (r : List Belt) (g : Belt) → Memᴰ g r → passes r g.index ≡ true
in_passes r g m = in_any (λ (f : Belt). eqb f.index g.index) r m (eq-eqb g.index g.index refl)

module _ {b : List ℕ} (ok : Accepted b) where
  pub on_route : (s t : ℕ) (r : List Belt) → IsRoute (plan_of b) s t r
      → (g : Belt) → Memᴰ g (plan_of b).belts → passes r g.index ≡ true → Memᴰ g r
  on_route s t r h g m k =
      let (f, i, e) = any_some (λ (f : Belt). eqb f.index g.index) r k in
      let same : f ≡ g = belt_index ok f g (route_belts (plan_of b) s t r h f i) m (eqb-true f.index g.index e) in
      mathlib.Core.List.Memᴰ.cast (sym same) i

  pub route_between : (s t : ℕ) (r : List Belt) → IsRoute (plan_of b) s t r → (e : Belt) → Memᴰ e r → (s ≤ e.leaves) × (e.leads ≤ t)
  route_between s t [] h e m = absurd (mathlib.Core.List.Memᴰ.not-nil m)
  route_between s t (a ∷ r) h e m =
      each (λ (f : Belt). (s ≤ f.leaves) × (f.leads ≤ t)) (omega (arith, h.1), (upward_claim b ok a.leads t r h.2).0) (λ f k.
      let (l, u) = route_between a.leads t r h.2 f k in
      (omega (arith, h.1, (belt_ends ok a h.0).1, l), u)) e m

  -- where a belt of a route leaves, those before it have arrived and those after it have not left: no other crosses
  alone : (s t : ℕ) (r : List Belt) → IsRoute (plan_of b) s t r
      → (g e : Belt) → Memᴰ g r → Memᴰ e r → Crosses g.leaves e → e ≡ g
  alone s t [] h g e m n c = absurd (mathlib.Core.List.Memᴰ.not-nil m)
  alone s t (a ∷ r) h g e m n c =
      go (mathlib.Core.List.Memᴰ.cases_cons m) (mathlib.Core.List.Memᴰ.cases_cons n) (λ k l. alone a.leads t r h.2 g e k l c)
    where
      after : (f : Belt) → Memᴰ f r → a.leads ≤ f.leaves
      after f k = (route_between a.leads t r h.2 f k).0

      go : (g ≡ a) ⊎ Memᴰ g r → (e ≡ a) ⊎ Memᴰ e r → (Memᴰ g r → Memᴰ e r → e ≡ g) → e ≡ g
      go (inl p) (inl q) below = q ∙ sym p
      go (inl p) (inr l) below = absurd (omega (arith, after e l, (belt_ends ok a h.0).1, c.0, ap (λ (y : Belt). y.leaves) p))
      go (inr k) (inl q) below = absurd (omega (arith, after g k, c.1, ap (λ (y : Belt). y.leads) q))
      go (inr k) (inr l) below = below k l

-- a route from u or before to beyond u crosses u: by its first belt that leads beyond
crossing : (p : Plan) (s t u : ℕ) (r : List Belt) → IsRoute p s t r → s ≤ u → u < t → (e : Belt) × Memᴰ e r × Crosses u e
crossing p s t u [] h l k = absurd (omega arith)
crossing p s t u (a ∷ r) h l k = go (test (ltb u a.leads)) (λ n. crossing p a.leads t u r h.2 n k)
  where
    Found : List Belt → Type 0
    Found q = (e : Belt) × Memᴰ e q × Crosses u e

    go : (ltb u a.leads ≡ true) ⊎ (ltb u a.leads ≡ false) → (a.leads ≤ u → Found r) → Found (a ∷ r)
    go (inl y) below = (a, mathlib.Core.List.Memᴰ.head refl, (omega (arith, h.1), ltb-true u a.leads y))
    go (inr y) below = let (e, m, c) = below (ltb-false u a.leads y) in (e, mathlib.Core.List.Memᴰ.tail m, c)

pub cut_claim : CutClaim
cut_claim b ok s t r h g m = (to, from)
  where
    to : passes r g.index ≡ true → Restricts s t g r
    to k =
        let i : Memᴰ g r = on_route ok s t r h g m k in
        let (l, u) = route_between ok s t r h g i in
        record { from = l; before_t = omega (arith, (belt_ends ok g m).1, u); cut = λ e j c. alone ok s t r h g e i j c }

    from : Restricts s t g r → passes r g.index ≡ true
    from k =
        let (e, i, c) = crossing (plan_of b) s t g.leaves r h k.from k.before_t in
        in_passes r g (mathlib.Core.List.Memᴰ.cast (sym (k.cut e i c)) i)
