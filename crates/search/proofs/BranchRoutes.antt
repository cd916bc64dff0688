-- Routes depend on the belts of a plan alone, and not on its rules: plans with the same belts have the same routes and relaxed routes.
-- So what holds of the plan of accepted bytes holds under other rules too. Assumes nothing.
--
--   same_route     a route of one is a route of the other
--   same_relaxed   the relaxed routes of a subproblem are the same
use mathlib.Core.Path.{◌≡◌, refl, ap}
use mathlib.Core.Bool.{true, false}
use Prim.Native.Nat.{ℕ, zero, suc, ◌-◌}
use mathlib.Core.List.{List, [], ◌∷◌, map, Memᴰ}
use lib.Dec.{eqb}
use Rattle.plan.specs.Lists.{keep, joined}
use Rattle.plan.specs.Plan.{Belt, Plan}
use Rattle.route.specs.Routes.{IsRoute, routes_of}
use Rattle.route.specs.Subproblems.{Subproblem, admits, first_of, relaxed}

module _ (p q : Plan) (same : p.belts ≡ q.belts) where
  pub same_route : (s t : ℕ) (r : List Belt) → IsRoute p s t r ≡ IsRoute q s t r
  same_route s t [] = refl
  same_route s t (e ∷ r) = λ i. Memᴰ e (same i) × (e.leaves ≡ s) × same_route e.leads t r i

  same_routes : (n s t : ℕ) → routes_of p n s t ≡ routes_of q n s t
  same_routes zero s t = refl
  same_routes (suc n) s t = λ i.
      elim (eqb s t) [
        | true ↦ [] ∷ []
        | false ↦ joined (λ (e : Belt). map (λ (r : List Belt). e ∷ r) (same_routes n e.leads t i)) (keep (λ (e : Belt). eqb e.leaves s) (same i))
      ]

  pub same_relaxed : (s t : ℕ) (x : Subproblem) → relaxed p s t x ≡ relaxed q s t x
  unfolding relaxed
  same_relaxed s t x = ap (λ (rs : List (List Belt)). first_of (keep (admits x) rs)) (same_routes (t - s) s t)
