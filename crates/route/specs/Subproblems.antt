-- Subproblems and their relaxed routes (paper 01, "Subproblems").
--
--   Subproblem         some belts required and some forbidden, each by its index. Those of the search are named belts; nothing here asks it
--   admits x r         route r has every required and no forbidden belt of subproblem x
--   first_of rs         the one of the routes rs that comes before all others, if there are any: of two the earlier
--   relaxed p s t x    the relaxed route: the first of ALL routes from s to t that x admits, rules left aside; none if x admits none
--   Crosses u e        belt e leaves a junction ≤ u and arrives at one > u
--   Restricts s t g r  what the required belt g asks of a route r from s to t: it leaves a junction from s on and before t, and no other
--                      belt of r crosses that junction (cut)
--
-- That `relaxed` is the least of the admitted routes, and that a route has g exactly when g restricts it so (the cut behind 000's
-- Proposition 2.2, as paper 01 repairs it), are laws (Claims.antt). How a relaxed route is found is no part of this. Assumes nothing.
use Rattle.std.specs.Prelude.{◌≡◌, ℕ, ◌≤◌, ◌<◌, Bool, true, false, not, ◌&&◌}
use Rattle.std.proofs.Math.Option.{Option, none, some}
use mathlib.Core.List.{List, [], ◌∷◌, Memᴰ}
use Rattle.plan.specs.Lists.{any, all, keep}
use Rattle.plan.specs.Plan.{Belt, Plan}
use Rattle.route.specs.Routes.{before, routes}
use Rattle.route.specs.Permission.{passes}

pub record Subproblem : Type 0 where
  pub required : List ℕ
  pub forbidden : List ℕ

abbrev pub admits : Subproblem → List Belt → Bool
admits x r = all (passes r) x.required && not (any (passes r) x.forbidden)

-- r, unless the first of the others comes before it
abbrev pub earlier : List Belt → Option (List Belt) → Option (List Belt)
earlier r none = some r
earlier r (some q) = elim (before q r) [ true ↦ some q | false ↦ some r ]

abbrev pub first_of : List (List Belt) → Option (List Belt)
first_of [] = none
first_of (r ∷ rs) = earlier r (first_of rs)

unfoldable pub relaxed : Plan → ℕ → ℕ → Subproblem → Option (List Belt)
relaxed p s t x = first_of (keep (admits x) (routes p s t))

abbrev pub Crosses : ℕ → Belt → Type 0
Crosses u e = (e.leaves ≤ u) × (u < e.leads)

pub record Restricts (s t : ℕ) (g : Belt) (r : List Belt) : Type 0 where
  pub from : s ≤ g.leaves
  pub before_t : g.leaves < t
  pub cut : (e : Belt) → Memᴰ e r → Crosses g.leaves e → e ≡ g
