-- Routes, their cost, their order, and all of them (paper 01, "Permitted routes").
--
--   wrong_ends p s t   s or t is no junction of p (line 8 of the refusal table)
--   IsRoute p s t r   r is a route from s to t: a list of belts of p, each leaving where the last arrived, empty if s = t
--   connects s t r    the same as a Boolean, of belts that are known to be the plan's
--   cost r            the sum of its belts' costs, belt by belt; cost_limit: every route's cost is below it
--   before a b        route a comes before b: it costs less, or as much and at the first difference its belt index is lower (lower)
--   routes p s t      all routes from s to t; a belt leads higher, so none has more than t - s belts
--   Distinct rs       no route stands in the list rs twice
--   belts_by_index p es  the belts of p with these indices, in this order
--
-- That there is none for s > t and only the empty one for s = t, that `before` is a strict total order on the routes from s to t, and that
-- `routes` lists exactly the routes, each once, are laws (Claims.antt). Assumes nothing.
use Rattle.std.specs.Prelude.{◌≡◌, ℕ, zero, suc, ◌+◌, ◌*◌, ◌-◌, Bool, true, false, not, ◌&&◌, ◌||◌, eqb, ltb}
use mathlib.Core.List.{List, [], ◌∷◌, map, Memᴰ}
use Rattle.plan.specs.Bounds.{field_limit}
use Rattle.plan.specs.Lists.{keep, joined, within}
use Rattle.plan.specs.Plan.{Belt, Plan, leaving}

abbrev pub wrong_ends : Plan → ℕ → ℕ → Bool
wrong_ends p s t = not (within 1 s p.junctions && within 1 t p.junctions)

abbrev pub IsRoute : Plan → ℕ → ℕ → List Belt → Type 0
IsRoute p s t [] = s ≡ t
IsRoute p s t (e ∷ r) = Memᴰ e p.belts × (e.leaves ≡ s) × IsRoute p e.leads t r

abbrev pub connects : ℕ → ℕ → List Belt → Bool
connects s t [] = eqb s t
connects s t (e ∷ r) = eqb e.leaves s && connects e.leads t r

abbrev pub cost : List Belt → ℕ
cost [] = 0
cost (e ∷ r) = e.cost + cost r

-- a sheet holds a cost in three fields
abbrev pub cost_limit : ℕ
cost_limit = field_limit * (field_limit * field_limit)

-- m is below n, or is n and the rest decides
abbrev pub first : ℕ → ℕ → Bool → Bool
first m n rest = ltb m n || (eqb m n && rest)

-- at the first difference the belt of a is lower. Of two routes from s to t neither goes on where the other ends, so the second and
-- the third line never decide between them
abbrev pub lower : List Belt → List Belt → Bool
lower [] [] = false
lower [] (f ∷ b) = true
lower (e ∷ a) [] = false
lower (e ∷ a) (f ∷ b) = first e.index f.index (lower a b)

abbrev pub before : List Belt → List Belt → Bool
before a b = first (cost a) (cost b) (lower a b)

-- ---- all routes

-- the empty route, where it is one
abbrev pub stay : Bool → List (List Belt)
stay true = [] ∷ []
stay false = []

-- the routes from s to t of at most n belts
abbrev pub routes_of : Plan → ℕ → ℕ → ℕ → List (List Belt)
routes_of p zero s t = stay (eqb s t)
routes_of p (suc n) s t =
    elim (eqb s t) [
      | true ↦ [] ∷ []
      | false ↦ joined (λ (e : Belt). map (λ (r : List Belt). e ∷ r) (routes_of p n e.leads t)) (leaving p s)
    ]

abbrev pub routes : Plan → ℕ → ℕ → List (List Belt)
routes p s t = routes_of p (t - s) s t

abbrev pub Distinct : List (List Belt) → Type 0
Distinct [] = Unit {0}
Distinct (r ∷ rs) = (Memᴰ r rs → ⊥) × Distinct rs

-- ---- belts by their indices

abbrev pub belts_by_index : Plan → List ℕ → List Belt
belts_by_index p es = joined (λ (e : ℕ). keep (λ (x : Belt). eqb x.index e) p.belts) es
