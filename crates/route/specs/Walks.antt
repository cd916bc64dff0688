-- The walk along the first belts of ways on, as the table of the pass has them (Ways.antt). Only the contracts of private functions cite these; nobody has
-- to believe them. Places of arrays are counted from 0: place i is for junction i + 1.
--
--   Leads ways i t e   the table has the link of belt e for place i, and e leads to a later place, not past place t
--   Trail ways i t r   the table leads from place i to place t by the belts r
--   Placing places     each place that the array `places` has for a belt has a bit in a mask
--   walk_as places c r  the answer that stands for the route r of cost c, where the array has the places of belts. Where it has those of the named belts of a
--                      plan, it is summary_of this plan
--
-- Assumes nothing.
use Rattle.std.specs.Prelude.{◌≡◌, ℕ, ◌-◌, ◌≤◌, ◌<◌, List, [], ◌∷◌, length}
use Rattle.plan.specs.Bounds.{max_records}
use Rattle.plan.specs.Plan.{Belt, indices_of, place_in}
use Rattle.plan.specs.Words.{link_of}
use Rattle.route.specs.declared.relax.Summary.{Summary}
use Rattle.route.specs.declared.ways.Way.{Way}
use Rattle.route.specs.Values.{LowPlace, gathered_in}
use Rattle.route.specs.Ways.{link_at}

pub record Leads (ways : List Way) (i t : ℕ) (e : Belt) : Type 0 where
  pub link : link_at ways i ≡ link_of e
  pub index : e.index < max_records
  pub up : i < e.leads - 1
  pub top : e.leads - 1 ≤ t

abbrev pub Trail : List Way → ℕ → ℕ → List Belt → Type 0
Trail ways i t [] = i ≡ t
Trail ways i t (e ∷ r) = Leads ways i t e × Trail ways (e.leads - 1) t r

abbrev pub Placing : List ℕ → Type 0
Placing places = (e : ℕ) → e < max_records → LowPlace (place_in places e)

abbrev pub walk_as : List ℕ → ℕ → List Belt → Summary
walk_as places c r = record { cost = c; count = length r; named = gathered_in places 0 (indices_of r) }
