-- Laws that the layers above go by, as types; proofs/Laws.antt proves them all. They are about how the code holds routes and subproblems,
-- and say nothing that the demands ask for: those are in Claims.antt.
--
--   BitLaw        bit k of a mask is for the k-th of the named belts
--   MasksLaw      every subproblem of named belts has masks, with the same relaxed routes
--   Holdable b r  the route r can be tested, written and checked: it costs less than `unbounded`, so that bound does not drop it; a Route
--                 holds it, of at most max_steps belts, all of the plan; and the same Route is read out of an array that its belts were put into
--   AnswerLaw     every relaxed route is holdable
--   ReadBackLaw   the code reads back whatever `sheet::write` may be given
--
-- Assumes nothing.
use Rattle.std.specs.Prelude.{◌≡◌, true, ℕ, ◌/◌, ◌%◌, ◌^◌, ◌≤◌, ◌<◌, length, get_or, eqb}
use Rattle.std.proofs.Math.Option.{some}
use mathlib.Core.List.{List, Memᴰ}
use Rattle.plan.specs.Bounds.{max_steps}
use Rattle.plan.specs.Lists.{mem}
use Rattle.plan.specs.Plan.{Belt, plan_of, indices_of, named}
use Rattle.plan.specs.Reading.{Accepted, Bytes}
use Rattle.route.specs.declared.sheet.Sheet.{Sheet}
use Rattle.route.specs.declared.relax.Fixings.{Fixings}
use Rattle.route.specs.Routes.{cost, cost_limit}
use Rattle.route.specs.Subproblems.{Subproblem, relaxed}
use Rattle.route.specs.Sheets.{in_form}
use Rattle.route.specs.Values.{ids_of, packed, Known, route_in, sheet_in, bytes_of, fixed_in, OfNamed, subproblem_in}
use Rattle.route.specs.Values.{route_of, first_belts, at_most, unbounded, walked_of}

abbrev pub BitLaw : Type 0
BitLaw = (b : List ℕ) (m k : ℕ) → k < length (named (plan_of b))
    → mem (get_or (named (plan_of b)) k 0) (fixed_in (named (plan_of b)) m) ≡ eqb (m / 2 ^ k % 2) 1

abbrev pub MasksLaw : Type 0
MasksLaw = (b : List ℕ) → Accepted b → (x : Subproblem)
    → ((e : ℕ) → Memᴰ e x.required → Memᴰ e (named (plan_of b))) → ((e : ℕ) → Memᴰ e x.forbidden → Memᴰ e (named (plan_of b)))
    → (f : Fixings) × OfNamed b f.required × OfNamed b f.forbidden
    × ((s t : ℕ) → relaxed (plan_of b) s t (subproblem_in b f) ≡ relaxed (plan_of b) s t x)

pub record Holdable (b : List ℕ) (r : List Belt) : Type 0 where
  pub few : length r ≤ max_steps
  pub cheap : cost r < unbounded
  pub within : at_most unbounded (some r) ≡ some r
  pub known : Known b (route_of r)
  pub indices : ids_of (route_of r) ≡ indices_of r
  pub same : route_in b (route_of r) ≡ r
  pub back : (array : List ℕ) → length array ≡ max_steps → first_belts (length r) (walked_of (some r) array) ≡ route_of r

abbrev pub AnswerLaw : Type 0
AnswerLaw = (b : List ℕ) → Accepted b → Bytes b → (s t : ℕ) → 1 ≤ s → t ≤ (plan_of b).junctions → (x : Subproblem) (r : List Belt)
    → relaxed (plan_of b) s t x ≡ some r → Holdable b r

abbrev pub ReadBackLaw : Type 0
ReadBackLaw = (v : Sheet) → v.cost < cost_limit
    → (in_form (bytes_of v) ≡ true) × (sheet_in (bytes_of v) ≡ record { route = packed (ids_of v.route); cost = v.cost; setting = v.setting })

-- all of them
pub record Laws : Type 0 where
  pub bit : BitLaw
  pub masks : MasksLaw
  pub answer : AnswerLaw
  pub read_back : ReadBackLaw
