-- A route, if there is one and it costs at most a bound.
--
--   at_most_none   there is none where the way on costs more, or is not there
--   at_most_some   else it is the way on
--   walked_size    storing its belts in an array leaves the array's length as it was
--
-- Assumes nothing.
use mathlib.Core.Path.{◌≡◌, refl, ap}
use mathlib.Core.Bool.{Bool, true, false}
use mathlib.Core.Option.{Option, none, some}
use Prim.Native.Nat.{ℕ, ◌≤◌, ◌<◌}
use mathlib.Core.List.{List}
use lib.ListN.{length}
use lib.Seq.{length-sets}
use borrow.Author.Tests.{le-leb, lt-leb}
use Rattle.plan.specs.Plan.{Belt, indices_of}
use Rattle.route.specs.Routes.{cost}
use Rattle.route.specs.Values.{at_most, walked_of}
use Rattle.route.specs.Inner.{way_cost}

-- by whether the cost is within the bound
abbrev by : List Belt → Bool → Option (List Belt)
by r t = elim t [ true ↦ some r | false ↦ none ]

pub at_most_none : (k : ℕ) (o : Option (List Belt)) → k < way_cost o → at_most k o ≡ none
at_most_none k none l = refl
at_most_none k (some r) l = ap (by r) (lt-leb (cost r) k l)

pub at_most_some : (k : ℕ) (o : Option (List Belt)) → way_cost o ≤ k → at_most k o ≡ o
at_most_some k none l = refl
at_most_some k (some r) l = ap (by r) (le-leb (cost r) k l)

pub walked_size : (o : Option (List Belt)) (room : List ℕ) → length (walked_of o room) ≡ length room
walked_size none room = refl
walked_size (some r) room = length-sets room 0 (indices_of r)
