-- Between two pieces the state is `Parted`, of whatever plan and subproblem the arrays are (WaysTurns.antt, WaysParting.antt).
use Rattle.std.proofs.Common.{ℕ, ◌<◌, ◌≤◌, ◌^◌, List}
use Rattle.plan.specs.Bounds.{max_named}
use Rattle.route.specs.Subproblems.{Subproblem}
use Rattle.route.specs.Ways.{Spared, Asked, Room, Parted}
use Rattle.route.proofs.ways.ways_to.Given as goal

abbrev pub invariant-loop-left : goal.invariant-loop-left
invariant-loop-left l = record {
  from : l.s ≤ l.nearest;
  to : l.nearest ≤ l.t;
  few : l.left < 2 ^ max_named;
  room : Room l.ways;
  spared : Spared l.s l.t l.ways;
  parted : (b : List ℕ) (x : Subproblem) → Asked b x l.words l.numbers l.due l.forbidden l.t → Parted b x l.words l.numbers l.due l.t l.left l.nearest l.ways;
}

abbrev pub decreases-loop-left : goal.decreases-loop-left
decreases-loop-left l = l.left
