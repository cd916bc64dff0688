-- The belts from this one on connect `at` with t exactly when the whole route connects s with t.
use Rattle.std.proofs.Common.{◌≡◌, ◌≤◌}
use Rattle.plan.specs.Plan.{plan_of}
use Rattle.route.specs.Routes.{connects}
use Rattle.route.specs.Values.{route_in}
use Rattle.route.proofs.RouteBelts.{left}
use Rattle.route.proofs.path.connects.Given as goal

abbrev pub invariant-loop-belt : goal.invariant-loop-belt
invariant-loop-belt l = record {
  low : 1 ≤ l.at;
  high : l.at ≤ (plan_of l.plan.bytes.now).junctions;
  left : connects l.at l.t (left l.plan.bytes.now l.belt-items l.belt-index) ≡ connects l.s l.t (route_in l.plan.bytes.now l.fn.route);
}
