-- The sum so far plus the cost of the belts from this one on is the cost of the route.
use Rattle.std.proofs.Common.{◌≡◌, ◌≤◌, ◌+◌, ◌*◌, ◌-◌}
use Rattle.plan.specs.Bounds.{belt_cost_limit}
use Rattle.route.specs.Routes.{cost}
use Rattle.route.specs.Values.{route_in}
use Rattle.route.proofs.RouteBelts.{left}
use Rattle.route.proofs.path.cost.Given as goal

abbrev pub invariant-loop-belt : goal.invariant-loop-belt
invariant-loop-belt l = record {
  bounded : l.sum ≤ (belt_cost_limit - 1) * l.belt-index;
  left : l.sum + cost (left l.plan.bytes.now l.belt-items l.belt-index) ≡ cost (route_in l.plan.bytes.now l.fn.route);
}
