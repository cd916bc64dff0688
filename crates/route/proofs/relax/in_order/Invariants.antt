-- The mask is in order for the first k named belts.
use Rattle.route.proofs.WalkOrder.{Ordered}
use Rattle.route.proofs.relax.in_order.Given as goal

abbrev pub invariant-loop-k : goal.invariant-loop-k
invariant-loop-k l = Ordered l.numbers l.mask l.k l.due
