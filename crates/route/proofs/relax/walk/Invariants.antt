-- What is left of the trail, stored and gathered from here on, gives what the whole gives (WalkTrail.antt).
use Rattle.std.proofs.Common.{◌-◌, List}
use Rattle.plan.specs.Plan.{Belt}
use Rattle.route.specs.Walks.{Trail}
use Rattle.route.proofs.WalkTrail.{Walked}
use Rattle.route.proofs.relax.walk.Given as goal

abbrev pub invariant-loop-at : goal.invariant-loop-at
invariant-loop-at l = (r : List Belt) → Trail l.ways l.s l.t r → Walked l.places l.ways l.t l.fn.walked r l.at l.count l.walked l.seen

abbrev pub decreases-loop-at : goal.decreases-loop-at
decreases-loop-at l = l.t - l.at
