-- To write the belts that are left over what is written gives what it gave at the start.
use Rattle.std.proofs.Common.{◌≡◌}
use Rattle.plan.specs.Lists.{upto}
use Rattle.test_cases.specs.Plans.{put_twins}
use Rattle.test_cases.proofs.plans.put_named.Given as goal

abbrev pub invariant-loop-e : goal.invariant-loop-e
invariant-loop-e l = put_twins l.buf (upto l.e 51) ≡ put_twins l.initial.buf (upto 3 51)
