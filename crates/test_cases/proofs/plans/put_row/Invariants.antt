-- To write the junctions that are left over what is written gives what it gave at the start.
use Rattle.std.proofs.Common.{◌≡◌}
use Rattle.plan.specs.Lists.{upto}
use Rattle.test_cases.specs.Plans.{put_links}
use Rattle.test_cases.proofs.plans.put_row.Given as goal

abbrev pub invariant-loop-j : goal.invariant-loop-j
invariant-loop-j l = put_links l.buf (upto l.j 256) ≡ put_links l.initial.buf (upto 1 256)
