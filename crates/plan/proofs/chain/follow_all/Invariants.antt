-- The records from r on decide, and count, as all of them do.
use Rattle.std.proofs.Common.{◌≡◌}
use Rattle.plan.specs.Lists.{any, joined, upto}
use Rattle.plan.specs.Records.{links_at, links}
use Rattle.plan.specs.Refusals.{bad_link}
use Rattle.plan.specs.Inner.{marked}
use Rattle.plan.proofs.chain.follow_all.Given as goal

abbrev pub invariant-loop-r : goal.invariant-loop-r
invariant-loop-r l = record {
  decides : any (bad_link l.plan.bytes.now) (joined (links_at l.plan.bytes.now) (upto l.r l.plan.count)) ≡ any (bad_link l.plan.bytes.now) (links l.plan.bytes.now);
  counts : marked l.seen (joined (links_at l.plan.bytes.now) (upto l.r l.plan.count)) ≡ marked l.initial.seen (links l.plan.bytes.now);
}
