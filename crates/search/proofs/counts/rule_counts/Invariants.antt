-- Adding the rules still unread to the counts so far gives the counts of all rules.
use Rattle.std.proofs.Common.{length}
use Rattle.plan.specs.Reading.{rules_from, rule_link}
use Rattle.search.proofs.BranchCounts.{Tallied}
use Rattle.search.proofs.counts.rule_counts.Given as goal

abbrev pub invariant-loop-next : goal.invariant-loop-next
invariant-loop-next l = Tallied l.plan.bytes.now l.next l.counts

abbrev pub decreases-loop-next : goal.decreases-loop-next
decreases-loop-next l = length (rules_from l.plan.bytes.now (rule_link l.next))
