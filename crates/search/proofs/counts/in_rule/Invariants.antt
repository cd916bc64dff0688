-- Adding the belts of the literals still unread to the mask so far gives the mask of the rule.
use Rattle.std.proofs.Common.{length}
use Rattle.plan.specs.Reading.{first_literal, literals_from, literal_link}
use Rattle.search.proofs.BranchCounts.{Gathering}
use Rattle.search.proofs.counts.in_rule.Given as goal

abbrev pub invariant-loop-next : goal.invariant-loop-next
invariant-loop-next l = Gathering l.plan.bytes.now l.places (first_literal l.plan.bytes.now l.fn.rule.0) l.next l.mask

abbrev pub decreases-loop-next : goal.decreases-loop-next
decreases-loop-next l = length (literals_from l.plan.bytes.now (literal_link l.next))
