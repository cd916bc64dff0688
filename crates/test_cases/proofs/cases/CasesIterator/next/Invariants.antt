-- At each turn the cases that are left are those that were left at first, and fewer lines are left.
use Rattle.std.proofs.Common.{◌≡◌, length}
use Rattle.test_cases.specs.Lines.{lines_in}
use Rattle.test_cases.specs.Cases.{cases_left}
use Rattle.test_cases.proofs.cases.CasesIterator.next.Given as goal

abbrev pub invariant-loop-line : goal.invariant-loop-line
invariant-loop-line l = cases_left l.self ≡ cases_left l.initial.self

abbrev pub decreases-loop-line : goal.decreases-loop-line
decreases-loop-line l = length (lines_in l.self.lines.rest.now)
