-- What is read stands in the buffer, and at each turn less room is left.
use Rattle.std.proofs.Common.{length, ◌-◌, ◌≤◌}
use Rattle.test_cases.proofs.input.read_full.Given as goal

abbrev pub invariant-loop-n : goal.invariant-loop-n
invariant-loop-n g l = l.done ≤ length l.buf

abbrev pub decreases-loop-n : goal.decreases-loop-n
decreases-loop-n g l = length l.initial.buf - l.done
