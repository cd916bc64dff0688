-- The bytes read stand within the room, which keeps its length. A turn that reads nothing is the last.
use Rattle.std.proofs.Common.{length, ◌-◌, ◌≤◌}
use Rattle.command.proofs.buffer.fill.Given as goal

abbrev pub invariant-loop-size : goal.invariant-loop-size
invariant-loop-size g l = l.size ≤ length l.room

abbrev pub decreases-loop-size : goal.decreases-loop-size
decreases-loop-size g l = length l.room - l.size
