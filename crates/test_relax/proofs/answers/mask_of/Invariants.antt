-- `mask_of`: each belt that is found leaves fewer bytes.
use Rattle.std.proofs.Common.{length}
use Rattle.test_relax.proofs.answers.mask_of.Given as goal

abbrev pub decreases-loop-belt : goal.decreases-loop-belt
decreases-loop-belt l = length l.line.rest.now
