-- The tests are those of line 2.
use Rattle.std.proofs.Common.{rules}
use Rattle.plan.specs.Refusals.{broken2}
use Rattle.plan.proofs.form.wrong_header.Goals as goal
use Rattle.plan.proofs.form.wrong_header.Goals.{then-is, else-is, then-fits, else-fits}

pub returns : goal.returns
unfolding broken2
returns c = search rules
