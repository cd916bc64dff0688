use Rattle.plan.specs.Plan.{plan_of}
use Rattle.plan.proofs.LineAccepted.{accepted_begins}
use Rattle.std.proofs.Common.{rules}
use Rattle.plan.proofs.accepted.AcceptedPlan.modes.Goals as goal

pub at-requires-clause-record : goal.at-requires-clause-record
at-requires-clause-record c = accepted_begins c.args.self.accepted

pub returns : goal.returns
unfolding plan_of
returns c = search rules
