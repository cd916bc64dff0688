use Rattle.std.proofs.Common.{arith}
use Rattle.plan.proofs.LineAccepted.{accepted_begins, accepted_there}
use Rattle.plan.proofs.accepted.AcceptedPlan.records.Goals as goal

pub records-requires : goal.records-requires
records-requires c = omega (arith, accepted_there c.args.self.accepted 0 (accepted_begins c.args.self.accepted))
