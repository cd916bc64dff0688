use Rattle.plan.proofs.LineAccepted.{accepted_there}
use Rattle.plan.proofs.accepted.AcceptedPlan.at.Goals as goal

pub field-requires : goal.field-requires
field-requires c = (c.requires.field, accepted_there c.args.self.accepted _ c.requires.record)
