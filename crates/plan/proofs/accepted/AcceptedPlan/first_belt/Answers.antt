use Rattle.plan.proofs.Reading.{first_belt_is}
use Rattle.plan.proofs.LineAccepted.{accepted_junction}
use Rattle.plan.proofs.accepted.AcceptedPlan.first_belt.Goals as goal

pub linked-requires-clause-record : goal.linked-requires-clause-record
linked-requires-clause-record c = accepted_junction c.args.self.accepted _ c.requires.high

pub linked-requires-clause-leads : goal.linked-requires-clause-leads
linked-requires-clause-leads c = first_belt_is c.args.self.accepted _ c.requires.low c.requires.high
