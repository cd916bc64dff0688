use Rattle.plan.proofs.Reading.{first_literal_is}
use Rattle.plan.proofs.accepted.AcceptedPlan.first_literal.Goals as goal

pub linked-requires-clause-leads : goal.linked-requires-clause-leads
linked-requires-clause-leads c = rw c.from.ensures (first_literal_is c.args.self.accepted _ c.requires)
