use Rattle.plan.proofs.Reading.{first_rule_is}
use Rattle.plan.proofs.LineAccepted.{accepted_begins}
use Rattle.plan.proofs.accepted.AcceptedPlan.first_rule.Goals as goal

pub linked-requires-clause-record : goal.linked-requires-clause-record
linked-requires-clause-record c = accepted_begins c.args.self.accepted

pub linked-requires-clause-leads : goal.linked-requires-clause-leads
linked-requires-clause-leads c = first_rule_is c.args.self.accepted
