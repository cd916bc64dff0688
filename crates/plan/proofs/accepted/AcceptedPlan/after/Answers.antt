use Rattle.plan.proofs.Reading.{next_is}
use Rattle.plan.proofs.accepted.AcceptedPlan.after.Goals as goal

pub linked-requires-clause-leads : goal.linked-requires-clause-leads
linked-requires-clause-leads g c = rw c.from.ensures (rw c.index.ensures (next_is c.args.self.accepted g.T.Chained.chained _ c.requires))
