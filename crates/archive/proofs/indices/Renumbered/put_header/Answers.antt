use Rattle.std.proofs.Common.{arith, rules}
use Rattle.plan.proofs.LineAccepted.{accepted_there, accepted_begins}
use borrow.Author.Tests.{tests}
use Rattle.archive.proofs.WriteRules.{option_link}
use Rattle.archive.proofs.WriteAnswer.{header_put}
use Rattle.archive.proofs.indices.Renumbered.put_header.Goals as goal

pub field-requires : goal.field-requires
field-requires c = (omega arith, accepted_there c.args.self.now.plan.accepted 0 (accepted_begins c.args.self.now.plan.accepted))

pub field-requires-2 : goal.field-requires-2
field-requires-2 c = (omega arith, accepted_there c.args.self.now.plan.accepted 0 (accepted_begins c.args.self.now.plan.accepted))

pub field-requires-3 : goal.field-requires-3
field-requires-3 c = (omega arith, accepted_there c.args.self.now.plan.accepted 0 (accepted_begins c.args.self.now.plan.accepted))

pub put_record-requires : goal.put_record-requires
put_record-requires c = omega (arith, accepted_begins c.args.self.now.plan.accepted)

pub returns : goal.returns
returns c =
    let self = c.args.self.now in
    header_put self.plan.accepted c.args.out.now self.rules_at self.ends c.first_rule.result c.first_rule.ensures.link c.first_rule.ensures.rule
    c.map_or-first.result c.field.ensures c.field-2.ensures (option_link c.first_rule.result _ _ _ c.map_or-first.ensures (λ x h. search (rules, tests))) c.field-3.ensures _ c.put_record.ensures
