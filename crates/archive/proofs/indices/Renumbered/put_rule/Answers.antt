use Rattle.std.proofs.Common.{rules}
use borrow.Author.Tests.{tests}
use Rattle.archive.proofs.WriteRules.{rule_put, option_link}
use Rattle.archive.proofs.indices.Renumbered.put_rule.Goals as goal

pub returns-clause-out : goal.returns-clause-out
returns-clause-out c =
    (rule_put c.args.self.now.plan.accepted c.args.out.now c.args.at c.args.rule.0
    c.put_literals-end.result c.put_literals-end.ensures.end _ c.put_literals-end.ensures.out
    c.next_rule.result c.next_rule.ensures.link c.next_rule.ensures.rule
    c.map_or-next.result (option_link c.next_rule.result _ _ _ c.map_or-next.ensures (λ x h. search (rules, tests)))
    c.first_literal.result c.first_literal.ensures.link c.first_literal.ensures.literal
    c.map_or-first.result (option_link c.first_literal.result _ _ _ c.map_or-first.ensures (λ x h. search (rules, tests)))
    _ c.from.ensures _ c.put_record.ensures c.requires.room).1
