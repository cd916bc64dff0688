use Rattle.std.proofs.Common.{◌∙◌, ℕ, List, [], ◌∷◌, subst, arith}
use Rattle.plan.proofs.Reading.{records_few}
use Rattle.archive.proofs.WriteRules.{RulesPut, rules_start_lem, rule_is, rules_room, rules_put, rules_done}
use Rattle.archive.proofs.indices.Renumbered.put_rules.Goals as goal
use Rattle.archive.proofs.indices.Renumbered.put_rules.Goals.{In-Some, In-None}

pub loop-rule-init : goal.loop-rule-init
loop-rule-init c =
    rules_start_lem c.args.self.now.plan.accepted c.args.out.now c.args.self.now.rules_at c.args.self.now.ends _
    (c.into_iter-rule-iterator.ensures.into_iter_gives ∙ c.rules-rule-items.ensures)

-- a rule is left, or none
turn : (c : In-Some) → RulesPut c.args.self.now.plan.bytes.now c.args.out.now c.loop-rule.out (c.in-Some.rule.0 ∷ c.next.new.self) c.loop-rule.at
turn c =
    subst (λ (left : List ℕ). RulesPut c.args.self.now.plan.bytes.now c.args.out.now c.loop-rule.out left c.loop-rule.at) c.in-Some.ensures.steps c.loop-rule.invariant

end : (c : In-None) → RulesPut c.args.self.now.plan.bytes.now c.args.out.now c.loop-rule.out [] c.loop-rule.at
end c =
    subst (λ (left : List ℕ). RulesPut c.args.self.now.plan.bytes.now c.args.out.now c.loop-rule.out left c.loop-rule.at) c.in-None.ensures.steps.0 c.loop-rule.invariant

pub put_rule-at-requires-clause-rule : goal.put_rule-at-requires-clause-rule
put_rule-at-requires-clause-rule c = rule_is c.args.self.now.plan.accepted (turn (goal.at.put_rule-at-requires-clause-rule c).In-Some)

pub put_rule-at-requires-clause-few : goal.put_rule-at-requires-clause-few
put_rule-at-requires-clause-few c =
    let room = rules_room c.args.self.now.plan.accepted (turn (goal.at.put_rule-at-requires-clause-few c).In-Some) in
    omega (arith, (records_few c.args.self.now.plan.accepted).0)

pub put_rule-at-requires-clause-room : goal.put_rule-at-requires-clause-room
put_rule-at-requires-clause-room c =
    let room = rules_room c.args.self.now.plan.accepted (turn (goal.at.put_rule-at-requires-clause-room c).In-Some) in
    omega (arith, c.requires, c.loop-rule.auto.out)

pub loop-rule-preserved : goal.loop-rule-preserved
loop-rule-preserved c =
    rules_put c.args.self.now.plan.accepted (turn (goal.at.loop-rule-preserved c).In-Some) c.requires _ c.put_rule-at.ensures.end _ c.put_rule-at.ensures.out

pub returns : goal.returns
returns c = rules_done c.args.self.now.plan.accepted (end c) c.requires
