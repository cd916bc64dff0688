use Rattle.std.proofs.Common.{ℕ, ◌<◌, Option, Some, length, sym, subst, ap, ◌∙◌, arith}
use Rattle.plan.specs.declared.read.RuleId.{RuleId}
use Rattle.plan.specs.Reading.{rules_from, rule_link}
use Rattle.plan.proofs.Reading.{named_few}
use Rattle.search.specs.Inner.{with_rule}
use Rattle.search.proofs.BranchCounts.{Tallied, tallied_start, tallied_few, tallied_next, tallied_end, tallied_shorter}
use Rattle.search.proofs.counts.rule_counts.Goals as goal
use Rattle.search.proofs.counts.rule_counts.Goals.{In-Some}

pub loop-next-init : goal.loop-next-init
loop-next-init c = tallied_start c.args.plan.accepted _ c.first_rule-next.ensures.link c.first_rule-next.ensures.rule

-- what is known of the rule that is read
unread : (c : In-Some) → Tallied c.args.plan.bytes.now (Some c.in-Some.rule) c.loop-next.counts
unread c = rw c.in-Some.is at c.loop-next.invariant

pub in_rule-requires : goal.in_rule-requires
in_rule-requires c = record { places = c.requires.places; rule = (unread (goal.at.in_rule-requires c).In-Some).is_rule }

pub add_rule-requires : goal.add_rule-requires
add_rule-requires c = record {
  few = omega (arith, c.requires.count, named_few c.args.plan.accepted);
  below = tallied_few c.args.plan.accepted (unread (goal.at.add_rule-requires c).In-Some);
}

pub next_rule-next-requires : goal.next_rule-next-requires
next_rule-next-requires c = (unread (goal.at.next_rule-next-requires c).In-Some).is_rule

pub loop-next-smaller : goal.loop-next-smaller
loop-next-smaller c =
    let left : ℕ → ℕ = λ n. length (rules_from c.args.plan.bytes.now n) in
    let less = tallied_shorter c.args.plan.accepted (unread (goal.at.loop-next-smaller c).In-Some) c.next_rule-next.result c.next_rule-next.ensures.link in
    subst (λ (o : Option RuleId). left (rule_link c.next_rule-next.result) < left (rule_link o)) (sym c.in-Some.is) less

pub loop-next-preserved : goal.loop-next-preserved
loop-next-preserved c =
    let sums = c.add_rule.ensures ∙ ap (λ (n : ℕ). with_rule c.loop-next.counts n c.in_rule.result) c.requires.count in
    tallied_next c.args.plan.accepted (unread (goal.at.loop-next-preserved c).In-Some) c.next_rule-next.result c.next_rule-next.ensures.link c.next_rule-next.ensures.rule
    c.requires.places c.in_rule.result c.in_rule.ensures _ sums

pub returns : goal.returns
returns c = let h = rw c.in_default.is at c.loop-next.invariant in tallied_end c.args.plan.accepted h
