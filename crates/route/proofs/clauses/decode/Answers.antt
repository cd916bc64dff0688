use Rattle.std.proofs.Common.{◌≡◌, ◌∙◌, sym, ap, arith, ℕ, List, Option, length, refl, unwrap_or, rules, ◌+◌, ◌*◌}
use mathlib.Core.Path.{subst, subst₂}
use lib.ListN.{set}
use Rattle.plan.specs.Bounds.{field_limit}
use Rattle.plan.specs.Reading.{rule_link, literal_link, rule_chain, first_literal, literal_chain}
use Rattle.plan.proofs.Reading.{records_more, rule_chain_next}
use Rattle.route.specs.Values.{entry_of}
use Rattle.route.specs.Inner.{stores}
use Rattle.route.proofs.RulesEntries.{RulesStored, rules_start_lem, rules_stored, rules_end}
use Rattle.route.proofs.clauses.decode.Goals as goal

pub bounds-clauses-0 : goal.bounds-clauses-0
bounds-clauses-0 c = omega (arith, records_more c.args.plan.accepted, c.requires.2)

pub loop-chain-init : goal.loop-chain-init
loop-chain-init c =
    let p = c.args.plan.bytes.now in
    let cs = c.args.clauses.now in
    let e : unwrap_or c.map.result 0 ≡ rule_link c.first_rule-chain.result = search rules in
    let first = c.link.ensures ∙ e in
    record {
      is = c.first_rule-chain.ensures.rule;
      stored = subst₂ (λ (l : List ℕ) (r : ℕ). RulesStored p (length cs) (set l 0 c.link.result) r) (sym c.requires.1) first
          (rules_start_lem c.args.plan.accepted (length cs) c.link.result (first ∙ c.first_rule-chain.ensures.link));
    }

pub loop-chain-smaller : goal.loop-chain-smaller
loop-chain-smaller c =
    let p = c.args.plan.bytes.now in
    let inv = rw c.in-Some.is at c.loop-chain.invariant in
    let now = ap (λ (o : Option _). length (rule_chain p (rule_link o))) c.in-Some.is in
    let step = ap length (rule_chain_next c.args.plan.accepted c.in-Some.rule.0 inv.is) in
    let next = ap (λ (n : ℕ). length (rule_chain p n)) c.next_rule-chain.ensures.link in
    omega arith

pub loop-chain-preserved : goal.loop-chain-preserved
loop-chain-preserved c =
    let p = c.args.plan.bytes.now in
    let inv = rw c.in-Some.is at c.loop-chain.invariant in
    let e : unwrap_or c.map-in-Some.result 0 ≡ rule_link c.next_rule-chain.result = search rules in
    let f : unwrap_or c.map-in-Some-2.result 0 ≡ literal_link c.first_literal-literal.result = search rules in
    let next = c.link-in-Some.ensures ∙ e in
    let literal = c.link-in-Some-2.ensures ∙ f ∙ c.first_literal-literal.ensures.link in
    let at = ap (λ (i : ℕ). stores (entry_of p) (set c.loop-chain.clauses i (c.link-in-Some.result + field_limit * c.link-in-Some-2.result))
    (literal_chain p (first_literal p c.in-Some.rule.0))) c.from.ensures in
    record {
      is = c.next_rule-chain.ensures.rule;
      stored = subst (RulesStored p (length c.args.clauses.now) c.put_literals.new.clauses) next
          (rules_stored c.args.plan.accepted inv.stored inv.is c.link-in-Some.result c.link-in-Some-2.result (next ∙ c.next_rule-chain.ensures.link) literal
          c.put_literals.new.clauses (c.put_literals.ensures ∙ at));
    }

pub returns : goal.returns
returns c =
    let inv = rw c.in_default.is at c.loop-chain.invariant in
    rules_end c.args.plan.accepted inv.stored refl
