use Rattle.std.proofs.Common.{◌≡◌, ◌∙◌, sym, ap, arith, ℕ, List, Option, length, refl, unwrap_or, rules, ◌+◌, ◌*◌, ◌<◌}
use lib.ListN.{set}
use mathlib.Core.Path.{subst, subst₂}
use Rattle.plan.specs.Bounds.{field_limit, max_records}
use Rattle.plan.specs.Plan.{literal_at}
use Rattle.plan.specs.Reading.{IsLiteral, literal_link, literal_chain, first_literal, next_literal}
use Rattle.plan.proofs.Reading.{literal_low, literal_chain_next}
use Rattle.route.specs.Values.{code_in}
use Rattle.route.specs.Inner.{Codable}
use Rattle.route.proofs.RulesCodes.{codable_low, literal_codable}
use Rattle.route.proofs.RulesEntries.{LiteralsStored, literals_stored, literals_end, next_literal_low}
use Rattle.route.proofs.clauses.put_literals.Goals as goal
use Rattle.route.proofs.clauses.put_literals.Goals.{In-Some, After-literal, After-code_of-code, After-link}

pub loop-chain-init : goal.loop-chain-init
loop-chain-init c = record {
  is = c.first_literal-chain.ensures.literal;
  stored = subst (λ (l : ℕ). LiteralsStored c.args.plan.bytes.now c.args.clauses.now l c.args.clauses.now (literal_link c.first_literal-chain.result)) c.first_literal-chain.ensures.link (record { whole = refl });
}

this : (c : In-Some) → IsLiteral c.args.plan.bytes.now c.in-Some.literal.0
this c = let inv = rw c.in-Some.is at c.loop-chain.invariant in inv.is

pub literal-requires : goal.literal-requires
literal-requires c = let inv = rw c.in-Some.is at c.loop-chain.invariant in inv.is

pub next_literal-chain-requires : goal.next_literal-chain-requires
next_literal-chain-requires c = this (goal.at.next_literal-chain-requires c).In-Some

codable : (c : After-literal) → Codable c.args.places.now c.literal.result
codable c =
    let is = rw c.in-Some.is at c.loop-chain.invariant in
    subst (Codable c.args.places.now) (sym c.literal.ensures)
    (subst (λ (ps : List ℕ). Codable ps (literal_at c.args.plan.bytes.now c.in-Some.literal.0)) (sym c.requires.0) (literal_codable c.args.plan.accepted c.in-Some.literal.0 is.is))

pub code_of-code-requires : goal.code_of-code-requires
code_of-code-requires c = codable c

linked : (c : After-link) → c.link.result ≡ next_literal c.args.plan.bytes.now c.in-Some.literal.0
linked c =
    let e : unwrap_or c.map.result 0 ≡ literal_link c.next_literal-chain.result = search rules in
    c.link.ensures ∙ e ∙ c.next_literal-chain.ensures.link

-- the two parts of the entry
parts : (c : After-link) → (c.link.result < max_records) × (c.code_of-code.result < 256)
parts c =
    let inv = rw c.in-Some.is at c.loop-chain.invariant in
    let low = next_literal_low c.args.plan.accepted c.in-Some.literal.0 inv.is in
    let code = codable_low c.args.places.now c.literal.result (codable (goal.at.overflow_mul-clauses c).After-literal) in
    (omega (arith, linked c), omega (arith, c.code_of-code.ensures))

pub overflow_mul-clauses : goal.overflow_mul-clauses
overflow_mul-clauses c = let p = parts c in omega arith

pub overflow_add-clauses : goal.overflow_add-clauses
overflow_add-clauses c = let p = parts c in omega arith

pub bounds-clauses-from : goal.bounds-clauses-from
bounds-clauses-from c =
    let inv = rw c.in-Some.is at c.loop-chain.invariant in
    let low = literal_low c.args.plan.accepted c.in-Some.literal.0 inv.is in
    omega (arith, c.requires.2)

pub loop-chain-smaller : goal.loop-chain-smaller
loop-chain-smaller c =
    let p = c.args.plan.bytes.now in
    let inv = rw c.in-Some.is at c.loop-chain.invariant in
    let now = ap (λ (o : Option _). length (literal_chain p (literal_link o))) c.in-Some.is in
    let step = ap length (literal_chain_next c.args.plan.accepted c.in-Some.literal.0 inv.is) in
    let next = ap (λ (n : ℕ). length (literal_chain p n)) c.next_literal-chain.ensures.link in
    omega arith

pub loop-chain-preserved : goal.loop-chain-preserved
loop-chain-preserved c =
    let p = c.args.plan.bytes.now in
    let inv = rw c.in-Some.is at c.loop-chain.invariant in
    let code = c.code_of-code.ensures ∙ ap (code_in c.args.places.now) c.literal.ensures in
    record {
      is = c.next_literal-chain.ensures.literal;
      stored = subst₂ (λ (i n : ℕ). LiteralsStored p c.args.clauses.now (first_literal p c.args.rule.0)
          (set c.loop-chain.clauses i (c.link.result + field_limit * c.code_of-code.result)) n)
          (sym c.from.ensures)
          (linked (goal.at.loop-chain-preserved c).After-link ∙ sym c.next_literal-chain.ensures.link)
          (literals_stored c.args.plan.accepted inv.stored inv.is c.link.result (linked (goal.at.loop-chain-preserved c).After-link) c.requires.0 c.code_of-code.result code);
    }

pub returns : goal.returns
returns c =
    let inv = rw c.in_default.is at c.loop-chain.invariant in
    literals_end c.args.plan.accepted inv.stored refl
