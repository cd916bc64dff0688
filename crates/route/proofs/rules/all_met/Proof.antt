-- `route::rules::all_met` meets its contract. Invariants, for every plan that has these clauses: testing the rules from `next` on gives the same
-- result as testing all, and so do the literals from `literal` on for their rule. Assumes nothing.
use mathlib.Core.Path.{◌≡◌, sym, ap, subst, ◌∙◌}
use Prim.Native.Nat.{ℕ, ◌/◌, ◌%◌, ◌<◌}
use native.Mathlib.Omega.{arith}
use borrow.Author.Rules.{rules}
use mathlib.Core.List.{List}
use lib.ListN.{get_or}
use Rattle.plan.specs.Records.{records}
use Rattle.plan.specs.Bounds.{field_limit, max_records}
use Rattle.plan.specs.Plan.{literal_at}
use Rattle.plan.specs.Reading.{IsRule, IsLiteral, next_rule, first_literal, next_literal, literals_from}
use Rattle.plan.proofs.Reading.{records_more, rule_low, literal_low}
use Rattle.route.specs.Permission.{holds, met}
use Rattle.route.specs.declared.clauses.Coded.{Coded}
use Rattle.route.specs.Values.{named_places, has_belt, code_in, coded_in, Ruled}
use Rattle.route.specs.Inner.{LowCoded, is_true}
use Rattle.route.proofs.RulesCodes.{coded_low, literal_codable, literal_true}
use Rattle.route.proofs.RulesScan as ahead
use Rattle.route.proofs.RulesEntries.{first_entry, rule_parts, literal_parts}
use Rattle.route.proofs.rules.all_met.Statement.{statement}
use Rattle.route.proofs.rules.all_met.Tie as tie

-- a plan that has these clauses
abbrev Of : List ℕ → Type 0
Of clauses = (b : List ℕ) × Ruled b clauses

abbrev invariant-loop : tie.invariant-loop-literal
invariant-loop clauses belts setting next rule literal₀ literal =
    (w : Of clauses) → ahead.LiteralsAhead w.0 (has_belt w.0 belts) setting literal₀ literal

abbrev decreases-loop : tie.decreases-loop-literal
decreases-loop clauses belts setting next rule literal₀ literal = ahead.above literal

abbrev invariant-rules : tie.invariant-rules
invariant-rules clauses belts setting next₀ next = (w : Of clauses) → ahead.RulesAhead w.0 (has_belt w.0 belts) setting next

abbrev decreases-rules : tie.decreases-rules
decreases-rules clauses belts setting next₀ next = ahead.above next

shared-slice-read-next : tie.Need-bounds-clauses-0 invariant-loop decreases-loop invariant-rules decreases-rules
shared-slice-read-next c =
    let w = c.before.before.requires in
    omega (arith, records_more w.1.accepted, w.1.clauses.records_fit)

rules-holds : tie.Need-rules-init invariant-loop decreases-loop invariant-rules decreases-rules
rules-holds c =
    let a = c.before.before.args in
    λ w. ahead.rules_first w.1.accepted (has_belt w.0 a.belts) a.setting _ (first_entry w.1.accepted w.1.clauses)

-- where all was asked for, and a plan that has the clauses
abbrev begun : tie.In-rules invariant-loop decreases-loop invariant-rules decreases-rules → tie.Start invariant-loop decreases-loop invariant-rules decreases-rules
begun c = c.before.before.before.before

abbrev OfTurn : tie.In-rules invariant-loop decreases-loop invariant-rules decreases-rules → Type 0
OfTurn c = Of (begun c).args.clauses.now

-- the rule of a turn
rule_is : (c : tie.In-rules invariant-loop decreases-loop invariant-rules decreases-rules) (w : OfTurn c) → IsRule w.0 c.before.rules.next
rule_is c w = (c.before.rules.invariant w).0 c.rules-test.true

rule_small : (c : tie.In-rules invariant-loop decreases-loop invariant-rules decreases-rules)
    → (c.before.rules.next < records (begun c).requires.0) × (c.before.rules.next < max_records)
rule_small c = let w = (begun c).requires in let low = rule_low w.1.accepted c.before.rules.next (rule_is c w) in (low.1, low.2)

cast-rule : tie.Need-overflow_cast-rule invariant-loop decreases-loop invariant-rules decreases-rules
cast-rule c = omega (arith, (rule_small c).1)

mul-rule : tie.Need-offset_bounds-clauses-next invariant-loop decreases-loop invariant-rules decreases-rules
mul-rule c = omega (arith, (rule_small c).1)

shared-slice-read-rule : tie.Need-bounds-clauses-next invariant-loop decreases-loop invariant-rules decreases-rules
shared-slice-read-rule c = let turn = c.before in omega (arith, (rule_small turn).0, (begun turn).requires.1.clauses.records_fit)

-- the two parts of its entry
parts : (c : tie.In-rules invariant-loop decreases-loop invariant-rules decreases-rules) (w : OfTurn c) →
    let cs = (begun c).args.clauses.now in
    let r = c.before.rules.next in
    (get_or cs r 0 % field_limit ≡ next_rule w.0 r) × (get_or cs r 0 / field_limit ≡ first_literal w.0 r)
parts c w = rule_parts w.1.accepted w.1.clauses c.before.rules.next (rule_is c w)

loop-holds : tie.Need-loop-literal-init invariant-loop decreases-loop invariant-rules decreases-rules
loop-holds c =
    let turn = c.before in
    let at = turn.before in
    let a = (begun turn).args in
    λ w.
    ahead.literals_first w.1.accepted (has_belt w.0 a.belts) a.setting at.rules.next (at.rules.invariant w) turn.rules-test.true _
    (parts turn w).1

-- the turn of a rule in which that of a literal is
abbrev outer : tie.In-loop-literal invariant-loop decreases-loop invariant-rules decreases-rules → tie.In-rules invariant-loop decreases-loop invariant-rules decreases-rules
outer c = c.before.before.before

-- the literal of a turn
literal_is : (c : tie.In-loop-literal invariant-loop decreases-loop invariant-rules decreases-rules) (w : OfTurn (outer c)) → IsLiteral w.0 c.before.loop-literal.literal
literal_is c w = (c.before.loop-literal.invariant w).0 c.loop-literal-test.true

literal_small : (c : tie.In-loop-literal invariant-loop decreases-loop invariant-rules decreases-rules)
    → (c.before.loop-literal.literal < records (begun (outer c)).requires.0) × (c.before.loop-literal.literal < max_records)
literal_small c =
    let w = (begun (outer c)).requires in
    let low = literal_low w.1.accepted c.before.loop-literal.literal (literal_is c w) in
    (low.1, low.2)

cast-entry : tie.Need-overflow_cast-entry invariant-loop decreases-loop invariant-rules decreases-rules
cast-entry c = omega (arith, (literal_small c).1)

mul-entry : tie.Need-offset_bounds-clauses-literal invariant-loop decreases-loop invariant-rules decreases-rules
mul-entry c = omega (arith, (literal_small c).1)

shared-slice-read-entry : tie.Need-bounds-clauses-literal invariant-loop decreases-loop invariant-rules decreases-rules
shared-slice-read-entry c =
    let round = c.before in
    omega (arith, (literal_small round).0, (begun (outer round)).requires.1.clauses.records_fit)

-- the two parts of its entry
halves : (c : tie.In-loop-literal invariant-loop decreases-loop invariant-rules decreases-rules) (w : OfTurn (outer c)) →
    let cs = (begun (outer c)).args.clauses.now in
    let l = c.before.loop-literal.literal in
    (get_or cs l 0 % field_limit ≡ next_literal w.0 l) × (get_or cs l 0 / field_limit ≡ code_in (named_places w.0) (literal_at w.0 l))
halves c w = literal_parts w.1.accepted w.1.clauses c.before.loop-literal.literal (literal_is c w)

coded-of-requires : tie.Need-coded_of-requires invariant-loop decreases-loop invariant-rules decreases-rules
coded-of-requires c κs = search rules

-- what its code says
told : (c : tie.After-coded_of invariant-loop decreases-loop invariant-rules decreases-rules) (w : OfTurn (outer c.before.before))
    → c.coded_of.result ≡ coded_in (code_in (named_places w.0) (literal_at w.0 c.before.before.before.loop-literal.literal))
told c w = c.coded_of.ensures ∙ ap coded_in (halves c.before.before w).1

holds-requires : tie.Need-holds-requires invariant-loop decreases-loop invariant-rules decreases-rules
holds-requires c κs =
    let round = c.before.before in
    let w = (begun (outer round)).requires in
    let l = round.before.loop-literal.literal in
    subst LowCoded (sym (told c w))
    (coded_low (named_places w.0) (literal_at w.0 l) (literal_codable w.1.accepted l (literal_is round w)))

-- whether it holds is whether that is true
said : (c : tie.After-holds invariant-loop decreases-loop invariant-rules decreases-rules) (w : OfTurn (outer c.before.before.before)) →
    let a = (begun (outer c.before.before.before)).args in
    holds (has_belt w.0 a.belts) a.setting (literal_at w.0 c.before.before.before.before.loop-literal.literal) ≡ c.holds.result
said c w =
    let round = c.before.before.before in
    let a = (begun (outer round)).args in
    sym (literal_true w.1.accepted a.belts a.setting round.before.loop-literal.literal (literal_is round w))
    ∙ ap (λ (l : Coded). is_true l a.belts a.setting) (sym (told c.before w))
    ∙ sym c.holds.ensures

rules-less : tie.Need-rules-smaller invariant-loop decreases-loop invariant-rules decreases-rules
rules-less c =
    let turn = outer c.before.before.before.before in
    let w = (begun turn).requires in
    ahead.rule_rises w.1.accepted turn.before.rules.next (rule_is turn w) _ (parts turn w).0

rules-again : tie.Need-rules-preserved invariant-loop decreases-loop invariant-rules decreases-rules
rules-again c =
    let round = c.before.before.before.before in
    let inner = round.before in
    let turn = outer round in
    let at = turn.before in
    let a = (begun turn).args in
    let σ = a.setting in
    λ w.
    let ok = w.1.accepted in
    let on = has_belt w.0 a.belts in
    let held = ahead.literals_held ok on σ _ inner.loop-literal.literal (inner.loop-literal.invariant w) round.loop-literal-test.true (said c.before w ∙ c.if-holds.true) in
    let same = ap (λ (l : ℕ). met on σ (literals_from w.0 l)) (parts turn w).1 in
    ahead.rules_met ok on σ at.rules.next (at.rules.invariant w) turn.rules-test.true _ (parts turn w).0 (sym same ∙ held)

loop-less : tie.Need-loop-literal-smaller invariant-loop decreases-loop invariant-rules decreases-rules
loop-less c =
    let round = c.before.before.before.before in
    let w = (begun (outer round)).requires in
    ahead.literal_rises w.1.accepted round.before.loop-literal.literal (literal_is round w) _ (halves round w).0

loop-again : tie.Need-loop-literal-preserved invariant-loop decreases-loop invariant-rules decreases-rules
loop-again c =
    let round = c.before.before.before.before in
    let inner = round.before in
    let a = (begun (outer round)).args in
    λ w.
    ahead.literals_missed w.1.accepted (has_belt w.0 a.belts) a.setting _ inner.loop-literal.literal (inner.loop-literal.invariant w) round.loop-literal-test.true
    (said c.before w ∙ c.if-holds.false) _ (halves round w).0

returns : tie.Need-returns-in-rules invariant-loop decreases-loop invariant-rules decreases-rules
returns c =
    let inner = c.before in
    let turn = inner.before.before in
    let at = turn.before in
    let a = (begun turn).args in
    let σ = a.setting in
    λ b ruled.
    let w : Of a.clauses.now = (b, ruled) in
    let ok = ruled.accepted in
    let on = has_belt b a.belts in
    let missed = ahead.literals_done ok on σ _ inner.loop-literal.literal (inner.loop-literal.invariant w) c.loop-literal-test.false in
    let same = ap (λ (l : ℕ). met on σ (literals_from b l)) (parts turn w).1 in
    ahead.rules_unmet ok on σ at.rules.next (at.rules.invariant w) turn.rules-test.true (sym same ∙ missed)

returns-2 : tie.Need-returns invariant-loop decreases-loop invariant-rules decreases-rules
returns-2 c =
    let at = c.before in
    let a = at.before.before.before.args in
    λ b ruled.
    ahead.rules_done ruled.accepted (has_belt b a.belts) a.setting at.rules.next (at.rules.invariant (b, ruled)) c.rules-test.false

pub all_met_spec : {M : Type 1} → statement M
all_met_spec =
    tie.close
    (tie.spec
    invariant-loop
    decreases-loop
    invariant-rules
    decreases-rules
    shared-slice-read-next
    rules-holds
    cast-rule
    mul-rule
    shared-slice-read-rule
    loop-holds
    cast-entry
    mul-entry
    shared-slice-read-entry
    coded-of-requires
    holds-requires
    rules-less
    rules-again
    loop-less
    loop-again
    returns
    returns-2)
