-- How many links lead to each record says which are reached once.
use Rattle.std.proofs.Common.{◌||◌, ◌+◌, ℕ, suc, Bool, not, eqb, sym, ap, ◌∙◌, arith, add-one}
use Rattle.plan.specs.Bounds.{max_records}
use Rattle.plan.specs.Lists.{any, upto}
use Rattle.plan.specs.Records.{records, junctions, links}
use Rattle.plan.specs.Refusals.{pointers, broken4}
use Rattle.plan.specs.Inner.{marked_once}
use Rattle.plan.proofs.LineForms.{header}
use Rattle.plan.proofs.ChainMarks.{unmet_same}
use Rattle.plan.proofs.chain.wrong_chain.Goals as goal

pub unmet-requires-clause-order : goal.unmet-requires-clause-order
unmet-requires-clause-order c = let h = header _ c.requires in omega arith

pub returns-then-is_err : goal.returns-then-is_err
unfolding broken4
returns-then-is_err c =
    let b = c.args.plan.bytes.now in
    let bad = sym c.follow_all.ensures.0 ∙ sym c.is_err.ensures.value ∙ c.if-is_err.true in
    c.if-is_err.true ∙ sym (ap (λ (t : Bool). t || any (λ (r : ℕ). not (eqb (pointers (links b) r) 1)) (upto (suc (junctions b)) (records b))) bad)

pub returns-else-is_err : goal.returns-else-is_err
unfolding broken4
returns-else-is_err c =
    let b = c.args.plan.bytes.now in
    let well = sym c.is_err.ensures.value ∙ c.if-is_err.false in
    let seen = c.follow_all.ensures.1 well in
    let first = ap (λ (j : ℕ). j + 1) c.junctions.ensures.value ∙ add-one (junctions b) in
    c.unmet.ensures
    ∙ (λ i. any (λ (r : ℕ). not (marked_once (seen i) r)) (upto (first i) (c.args.plan.counted i)))
    ∙ unmet_same (links b) max_records (suc (junctions b)) (records b) (omega arith)
    ∙ sym
    (ap (λ (t : Bool). t || any (λ (r : ℕ). not (eqb (pointers (links b) r) 1)) (upto (suc (junctions b)) (records b))) (sym c.follow_all.ensures.0 ∙ well))
