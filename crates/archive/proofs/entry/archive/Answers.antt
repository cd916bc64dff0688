-- The lines in their order, then the writing.
use Rattle.std.proofs.Common.{◌≡◌, ℕ, List, ◌++◌, length, drop, ap, sym, ◌∙◌}
use Rattle.std.proofs.lemmas.Result.{err_from_is_err_and}
use Rattle.plan.specs.declared.refusal.Refusal.TheVariants.{ShortPlanBuffer}
use Rattle.plan.specs.Refusals.{refusal, refusal_number}
use Rattle.plan.specs.Reading.{Accepted}
use Rattle.plan.proofs.LineNumbers.{nonzero}
use Rattle.archive.specs.Answers.{lent_of, archive_in}
use Rattle.archive.proofs.WriteAnswer.{plan_refused, refused_16, refused_told, written_told}
use Rattle.archive.proofs.entry.archive.Goals as goal
use Rattle.archive.proofs.entry.archive.Goals.{In_ok-plan}

-- the plan is refused: its refusal is passed on
pub returns-in_err-plan : goal.returns-in_err-plan
returns-in_err-plan c =
    let r = c.in_err-plan.field-0.0 in
    let answer : refusal_number r ≡ refusal c.args.p.now = c.in_err-plan.ensures.number in
    let p = err_from_is_err_and c.from_residual.result c.from_residual.ensures.1 in
    rw (p.1, p.2) (refused_told c.args.p.now c.args.out.now r (plan_refused (lent_of c.args.p.now c.args.out.now) _ (nonzero r) (sym answer)))

-- past the check of the plan: it is accepted
accepted : (c : In_ok-plan) → Accepted c.args.p.now
accepted c = record { unrefused = sym c.in_ok-plan.ensures.number }

pub returns-then-out-p : goal.returns-then-out-p
returns-then-out-p c =
    let past = (goal.at.returns-then-out-p c).In_ok-plan in
    refused_told c.args.p.now c.args.out.now ShortPlanBuffer (refused_16 (lent_of c.args.p.now c.args.out.now) (accepted past) c.if-out-p.true)

pub returns : goal.returns
returns c =
    let past = (goal.at.returns c).In_ok-plan in
    let put = c.write.ensures ∙ ap (λ (b : List ℕ). archive_in b ++ drop (length b) c.args.out.now) past.in_ok-plan.ensures.bytes in
    written_told (accepted past) c.args.out.now _ c.if-out-p.false put
