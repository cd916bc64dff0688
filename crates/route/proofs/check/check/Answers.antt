-- Line by line, in the order of the list. Past the check of the plan, the lines are asked of the plan that it gave, which has the checked bytes.
use Rattle.std.proofs.Common.{◌≡◌, ℕ, List, true, sym, ◌∙◌, ap, arith}
use Rattle.std.proofs.lemmas.Result.{err_from_is_err_and}
use Rattle.plan.specs.Refusals.{refusal, refusal_number}
use Rattle.plan.proofs.LineNumbers.{nonzero}
use Rattle.route.specs.declared.sheet.Sheet.{Sheet}
use Rattle.route.specs.Refusals.{PlanTrip, Case, plan_trip, sheet_refusal}
use Rattle.route.specs.Values.{ids_of, case_of}
use Rattle.route.specs.Sheets.{in_form, belts_on}
use Rattle.route.proofs.RouteIndices.{ids_packed}
use Rattle.route.proofs.SheetReading.{form_is, few_belts}
use Rattle.route.proofs.SheetLines.{fine_trip, trip_plan, trip_8, trip_15, trip_refused, no_form, content_refused, ends_wrong, ends_fine, lock_wrong, lock_right}
use Rattle.route.proofs.check.check.Goals as goal
use Rattle.route.proofs.check.check.Goals.{In_ok-plan}

-- the plan is refused: its refusal is passed on
pub returns-in_err-plan : goal.returns-in_err-plan
returns-in_err-plan c =
    let r = c.in_err-plan.field-0.0 in
    let answer : refusal_number r ≡ refusal c.args.p.now = c.in_err-plan.ensures.number in
    let broken : refusal c.args.p.now ≡ 0 → ⊥ = λ z. nonzero r (answer ∙ z) in
    let k = case_of c.args.p.now c.args.trip c.args.h.now in
    let p = err_from_is_err_and c.from_residual.result c.from_residual.ensures.1 in
    rw (p.1, p.2) (answer ∙ sym (trip_refused k _ broken (trip_plan (plan_trip k) broken)))

-- the case that is checked, with the plan that the check of plans gave
abbrev case : In_ok-plan → Case
case c = case_of c.in_ok-plan.plan.bytes.now c.args.trip c.args.h.now

abbrev trip : In_ok-plan → PlanTrip
trip c = plan_trip (case c)

-- it is refused as the checked bytes are
same_bytes : (c : In_ok-plan) → sheet_refusal (case c) ≡ sheet_refusal (case_of c.args.p.now c.args.trip c.args.h.now)
same_bytes c = ap (λ (b : List ℕ). sheet_refusal (case_of b c.args.trip c.args.h.now)) c.in_ok-plan.ensures.bytes

pub returns-then-wrong_ends : goal.returns-then-wrong_ends
returns-then-wrong_ends c =
    let past = (goal.at.returns-then-wrong_ends c).In_ok-plan in
    let ok = c.in_ok-plan.plan.accepted in
    sym (trip_refused (case past) 8 (λ z. omega arith) (trip_8 (trip past) ok (ends_wrong (trip past) (sym c.if-wrong_ends.ensures)))) ∙ same_bytes past

pub returns-then-wrong_lock : goal.returns-then-wrong_lock
returns-then-wrong_lock c =
    let past = (goal.at.returns-then-wrong_lock c).In_ok-plan in
    let ok = c.in_ok-plan.plan.accepted in
    sym (trip_refused (case past) 15 (λ z. omega arith)
    (trip_15 (trip past) ok (ends_fine (trip past) (sym c.if-wrong_ends.ensures)) (lock_wrong (trip past) (sym c.if-wrong_lock.ensures))))
    ∙ same_bytes past

pub returns-then-not-in_form : goal.returns-then-not-in_form
returns-then-not-in_form c =
    let past = (goal.at.returns-then-not-in_form c).In_ok-plan in
    let ok = c.in_ok-plan.plan.accepted in
    let fine = fine_trip (trip past) ok (ends_fine (trip past) (sym c.if-wrong_ends.ensures)) (lock_right (trip past) (sym c.if-wrong_lock.ensures)) in
    sym (no_form (case past) fine (sym c.if-not-in_form.ensures)) ∙ same_bytes past

pub returns : goal.returns
returns c =
    let past = (goal.at.returns c).In_ok-plan in
    let ok = c.in_ok-plan.plan.accepted in
    let h = c.args.h.now in
    let fine = fine_trip (trip past) ok (ends_fine (trip past) (sym c.if-wrong_ends.ensures)) (lock_right (trip past) (sym c.if-wrong_lock.ensures)) in
    let formed : in_form h ≡ true = sym c.if-not-in_form.ensures in
    let ids = ap (λ (v : Sheet). ids_of v.route) c.read.ensures ∙ ids_packed (belts_on h) (few_belts h (form_is h formed)) in
    c.check_content.ensures
    ∙ sym (content_refused (case past) fine c.read.result formed ids (ap (λ (v : Sheet). v.cost) c.read.ensures) (ap (λ (v : Sheet). v.setting) c.read.ensures))
    ∙ same_bytes past
