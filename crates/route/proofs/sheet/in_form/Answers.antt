-- The tests of the size come first, then that of record 0; the steps are tested by a chain over their records.
use Rattle.std.proofs.Common.{sym, ◌∙◌, ap, rules, arith, length, Bool, ◌+◌, ◌-◌, ◌/◌, ◌&&◌}
use Rattle.std.proofs.lemmas.Iterator.{YieldsList-from_range}
use Rattle.std.proofs.lemmas.Iterator.Search.{all_from_yields_List}
use Rattle.plan.specs.Lists.{all}
use Rattle.route.specs.Sheets.{step_fits, steps, places}
use Rattle.plan.specs.Bounds.{record_bytes}
use Rattle.route.proofs.Iterators.{all_list, iota_range}
use Rattle.route.proofs.SheetForm.{form_short, form_odd, form_sized}
use Rattle.route.proofs.sheet.in_form.Goals as goal
use Rattle.route.proofs.sheet.in_form.Goals.{then-not-contains-via-then-not-contains, then-not-contains-via-else-not-contains+then-n-ne0}

pub returns-then-not-contains : goal.returns-then-not-contains
returns-then-not-contains c =
    elim c.then-not-contains.branch [
      | then-not-contains-via-then-not-contains w ↦ sym (form_short c.args.h.now (search rules))
      | then-not-contains-via-else-not-contains+then-n-ne0 w ↦ sym (form_odd c.args.h.now (search rules) w.if-n-ne0.true)
    ]

pub returns-then-head_fits : goal.returns-then-head_fits
returns-then-head_fits c =
    let h = c.args.h.now in
    let n = steps h + 1 - 1 in
    all_from_yields_List (step_fits h) _ _ c.all.result c.all.ensures.ran
    (YieldsList-from_range 1 (length h / record_bytes) n (cc) (omega arith))
    (λ x b q k. search rules)
    ∙ all_list (step_fits h) _
    ∙ ap (all (step_fits h)) (iota_range 1 n)
    ∙ sym (ap (λ (t : Bool). t && all (step_fits h) (places h)) (sym c.head_fits.ensures ∙ c.if-head_fits.true))
    ∙ sym (form_sized h (search rules) c.if-n-ne0.false)

pub returns-else-head_fits : goal.returns-else-head_fits
returns-else-head_fits c =
    let h = c.args.h.now in
    c.if-head_fits.false
    ∙ sym (ap (λ (t : Bool). t && all (step_fits h) (places h)) (sym c.head_fits.ensures ∙ c.if-head_fits.false))
    ∙ sym (form_sized h (search rules) c.if-n-ne0.false)
