-- `test_cases::lines::change_records` meets its contract: each number is an index or for a field, or there is none. Assumes nothing.
use Rattle.std.proofs.Common.{◌≡◌, ◌∙◌, ap, sym, arith, ℕ, refl}
use Rattle.test_cases.specs.Lines.{changed, changed_by, numbers_in}
use Rattle.test_cases.proofs.Puts.{for_field, for_index}
use Rattle.test_cases.proofs.Scan.{number_next, number_none}
use Rattle.test_cases.proofs.lines.change_records.Goals as goal

pub loop-field-init : goal.loop-field-init
loop-field-init c =
    let n = c.in-Some in
    record {
      same = sym (ap (changed c.loop-index.buf) (number_next c.loop-index.line.rest.now n.index c.next_number.new.self.rest.now n.ensures.number n.ensures.rest)) ∙ c.loop-index.invariant;
      fewer = omega arith;
    }

pub loop-index-preserved : goal.loop-index-preserved
loop-index-preserved c =
    let l = c.loop-field in
    let ns = numbers_in l.line.rest.now in
    let done : 6 ≡ l.field = omega arith in
    for_index l.buf c.in-Some.index ns ∙ ap (λ (f : ℕ). changed_by l.buf c.in-Some.index f ns) done ∙ l.invariant.same

pub loop-field-preserved : goal.loop-field-preserved
loop-field-preserved c =
    let l = c.loop-field in
    let n = c.in-Some-next_number in
    let rest = c.next_number-in-loop-field.new.self.rest.now in
    let i = c.in-Some.index in
    record {
      same = for_field l.buf c.put_number.new.buf i l.field n.value (numbers_in rest) (omega arith) c.put_number.ensures
          ∙ ap (changed_by l.buf i l.field) (sym (number_next l.line.rest.now n.value rest n.ensures.number n.ensures.rest))
          ∙ l.invariant.same;
      fewer = omega (arith, n.ensures.shorter refl);
    }

pub returns-in_default-next_number : goal.returns-in_default-next_number
returns-in_default-next_number c =
    let l = c.loop-field in
    sym (ap (changed_by l.buf c.in-Some.index l.field) (number_none l.line.rest.now c.in_default-next_number.ensures.number)) ∙ l.invariant.same

pub returns : goal.returns
returns c = sym (ap (changed c.loop-index.buf) (number_none c.loop-index.line.rest.now c.in_default.ensures.number)) ∙ c.loop-index.invariant
