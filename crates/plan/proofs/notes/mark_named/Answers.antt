-- Line 6 keeps the index in the array.
use Rattle.std.proofs.Common.{◌≡◌, ◌+◌, ◌<◌, ℕ, List, Bool, slice_set, length, sym, ap, ◌∙◌, arith}
use Rattle.plan.specs.Lists.{upto}
use Rattle.plan.specs.Records.{field, records}
use Rattle.plan.specs.Inner.{names_belt, note, noted}
use Rattle.plan.proofs.NamedBelts.{names_record, noted_step, length_note}
use Rattle.plan.proofs.notes.mark_named.Goals as goal
use Rattle.plan.proofs.notes.mark_named.Goals.{Joined-names_belt, then-names_belt, else-names_belt}

pub bounds-marks-index : goal.bounds-marks-index
bounds-marks-index c =
    let b = c.args.plan.bytes.now in
    let below : c.loop-l.l < records b = omega (arith, c.loop-l-test.true, c.args.plan.counted) in
    let belt = names_record b c.requires.passed.2 c.loop-l.l c.loop-l.invariant.above below (sym c.names_belt.ensures ∙ c.if-names_belt.true) in
    omega (arith, belt.0, c.args.plan.counted, c.args.plan.few, c.index.ensures.value, c.loop-l.invariant.room)

-- the marks after record l
marked : (c : Joined-names_belt) → c.if-names_belt.marks ≡ note (names_belt c.args.plan.bytes.now c.loop-l.l) c.loop-l.marks (field c.args.plan.bytes.now c.loop-l.l 4)
marked c =
    let b = c.args.plan.bytes.now in
    let l = c.loop-l.l in
    let marks = c.loop-l.marks in
    let e = field b l 4 in
    let is = sym c.names_belt.ensures in
    elim c.if-names_belt.branch [
      | then-names_belt w ↦ w.marks-is ∙ ap (λ (k : ℕ). slice_set marks k 1) w.index.ensures.value ∙ ap (λ (t : Bool). note t marks e) (sym (is ∙ w.if-names_belt.true))
      | else-names_belt w ↦ w.marks-is ∙ ap (λ (t : Bool). note t marks e) (sym (is ∙ w.if-names_belt.false))
    ]

pub loop-l-preserved : goal.loop-l-preserved
loop-l-preserved c =
    let b = c.args.plan.bytes.now in
    let l = c.loop-l.l in
    let n = c.args.plan.count in
    record {
      above = omega (arith, c.loop-l.invariant.above);
      room = ap length (marked c) ∙ length_note (names_belt b l) c.loop-l.marks (field b l 4) ∙ c.loop-l.invariant.room;
      rest = ap (λ (m : List ℕ). noted b m (upto (l + 1) n)) (marked c) ∙ sym (noted_step b c.loop-l.marks l n c.loop-l-test.true) ∙ c.loop-l.invariant.rest;
    }
