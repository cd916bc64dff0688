use Rattle.std.proofs.Common.{◌≡◌, ◌<◌, ◌*◌, List, suc, ap, ◌∙◌, sym, arith}
use Rattle.plan.specs.Bounds.{max_records}
use Rattle.plan.specs.Records.{placed, records}
use Rattle.plan.specs.Plan.{plan_of}
use Rattle.plan.specs.Reading.{IsBelt}
use Rattle.plan.proofs.LineAccepted.{accepted_there}
use Rattle.plan.proofs.Reading.{records_few, records_more, index_belt}
use Rattle.archive.specs.Form.{Fields, bytes_of}
use Rattle.archive.proofs.WriteIndices.{low_few, no_belt, new_index_lem}
use Rattle.archive.proofs.WriteBelts.{legs_to, legs_same, legs_all, belt_put}
use Rattle.archive.proofs.indices.Renumbered.put_belts.Goals as goal
use Rattle.archive.proofs.indices.Renumbered.put_belts.Goals.{In-loop-e, Then-is_belt, then-is_belt, else-is_belt}

-- record e is below the end
below : (c : In-loop-e) → c.loop-e.e < records c.args.self.now.plan.bytes.now
below c = omega (arith, c.loop-e-test.true, c.records-e-end.ensures)

small : (c : In-loop-e) → c.loop-e.e < max_records
small c = omega (arith, below c, (records_few c.args.self.now.plan.accepted).0)

pub overflow_cast-belt : goal.overflow_cast-belt
overflow_cast-belt c = omega (arith, small c)

-- and that of a belt
is_belt : (c : Then-is_belt) → IsBelt c.args.self.now.plan.bytes.now c.loop-e.e
is_belt c = index_belt c.args.self.now.plan.accepted c.loop-e.e (sym c.is_belt.ensures ∙ c.if-is_belt.true)

pub new_index-requires : goal.new_index-requires
new_index-requires c = is_belt (goal.at.new_index-requires c).Then-is_belt

pub next_belt-requires : goal.next_belt-requires
next_belt-requires c = is_belt (goal.at.next_belt-requires c).Then-is_belt

pub field-requires : goal.field-requires
field-requires c = (omega arith, accepted_there c.args.self.now.plan.accepted _ (is_belt (goal.at.field-requires c).Then-is_belt).0)

pub field-requires-then-is_belt : goal.field-requires-then-is_belt
field-requires-then-is_belt c = (omega arith, accepted_there c.args.self.now.plan.accepted _ (is_belt (goal.at.field-requires-then-is_belt c).Then-is_belt).0)

pub field-requires-then-is_belt-2 : goal.field-requires-then-is_belt-2
field-requires-then-is_belt-2 c =
    (omega arith, accepted_there c.args.self.now.plan.accepted _ (is_belt (goal.at.field-requires-then-is_belt-2 c).Then-is_belt).0)

pub put_record-requires : goal.put_record-requires
put_record-requires c =
    let b = c.args.self.now.plan.bytes.now in
    let e = c.loop-e.e in
    let is = is_belt (goal.at.put_record-requires c).Then-is_belt in
    omega (
      arith,
      is.0,
      c.from-at.ensures,
      c.new_index.ensures,
      new_index_lem c.args.self.now.plan.accepted e is,
      low_few b e (omega (arith, c.loop-e.auto.e, c.junctions-e.ensures)),
      c.loop-e.auto.out,
    )

pub loop-e-preserved : goal.loop-e-preserved
loop-e-preserved c =
    let ok = c.args.self.now.plan.accepted in
    let b = c.args.self.now.plan.bytes.now in
    let e = c.loop-e.e in
    let at = 12 * suc (plan_of b).junctions in
    let low = below (goal.at.loop-e-preserved c).In-loop-e in
    elim c.if-is_belt.branch [
      | then-is_belt w ↦
          w.out-is
          ∙ belt_put ok c.args.out.now c.loop-e.out _ e _ _ _ _ (index_belt ok e (sym c.is_belt.ensures ∙ w.if-is_belt.true)) c.requires c.loop-e.invariant
          (w.from-at.ensures ∙ w.new_index.ensures)
          w.next_belt.result w.next_belt.ensures.link w.next_belt.ensures.belt _ w.link-next.ensures
          w.field.ensures w.field-then-is_belt.ensures w.field-then-is_belt.type_inv w.field-then-is_belt-2.ensures w.put_record.ensures
      | else-is_belt w ↦
          let d = no_belt ok e low (sym c.is_belt.ensures ∙ w.if-is_belt.false) in
          w.out-is ∙ c.loop-e.invariant
          ∙ ap (λ (rs : List Fields). placed c.args.out.now at (bytes_of rs)) (sym (legs_same b e (omega (arith, c.loop-e.auto.e, c.junctions-e.ensures)) d))
    ]

pub returns : goal.returns
returns c =
    let b = c.args.self.now.plan.bytes.now in
    let at = 12 * suc (plan_of b).junctions in
    let e : c.loop-e.e ≡ records b =
    omega (arith, c.loop-e-test.false, c.loop-e.auto.e-end, c.records-e-end.ensures, c.junctions-e.ensures, records_more c.args.self.now.plan.accepted) in
    c.loop-e.invariant ∙ ap (λ (rs : List Fields). placed c.args.out.now at (bytes_of rs)) (ap (legs_to b) e ∙ legs_all b)
