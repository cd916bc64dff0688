use Rattle.std.proofs.Common.{◌≡◌, ◌<◌, ◌≤◌, ℕ, List, [], ◌∷◌, suc, ◌+◌, length, ap, subst, sym, ◌∙◌, arith, length-append, add-one}
use Rattle.std.proofs.lemmas.List.{length-replicate}
use Rattle.plan.specs.Bounds.{max_records}
use Rattle.plan.specs.Records.{records}
use Rattle.plan.specs.Plan.{plan_of}
use Rattle.plan.proofs.Reading.{records_few, records_more, plan_sizes, index_belt}
use Rattle.archive.proofs.WriteIndices.{low_belts, low_none, low_few, low_more, low_same, low_all, no_belt}
use Rattle.archive.proofs.WriteIndices.{NumberedTo, number_none, number_same, number_more, numbered}
use Rattle.archive.proofs.indices.Renumbered.new.Goals as goal
use Rattle.archive.proofs.indices.Renumbered.new.Goals.{In-loop-e, then-is_belt, else-is_belt}

pub overflow_add-first : goal.overflow_add-first
overflow_add-first c = omega (arith, (plan_sizes c.args.plan.accepted).1)

pub overflow_cast-next : goal.overflow_cast-next
overflow_cast-next c = omega (arith, (plan_sizes c.args.plan.accepted).1)

pub loop-e-init : goal.loop-e-init
loop-e-init c =
    let b = c.args.plan.bytes.now in
    let e : c.junctions-first.result + 1 ≡ suc (plan_of b).junctions = add-one _ ∙ ap suc c.junctions-first.ensures in
    let none = ap length (ap (low_belts b) e ∙ low_none b) in
    record { next = omega arith; numbered = number_none c.args.plan.accepted _ (length-replicate {A = ℕ} max_records 0) _ e }

-- record e is below the end, and there is room for as many belts
below : (c : In-loop-e) → c.loop-e.e < records c.args.plan.bytes.now
below c = omega (arith, c.loop-e-test.true, c.records-e-end.ensures)

start : (c : In-loop-e) → suc (plan_of c.args.plan.bytes.now).junctions ≤ c.loop-e.e
start c = omega (arith, c.loop-e.auto.e, c.junctions-first.ensures)

room : (c : In-loop-e) → c.loop-e.next ≤ c.loop-e.e
room c = omega (arith, c.loop-e.invariant.next, low_few c.args.plan.bytes.now c.loop-e.e (start c))

small : (c : In-loop-e) → c.loop-e.e < max_records
small c = omega (arith, below c, (records_few c.args.plan.accepted).0)

pub overflow_cast-e : goal.overflow_cast-e
overflow_cast-e c = omega (arith, small c)

pub offset_bounds-indices-e : goal.offset_bounds-indices-e
offset_bounds-indices-e c = omega (arith, small (goal.at.offset_bounds-indices-e c).In-loop-e)

pub bounds-indices-e : goal.bounds-indices-e
bounds-indices-e c = small (goal.at.bounds-indices-e c).In-loop-e

pub overflow_add-next : goal.overflow_add-next
overflow_add-next c =
    let turn = (goal.at.overflow_add-next c).In-loop-e in
    omega (arith, room turn, small turn)

pub loop-e-preserved : goal.loop-e-preserved
loop-e-preserved c =
    let b = c.args.plan.bytes.now in
    let e = c.loop-e.e in
    let turn = (goal.at.loop-e-preserved c).In-loop-e in
    let low = start turn in
    elim c.if-is_belt.branch [
      | then-is_belt w ↦
          let is = index_belt c.args.plan.accepted e (sym c.is_belt.ensures ∙ w.if-is_belt.true) in
          let more = ap length (low_more b e low is.1) ∙ length-append (low_belts b e) (e ∷ []) in
          record {
            next = omega (arith, w.next-is, c.loop-e.invariant.next);
            numbered = subst (λ (l : List ℕ). NumberedTo b l (e + 1)) (sym w.indices-is)
                (number_more b c.loop-e.indices e c.loop-e.next c.args.plan.accepted c.loop-e.invariant.numbered is c.loop-e.invariant.next);
          }
      | else-is_belt w ↦
          let d = no_belt c.args.plan.accepted e (below turn) (sym c.is_belt.ensures ∙ w.if-is_belt.false) in
          let same = ap length (low_same b e low d) in
          record {
            next = omega (arith, w.next-is, c.loop-e.invariant.next);
            numbered = subst (λ (l : List ℕ). NumberedTo b l (e + 1)) (sym w.indices-is) (number_same b c.loop-e.indices e c.loop-e.invariant.numbered d);
          }
    ]

pub invariant_of-result : goal.invariant_of-result
invariant_of-result c =
    let b = c.args.plan.bytes.now in
    let e : c.loop-e.e ≡ records b = omega (arith, c.loop-e-test.false, c.loop-e.auto.e-end, c.records-e-end.ensures, c.junctions-first.ensures, records_more c.args.plan.accepted) in
    let all = ap (λ (i : ℕ). length (low_belts b i)) e ∙ low_all b in
    record {
      numbered = numbered b c.loop-e.indices c.loop-e.e c.loop-e.invariant.numbered (omega arith);
      ends = omega (arith, c.loop-e.invariant.next);
    }
