use Rattle.std.proofs.Common.{◌≡◌, ℕ, ◌+◌, ◌<◌, ◌≤◌, map, length, replicate, Bool, true, refl, sym, ap, ◌∙◌, add-one, arith}
use lib.Seq.{sets}
use borrow.Author.Tests.{eq-eqb, ne_eqb}
use Rattle.plan.specs.Bounds.{max_named}
use Rattle.plan.specs.Lists.{keep, upto}
use Rattle.plan.specs.Plan.{plan_of, named, belt_id}
use Rattle.plan.specs.Inner.{marked_once}
use Rattle.plan.proofs.ListCounts.{keep_first, keep_rest}
use Rattle.plan.proofs.Reading.{named_few, records_few}
use Rattle.plan.proofs.NamedBelts.{kept_named}
use Rattle.plan.proofs.NamedPlaces.{listed_sets}
use Rattle.plan.proofs.LineAccepted.{accepted_passed}
use Rattle.plan.proofs.accepted.AcceptedPlan.named_belts.Goals as goal
use Rattle.plan.proofs.accepted.AcceptedPlan.named_belts.Goals.{then-marks-e-eq1, else-marks-e-eq1}

pub note_named-requires : goal.note_named-requires
note_named-requires c = ((accepted_passed _ c.args.self.accepted.unrefused).0, refl)

pub loop-e-init : goal.loop-e-init
loop-e-init c =
    let p = c.args.self.bytes.now in
    let all = kept_named p (accepted_passed p c.args.self.accepted.unrefused).0 _ _ c.note_named.ensures c.records-n.ensures in
    record {
      counted = omega (arith, ap length all);
      listed = ap (λ ns. sets (replicate max_named (belt_id 0)) 0 (map belt_id ns)) all ∙ listed_sets (named (plan_of p)) (named_few c.args.self.accepted);
    }

pub bounds-marks-e : goal.bounds-marks-e
bounds-marks-e c = omega (arith, c.loop-e-test.true, c.records-n.ensures, (records_few c.args.self.accepted).0)

-- a marked record is one more, so there is room for it
room : (f : ℕ → Bool) {e n count all : ℕ} → e < n → f e ≡ true → count + length (keep f (upto e n)) ≡ all → all ≤ max_named → count < max_named
room f {e} {n} h t q few = omega (arith, ap length (keep_first f e n h t))

pub bounds-belts-count : goal.bounds-belts-count
bounds-belts-count c =
    room (marked_once c.note_named.new.marks) c.loop-e-test.true (eq-eqb _ 1 c.if-marks-e-eq1.true) c.loop-e.invariant.counted (named_few c.args.self.accepted)

pub offset_bounds-belts-count : goal.offset_bounds-belts-count
offset_bounds-belts-count c = omega (arith, bounds-belts-count c)

pub overflow_add-count : goal.overflow_add-count
overflow_add-count c = omega (arith, bounds-belts-count c)

pub loop-e-preserved : goal.loop-e-preserved
loop-e-preserved c =
    let marked = marked_once c.note_named.new.marks in
    let loop = c.loop-e in
    let n = c.records-n.result in
    let rest = keep marked (upto (loop.e + 1) n) in
    elim c.if-marks-e-eq1.branch [
      | then-marks-e-eq1 w ↦ let next = keep_first marked loop.e n c.loop-e-test.true (eq-eqb _ 1 w.if-marks-e-eq1.true) in
          record {
            counted = omega (arith, ap length next, w.count-is, loop.invariant.counted);
            listed = (λ i. sets (w.belts-is i) ((w.count-is ∙ add-one loop.count) i) (map belt_id rest)) ∙ sym (ap (λ ns. sets loop.belts loop.count (map belt_id ns)) next) ∙ loop.invariant.listed;
          }
      | else-marks-e-eq1 w ↦ let next = keep_rest marked loop.e n c.loop-e-test.true (ne_eqb _ 1 w.if-marks-e-eq1.false) in
          record {
            counted = omega (arith, ap length next, w.count-is, loop.invariant.counted);
            listed = (λ i. sets (w.belts-is i) (w.count-is i) (map belt_id rest)) ∙ sym (ap (λ ns. sets loop.belts loop.count (map belt_id ns)) next) ∙ loop.invariant.listed;
          }
    ]
