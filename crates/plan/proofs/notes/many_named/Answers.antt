-- The marked records are the named belts.
use Rattle.std.proofs.Common.{◌≡◌, ℕ, eqb, ltb, length, sym, ap, ◌∙◌, arith}
use Rattle.plan.specs.Bounds.{max_named}
use Rattle.plan.specs.Lists.{count, upto}
use Rattle.plan.specs.Inner.{marked_once, notes}
use Rattle.plan.specs.Refusals.{broken7}
use Rattle.plan.proofs.Iterators.{count_map, read_first}
use Rattle.plan.proofs.NamedBelts.{length_notes, named_count}
use Rattle.plan.proofs.notes.many_named.Goals as goal

pub returns : goal.returns
unfolding broken7 notes
returns c =
    let b = c.args.plan.bytes.now in
    let n = c.args.plan.count in
    let marks = c.mark_named.new.marks in
    let is : marks ≡ notes b = c.mark_named.ensures in
    let size = ap length is ∙ length_notes b in
    ap (ltb max_named)
    (c.from.ensures
    ∙ c.count_marks.ensures
    ∙ ap (count (λ (mark : ℕ). eqb mark 1)) (read_first marks n (omega (arith, c.args.plan.few)))
    ∙ count_map _ _ (upto 0 n)
    ∙ (λ i. count (marked_once (is i)) (upto 0 (c.args.plan.counted i)))
    ∙ sym (named_count b c.requires))
