use Rattle.std.proofs.Common.{sym, ◌∙◌, arith}
use Rattle.route.specs.Sheets.{steps, belts_on}
use Rattle.route.proofs.SheetReading.{form_is, length_belts, few_belts}
use Rattle.route.proofs.SheetForm.{belts_next, belts_done}
use Rattle.route.proofs.RouteIndices.{same_route, packed_count, packed_sets}
use Rattle.route.proofs.sheet.read_route.Goals as goal

pub overflow_sub-count : goal.overflow_sub-count
overflow_sub-count c = omega (arith, (form_is c.args.h.now c.requires).least)

pub loop-k-init : goal.loop-k-init
loop-k-init c = let h = c.args.h.now in packed_sets (belts_on h) (few_belts h (form_is h c.requires))

pub bounds-belts-k : goal.bounds-belts-k
bounds-belts-k c = omega (arith, c.loop-k-test.true, (form_is c.args.h.now c.requires).most)

pub loop-k-preserved : goal.loop-k-preserved
loop-k-preserved c =
    let h = c.args.h.now in
    belts_next h c.loop-k.belts c.loop-k.k (steps h) _ c.loop-k-test.true c.field.ensures ∙ c.loop-k.invariant

pub invariant_of-result : goal.invariant_of-result
invariant_of-result c = record { few = omega (arith, (form_is c.args.h.now c.requires).most) }

pub returns : goal.returns
returns c =
    let h = c.args.h.now in
    let few = few_belts h (form_is h c.requires) in
    same_route _ _
    (sym (packed_count (belts_on h) few ∙ length_belts h))
    (sym (belts_done h c.loop-k.belts c.loop-k.k (steps h) c.loop-k-test.false) ∙ c.loop-k.invariant)
