-- Lines 1 and 2 are not broken.
use Rattle.std.proofs.Common.{arith}
use Rattle.plan.proofs.LineForms.{sized}
use Rattle.plan.proofs.notes.note_named.Goals as goal

pub records-requires : goal.records-requires
records-requires c = let s = sized _ c.requires.0.0.0.0 in omega arith

pub invariant_of-plan : goal.invariant_of-plan
invariant_of-plan c =
    let s = sized _ c.requires.0.0.0.0 in
    record { counted = c.records.ensures.0; whole = omega (arith, c.records.ensures.0); some = omega (arith, c.records.ensures.0); few = omega (arith, c.records.ensures.0) }
