use Rattle.std.proofs.Common.{refl, sym, subst, ◌∙◌}
use mathlib.Core.List.{Memᴰ}
use Rattle.plan.proofs.Reading.{on_belts}
use Rattle.show_plan.proofs.put_leaving.Goals as goal

pub loop-belt-init : goal.loop-belt-init
loop-belt-init g c =
    let it = c.into_iter-belt-iterator.ensures.into_iter_gives ∙ c.belts_from-belt-items.ensures in
    λ i m. on_belts c.args.placed.plan.accepted c.args.j c.requires.low c.requires.high i (subst (Memᴰ i) it m)

pub put_belt-requires : goal.put_belt-requires
put_belt-requires g c = c.loop-belt.invariant c.in-Some.belt.0 (subst (Memᴰ c.in-Some.belt.0) (sym c.in-Some.ensures.steps) (Memᴰ.head refl))

pub loop-belt-preserved : goal.loop-belt-preserved
loop-belt-preserved g c = λ i m. c.loop-belt.invariant i (subst (Memᴰ i) (sym c.in-Some.ensures.steps) (Memᴰ.tail m))
