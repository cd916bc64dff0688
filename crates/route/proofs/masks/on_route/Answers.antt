-- `masks::on_route`: each belt of the loop is one of the route, which can be looked up.
use Rattle.std.proofs.Common.{ℕ, ◌+◌, take, drop, ap, sym, ◌∙◌, subst, arith}
use Rattle.plan.specs.Plan.{belt_id}
use Rattle.route.specs.Values.{ids_of, LowPlace, with_place, gathered_in}
use Rattle.route.proofs.MaskRoute.{next_id, id_in}
use Rattle.route.proofs.masks.on_route.Goals as goal

pub place_of-requires : goal.place_of-requires
place_of-requires c =
    let xs = take c.args.route.count c.args.route.belts in
    omega (arith, (c.requires.low _ (id_in xs c.loop-belt.belt-index (belt_id 0) c.loop-belt-test.true)).0)

pub with-mask-requires : goal.with-mask-requires
with-mask-requires c =
    let xs = take c.args.route.count c.args.route.belts in
    subst LowPlace (sym c.place_of.ensures) (c.requires.low _ (id_in xs c.loop-belt.belt-index (belt_id 0) c.loop-belt-test.true)).1

pub loop-belt-preserved : goal.loop-belt-preserved
loop-belt-preserved c =
    let xs = take c.args.route.count c.args.route.belts in
    let i = c.loop-belt.belt-index in
    let next = next_id xs i (belt_id 0) c.loop-belt-test.true in
    let places = c.args.places.now in
    let mask = c.with-mask.ensures ∙ ap (with_place c.loop-belt.mask) c.place_of.ensures in
    ap (λ (m : ℕ). gathered_in places m (drop (i + 1) (ids_of c.args.route))) mask
    ∙ sym (ap (gathered_in places c.loop-belt.mask) next)
    ∙ c.loop-belt.invariant
