-- `relax::walk` by the steps of WalkTrail.antt, along the trail that is required.
use Rattle.std.proofs.Common.{◌≡◌, ◌/◌, ◌∙◌, ap, arith}
use Rattle.plan.specs.Bounds.{max_junctions}
use Rattle.plan.specs.Plan.{place_in}
use Rattle.route.specs.Values.{with_place}
use Rattle.route.specs.Ways.{link_at}
use Rattle.route.proofs.WalkTrail.{walked_start, walked_next, walked_end}
use Rattle.route.proofs.relax.walk.Goals as goal

pub loop-at-init : goal.loop-at-init
loop-at-init c r h = walked_start c.args.s h

pub offset_bounds-ways-at : goal.offset_bounds-ways-at
offset_bounds-ways-at c =
    let step = walked_next (c.loop-at.invariant c.requires.2.0 c.requires.2.1) c.requires.0 c.loop-at-test.true in
    omega (arith, step.higher, step.inside)

pub bounds-ways-at : goal.bounds-ways-at
bounds-ways-at c =
    let step = walked_next (c.loop-at.invariant c.requires.2.0 c.requires.2.1) c.requires.0 c.loop-at-test.true in
    omega (arith, step.higher, step.inside)

pub offset_bounds-walked-count : goal.offset_bounds-walked-count
offset_bounds-walked-count c =
    let step = walked_next (c.loop-at.invariant c.requires.2.0 c.requires.2.1) c.requires.0 c.loop-at-test.true in
    omega (arith, step.room)

pub bounds-walked-count : goal.bounds-walked-count
bounds-walked-count c =
    let step = walked_next (c.loop-at.invariant c.requires.2.0 c.requires.2.1) c.requires.0 c.loop-at-test.true in
    omega (arith, step.room)

pub overflow_add-count : goal.overflow_add-count
overflow_add-count c =
    let step = walked_next (c.loop-at.invariant c.requires.2.0 c.requires.2.1) c.requires.0 c.loop-at-test.true in
    omega (arith, step.room)

pub loop-at-smaller : goal.loop-at-smaller
loop-at-smaller c =
    let step = walked_next (c.loop-at.invariant c.requires.2.0 c.requires.2.1) c.requires.0 c.loop-at-test.true in
    omega (arith, step.higher, step.inside)

pub loop-at-preserved : goal.loop-at-preserved
loop-at-preserved c r h =
    let step = walked_next (c.loop-at.invariant r h) c.requires.0 c.loop-at-test.true in
    let places = c.args.places.now in
    let belt = link_at c.args.ways.now c.loop-at.at / max_junctions in
    let belt_is : c.index-belt.result.0 ≡ belt = omega (arith, step.index, c.index-belt.ensures) in
    let place_is = c.place_of.ensures ∙ ap (place_in places) belt_is in
    let mask_is = c.with-seen.ensures ∙ ap (with_place c.loop-at.seen) place_is in
    rw (c.head-at.ensures, c.from-link.ensures, mask_is, belt_is) step.walked

pub returns : goal.returns
returns c r h = walked_end (c.loop-at.invariant r h) c.args.cost c.loop-at-test.false
