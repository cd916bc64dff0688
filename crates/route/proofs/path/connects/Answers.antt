use Rattle.std.proofs.Common.{◌∙◌, sym, ap, arith, ℕ, ◌+◌, Bool, ◌&&◌, get_or}
use Rattle.plan.specs.Plan.{belt_id, belt_at}
use Rattle.plan.proofs.Reading.{belt_ends, belt_in}
use Rattle.route.specs.Routes.{connects}
use Rattle.route.proofs.RouteBelts.{left, left_start, left_next, left_end, at_belt}
use Rattle.route.proofs.path.connects.Goals as goal

pub loop-belt-init : goal.loop-belt-init
loop-belt-init c = record {
  low = c.requires.1;
  high = c.requires.2;
  left = ap (connects c.args.s c.args.t) (left_start c.args.route c.belts-belt-items.ensures c.args.plan.accepted c.requires.0);
}

pub leaves-requires : goal.leaves-requires
leaves-requires c = record {
  belt = at_belt c.args.route c.belts-belt-items.ensures c.requires.0 c.loop-belt.belt-index (belt_id 0) c.loop-belt-test.true;
  low = c.loop-belt.invariant.low;
  high = c.loop-belt.invariant.high;
}

pub leads_to-at-requires : goal.leads_to-at-requires
leads_to-at-requires c = at_belt c.args.route c.belts-belt-items.ensures c.requires.0 c.loop-belt.belt-index (belt_id 0) c.loop-belt-test.true

pub returns-then-not-leaves : goal.returns-then-not-leaves
returns-then-not-leaves c =
    let b = c.args.plan.bytes.now in
    let items = c.belts-belt-items.result.now in
    let k = c.loop-belt.belt-index in
    let e = (get_or items k (belt_id 0)).0 in
    let step = ap (connects c.loop-belt.at c.args.t) (left_next b items k (belt_id 0) c.loop-belt-test.true) in
    let this = sym c.leaves.ensures ∙ c.if-not-leaves.true in
    sym (sym c.loop-belt.invariant.left ∙ step ∙ ap (λ (t : Bool). t && connects (belt_at b e).leads c.args.t (left b items (k + 1))) this)

pub loop-belt-preserved : goal.loop-belt-preserved
loop-belt-preserved c =
    let b = c.args.plan.bytes.now in
    let items = c.belts-belt-items.result.now in
    let k = c.loop-belt.belt-index in
    let t = c.args.t in
    let e = (get_or items k (belt_id 0)).0 in
    let is = at_belt c.args.route c.belts-belt-items.ensures c.requires.0 k (belt_id 0) c.loop-belt-test.true in
    let ends = belt_ends c.args.plan.accepted (belt_at b e) (belt_in c.args.plan.accepted e is) in
    let step = ap (connects c.loop-belt.at t) (left_next b items k (belt_id 0) c.loop-belt-test.true) in
    let this = sym c.leaves.ensures ∙ c.if-not-leaves.false in
    record {
      low = omega (arith, ends.0, ends.1, c.leads_to-at.ensures);
      high = omega (arith, ends.2, c.leads_to-at.ensures);
      left = ap (λ (j : ℕ). connects j t (left b items (k + 1))) c.leads_to-at.ensures
          ∙ sym (step ∙ ap (λ (u : Bool). u && connects (belt_at b e).leads t (left b items (k + 1))) this)
          ∙ c.loop-belt.invariant.left;
    }

pub returns : goal.returns
returns c =
    let none = ap (connects c.loop-belt.at c.args.t) (left_end c.args.plan.bytes.now c.belts-belt-items.result.now c.loop-belt.belt-index c.loop-belt-test.false) in
    sym (sym c.loop-belt.invariant.left ∙ none)
