use Rattle.std.proofs.Common.{◌≡◌, ◌∙◌, sym, ap, arith, ℕ, ◌+◌}
use Rattle.plan.specs.Plan.{belt_id}
use Rattle.route.specs.Routes.{cost}
use Rattle.route.proofs.RouteBelts.{left, left_start, left_next, left_end, few_items, at_belt}
use Rattle.route.proofs.path.cost.Goals as goal

pub loop-belt-init : goal.loop-belt-init
loop-belt-init c = record {
  bounded = omega arith;
  left = omega (arith, ap cost (left_start c.args.route c.belts-belt-items.ensures c.args.plan.accepted c.requires));
}

pub cost-sum-requires : goal.cost-sum-requires
cost-sum-requires c = at_belt c.args.route c.belts-belt-items.ensures c.requires c.loop-belt.belt-index (belt_id 0) c.loop-belt-test.true

pub overflow_add-sum : goal.overflow_add-sum
overflow_add-sum c =
    record { fits = omega (arith, few_items c.args.route c.belts-belt-items.ensures, c.cost-sum.ensures.below, c.loop-belt.invariant.bounded, c.loop-belt-test.true) }

pub loop-belt-preserved : goal.loop-belt-preserved
loop-belt-preserved c =
    let b = c.args.plan.bytes.now in
    let items = c.belts-belt-items.result.now in
    let k = c.loop-belt.belt-index in
    let step : cost (left b items k) ≡ c.cost-sum.result + cost (left b items (k + 1)) =
    ap cost (left_next b items k (belt_id 0) c.loop-belt-test.true) ∙ ap (λ (n : ℕ). n + cost (left b items (k + 1))) (sym c.cost-sum.ensures.cost) in
    record {
      bounded = omega (arith, c.cost-sum.ensures.below, c.loop-belt.invariant.bounded);
      left = omega (arith, c.loop-belt.invariant.left);
    }

pub returns : goal.returns
returns c =
    let none = ap cost (left_end c.args.plan.bytes.now c.belts-belt-items.result.now c.loop-belt.belt-index (omega arith)) in
    let few = few_items c.args.route c.belts-belt-items.ensures in
    (omega (arith, c.loop-belt.invariant.left), omega (arith, c.loop-belt.invariant.bounded))
