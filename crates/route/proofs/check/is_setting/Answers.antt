-- A plan has at most ten modes, so 2^M fits.
use Rattle.std.proofs.Common.{◌∙◌, ap, arith, ℕ, ◌^◌, ltb}
use Rattle.plan.proofs.Reading.{plan_sizes}
use Rattle.route.proofs.MaskBits.{shifted}
use Rattle.route.proofs.check.is_setting.Goals as goal

pub overflow_shl-result : goal.overflow_shl-result
overflow_shl-result c = omega (arith, (plan_sizes c.args.plan.accepted).2, c.modes.ensures)

pub returns : goal.returns
returns c =
    let few = (plan_sizes c.args.plan.accepted).2 in
    let top = shifted c.modes.result 64 (omega (arith, few, c.modes.ensures)) ∙ ap (λ (n : ℕ). 2 ^ n) c.modes.ensures in
    (λ i. ltb (c.from.ensures i) (top i))
