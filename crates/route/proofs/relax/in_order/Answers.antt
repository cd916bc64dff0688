-- `relax::in_order` by the steps of WalkOrder.antt.
use Rattle.std.proofs.Common.{◌≡◌, ℕ, subst, refl, arith}
use Rattle.plan.specs.Bounds.{max_named}
use Rattle.plan.specs.Words.{named_at, tail_place_at}
use Rattle.route.proofs.WalkOrder.{Ordered, ordered_shifted, ordered_low}
use Rattle.route.proofs.relax.in_order.Goals as goal

pub overflow_add-due-in-loop-k : goal.overflow_add-due-in-loop-k
overflow_add-due-in-loop-k c =
    let next = ordered_shifted c.loop-k.invariant (tail_place_at c.args.numbers.now c.loop-k.k) refl (omega arith) in
    omega (arith, ordered_low next 64 (omega arith))

pub loop-k-preserved : goal.loop-k-preserved
loop-k-preserved c = ordered_shifted c.loop-k.invariant (tail_place_at c.args.numbers.now c.loop-k.k) refl (omega arith)

pub returns : goal.returns
returns c =
    let end : c.loop-k.k ≡ named_at c.args.numbers.now = omega arith in
    let whole = subst (λ (n : ℕ). Ordered c.args.numbers.now c.args.mask n c.loop-k.due) end c.loop-k.invariant in
    (ordered_low whole max_named c.requires.0, whole.has)
