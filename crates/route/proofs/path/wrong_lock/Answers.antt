-- A mask at or above 2^M is wrong: a plan has at most ten modes, so 2^M fits.
use Rattle.std.proofs.Common.{◌≡◌, sym, ◌∙◌, ap, arith, ℕ, ◌*◌, ◌%◌, ◌^◌, eqb, Bool, not, ◌&&◌}
use Rattle.std.specs.Int.Bits.{bit_and}
use borrow.Author.Tests.{le-leb, le-ltb}
use Rattle.plan.specs.Plan.{plan_of}
use Rattle.plan.proofs.Reading.{plan_sizes}
use Rattle.route.proofs.MaskBits.{shifted}
use Rattle.route.proofs.path.wrong_lock.Goals as goal

pub overflow_shl-modes : goal.overflow_shl-modes
overflow_shl-modes c = omega (arith, (plan_sizes c.args.plan.accepted).2, c.modes.ensures)

pub returns-then-modes-lock : goal.returns-then-modes-lock
returns-then-modes-lock c =
    let k = c.args.lock in
    let M = (plan_of c.args.plan.bytes.now).modes in
    let few = (plan_sizes c.args.plan.accepted).2 in
    let top : 1 * 2 ^ c.modes.result % 2 ^ 64 ≡ 2 ^ M = shifted c.modes.result 64 (omega (arith, few, c.modes.ensures)) ∙ ap (λ (n : ℕ). 2 ^ n) c.modes.ensures in
    let over = le-ltb k.mask (2 ^ M) (omega (arith, top, c.if-modes-lock.true)) in
    le-leb _ _ c.if-modes-lock.true ∙ sym (ap (λ (t : Bool). not (t && eqb (bit_and k.values k.mask) k.values)) over)
