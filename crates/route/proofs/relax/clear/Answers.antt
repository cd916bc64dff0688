-- `relax::clear`: the places that the pass may have written are filled.
use Rattle.std.proofs.Common.{◌≡◌, ℕ, ◌-◌, ◌≤◌, length, ap, ◌∙◌, arith}
use lib.ListN.{drop, replicate, length-drop}
use lib.Seq.{length-take-le}
use borrow.Rule.Slice.PartMut.{mid_of}
use Rattle.route.specs.Ways.{no_way}
use Rattle.route.proofs.WalkClear.{cleared}
use Rattle.route.proofs.relax.clear.Goals as goal

pub returns : goal.returns
returns c =
    let (up, high, spared) = c.requires in
    let ways = c.args.ways.now in
    let few : c.args.t - c.args.s ≤ length (drop c.args.s ways) = omega (arith, spared.size, length-drop c.args.s ways) in
    let lent : length (mid_of c.args.s (c.args.t - c.args.s) ways) ≡ c.args.t - c.args.s = length-take-le (c.args.t - c.args.s) (drop c.args.s ways) few in
    cleared up high spared (c.fill.ensures.after (λ y e. e) ∙ ap (λ (n : ℕ). replicate n no_way) lent)
