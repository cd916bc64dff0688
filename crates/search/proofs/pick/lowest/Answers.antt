-- Every place is in the mask.
use Rattle.std.proofs.Common.{ℕ, Bool, Some, ◌∙◌, ap, arith}
use Rattle.plan.specs.Lists.{upto}
use Rattle.plan.proofs.Lists.{keep_in, upto_in}
use Rattle.route.specs.Values.{in_mask}
use Rattle.route.proofs.MaskBits.{ones_set}
use Rattle.search.specs.Inner.{unfixed_at, unfixed_places, at_place}
use Rattle.search.proofs.BranchPicks.{find_all}
use Rattle.search.proofs.pick.lowest.Goals as goal

pub returns : goal.returns
returns c =
    let a = c.args in
    let on : ℕ → Bool = λ k. in_mask 18446744073709551615 (Some k) in
    c.lowest_in.ensures
    ∙ ap at_place (find_all on (unfixed_places a.fixings a.count) (λ k m.
    let (i, free) = keep_in (unfixed_at a.fixings) (upto 0 a.count) m in
    ones_set 64 k (omega (arith, (upto_in 0 a.count k i).1, c.requires))))
