-- The lowest bit of the mask of the places that are unfixed and in the mask.
use Rattle.std.proofs.Common.{Some, ◌∙◌, arith}
use Rattle.route.specs.Values.{in_mask}
use Rattle.search.specs.Inner.{unfixed_at}
use Rattle.search.proofs.BranchPicks.{lowest_at, free_bits}
use Rattle.search.proofs.pick.lowest_in.Goals as goal

pub returns : goal.returns
returns c =
    let a = c.args in
    c.then_some.ensures
    ∙ lowest_at (unfixed_at a.fixings) (λ k. in_mask a.mask (Some k)) a.count 64 _ (omega (arith, c.requires)) (free_bits a.fixings a.mask)
