-- The records above the junctions are asked one by one.
use Rattle.std.proofs.Common.{◌∙◌, ◌+◌, ℕ, refl, ap, add-one, rules}
use borrow.Author.Tests.{tests}
use Rattle.std.proofs.lemmas.Iterator.{YieldsList-from_range}
use Rattle.std.proofs.lemmas.Iterator.Search.{any_from_yields_List}
use Rattle.plan.specs.Lists.{any, upto}
use Rattle.plan.specs.Records.{junctions}
use Rattle.plan.specs.Refusals.{misnames, broken6}
use Rattle.plan.proofs.Iterators.{any_upto}
use Rattle.plan.proofs.belts.wrong_literal.Goals as goal

pub returns : goal.returns
unfolding broken6
returns c =
    let b = c.args.plan.bytes.now in
    let above = ap (λ (j : ℕ). j + 1) c.junctions.ensures.value ∙ add-one (junctions b) in
    any_from_yields_List (misnames b) _ _ _ c.any.ensures.ran (YieldsList-from_range _ _ _ refl refl) (λ x t q k. search (rules, tests))
    ∙ any_upto (misnames b) _ _
    ∙ (λ i. any (misnames b) (upto (above i) (c.args.plan.counted i)))
