-- The records from 1 on are asked one by one.
use Rattle.std.proofs.Common.{◌∙◌, ◌&&◌, not, ℕ, refl, ap, rules}
use borrow.Author.Tests.{tests}
use Rattle.std.proofs.lemmas.Iterator.{YieldsList-from_range}
use Rattle.std.proofs.lemmas.Iterator.Search.{any_from_yields_List}
use Rattle.plan.specs.Lists.{any, upto}
use Rattle.plan.specs.Records.{fits}
use Rattle.plan.specs.Refusals.{broken3, right_kind}
use Rattle.plan.proofs.Iterators.{any_upto}
use Rattle.plan.proofs.form.wrong_record.Goals as goal

pub returns : goal.returns
unfolding broken3
returns c =
    let b = c.args.plan.bytes.now in
    let n = c.args.plan.count in
    any_from_yields_List (λ r. not (right_kind b r && fits b r)) _ _ _ c.any.ensures.ran (YieldsList-from_range 1 n _ refl refl) (λ x t q k. search (rules, tests))
    ∙ any_upto _ 1 n
    ∙ ap (λ (m : ℕ). any (λ (r : ℕ). not (right_kind b r && fits b r)) (upto 1 m)) c.args.plan.counted
