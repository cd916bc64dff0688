-- All records are asked.
use Rattle.std.proofs.Common.{◌||◌, ℕ, ap, arith, not, eqb, false, ◌∙◌, ◌-◌, take, drop, rules}
use borrow.Author.Tests.{tests}
use Rattle.std.proofs.lemmas.Iterator.{YieldsList-from_slice}
use Rattle.std.proofs.lemmas.Iterator.Consumers.{fold_from_yields_List}
use Rattle.plan.specs.Lists.{any, upto}
use Rattle.plan.proofs.Iterators.{any_fold, any_map, read_upto}
use Rattle.plan.proofs.chain.unmet.Goals as goal

pub returns : goal.returns
returns c =
    let a = c.args in
    let part = take (a.end - a.first) (drop a.first a.seen.now) in
    fold_from_yields_List _ (λ a n. a || not (eqb n 1)) false _ c.fold.ensures.ran (YieldsList-from_slice part cc) (λ a x b q k. search (rules, tests))
    ∙ any_fold _ false part
    ∙ ap (any (λ (n : ℕ). not (eqb n 1))) (read_upto a.seen.now a.first a.end (omega arith) (omega arith))
    ∙ any_map _ _ (upto a.first a.end)
