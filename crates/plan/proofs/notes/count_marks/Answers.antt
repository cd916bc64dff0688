-- A one for each mark.
use Rattle.std.proofs.Common.{eqb, ◌∙◌, rules}
use borrow.Author.Tests.{tests}
use Rattle.std.proofs.lemmas.Iterator.{YieldsList-from_slice, YieldsList-from_map}
use Rattle.std.proofs.lemmas.Iterator.Consumers.{sum_by_from_yields_List}
use Rattle.plan.specs.Lists.{count_by}
use Rattle.plan.proofs.Iterators.{count_sum}
use Rattle.plan.proofs.notes.count_marks.Goals as goal

pub returns : goal.returns
returns c =
    let marks = c.args.marks.now in
    sum_by_from_yields_List (λ mark. count_by (eqb mark 1) 0) marks _ _ c.sum.ensures.ran
    (YieldsList-from_map _ (λ mark. count_by (eqb mark 1) 0) (YieldsList-from_slice marks cc) (cc) (λ x r q k. search (rules, tests)))
    ∙ count_sum (λ mark. eqb mark 1) marks
