use Rattle.std.proofs.Common.{◌∙◌, rules, eqb}
use borrow.Author.Tests.{tests}
use Rattle.std.proofs.lemmas.Iterator.Consumers.{YieldsList-from_first}
use Rattle.std.proofs.lemmas.Iterator.Search.{any_from_yields_List}
use Rattle.plan.proofs.Lists.{any_is}
use Rattle.plan.proofs.Reading.{leaves_on}
use Rattle.plan.proofs.accepted.AcceptedPlan.leaves.Goals as goal

pub returns : goal.returns
returns c =
    any_from_yields_List (eqb c.args.belt.0) _ _ c.any.result c.any.ensures.ran (YieldsList-from_first (λ e. e.0) (λ left. left) _ c.belts_from.ensures) (λ x b q k. search (rules, tests))
    ∙ any_is (eqb c.args.belt.0) _
    ∙ leaves_on c.args.self.accepted c.args.belt.0 c.args.j c.requires.belt c.requires.low c.requires.high
