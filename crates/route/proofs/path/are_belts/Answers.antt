-- The test of each belt is that its index is one of the plan's belts.
use Rattle.std.proofs.Common.{◌∙◌, sym, rules, ap, Bool, ℕ}
use Rattle.std.proofs.lemmas.Iterator.{YieldsList-from_slice}
use Rattle.std.proofs.lemmas.Iterator.Search.{all_from_yields_List}
use Rattle.std.proofs.lemmas.List.Folds.{list_all-map}
use Rattle.std.specs.List.{list_all}
use Rattle.plan.specs.declared.read.BeltId.{BeltId}
use Rattle.plan.specs.Lists.{mem}
use Rattle.plan.specs.Plan.{plan_of, indices_of}
use Rattle.route.specs.Values.{ids_of}
use Rattle.route.proofs.Iterators.{all_list}
use Rattle.route.proofs.path.are_belts.Goals as goal

pub returns : goal.returns
returns c =
    let known : ℕ → Bool = λ (e : ℕ). mem e (indices_of (plan_of c.args.plan.bytes.now).belts) in
    all_from_yields_List (λ (e : BeltId). known e.0) _ _ c.all.result c.all.ensures.ran (YieldsList-from_slice _ (cc)) (λ x b q k. search rules)
    ∙ ap (list_all (λ (e : BeltId). known e.0)) c.belts.ensures
    ∙ sym (list_all-map known (λ (e : BeltId). e.0) _)
    ∙ all_list known (ids_of c.args.route)
