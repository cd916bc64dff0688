use Rattle.std.proofs.Common.{refl, sym, subst, ◌∙◌}
use mathlib.Core.List.{Memᴰ}
use Rattle.plan.proofs.Reading.{on_rules}
use Rattle.show_plan.proofs.put_rules.Goals as goal

pub loop-rule-init : goal.loop-rule-init
loop-rule-init g c =
    let it = c.into_iter-rule-iterator.ensures.into_iter_gives ∙ c.rules-rule-items.ensures in
    λ i m. on_rules c.args.plan.accepted i (subst (Memᴰ i) it m)

pub put_literals-requires : goal.put_literals-requires
put_literals-requires g c = c.loop-rule.invariant c.in-Some.rule.0 (subst (Memᴰ c.in-Some.rule.0) (sym c.in-Some.ensures.steps) (Memᴰ.head refl))

pub loop-rule-preserved : goal.loop-rule-preserved
loop-rule-preserved g c = λ i m. c.loop-rule.invariant i (subst (Memᴰ i) (sym c.in-Some.ensures.steps) (Memᴰ.tail m))
