use Rattle.std.proofs.Common.{ℕ, List, refl, sym, subst, ◌∙◌}
use mathlib.Core.List.{Memᴰ}
use Rattle.plan.specs.Reading.{IsLiteral}
use Rattle.plan.proofs.Reading.{on_literals}
use Rattle.show_plan.proofs.put_literals.Given as given
use Rattle.show_plan.proofs.put_literals.Goals as goal
use Rattle.show_plan.proofs.put_literals.Goals.{In-Some}

-- all literals of the rule, of which one is first
on_chain : (g : given.Over) (c : In-Some g) (i : ℕ) → Memᴰ i c.literals-literals.result → IsLiteral c.args.plan.bytes.now i
on_chain g c i m = on_literals c.args.plan.accepted c.args.rule.0 c.requires i (subst (Memᴰ i) c.literals-literals.ensures m)

pub literal-requires : goal.literal-requires
literal-requires g c =
    on_chain g (goal.at.literal-requires g c).In-Some c.in-Some.first.0 (subst (Memᴰ c.in-Some.first.0) (sym c.in-Some.ensures.steps) (Memᴰ.head refl))

pub loop-literal-init : goal.loop-literal-init
loop-literal-init g c =
    λ i m. on_chain g (goal.at.loop-literal-init g c).In-Some i
    (subst (Memᴰ i) (sym c.in-Some.ensures.steps) (Memᴰ.tail (subst (Memᴰ i) c.into_iter-literal-iterator.ensures.into_iter_gives m)))

pub literal-requires-in-loop-literal : goal.literal-requires-in-loop-literal
literal-requires-in-loop-literal g c =
    c.loop-literal.invariant c.in-Some-literal.literal.0 (subst (Memᴰ c.in-Some-literal.literal.0) (sym c.in-Some-literal.ensures.steps) (Memᴰ.head refl))

pub loop-literal-preserved : goal.loop-literal-preserved
loop-literal-preserved g c = λ i m. c.loop-literal.invariant i (subst (Memᴰ i) (sym c.in-Some-literal.ensures.steps) (Memᴰ.tail m))
