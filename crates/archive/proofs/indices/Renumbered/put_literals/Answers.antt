use Rattle.std.proofs.Common.{◌∙◌, ℕ, List, [], ◌∷◌, subst, arith}
use Rattle.archive.proofs.WriteRules.{LiteralsPut, literals_start, literal_is, literals_room, literals_put, literals_done}
use Rattle.archive.proofs.indices.Renumbered.put_literals.Goals as goal
use Rattle.archive.proofs.indices.Renumbered.put_literals.Goals.{In-Some, In-None}

pub loop-literal-init : goal.loop-literal-init
loop-literal-init c =
    literals_start c.args.self.now.plan.accepted c.args.out.now c.args.at c.args.rule.0 c.requires.rule _
    (c.into_iter-literal-iterator.ensures.into_iter_gives ∙ c.literals-literal-items.ensures)

-- a literal is left, or none
turn : (c : In-Some) → LiteralsPut c.args.self.now.plan.bytes.now c.args.out.now c.args.at c.args.rule.0 c.loop-literal.out (c.in-Some.literal.0 ∷ c.next.new.self) c.loop-literal.i
turn c =
    subst (λ (left : List ℕ). LiteralsPut c.args.self.now.plan.bytes.now c.args.out.now c.args.at c.args.rule.0 c.loop-literal.out left c.loop-literal.i)
    c.in-Some.ensures.steps c.loop-literal.invariant

end : (c : In-None) → LiteralsPut c.args.self.now.plan.bytes.now c.args.out.now c.args.at c.args.rule.0 c.loop-literal.out [] c.loop-literal.i
end c =
    subst (λ (left : List ℕ). LiteralsPut c.args.self.now.plan.bytes.now c.args.out.now c.args.at c.args.rule.0 c.loop-literal.out left c.loop-literal.i)
    c.in-None.ensures.steps.0 c.loop-literal.invariant

pub put_literal-requires-clause-literal : goal.put_literal-requires-clause-literal
put_literal-requires-clause-literal c = literal_is c.args.self.now.plan.accepted (turn (goal.at.put_literal-requires-clause-literal c).In-Some)

pub put_literal-requires-clause-few : goal.put_literal-requires-clause-few
put_literal-requires-clause-few c =
    let room = literals_room c.args.self.now.plan.accepted (turn (goal.at.put_literal-requires-clause-few c).In-Some) in
    omega (arith, c.requires.few)

pub put_literal-requires-clause-room : goal.put_literal-requires-clause-room
put_literal-requires-clause-room c =
    let room = literals_room c.args.self.now.plan.accepted (turn (goal.at.put_literal-requires-clause-room c).In-Some) in
    omega (arith, c.requires.room, c.loop-literal.auto.out)

pub overflow_add-i : goal.overflow_add-i
overflow_add-i c =
    let room = literals_room c.args.self.now.plan.accepted (turn (goal.at.overflow_add-i c).In-Some) in
    omega (arith, c.requires.few)

pub loop-literal-preserved : goal.loop-literal-preserved
loop-literal-preserved c =
    literals_put c.args.self.now.plan.accepted (turn (goal.at.loop-literal-preserved c).In-Some) c.requires.room _ c.put_literal.ensures

pub returns-clause-end : goal.returns-clause-end
returns-clause-end c = (literals_done c.args.self.now.plan.accepted (end c) c.requires.room).0

pub returns-clause-out : goal.returns-clause-out
returns-clause-out c = (literals_done c.args.self.now.plan.accepted (end c) c.requires.room).1
