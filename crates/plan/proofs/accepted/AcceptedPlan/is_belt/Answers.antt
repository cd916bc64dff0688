use Rattle.std.proofs.Common.{ℕ, arith, eqb, sym, ap, ◌∙◌}
use borrow.Author.Tests.{le-ltb}
use Rattle.plan.specs.Records.{kind}
use Rattle.plan.proofs.Reading.{not_indexed, indexed_is}
use Rattle.plan.proofs.accepted.AcceptedPlan.is_belt.Goals as goal

pub returns-then-e-records : goal.returns-then-e-records
returns-then-e-records c =
    ap (λ (k : ℕ). eqb k 2) c.at.ensures
    ∙ ap (λ (e : ℕ). eqb (kind c.args.self.bytes.now e) 2) c.from-e.ensures
    ∙ sym (indexed_is c.args.self.accepted c.args.belt.0 (omega arith))

pub returns-else-e-records : goal.returns-else-e-records
returns-else-e-records c =
    le-ltb _ _ c.if-e-records.false ∙ sym (not_indexed c.args.self.accepted c.args.belt.0 (λ o. omega (arith, o.0)))
