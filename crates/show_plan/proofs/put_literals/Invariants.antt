-- What is left of the chain are literals.
use Rattle.std.proofs.Common.{ℕ}
use mathlib.Core.List.{Memᴰ}
use Rattle.plan.specs.Reading.{IsLiteral}
use Rattle.show_plan.proofs.put_literals.Given as goal

abbrev pub invariant-loop-literal : goal.invariant-loop-literal
invariant-loop-literal g l = (i : ℕ) → Memᴰ i l.literal-iterator → IsLiteral l.plan.bytes.now i
