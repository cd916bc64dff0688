-- What is left of the chain are rules.
use Rattle.std.proofs.Common.{ℕ}
use mathlib.Core.List.{Memᴰ}
use Rattle.plan.specs.Reading.{IsRule}
use Rattle.show_plan.proofs.put_rules.Given as goal

abbrev pub invariant-loop-rule : goal.invariant-loop-rule
invariant-loop-rule g l = (i : ℕ) → Memᴰ i l.rule-iterator → IsRule l.plan.bytes.now i
