-- What is left of the chain are belts.
use Rattle.std.proofs.Common.{ℕ}
use mathlib.Core.List.{Memᴰ}
use Rattle.plan.specs.Reading.{IsBelt}
use Rattle.show_plan.proofs.put_leaving.Given as goal

abbrev pub invariant-loop-belt : goal.invariant-loop-belt
invariant-loop-belt g l = (i : ℕ) → Memᴰ i l.belt-iterator → IsBelt l.placed.plan.bytes.now i
