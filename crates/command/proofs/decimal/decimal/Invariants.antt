-- The bytes passed are digits, and write the value.
use Rattle.std.proofs.Common.{take, ◌≡◌, ◌<◌, true}
use Rattle.plan.specs.Lists.{all}
use Rattle.command.specs.Decimal as spec
use Rattle.command.specs.Decimal.{is_digit}
use Rattle.command.proofs.decimal.decimal.Given as goal

abbrev pub invariant-loop-byte : goal.invariant-loop-byte
invariant-loop-byte l =
    (all is_digit (take l.byte-index l.text) ≡ true) × (l.value ≡ spec.value (take l.byte-index l.text)) × (l.value < 18446744073709551616)
