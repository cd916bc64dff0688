-- `decimal::decimal` meets its contract: a digit more writes ten times the value and the digit. Assumes nothing.
use mathlib.Core.Path.{◌≡◌, sym, ◌∙◌, ap}
use mathlib.Core.Option.{none, some}
use Prim.Native.Nat.{ℕ, ◌+◌, ◌-◌, ◌*◌, ◌<◌}
use native.Mathlib.Omega.{arith}
use mathlib.Core.List.{List}
use lib.ListN.{length, get_or, take}
use Rattle.std.proofs.Common.{rules}
use Rattle.std.proofs.lemmas.List.{take_all}
use Rattle.plan.specs.Lists.{all}
use Rattle.command.specs.Decimal as spec
use Rattle.command.specs.Decimal.{number_in, written}
use Rattle.command.proofs.Digits.{value_next, digits_next, written_large, written_whole}
use Rattle.command.proofs.decimal.decimal.Goals as goal

-- where the value of the first bytes and one more takes more than 64 bits, the text writes no number
too_large : (t : List ℕ) (i v : ℕ) → i < length t → v ≡ spec.value (take i t) → (10 * v + (get_or t i 0 - 48) < 18446744073709551616 → ⊥) → written t ≡ none
too_large t i v more is over = written_large t (i + 1) (omega (arith, value_next t i more, is, over))

pub returns-in_err-checked_mul : goal.returns-in_err-checked_mul
returns-in_err-checked_mul c =
    let at = c.loop-byte in
    ap number_in c.from_residual-in_err-checked_mul.ensures
    ∙ sym (too_large c.args.text.now at.byte-index at.value c.loop-byte-test.true at.invariant.1 (λ fits. c.in_err-checked_mul.ensures (omega arith)))

pub returns-in_err-value : goal.returns-in_err-value
returns-in_err-value c =
    let at = c.loop-byte in
    let digit = c.in_ok-digit.ensures.some in
    let ten = c.in_ok-checked_mul.ensures in
    ap number_in c.from_residual-in_err-value.ensures
    ∙ sym (too_large c.args.text.now at.byte-index at.value c.loop-byte-test.true at.invariant.1 (λ fits. c.in_err-value.ensures (omega (arith, digit, ten, c.from.ensures))))

pub loop-byte-preserved : goal.loop-byte-preserved
loop-byte-preserved c =
    let text = c.args.text.now in
    let at = c.loop-byte in
    let more = c.loop-byte-test.true in
    let digit = c.in_ok-digit.ensures.some in
    let ten = c.in_ok-checked_mul.ensures in
    let sum = c.in_ok-value.ensures in (
      digits_next text at.byte-index more at.invariant.0 digit.0,
      omega (arith, sum, ten, digit, c.from.ensures, at.invariant.1, value_next text at.byte-index more),
      omega (arith, sum),
    )

pub returns : goal.returns
returns c =
    let text = c.args.text.now in
    let at = c.loop-byte in
    let all_read : take at.byte-index text ≡ text = take_all at.byte-index text c.loop-byte-test.false in
    let value : at.value ≡ spec.value text = at.invariant.1 ∙ ap spec.value all_read in
    ap some value ∙ sym (written_whole text (search rules) (ap (all spec.is_digit) (sym all_read) ∙ at.invariant.0) (omega (arith, value)))
