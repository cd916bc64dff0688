-- The number that a text writes in decimal digits. A text is a list of bytes.
--
--   is_digit c     the byte is one of the digits 0 to 9
--   value cs      the number that digits write, the highest first: each counts ten to the power of how many stand behind it
--   is_number cs   the text has a byte, all of them are digits, and the number has at most 64 bits
--   written cs    THE NUMBER that the text writes, if it is one; only_if t n: the number n, if t says so
--   number_in v    the number that an answer stands for
--
-- Assumes nothing.
use Rattle.std.specs.Prelude.{ℕ, ◌+◌, ◌-◌, ◌*◌, ◌^◌, Bool, true, false, ◌&&◌, List, [], ◌∷◌, length, leb, ltb}
use Rattle.std.specs.Prelude.{Some, None}
use Rattle.std.specs.declared.option.Option as answer
use Rattle.std.proofs.Math.Option.{Option, none, some}
use Rattle.plan.specs.Lists.{all, within}

abbrev pub is_digit : ℕ → Bool
is_digit c = within 48 c 57

abbrev pub value : List ℕ → ℕ
value [] = 0
value (c ∷ cs) = (c - 48) * 10 ^ length cs + value cs

abbrev pub is_number : List ℕ → Bool
is_number cs = leb 1 (length cs) && all is_digit cs && ltb (value cs) (2 ^ 64)

abbrev pub only_if : Bool → ℕ → Option ℕ
only_if true n = some n
only_if false n = none

abbrev pub written : List ℕ → Option ℕ
written cs = only_if (is_number cs) (value cs)

abbrev pub number_in : answer.Option ℕ → Option ℕ
number_in (Some n) = some n
number_in None = none
