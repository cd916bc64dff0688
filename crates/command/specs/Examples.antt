-- Worked out by computation: what the definitions say of a few texts. Assumes nothing.
use Rattle.std.specs.Prelude.{◌≡◌, refl, List, [], ◌∷◌, ◌++◌, ℕ}
use Rattle.std.proofs.Math.Option.{none, some}
use Rattle.command.specs.Decimal.{written}

-- 407, and the same with zeros in front
plain : written (52 ∷ 48 ∷ 55 ∷ []) ≡ some 407
plain = refl

zeros_in_front : written (48 ∷ 48 ∷ 52 ∷ 48 ∷ 55 ∷ []) ≡ some 407
zeros_in_front = refl

zero : written (48 ∷ []) ≡ some 0
zero = refl

-- all digits of 2^64 but the last
abbrev most : List ℕ
most = 49 ∷ 56 ∷ 52 ∷ 52 ∷ 54 ∷ 55 ∷ 52 ∷ 52 ∷ 48 ∷ 55 ∷ 51 ∷ 55 ∷ 48 ∷ 57 ∷ 53 ∷ 53 ∷ 49 ∷ 54 ∷ 49 ∷ []

-- 2^64 - 1, and 2^64
largest : written (most ++ 53 ∷ []) ≡ some 18446744073709551615
largest = refl

too_large : written (most ++ 54 ∷ []) ≡ none
too_large = refl

-- an empty text; -1; 4x; a space before 4; the bytes on either side of the digits
empty : written [] ≡ none
empty = refl

negative : written (45 ∷ 49 ∷ []) ≡ none
negative = refl

letter_behind : written (52 ∷ 120 ∷ []) ≡ none
letter_behind = refl

space_before : written (32 ∷ 52 ∷ []) ≡ none
space_before = refl

slash : written (47 ∷ []) ≡ none
slash = refl

colon : written (58 ∷ []) ≡ none
colon = refl
