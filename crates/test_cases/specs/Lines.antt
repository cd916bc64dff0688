-- What a line of text says: numbers and signs. The text is a list of bytes, what is left of it where it is read.
--
--   is_digit c, is_sign c   a digit; a bar, a plus, a minus or the end of the line
--   appended v d          the number v with one more digit d; 0 where that takes more than 64 bits
--   Read                  a number, or none, and what is left of the text where it was read
--   number_from n cs      the next number of cs, of which n are the digits that were read before. It ends before the first byte that is no
--                         digit; where a sign or the end of the text comes first there is none
--   number_in cs          the next number of cs; number_or_zero: that number, or 0 where there is none
--   begun n ns            the numbers ns, and before them the one that was begun, if any
--   numbers_from n cs, numbers_in cs
--                         all numbers of cs up to the first sign, the one that was begun before the others
--   line_length cs         how many bytes there are up to and with the end of the line
--   line_starts b cs, lines_in cs
--                         what is left of cs at the start of each line; b says whether a line starts at its first byte
--   behind_length sign cs  how many there are up to and with the next such sign of the line; up to its end where it has none
--   length_before b cs     how many there are before the first byte b; name_length cs: before the first space
--   put_number b i f v     the bytes b with v in field f of record i, where both numbers have 16 bits
--   changed b ns          the bytes b with the records that the numbers ns say: each an index and six fields (changed_by)
--
-- Assumes nothing.
use Rattle.std.specs.Prelude.{ℕ, suc, ◌+◌, ◌-◌, ◌*◌, ◌/◌, Bool, true, false, ◌&&◌, ◌||◌, List, [], ◌∷◌, eqb, leb, ltb, Option, Some, None, unwrap_or, is_some}
use Rattle.plan.specs.Bounds.{field_limit}
use Rattle.test_cases.specs.Records.{put_field}

abbrev pub is_digit : ℕ → Bool
is_digit c = leb 48 c && leb c 57

abbrev pub is_sign : ℕ → Bool
is_sign c = eqb c 124 || (eqb c 43 || (eqb c 45 || eqb c 10))

abbrev pub appended : ℕ → ℕ → ℕ
appended v d = elim (leb v ((18446744073709551615 - d) / 10)) [ true ↦ 10 * v + d | false ↦ 0 ]

pub record Read : Type 0 where
  pub number : Option ℕ
  pub rest : List ℕ

abbrev pub number_from : Option ℕ → List ℕ → Read
number_from n [] = record { number = n; rest = [] }
number_from n (c ∷ cs) =
    elim (is_digit c) [
      | true ↦ number_from (Some (appended (unwrap_or n 0) (c - 48))) cs
      | false ↦ elim (is_some n || is_sign c) [ true ↦ record { number = n; rest = c ∷ cs } | false ↦ number_from n cs ]
    ]

abbrev pub number_in : List ℕ → Read
number_in cs = number_from None cs

abbrev pub number_or_zero : List ℕ → ℕ
number_or_zero cs = unwrap_or (number_in cs).number 0

abbrev pub begun : Option ℕ → List ℕ → List ℕ
begun None ns = ns
begun (Some v) ns = v ∷ ns

abbrev pub numbers_from : Option ℕ → List ℕ → List ℕ
numbers_from n [] = begun n []
numbers_from n (c ∷ cs) =
    elim (is_digit c) [
      | true ↦ numbers_from (Some (appended (unwrap_or n 0) (c - 48))) cs
      | false ↦ elim (is_sign c) [ true ↦ begun n [] | false ↦ begun n (numbers_from None cs) ]
    ]

abbrev pub numbers_in : List ℕ → List ℕ
numbers_in cs = numbers_from None cs

abbrev pub line_length : List ℕ → ℕ
line_length [] = 0
line_length (c ∷ cs) = elim (eqb c 10) [ true ↦ 1 | false ↦ suc (line_length cs) ]

abbrev pub line_starts : Bool → List ℕ → List (List ℕ)
line_starts b [] = []
line_starts b (c ∷ cs) = elim b [ true ↦ (c ∷ cs) ∷ line_starts (eqb c 10) cs | false ↦ line_starts (eqb c 10) cs ]

abbrev pub lines_in : List ℕ → List (List ℕ)
lines_in cs = line_starts true cs

abbrev pub behind_length : ℕ → List ℕ → ℕ
behind_length sign [] = 0
behind_length sign (c ∷ cs) = elim (eqb c 10) [ true ↦ 0 | false ↦ elim (eqb c sign) [ true ↦ 1 | false ↦ suc (behind_length sign cs) ] ]

abbrev pub length_before : ℕ → List ℕ → ℕ
length_before b [] = 0
length_before b (c ∷ cs) = elim (eqb c b) [ true ↦ 0 | false ↦ suc (length_before b cs) ]

abbrev pub name_length : List ℕ → ℕ
name_length cs = length_before 32 cs

abbrev pub put_number : List ℕ → ℕ → ℕ → ℕ → List ℕ
put_number b i f v = elim (ltb i field_limit) [ true ↦ elim (ltb v field_limit) [ true ↦ put_field b i f v | false ↦ b ] | false ↦ b ]

-- i is the index at hand, and the next number is for field f, or with 6 the next index
abbrev pub changed_by : List ℕ → ℕ → ℕ → List ℕ → List ℕ
changed_by b i f [] = b
changed_by b i f (n ∷ ns) = elim (ltb f 6) [ true ↦ changed_by (put_number b i f n) i (suc f) ns | false ↦ changed_by b n 0 ns ]

abbrev pub changed : List ℕ → List ℕ → List ℕ
changed b ns = changed_by b 0 6 ns
