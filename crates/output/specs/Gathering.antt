-- What stands in the room that text is gathered in. The room is a list of 65,536 bytes, of which the first n are filled; where it is full it is
-- written out and filled anew from its first byte. That it was written is outside the logic.
--
--   place_of n            where the next byte goes
--   filled_after n cs     how many bytes are filled after the bytes cs
--   room_after room n cs  THE ROOM after them
--   InDecimal n cs       the bytes cs write the number n in decimal digits, as few as hold it
--   Gathers room n cs room' n'
--                        the room and the number of filled bytes afterwards are those after the bytes cs
--   Failed n t t'        whether a write has failed, before (t) and after (t'): a failure stays one, and where n bytes fit into the room
--                        nothing is written, so nothing can fail
--   GathersNumber room filled t cs n room' filled' t'
--                        both, after the bytes cs and the digits of the number n
--
-- `last_digits` and `IsDigitCount` stand in Digits.antt. Assumes nothing.
use Rattle.std.specs.Prelude.{ℕ, ◌+◌, ◌≤◌, ◌≡◌, Bool, true, cond, List, [], ◌∷◌, ◌++◌, length, set, ltb}
use Rattle.output.specs.Digits.{last_digits, IsDigitCount}

abbrev pub place_of : ℕ → ℕ
place_of n = cond (ltb n 65536) n 0

abbrev pub filled_after : ℕ → List ℕ → ℕ
filled_after n [] = n
filled_after n (c ∷ cs) = filled_after (place_of n + 1) cs

abbrev pub room_after : List ℕ → ℕ → List ℕ → List ℕ
room_after room n [] = room
room_after room n (c ∷ cs) = room_after (set room (place_of n) c) (place_of n + 1) cs

abbrev pub Gathers : List ℕ → ℕ → List ℕ → List ℕ → ℕ → Type 0
Gathers room n cs room' n' = (room' ≡ room_after room n cs) × (n' ≡ filled_after n cs)

pub record InDecimal (n : ℕ) (cs : List ℕ) : Type 0 where
  pub count : ℕ
  pub fewest : IsDigitCount 10 1 n count
  pub spelled : cs ≡ last_digits 10 count n

abbrev pub Failed : ℕ → Bool → Bool → Type 0
Failed n t t' = (n ≤ 65536 → t' ≡ t) × (t ≡ true → t' ≡ true)

pub record GathersNumber (room : List ℕ) (filled : ℕ) (t : Bool) (cs : List ℕ) (n : ℕ) (room' : List ℕ) (filled' : ℕ) (t' : Bool) : Type 0 where
  pub number : List ℕ
  pub decimal : InDecimal n number
  pub gathered : Gathers room filled (cs ++ number) room' filled'
  pub failing : Failed (filled + length (cs ++ number)) t t'
