-- The trip that a line says: the numbers s and t, and the lock, a mask and its values, behind a plus.
--
--   lock_in cs   the lock behind the next plus of the line cs; without a plus no mode is locked
--   trip_in cs   the trip of the line cs: s and t come first
--
-- Assumes nothing.
use Rattle.std.specs.Prelude.{ℕ, List, drop}
use Rattle.route.specs.declared.path.Lock.{Lock}
use Rattle.route.specs.declared.path.Trip.{Trip}
use Rattle.test_cases.specs.Lines.{number_in, number_or_zero, behind_length}

abbrev pub lock_in : List ℕ → Lock
lock_in cs = let at : List ℕ = drop (behind_length 43 cs) cs in record { mask = number_or_zero at; values = number_or_zero (number_in at).rest }

abbrev pub trip_in : List ℕ → Trip
trip_in cs = record {
  s = number_or_zero cs;
  t = number_or_zero (number_in cs).rest;
  lock = lock_in (number_in (number_in cs).rest).rest;
}
