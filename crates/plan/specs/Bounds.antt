-- The limits of the format (paper 01, and for costs K1 of paper 02), each written once. The code has the same numbers under the same names
-- (src/bounds.rt), but for belt_cost_limit, since it compares no cost with that.
--
--   field_limit        what a field holds is below it: two bytes
--   belt_cost_limit     what a belt costs is below it, 2^32: two fields
--   record_bytes       the bytes of a record
--   max_records        the most records of a plan
--   min_plan_bytes, max_plan_bytes
--                     the bytes of the smallest plan, record 0 and one junction, and of the largest
--   max_junctions      the most junctions
--   junction_places    the places of an array with one for each junction, since junctions are numbered from 1
--   max_modes          the most modes
--   max_named          the most named belts
--   max_steps          the most belts of a route, which passes each junction once at most
--   max_sheet_bytes     the bytes of the largest sheet
--
-- Assumes nothing.
use Rattle.std.specs.Prelude.{ℕ, ◌+◌, ◌*◌, ◌-◌}

abbrev pub field_limit : ℕ
field_limit = 65536

abbrev pub belt_cost_limit : ℕ
belt_cost_limit = field_limit * field_limit

abbrev pub record_bytes : ℕ
record_bytes = 12

abbrev pub max_records : ℕ
max_records = 2048

abbrev pub min_plan_bytes : ℕ
min_plan_bytes = 2 * record_bytes

abbrev pub max_plan_bytes : ℕ
max_plan_bytes = record_bytes * max_records

abbrev pub max_junctions : ℕ
max_junctions = 256

abbrev pub junction_places : ℕ
junction_places = max_junctions + 1

abbrev pub max_modes : ℕ
max_modes = 10

abbrev pub max_named : ℕ
max_named = 48

abbrev pub max_steps : ℕ
max_steps = max_junctions - 1

abbrev pub max_sheet_bytes : ℕ
max_sheet_bytes = record_bytes * (max_steps + 1)
