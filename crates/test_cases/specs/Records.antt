-- Records of six 16-bit fields in the bytes of a case, which have room for two more than a plan may have. How a field and a record are written is
-- said in crate plan (specs/Records.antt).
--
--   case_records         the records of a case; case_bytes: its bytes
--   put_by t b at vs     the bytes b with vs written from place `at` on, where t says so; else b
--   put_field b r f v    the bytes b with v in field f of record r; b where there is no such field
--   put_record b r fs    the bytes b with the fields fs in record r; b where there is no such record
--   written b rs        the bytes b with the records rs, each an index and its fields
--
-- Assumes nothing.
use Rattle.std.specs.Prelude.{ℕ, ◌+◌, ◌*◌, Bool, true, false, ◌&&◌, List, [], ◌∷◌, get_or, ltb}
use Rattle.plan.specs.Bounds.{max_records, record_bytes}
use Rattle.plan.specs.Records.{field_bytes, record_of, placed}

abbrev pub case_records : ℕ
case_records = max_records + 2

abbrev pub case_bytes : ℕ
case_bytes = record_bytes * case_records

abbrev pub put_by : Bool → List ℕ → ℕ → List ℕ → List ℕ
put_by true b at vs = placed b at vs
put_by false b at vs = b

unfoldable pub put_field : List ℕ → ℕ → ℕ → ℕ → List ℕ
put_field b r f v = put_by (ltb r case_records && ltb f 6) b (record_bytes * r + 2 * f) (field_bytes v)

unfoldable pub put_record : List ℕ → ℕ → List ℕ → List ℕ
put_record b r fs =
    put_by (ltb r case_records) b (record_bytes * r) (record_of (get_or fs 0 0) (get_or fs 1 0) (get_or fs 2 0) (get_or fs 3 0) (get_or fs 4 0) (get_or fs 5 0))

abbrev pub written : List ℕ → List (ℕ × List ℕ) → List ℕ
written b [] = b
written b (x ∷ rs) = written (put_record b x.0 x.1) rs
