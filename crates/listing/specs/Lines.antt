-- What the listing prints of an answer: its values. How they are written out is outside the logic.
--
--   blank           a sheet that says nothing: no belts, cost 0, setting 0; or_blank t v: the sheet v, if t says so
--   read_sheet h     what the bytes h say, if they are in the form of a sheet
--   sheet_at out n   what the first n bytes of a buffer say, if it has so many
--   line_of v out    THE VALUES of an answer with this out buffer: its number, its count, and what its sheet says
--
-- `Line` is declared by the code (src/lib.rt). Assumes nothing.
use Rattle.std.specs.Prelude.{ℕ, Bool, true, false, List, [], length, take, leb, Result}
use Rattle.plan.specs.declared.refusal.Refusal.{Refusal}
use Rattle.route.specs.declared.sheet.Sheet.{Sheet}
use Rattle.route.specs.Sheets.{in_form}
use Rattle.route.specs.Values.{packed, sheet_in}
use Rattle.search.specs.declared.entry.Answer.{Answer}
use Rattle.search.specs.Answers.{reply_of}
use Rattle.listing.specs.declared.Line.{Line}

abbrev pub blank : Sheet
blank = record { route = packed []; cost = 0; setting = 0 }

abbrev pub or_blank : Bool → Sheet → Sheet
or_blank true v = v
or_blank false v = blank

abbrev pub read_sheet : List ℕ → Sheet
read_sheet h = or_blank (in_form h) (sheet_in h)

abbrev pub sheet_at : List ℕ → ℕ → Sheet
sheet_at out n = or_blank (leb n (length out)) (read_sheet (take n out))

abbrev pub line_of : Result Answer Refusal → List ℕ → Line
line_of v out = record { number = (reply_of v).number; opened = (reply_of v).opened; sheet = sheet_at out (reply_of v).size }
