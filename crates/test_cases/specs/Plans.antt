-- The plans that cases start from, and the plan that a line says.
--
--   blank          the bytes of a case before anything is written: zeros
--   fields a .. f  the six fields of a record
--   put_p b         the bytes b with plan P of the paper
--   put_named b     with 49 belts from 1 to 2 and a rule that names them all; put_twins b es: belts es, each with its literal
--   put_row b       with 256 junctions in a row; put_links b js: junctions js, each with the belt to the next
--   put_base b base with the plan that is started from
--   base_of c       the letter c of a line: N, R, or else P
--   plan_in text    the plan of the line at the start of the text: its size, and the records in which it differs
--
-- Assumes nothing.
use Rattle.std.specs.Prelude.{ℕ, ◌+◌, true, false, List, [], ◌∷◌, get_or, replicate, eqb}
use Rattle.plan.specs.Lists.{upto}
use Rattle.test_cases.specs.declared.plans.Base.{Base}
use Rattle.test_cases.specs.declared.plans.Base.TheVariants.{P, Named, Row}
use Rattle.test_cases.specs.declared.plans.Plan.{Plan}
use Rattle.test_cases.specs.Records.{put_record, written, case_bytes}
use Rattle.test_cases.specs.Lines.{number_in, number_or_zero, numbers_in, changed}

unfoldable pub blank : List ℕ
blank = replicate case_bytes 0

abbrev pub fields : ℕ → ℕ → ℕ → ℕ → ℕ → ℕ → List ℕ
fields a b c d e f = a ∷ b ∷ c ∷ d ∷ e ∷ f ∷ []

unfoldable pub put_p : List ℕ → List ℕ
put_p b =
    written b
    ((0, fields 7 3 1 7 10 0)
    ∷ (1, fields 1 4 0 0 0 0)
    ∷ (2, fields 1 6 0 0 0 0)
    ∷ (3, fields 1 0 0 0 0 0)
    ∷ (4, fields 2 5 2 3 0 0)
    ∷ (5, fields 2 0 3 9 0 0)
    ∷ (6, fields 2 0 3 4 0 0)
    ∷ (7, fields 3 0 8 0 0 0)
    ∷ (8, fields 4 9 0 0 4 0)
    ∷ (9, fields 4 0 0 0 6 0)
    ∷ [])

abbrev pub put_twins : List ℕ → List ℕ → List ℕ
put_twins b [] = b
put_twins b (e ∷ es) = put_twins (put_record (put_record b e (fields 2 (e + 1) 2 1 0 0)) (e + 50) (fields 4 (e + 51) 0 0 e 0)) es

unfoldable pub put_named : List ℕ → List ℕ
put_named b =
    written (put_twins (written b ((0, fields 7 2 0 52 102 0) ∷ (1, fields 1 3 0 0 0 0) ∷ (2, fields 1 0 0 0 0 0) ∷ [])) (upto 3 51))
    ((51, fields 2 0 2 1 0 0) ∷ (52, fields 3 0 53 0 0 0) ∷ (101, fields 4 0 0 0 51 0) ∷ [])

abbrev pub put_links : List ℕ → List ℕ → List ℕ
put_links b [] = b
put_links b (j ∷ js) = put_links (put_record (put_record b j (fields 1 (256 + j) 0 0 0 0)) (256 + j) (fields 2 0 (j + 1) 65535 65535 0)) js

unfoldable pub put_row : List ℕ → List ℕ
put_row b =
    written (put_links (written b ((0, fields 7 256 10 512 515 0) ∷ [])) (upto 1 256))
    ((256, fields 1 0 0 0 0 0) ∷ (512, fields 3 0 513 0 0 0) ∷ (513, fields 4 514 0 0 511 0) ∷ (514, fields 4 0 1 1 10 0) ∷ [])

abbrev pub put_base : List ℕ → Base → List ℕ
put_base b P = put_p b
put_base b Named = put_named b
put_base b Row = put_row b

abbrev pub base_of : ℕ → Base
base_of c = elim (eqb c 78) [ true ↦ Named | false ↦ elim (eqb c 82) [ true ↦ Row | false ↦ P ] ]

abbrev pub plan_in : List ℕ → Plan
plan_in text = record {
  bytes = changed (put_base blank (base_of (get_or text 2 10))) (numbers_in (number_in text).rest);
  size = number_or_zero text;
}
