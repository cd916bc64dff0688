-- The cases of a script: its lines one after the other, and the plan that each case is about.
--
--   no_plan           the plan before the first line: no bytes
--   cases_from p ls   the cases of the lines ls, each with its plan, where p is the plan above them. A line that begins with an equals sign says
--                     a new plan, one that begins with a space changes records of the plan, a remark and an empty line say nothing, and every
--                     other line is a case
--   cases_in text     the cases of a text
--   cases_left, case_of
--                     the cases that an iterator has left; what one that it gives is
--
-- Assumes nothing.
use Rattle.std.specs.Prelude.{ℕ, true, false, ◌||◌, List, [], ◌∷◌, get_or, eqb}
use Rattle.test_cases.specs.declared.cases.Cases.{Cases}
use Rattle.test_cases.specs.declared.lines.Line.{Line}
use Rattle.test_cases.specs.declared.plans.Plan.{Plan}
use Rattle.test_cases.specs.Lines.{lines_in, numbers_in, changed}
use Rattle.test_cases.specs.Plans.{blank, plan_in}

abbrev pub no_plan : Plan
no_plan = record { bytes = blank; size = 0 }

abbrev pub cases_from : Plan → List (List ℕ) → List (Plan × List ℕ)
cases_from p [] = []
cases_from p (l ∷ ls) =
    elim (eqb (get_or l 0 10) 61) [
      | true ↦ cases_from (plan_in l) ls
      | false ↦ elim (eqb (get_or l 0 10) 32) [
        | true ↦ cases_from (record { bytes = changed p.bytes (numbers_in l); size = p.size }) ls
        | false ↦ elim (eqb (get_or l 0 10) 35 || eqb (get_or l 0 10) 10) [ true ↦ cases_from p ls | false ↦ (p, l) ∷ cases_from p ls ]
      ]
    ]

abbrev pub cases_in : List ℕ → List (Plan × List ℕ)
cases_in text = cases_from no_plan (lines_in text)

abbrev pub cases_left : Cases → List (Plan × List ℕ)
cases_left c = cases_from c.plan (lines_in c.lines.rest.now)

abbrev pub case_of : Plan × Line → Plan × List ℕ
case_of x = (x.0, x.1.rest.now)
