-- E1 to E11 of paper 01 ("Plan P and its neighbours"), from the bytes of a plan to the bytes of the out buffer, in one list; and queries with a lock
-- (K2 of paper 02) in another.
--
--   Example           a plan's bytes, a query, what it comes to, and the sheet; no bytes where none is written
--   examples          THE LIST. What is expected are the paper's values; what it does not name was worked out by hand
--   answer, expected  what the definitions give and what is expected: the outcome; of the out buffer afterwards, which had 255 in all its
--                     3,072 bytes, as many as the sheet has; and those behind it, which are as they were
--   as_expected       THE THEOREM: for each example of the list it is the same
--   locked_examples, locked_as_expected
--                     the same of queries with a lock
--
-- Assumes nothing.
use Rattle.std.specs.Prelude.{◌≡◌, refl, ℕ, List, [], ◌∷◌, ◌++◌, map, length, take, drop, replicate}
use Rattle.plan.specs.Records.{record_of, row_of, fits, links_at, links}
use Rattle.plan.specs.Plan.{plan_of, named}
use Rattle.plan.specs.Refusals.{broken1, broken2, broken3, broken4, broken5, broken6, broken7}
use Rattle.plan.specs.Examples.{plan_p}
use Rattle.route.specs.Subproblems.{relaxed}
use Rattle.route.specs.Permission.{no_lock}
use Rattle.route.specs.Refusals.{broken8, broken15}
use Rattle.search.specs.declared.query.Query.{Query}
use Rattle.search.specs.Answers.{broken9, broken10, search_refusal, Outcome, refused, route, nothing, spent, outcome, out_after}

pub record Example : Type 0 where
  pub plan : List ℕ
  pub query : Query
  pub result : Outcome
  pub sheet : List ℕ

-- ---- plans

-- records 1 to 6 of P, with this cost of belt 5
abbrev middle : ℕ → List ℕ
middle c =
    record_of 1 4 0 0 0 0
    ++ record_of 1 6 0 0 0 0
    ++ record_of 1 0 0 0 0 0
    ++ record_of 2 5 2 3 0 0
    ++ record_of 2 0 3 c 0 0
    ++ record_of 2 0 3 4 0 0

-- P without rules; the same with belt 5 costing 7
abbrev plan_e7 : List ℕ
plan_e7 = record_of 7 3 1 0 7 0 ++ middle 9

abbrev plan_e8 : List ℕ
plan_e8 = record_of 7 3 1 0 7 0 ++ middle 7

-- P, and the rule: not belt 5
abbrev plan_e9 : List ℕ
plan_e9 =
    record_of 7 3 1 7 12 0
    ++ middle 9
    ++ record_of 3 10 8 0 0 0
    ++ record_of 4 9 0 0 4 0
    ++ record_of 4 0 0 0 6 0
    ++ record_of 3 0 11 0 0 0
    ++ record_of 4 0 0 0 5 0

-- the only rule: not belt 4, or mode 1
abbrev plan_e10 : List ℕ
plan_e10 =
    record_of 7 3 1 7 10 0
    ++ middle 9
    ++ record_of 3 0 8 0 0 0
    ++ record_of 4 9 0 0 4 0
    ++ record_of 4 0 1 1 1 0

-- the rules: mode 1; not mode 1
abbrev plan_e11 : List ℕ
plan_e11 =
    record_of 7 3 1 7 11 0
    ++ middle 9
    ++ record_of 3 9 8 0 0 0
    ++ record_of 4 0 1 1 1 0
    ++ record_of 3 0 10 0 0 0
    ++ record_of 4 0 0 1 1 0

-- ---- queries

-- from s to t, pick 0, no mode locked
abbrev query : ℕ → ℕ → ℕ → ℕ → Query
query s t order budget = record { trip = record { s = s; t = t; lock = no_lock }; pick = 0; order = order; budget = budget }

-- what is asked unless said; the same with these modes locked, and these of them on
abbrev usual : Query
usual = query 1 3 0 1000000

abbrev locked : ℕ → ℕ → Query
locked mask values = record { trip = record { s = 1; t = 3; lock = record { mask = mask; values = values } }; pick = 0; order = 0; budget = 1000000 }

-- ---- sheets

-- no belts, cost 0, setting 0
abbrev sheet_empty : List ℕ
sheet_empty = 0 ∷ 8 ∷ 0 ∷ 0 ∷ 0 ∷ 0 ∷ 0 ∷ 0 ∷ 0 ∷ 0 ∷ 0 ∷ 0 ∷ []

-- belt 5, cost 9, with this setting
abbrev sheet5 : ℕ → List ℕ
sheet5 σ = 0 ∷ 8 ∷ 0 ∷ 1 ∷ 0 ∷ 0 ∷ 0 ∷ 0 ∷ 0 ∷ 9 ∷ 0 ∷ σ ∷ 0 ∷ 5 ∷ 0 ∷ 0 ∷ 0 ∷ 5 ∷ 0 ∷ 0 ∷ 0 ∷ 0 ∷ 0 ∷ 0 ∷ []

-- belts 4 and 6, cost 7, with this setting
abbrev sheet46 : ℕ → List ℕ
sheet46 σ =
    0 ∷ 8 ∷ 0 ∷ 1 ∷ 0 ∷ 0 ∷ 0 ∷ 0 ∷ 0 ∷ 7 ∷ 0 ∷ σ
    ∷ 0 ∷ 5 ∷ 0 ∷ 2 ∷ 0 ∷ 4 ∷ 0 ∷ 0 ∷ 0 ∷ 0 ∷ 0 ∷ 0
    ∷ 0 ∷ 5 ∷ 0 ∷ 0 ∷ 0 ∷ 6 ∷ 0 ∷ 0 ∷ 0 ∷ 0 ∷ 0 ∷ 0
    ∷ []

-- ---- the examples

abbrev example : List ℕ → Query → Outcome → List ℕ → Example
example b q o h = record { plan = b; query = q; result = o; sheet = h }

abbrev pub examples : List Example
examples =
    -- E1, and E2 with order 1
    example plan_p usual (route (5 ∷ []) 9 0 5) (sheet5 0)
    ∷ example plan_p (query 1 3 1 1000000) (route (5 ∷ []) 9 0 5) (sheet5 0)
    -- E3 and E4: budgets 4 and 5
    ∷ example plan_p (query 1 3 0 4) (spent 4) []
    ∷ example plan_p (query 1 3 0 5) (route (5 ∷ []) 9 0 5) (sheet5 0)
    -- E5 and E6: from 1 to 1, and from 3 to 1
    ∷ example plan_p (query 1 1 0 1000000) (route [] 0 0 1) sheet_empty
    ∷ example plan_p (query 3 1 0 1000000) (nothing 1) []
    -- E7 to E11: the other plans
    ∷ example plan_e7 usual (route (4 ∷ 6 ∷ []) 7 0 1) (sheet46 0)
    ∷ example plan_e8 usual (route (4 ∷ 6 ∷ []) 7 0 1) (sheet46 0)
    ∷ example plan_e9 usual (nothing 11) []
    ∷ example plan_e10 usual (route (4 ∷ 6 ∷ []) 7 1 1) (sheet46 1)
    ∷ example plan_e11 usual (nothing 1) []
    ∷ []

-- ---- the theorem

abbrev buffer : List ℕ
buffer = replicate 3072 255

abbrev outcome_of : Example → Outcome
outcome_of e = outcome (record { plan = e.plan; query = e.query; room = 3072 })

-- the buffer afterwards
abbrev afterwards : Example → List ℕ
afterwards e = out_after (outcome_of e) buffer

abbrev pub answer : Example → Outcome × List ℕ × List ℕ
answer e = (outcome_of e, take (length e.sheet) (afterwards e), drop (length e.sheet) (afterwards e))

abbrev pub expected : Example → Outcome × List ℕ × List ℕ
expected e = (e.result, e.sheet, drop (length e.sheet) buffer)

pub as_expected : map answer examples ≡ map expected examples
unfolding plan_p broken1 broken2 broken3 broken4 broken5 broken6 broken7 broken8 broken15 broken9 broken10 row_of fits links_at links plan_of named relaxed search_refusal outcome
as_expected = refl

-- ---- with a lock

abbrev pub locked_examples : List Example
locked_examples =
    -- P names no mode: one that is locked on counts in the setting
    example plan_p (locked 1 1) (route (5 ∷ []) 9 1 5) (sheet5 1)
    -- E10 with its mode locked off, and on
    ∷ example plan_e10 (locked 1 0) (route (5 ∷ []) 9 0 3) (sheet5 0)
    ∷ example plan_e10 (locked 1 1) (route (4 ∷ 6 ∷ []) 7 1 1) (sheet46 1)
    -- a mode that is not there, and a value of a mode that is not locked
    ∷ example plan_e10 (locked 2 0) (refused 15) []
    ∷ example plan_e10 (locked 0 1) (refused 15) []
    ∷ []

pub locked_as_expected : map answer locked_examples ≡ map expected locked_examples
unfolding plan_p broken1 broken2 broken3 broken4 broken5 broken6 broken7 broken8 broken15 broken9 broken10 row_of fits links_at links plan_of named relaxed search_refusal outcome
locked_as_expected = refl
