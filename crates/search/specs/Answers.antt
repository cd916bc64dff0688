-- What the planner answers to a query, whole: the refusals, the ending with its count, and every byte of the out buffer (paper 01, "The
-- search", "Route sheet and check", "Causes of refusal").
--
--   Asked               a plan's bytes and a query; trip_in k: the plan and the query's trip
--   Request             a plan's bytes, a query, and the length of the lent out buffer; asked k: the first two
--   wrong_query q        pick, order or budget of the query q are wrong
--   broken9, broken10   the line is broken; line9, line10: with its number
--   query_lines          lines 1 to 8, 15 and 9, in the order in which they count: what is asked of a plan and a query, whatever is lent beside them
--   search_lines         those of a search: query_lines, and 10
--   search_refusal k     the number of the first broken one, or 0
--   Outcome             a refusal; or a route's belts, cost and setting, with the count; or none, spent, or paused, with the count
--   ending_of terms n best e
--                       what each ending stands for, after n openings with this best (best_route: its belts, cost and setting)
--   ended terms v       what a run comes to: its ending, or paused where it has none. A run to its ending has one (Claims.antt)
--   problem_in b q       the problem of a query about the plan b
--   unless_refused n k   the refusal n, or with 0 what the run comes to
--   outcome k           WHAT THE REQUEST COMES TO
--   Reply, reply_to o    the same in numbers, without what stands in the buffer: that of the refusal, or 0 for a route, 100 for none, 101 for
--                       spent and 102 for paused; the count; the length of the sheet. What a refusal lacks is 0
--   reply_of v           the numbers of each case of the code's answer
--   out_after o out      the lent buffer afterwards: on a route the sheet, and behind it what stood there; else every byte as it was
--   Told v before after o
--                       the numbers v and the buffer, before and after, are those of the outcome o
--
-- `Query`, `Answer` and `Reply` are declared by the code (src/query.rt, src/entry.rt). Assumes nothing.
use Rattle.std.specs.Prelude.{◌≡◌, ℕ, zero, suc, Bool, not, ◌&&◌, List, [], ◌∷◌, ◌++◌, map, length, drop, leb, ltb, Result, Ok, Err}
use Rattle.std.proofs.Math.Option.{Option, none, some}
use Rattle.plan.specs.Bounds.{max_sheet_bytes}
use Rattle.plan.specs.Plan.{Belt, plan_of, indices_of}
use Rattle.plan.specs.declared.refusal.Refusal.{Refusal}
use Rattle.plan.specs.Refusals.{Line, about, first_broken, refusal_number}
use Rattle.route.specs.Routes.{cost}
use Rattle.route.specs.Permission.{Terms, terms_of}
use Rattle.route.specs.Sheets.{sheet_of}
use Rattle.route.specs.Refusals.{PlanTrip, trip_lines}
use Rattle.search.specs.declared.query.Query.{Query}
use Rattle.search.specs.declared.entry.Answer.{Answer}
use Rattle.search.specs.declared.entry.Answer.TheVariants.{Found, Nothing, Spent, Paused}
use Rattle.search.specs.declared.entry.Reply.{Reply}
use Rattle.search.specs.Search.{Problem, State, Ending, found_route, found_none, budget_spent, Turn, setting_of, run, problem_of}

pub record Asked : Type 0 where
  pub plan : List ℕ
  pub query : Query

pub record Request : Type 0 where
  pub plan : List ℕ
  pub query : Query
  pub room : ℕ

abbrev pub trip_in : Asked → PlanTrip
trip_in k = record { plan = k.plan; trip = k.query.trip }

abbrev pub asked : Request → Asked
asked k = record { plan = k.plan; query = k.query }

-- ---- refusals

-- 9: pick over 2, order over 1, budget 0
abbrev pub wrong_query : Query → Bool
wrong_query q = not (leb q.pick 2 && leb q.order 1 && leb 1 q.budget)

unfoldable pub broken9 : Asked → Bool
broken9 k = wrong_query k.query

-- 10: out buffer shorter than the largest sheet, 3,072 bytes
unfoldable pub broken10 : Request → Bool
broken10 k = ltb k.room max_sheet_bytes

abbrev pub line9 : Line Asked
line9 = record { number = 9; broken = broken9 }

abbrev pub line10 : Line Request
line10 = record { number = 10; broken = broken10 }

abbrev pub query_lines : List (Line Asked)
query_lines = map (about trip_in) trip_lines ++ line9 ∷ []

abbrev pub search_lines : List (Line Request)
search_lines = map (about asked) query_lines ++ line10 ∷ []

unfoldable pub search_refusal : Request → ℕ
search_refusal k = first_broken search_lines k

-- ---- outcomes

pub data Outcome : Type 0 where
  refused : ℕ → Outcome
  route : (belts : List ℕ) (cost setting opened : ℕ) → Outcome
  nothing : (opened : ℕ) → Outcome
  spent : (opened : ℕ) → Outcome
  paused : (opened : ℕ) → Outcome

-- a best is permitted: some setting works
abbrev pub or_zero : Option ℕ → ℕ
or_zero none = 0
or_zero (some σ) = σ

abbrev pub best_route : Terms → ℕ → Option (List Belt) → Outcome
best_route terms opened none = nothing opened
best_route terms opened (some r) = route (indices_of r) (cost r) (or_zero (setting_of terms r)) opened

-- spent hands out no route
abbrev pub ending_of : Terms → ℕ → Option (List Belt) → Ending → Outcome
ending_of terms opened best budget_spent = spent opened
ending_of terms opened best found_none = nothing opened
ending_of terms opened best found_route = best_route terms opened best

abbrev pub ended_by : Terms → State → Option Ending → Outcome
ended_by terms st none = paused st.opened
ended_by terms st (some e) = ending_of terms st.opened st.best e

abbrev pub ended : Terms → Turn → Outcome
ended terms v = ended_by terms v.state v.ending

abbrev pub problem_in : List ℕ → Query → Problem
problem_in b q = problem_of (plan_of b) q.trip q.pick q.order

abbrev pub unless_refused : ℕ → Request → Outcome
unless_refused zero k =
    ended (terms_of (plan_of k.plan) k.query.trip) (run (problem_in k.plan k.query) k.query.budget)
unless_refused (suc n) k = refused (suc n)

unfoldable pub outcome : Request → Outcome
outcome k = unless_refused (search_refusal k) k

-- ---- answers

abbrev pub reply : ℕ → ℕ → ℕ → Reply
reply n opened size = record { number = n; opened = opened; size = size }

abbrev pub reply_to : Outcome → Reply
reply_to (refused n) = reply n 0 0
reply_to (route es c σ n) = reply 0 n (length (sheet_of es c σ))
reply_to (nothing n) = reply 100 n 0
reply_to (spent n) = reply 101 n 0
reply_to (paused n) = reply 102 n 0

abbrev pub reply_of : Result Answer Refusal → Reply
reply_of (Ok (Found opened size)) = reply 0 opened size
reply_of (Ok (Nothing opened)) = reply 100 opened 0
reply_of (Ok (Spent opened)) = reply 101 opened 0
reply_of (Ok (Paused opened)) = reply 102 opened 0
reply_of (Err r) = reply (refusal_number r) 0 0

abbrev pub out_after : Outcome → List ℕ → List ℕ
out_after (route es c σ n) out = sheet_of es c σ ++ drop (length (sheet_of es c σ)) out
out_after (refused n) out = out
out_after (nothing n) out = out
out_after (spent n) out = out
out_after (paused n) out = out

abbrev pub Told : Reply → List ℕ → List ℕ → Outcome → Type 0
Told v before after o = (v ≡ reply_to o) × (after ≡ out_after o before)
