-- The written search (paper 01, "The search"): its states, its steps, the sequence of its states without a budget, and its run with one.
--
--   State               the subproblems that wait, newest first (the paper's pile), how many have been opened, and the best route so far
--   Problem             what a search goes by: the plan, the terms under which a route is permitted, s and t, the order of children, the belt
--                       that is picked, and which of the waiting subproblems is taken next. That of a query is `problem_of`; the laws are
--                       about any picking rule that picks an unfixed named belt, and any choice of the next subproblem. A query takes the
--                       newest
--   begun               the first state: the subproblem that fixes nothing (free) waits, nothing is opened
--   improves r o        route r comes before the best, o, or none is held
--   branched, tested, compared, considered q x st ..
--                       steps 6 and 5, 4, 3 and 3, on the subproblem x that was taken, where st is the state with x taken off and counted: to
--                       drop x is to go on with st. Each takes what it tests as its last argument
--   setting_of terms r   the lowest setting under which route r is permitted, if it is
--   taken_off st xs      the state st with one subproblem taken off and counted; the others, xs, wait
--   take_at n x xs       the n-th of the subproblems x ∷ xs, counted from 0, or the last, and the others
--   open_next q st x xs  the state after one of the subproblems x ∷ xs that wait in st was opened: steps 3 to 6
--   next q st           the same, and none where nothing waits
--   state_at q n         THE SEQUENCE WITHOUT A BUDGET: its state number n, after n openings, if it goes on as long
--   Ending              how a search ends: a route is found, no route is, or the budget is spent
--   Turn                what a step hands back: the state, changed, and the ending, none where the search goes on
--   step q budget st    ONE STEP: 1, nothing waits (at_end: the best route, or none); 2, the budget is spent; else 3 to 6
--   runs q budget n st  at most n steps from st, until one ends
--   run q budget        THE RUN TO ITS ENDING: each step opens one or ends, so budget + 1 steps are enough (Claims.antt: it has an ending)
--
-- Assumes nothing.
use Rattle.std.specs.Prelude.{ℕ, zero, suc, Bool, true, false, List, [], ◌∷◌, ◌++◌, eqb}
use Rattle.std.proofs.Math.Option.{Option, none, some}
use Rattle.plan.specs.Plan.{Belt, Plan}
use Rattle.route.specs.Routes.{before}
use Rattle.route.specs.declared.path.Trip.{Trip}
use Rattle.route.specs.Permission.{passes, Terms, terms_of, lowest}
use Rattle.route.specs.Subproblems.{Subproblem, relaxed}
use Rattle.search.specs.Branching.{children, pick_of}

pub record State : Type 0 where
  pub waiting : List Subproblem
  pub opened : ℕ
  pub best : Option (List Belt)

pub record Problem : Type 0 where
  pub plan : Plan
  pub terms : Terms
  pub s : ℕ
  pub t : ℕ
  pub order : ℕ
  -- the belt picked, of a subproblem and its relaxed route; none where no named belt is unfixed
  pub pick : Subproblem → List Belt → Option ℕ
  -- the place of the subproblem that is taken next, counted from the newest
  pub choose : State → ℕ

abbrev pub free : Subproblem
free = record { required = []; forbidden = [] }

abbrev pub begun : State
begun = record { waiting = free ∷ []; opened = 0; best = none }

-- ---- steps 3 to 6

-- 5: no named belt unfixed: drop. 6: both children wait
abbrev pub branched : Problem → Subproblem → State → Option ℕ → State
branched q x st none = st
branched q x st (some e) = record { waiting = children q.order q.plan x e ++ st.waiting; opened = st.opened; best = st.best }

-- 4: the relaxed route is permitted, that is, some setting works
abbrev pub tested : Problem → Subproblem → State → List Belt → Option ℕ → State
tested q x st r (some σ) = record { waiting = st.waiting; opened = st.opened; best = some r }
tested q x st r none = branched q x st (q.pick x r)

abbrev pub setting_of : Terms → List Belt → Option ℕ
setting_of terms r = lowest terms (passes r)

-- 3: a best is held and the relaxed route does not come before it: drop
abbrev pub compared : Problem → Subproblem → State → List Belt → Bool → State
compared q x st r false = st
compared q x st r true = tested q x st r (setting_of q.terms r)

abbrev pub improves : List Belt → Option (List Belt) → Bool
improves r none = true
improves r (some best) = before r best

-- 3: no relaxed route: drop
abbrev pub considered : Problem → Subproblem → State → Option (List Belt) → State
considered q x st none = st
considered q x st (some r) = compared q x st r (improves r st.best)

-- one is taken off, the others wait, and the count is one higher
abbrev pub taken_off : State → List Subproblem → State
taken_off st others = record { waiting = others; opened = suc st.opened; best = st.best }

-- ---- the subproblem that is taken

abbrev pub under : Subproblem → Subproblem × List Subproblem → Subproblem × List Subproblem
under x taken = (taken.0, x ∷ taken.1)

abbrev pub take_at : ℕ → Subproblem → List Subproblem → Subproblem × List Subproblem
take_at zero x xs = (x, xs)
take_at (suc n) x [] = (x, [])
take_at (suc n) x (y ∷ ys) = under x (take_at n y ys)

abbrev pub open_taken : Problem → State → Subproblem × List Subproblem → State
open_taken q st taken = considered q taken.0 (taken_off st taken.1) (relaxed q.plan q.s q.t taken.0)

abbrev pub open_next : Problem → State → Subproblem → List Subproblem → State
open_next q st x xs = open_taken q st (take_at (q.choose st) x xs)

-- ---- without a budget

abbrev pub next_among : Problem → State → List Subproblem → Option State
next_among q st [] = none
next_among q st (x ∷ xs) = some (open_next q st x xs)

abbrev pub next : Problem → Option State → Option State
next q none = none
next q (some st) = next_among q st st.waiting

abbrev pub state_at : Problem → ℕ → Option State
state_at q zero = some begun
state_at q (suc n) = next q (state_at q n)

-- ---- with a budget

pub data Ending : Type 0 where
  found_route : Ending
  found_none : Ending
  budget_spent : Ending

pub record Turn : Type 0 where
  pub state : State
  pub ending : Option Ending

-- 1: end, with the best route if one is held, else none
abbrev pub at_end : Option (List Belt) → Ending
at_end none = found_none
at_end (some r) = found_route

-- 2: end, spent
abbrev pub budgeted : Problem → State → Subproblem → List Subproblem → Bool → Turn
budgeted q st x xs true = record { state = st; ending = some budget_spent }
budgeted q st x xs false = record { state = open_next q st x xs; ending = none }

abbrev pub step_of : Problem → ℕ → State → List Subproblem → Turn
step_of q budget st [] = record { state = st; ending = some (at_end st.best) }
step_of q budget st (x ∷ xs) = budgeted q st x xs (eqb st.opened budget)

abbrev pub step : Problem → ℕ → State → Turn
step q budget st = step_of q budget st st.waiting

abbrev pub onward : (State → Turn) → State → Option Ending → Turn
onward f st none = f st
onward f st (some e) = record { state = st; ending = some e }

abbrev pub runs : Problem → ℕ → ℕ → State → Turn
runs q budget zero st = record { state = st; ending = none }
runs q budget (suc n) st = onward (λ (at : State). runs q budget n at) (step q budget st).state (step q budget st).ending

abbrev pub run : Problem → ℕ → Turn
run q budget = runs q budget (suc budget) begun

-- ---- the search of a query

abbrev pub newest : State → ℕ
newest st = 0

abbrev pub problem_of : Plan → Trip → ℕ → ℕ → Problem
problem_of p trip pick order = record {
  plan = p;
  terms = terms_of p trip;
  s = trip.s;
  t = trip.t;
  order = order;
  pick = λ (x : Subproblem) (r : List Belt). pick_of pick p x (passes r);
  choose = newest;
}
