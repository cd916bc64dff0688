-- What is claimed of the search, as types; proofs/Claims.antt proves them all. The contract of `entry::search` says that its answer and
-- every byte of the out buffer are what `outcome` gives; these say what that means. All are about ALL lists of bytes and ALL numbers.
--
-- The demands:
--   RefusedClaim        DEMAND 1: the answer is refusal n exactly when n is the number of the first broken line
--   InLimitsClaim       DEMAND 1: the published limits (InLimits, in positive words) hold exactly when nothing is refused. A budget is a number of
--                       the interface, 64 bits wide, so its upper bound is no test
--   EndsClaim           DEMAND 1: then the request comes to a route, to none or to spent (Answered), by a run that has ended
--   UnchangedClaim      DEMAND 1: on a refusal, and on none and spent too, every byte of the out buffer is as it was
--   AcceptedClaim       DEMAND 2, last clause: what a search writes is a sheet that the check accepts and that reads as the route, and behind it
--                       no byte differs
--   RightClaim          DEMAND 3: a request that is not refused comes to what is Right:
--     Cheapest p trip es c σ
--                       the belts es are a permitted route of the trip, cost c, have the lowest setting σ, and come before every other
--                       permitted route
--     WaitsAt q n       the written search without a budget has a state number n, and a subproblem waits in it
--     IsSpent o, opened_of o, with_budget k n
--                       an outcome is spent; its count; the request with another budget
--     Right             (1) to (6), each in its own field
--   SolvesClaim         DEMAND 3 in the words of source document 000 (Solved): a route found solves the problem, that is, its path is feasible and
--                       of minimal cost; and none only if no path is feasible
-- Laws that later changes rest on:
--   Permits q r         r is a permitted route of the problem q
--   Explores q          what is asked of a problem: the belts of its plan are those of accepted bytes (its rules may be others), each belt in a
--                       rule to be met is a named one, and the picking rule picks an unfixed named belt while there is one
--   RunRight q budget   (1) to (6) for such a problem: said of the run, and proved for any choice and any picking rule
--   AnyChoiceClaim      every such problem's run is right, whatever the budget
--   CoverageClaim       in every state of the sequence every permitted route is the best, comes after it, or is admitted by a waiting
--                       subproblem (Covers); for any choice of the next subproblem and any picking rule
--   BoundClaim          such a sequence has no state number 2^(k+1) - 1 or higher in which one waits
--   DepthClaim          where the newest is taken next, at most k + 1 wait, and the i-th oldest fixes at least i - 1 belts
--   FixesClaim          every waiting subproblem of every state fixes named belts only, and none twice (FixesNamed, NoneTwice)
--   BestClaim           the best of every state is a permitted route
--   WithinClaim         after any number of steps a run stands in a state of the sequence, and has opened no more than the budget
--   SoundClaim          so after any number of steps of a search that is asked for, at most max_waiting wait, the i-th oldest fixes at least i - 1 belts,
--                       each fixes named belts only and none twice, the best is a permitted route, and the budget is not exceeded (Sound)
--   ValidClaim          a Search holds nothing beside its state
--
-- Assumes nothing.
use Rattle.std.specs.Prelude.{◌≡◌, true, ◌⊎◌, ◌↔◌, ℕ, ◌+◌, ◌-◌, ◌^◌, ◌≤◌, ◌<◌, length, get_or, take, drop}
use Rattle.std.proofs.Math.Option.{none, some}
use mathlib.Core.List.{List, [], ◌∷◌, ◌++◌, map, Memᴰ}
use Rattle.plan.specs.Bounds.{max_sheet_bytes}
use Rattle.plan.specs.Lists.{any}
use Rattle.plan.specs.Plan.{Belt, Plan, plan_of, indices_of, in_rule, named}
use Rattle.plan.specs.Limits.{Limits}
use Rattle.plan.specs.Claims.{Unbroken, FirstIn}
use Rattle.plan.specs.Reading.{Accepted, Bytes}
use Rattle.route.specs.Routes.{IsRoute, cost, before}
use Rattle.route.specs.declared.path.Trip.{Trip}
use Rattle.route.specs.Lcsp.{Arc, weight_of, Feasible, Solves}
use Rattle.route.specs.Instances.{instance_of}
use Rattle.route.specs.Permission.{passes, is_on, terms_of, Permitted, IsPermitted, lowest}
use Rattle.route.specs.Subproblems.{Subproblem, admits}
use Rattle.route.specs.Sheets.{sheet_of, Reads}
use Rattle.route.specs.Refusals.{sheet_refusal}
use Rattle.route.specs.Values.{case_of}
use Rattle.search.specs.declared.state.Search.{Search}
use Rattle.search.specs.Branching.{unfixed, fixed_count}
use Rattle.search.specs.Search.{Problem, State, free, begun, state_at, found_route, found_none, budget_spent, runs, run}
use Rattle.search.specs.Answers.{Asked, Request, query_lines, search_lines, search_refusal, Outcome, refused, route, nothing, spent, paused, outcome, problem_in, out_after}
use Rattle.search.specs.Values.{max_waiting, state_in, Valid}

-- ---- demand 1

abbrev pub RefusedClaim : Type 0
RefusedClaim = (k : Request) (n : ℕ) → (outcome k ≡ refused n) ↔ FirstIn search_lines k n

pub record InLimits (k : Request) : Type 0 where
  pub plan : Limits k.plan
  pub s_from : 1 ≤ k.query.trip.s
  pub s_to : k.query.trip.s ≤ (plan_of k.plan).junctions
  pub t_from : 1 ≤ k.query.trip.t
  pub t_to : k.query.trip.t ≤ (plan_of k.plan).junctions
  -- every bit of the mask is that of a mode, and every bit of the values is one of the mask's; bit n-1 is that of mode n
  pub mask : (n : ℕ) → 1 ≤ n → is_on k.query.trip.lock.mask n ≡ true → n ≤ (plan_of k.plan).modes
  pub values : (n : ℕ) → 1 ≤ n → is_on k.query.trip.lock.values n ≡ true → is_on k.query.trip.lock.mask n ≡ true
  pub pick : k.query.pick ≤ 2
  pub order : k.query.order ≤ 1
  pub budget : 1 ≤ k.query.budget
  pub room : max_sheet_bytes ≤ k.room

abbrev pub InLimitsClaim : Type 0
InLimitsClaim = (k : Request) → InLimits k ↔ (search_refusal k ≡ 0)

-- a route, none, or spent
abbrev pub Answered : Outcome → Type 0
Answered o = ((es : List ℕ) × (c : ℕ) × (σ : ℕ) × (n : ℕ) × (o ≡ route es c σ n)) ⊎ (((n : ℕ) × (o ≡ nothing n)) ⊎ ((n : ℕ) × (o ≡ spent n)))

abbrev pub EndsClaim : Type 0
EndsClaim = (k : Request) → search_refusal k ≡ 0
    → Answered (outcome k) × ((run (problem_in k.plan k.query) k.query.budget).ending ≡ none → ⊥)

abbrev pub UnchangedClaim : Type 0
UnchangedClaim = (k : Request) (out : List ℕ) → ((es : List ℕ) (c σ n : ℕ) → outcome k ≡ route es c σ n → ⊥) → out_after (outcome k) out ≡ out

-- ---- demand 2, last clause

abbrev pub AcceptedClaim : Type 0
AcceptedClaim = (k : Request) → Bytes k.plan → (out : List ℕ) → length out ≡ k.room → (es : List ℕ) (c σ n : ℕ) → outcome k ≡ route es c σ n
    → (length (sheet_of es c σ) ≤ length out)
    × (take (length (sheet_of es c σ)) (out_after (outcome k) out) ≡ sheet_of es c σ)
    × (drop (length (sheet_of es c σ)) (out_after (outcome k) out) ≡ drop (length (sheet_of es c σ)) out)
    × (sheet_refusal (case_of k.plan k.query.trip (take (length (sheet_of es c σ)) (out_after (outcome k) out))) ≡ 0)
    × Reads (sheet_of es c σ) es c σ

-- ---- demand 3

pub record Cheapest (p : Plan) (trip : Trip) (es : List ℕ) (c σ : ℕ) : Type 0 where
  pub belts : List Belt
  pub indices : indices_of belts ≡ es
  pub permitted : IsPermitted p trip belts
  pub costs : cost belts ≡ c
  pub setting : lowest (terms_of p trip) (passes belts) ≡ some σ
  pub first : (r : List Belt) → IsPermitted p trip r → (r ≡ belts → ⊥) → before belts r ≡ true

abbrev pub WaitsAt : Problem → ℕ → Type 0
WaitsAt q n = (st : State) × (state_at q n ≡ some st) × (st.waiting ≡ [] → ⊥)

abbrev pub opened_of : Outcome → ℕ
opened_of (refused n) = 0
opened_of (route es c σ n) = n
opened_of (nothing n) = n
opened_of (spent n) = n
opened_of (paused n) = n

abbrev pub with_budget : Request → ℕ → Request
with_budget k budget = record {
  plan = k.plan;
  query = record { trip = k.query.trip; pick = k.query.pick; order = k.query.order; budget = budget };
  room = k.room;
}

abbrev pub IsSpent : Outcome → Type 0
IsSpent o = (n : ℕ) × (o ≡ spent n)

pub record Right (k : Request) : Type 0 where
  -- (1) a route found is permitted, its cost and its lowest setting are right, and it comes before every other permitted route
  pub found : (es : List ℕ) (c σ n : ℕ) → outcome k ≡ route es c σ n
      → Cheapest (plan_of k.plan) k.query.trip es c σ
  -- (2) none only if no route is permitted
  pub none_permitted : (n : ℕ) → outcome k ≡ nothing n
      → (r : List Belt) → IsPermitted (plan_of k.plan) k.query.trip r → ⊥
  -- (3) spent exactly when the written search has opened as many subproblems as the budget and at least one waits
  pub spent_when : IsSpent (outcome k) ↔ WaitsAt (problem_in k.plan k.query) k.query.budget
  -- (4) never with a budget of 2^(k+1) - 1 or more
  pub never_spent : 2 ^ (length (named (plan_of k.plan)) + 1) - 1 ≤ k.query.budget → IsSpent (outcome k) → ⊥
  -- (5) the count is the number that the written search opened: its state of that number has that count, and is the first in which nothing
  -- waits, or, if spent, that of the budget
  pub counted : (st : State) × (state_at (problem_in k.plan k.query) (opened_of (outcome k)) ≡ some st)
      × (st.opened ≡ opened_of (outcome k)) × ((IsSpent (outcome k) → ⊥) → st.waiting ≡ []) × (IsSpent (outcome k) → opened_of (outcome k) ≡ k.query.budget)
  -- (6) a larger budget ends likewise with the same route, setting and count, or none and count
  pub larger : (IsSpent (outcome k) → ⊥) → (budget : ℕ) → k.query.budget ≤ budget → outcome (with_budget k budget) ≡ outcome k

abbrev pub RightClaim : Type 0
RightClaim = (k : Request) → search_refusal k ≡ 0 → Right k

pub record Solved (k : Request) : Type 0 where
  pub found : (es : List ℕ) (c σ n : ℕ) → outcome k ≡ route es c σ n
      → (p : List Arc) × (map (λ (a : Arc). a.number) p ≡ es) × (weight_of p ≡ c) × Solves (instance_of (plan_of k.plan) k.query.trip) p
  pub infeasible : (n : ℕ) → outcome k ≡ nothing n → (p : List Arc) → Feasible (instance_of (plan_of k.plan) k.query.trip) p → ⊥

abbrev pub SolvesClaim : Type 0
SolvesClaim = (k : Request) → search_refusal k ≡ 0 → Solved k

-- ---- laws for later changes

abbrev pub Permits : Problem → List Belt → Type 0
Permits q r = IsRoute q.plan q.s q.t r × Permitted q.terms r

pub record Explores (q : Problem) : Type 0 where
  pub bytes : List ℕ
  pub accepted : Accepted bytes
  pub belts_are : q.plan.belts ≡ (plan_of bytes).belts
  -- each belt in a rule to be met is a named belt
  pub rules_named : (e : ℕ) → any (in_rule e) q.terms.rules ≡ true → Memᴰ e (named q.plan)
  -- what is picked is an unfixed named belt
  pub picks : (x : Subproblem) (r : List Belt) (e : ℕ) → q.pick x r ≡ some e → Memᴰ e (unfixed q.plan x)
  -- and one is picked while there is one
  pub picks_one : (x : Subproblem) (r : List Belt) → q.pick x r ≡ none → unfixed q.plan x ≡ []

pub record RunRight (q : Problem) (budget : ℕ) : Type 0 where
  pub ends : (run q budget).ending ≡ none → ⊥
  pub found : (run q budget).ending ≡ some found_route → (r : List Belt) × ((run q budget).state.best ≡ some r) × Permits q r
      × ((x : List Belt) → Permits q x → (x ≡ r → ⊥) → before r x ≡ true)
  pub none_permitted : (run q budget).ending ≡ some found_none → (r : List Belt) → Permits q r → ⊥
  pub spent_when : ((run q budget).ending ≡ some budget_spent) ↔ WaitsAt q budget
  pub never_spent : 2 ^ (length (named q.plan) + 1) - 1 ≤ budget → (run q budget).ending ≡ some budget_spent → ⊥
  pub counted : state_at q (run q budget).state.opened ≡ some (run q budget).state
  pub complete : ((run q budget).ending ≡ some budget_spent → ⊥) → (run q budget).state.waiting ≡ []
  pub spent_at : (run q budget).ending ≡ some budget_spent → (run q budget).state.opened ≡ budget
  pub larger : ((run q budget).ending ≡ some budget_spent → ⊥) → (more : ℕ) → budget ≤ more → run q more ≡ run q budget

abbrev pub AnyChoiceClaim : Type 0
AnyChoiceClaim = (q : Problem) → Explores q → (budget : ℕ) → RunRight q budget

abbrev pub Covers : State → List Belt → Type 0
Covers st r = (st.best ≡ some r) ⊎ (((b : List Belt) × (st.best ≡ some b) × (before b r ≡ true)) ⊎ ((x : Subproblem) × Memᴰ x st.waiting × (admits x r ≡ true)))

abbrev pub CoverageClaim : Type 0
CoverageClaim = (q : Problem) → Explores q → (n : ℕ) (st : State) → state_at q n ≡ some st
    → (r : List Belt) → Permits q r → Covers st r

abbrev pub BoundClaim : Type 0
BoundClaim = (q : Problem) → Explores q → (n : ℕ) → WaitsAt q n → n < 2 ^ (length (named q.plan) + 1) - 1

abbrev pub DepthClaim : Type 0
DepthClaim = (q : Problem) → Explores q → ((st : State) → q.choose st ≡ 0) → (n : ℕ) (st : State) → state_at q n ≡ some st
    → (length st.waiting ≤ length (named q.plan) + 1)
    × ((i j : ℕ) → 1 ≤ i → i + j ≡ length st.waiting → i - 1 ≤ fixed_count q.plan (get_or st.waiting j free))

-- no number stands in the list twice
abbrev pub NoneTwice : List ℕ → Type 0
NoneTwice [] = Unit {0}
NoneTwice (e ∷ es) = (Memᴰ e es → ⊥) × NoneTwice es

pub record FixesNamed (p : Plan) (x : Subproblem) : Type 0 where
  pub named_only : (e : ℕ) → Memᴰ e (x.required ++ x.forbidden) → Memᴰ e (named p)
  pub none_twice : NoneTwice (x.required ++ x.forbidden)

abbrev pub FixesClaim : Type 0
FixesClaim = (q : Problem) → Explores q → (n : ℕ) (st : State) → state_at q n ≡ some st
    → (x : Subproblem) → Memᴰ x st.waiting → FixesNamed q.plan x

abbrev pub BestClaim : Type 0
BestClaim = (q : Problem) → Explores q → (n : ℕ) (st : State) → state_at q n ≡ some st → (r : List Belt) → st.best ≡ some r → Permits q r

abbrev pub WithinClaim : Type 0
WithinClaim = (q : Problem) (budget n : ℕ)
    → ((runs q budget n begun).state.opened ≤ budget) × (state_at q (runs q budget n begun).state.opened ≡ some (runs q budget n begun).state)

-- what holds between any two steps of a search that is asked for
pub record Sound (k : Asked) (st : State) : Type 0 where
  pub few : length st.waiting ≤ max_waiting
  pub deep : (i j : ℕ) → 1 ≤ i → i + j ≡ length st.waiting → i - 1 ≤ fixed_count (plan_of k.plan) (get_or st.waiting j free)
  pub fixes : (x : Subproblem) → Memᴰ x st.waiting → FixesNamed (plan_of k.plan) x
  pub permitted : (r : List Belt) → st.best ≡ some r → IsPermitted (plan_of k.plan) k.query.trip r
  pub within : st.opened ≤ k.query.budget

abbrev pub SoundClaim : Type 0
SoundClaim = (k : Asked) → Unbroken query_lines k → (n : ℕ) → Sound k (runs (problem_in k.plan k.query) k.query.budget n begun).state

abbrev pub ValidClaim : Type 0
ValidClaim = (b : List ℕ) → Accepted b → (v w : Search) → length v.waiting ≡ max_waiting → length w.waiting ≡ max_waiting
    → Valid b v → Valid b w → state_in b v ≡ state_in b w → v ≡ w

-- all of them
pub record Claims : Type 0 where
  pub refused : RefusedClaim
  pub limits : InLimitsClaim
  pub ends : EndsClaim
  pub unchanged : UnchangedClaim
  pub accepted : AcceptedClaim
  pub right : RightClaim
  pub solves : SolvesClaim
  pub any_choice : AnyChoiceClaim
  pub coverage : CoverageClaim
  pub bound : BoundClaim
  pub depth : DepthClaim
  pub fixes : FixesClaim
  pub best : BestClaim
  pub within : WithinClaim
  pub sound : SoundClaim
  pub valid : ValidClaim
