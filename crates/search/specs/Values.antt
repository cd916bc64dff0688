-- What the values that the code hands about mean. `Query`, `Search` and `Stepped` are declared by the code.
--
--   counts_of p          in how many rules each named belt of the plan p is, as an array of max_named, the rest of it 0
--   numbers_of p         the numbers of the plan p: where its words stand (row_numbers), these counts, and how many modes there are
--   count_at, modes_at    what such an array has
--   Prepared b words numbers places clauses
--                       THE PREPARED PLAN: the plan b is accepted, and the four arrays are its own: its words, its numbers, the places of its named
--                       belts, and its clauses
--   picked_place ns o    the place of the belt picked, among the named belts ns; no place where none is
--   no_fixings           the masks of the subproblem that fixes nothing
--   max_waiting          how many subproblems can wait at once: each fixes as many named belts as there are older ones, or more
--   first_search         a Search at its beginning
--   waiting_in b xs n    the subproblems of the plan b that the first n masks of the array xs stand for, the last of them first: the newest
--                       stands last in the array
--   is_held k            a Search with the bound k holds a best route
--   best_in b t r        the best route of the plan b that a Search holds, if t says that it holds one; state_in b v: the state that it stands for
--   ending_in o          the ending that the code's enum stands for, none where the search goes on
--   turn_in b v          what a step handed back stands for
--   bound_of o           what a route may cost at most to improve on the best, o: as much as that, or any cost of a route where none is held
--   Deep p xs           of the waiting subproblems each fixes at least as many named belts as there are older ones
--   Valid b v           a Search of the plan b: its masks are over the named belts, each waiting subproblem fixes enough of them, the best
--                       is of belts of the plan and its bound is what that costs, and what is not in use is 0. So equal states are equal values
--                       (Claims.antt)
--   Ready b words numbers places clauses q
--                       the arrays are the prepared plan b, s and t of the query q are its junctions, and the lock is not wrong
--   IsReady b prepared q the same of the code's PreparedPlan, which is these arrays
--   step_in b q v        one step of the query q from the state that a Search stands for
--   newest_of v          the masks of the newest subproblem that waits
--   relaxed_in b q f     the relaxed route of the masks f for the trip q
--   walked_in b q v array
--                       the array after a step: if it opens a subproblem, with its relaxed route, if there is one within the bound (walked_by)
--   request_of b q out   the request of a call
--
-- Assumes nothing.
use Rattle.std.specs.Prelude.{◌≡◌, ℕ, zero, suc, ◌+◌, ◌-◌, ◌≤◌, Bool, true, false, not, ◌||◌, List, [], ◌∷◌, ◌++◌, map, length, get_or, replicate, eqb}
use Rattle.std.proofs.Math.Option.{Option, none, some}
use Rattle.plan.specs.Plan.{Place}
use Rattle.std.specs.Prelude as code
use Rattle.std.specs.Prelude.{Some, None}
use Rattle.plan.specs.Bounds.{max_named}
use Rattle.plan.specs.Plan.{Belt, Plan, plan_of, named, place_of}
use Rattle.plan.specs.Records.{records}
use Rattle.plan.specs.Words.{padded, words_in, row_numbers, row_numbers_end}
use Rattle.plan.specs.Reading.{Accepted, Bytes}
use Rattle.route.specs.declared.belts.Route.{Route}
use Rattle.route.specs.declared.path.Trip.{Trip}
use Rattle.route.specs.declared.relax.Fixings.{Fixings}
use Rattle.route.specs.Routes.{wrong_ends, cost}
use Rattle.route.specs.Permission.{wrong_lock}
use Rattle.route.specs.Subproblems.{Subproblem, relaxed}
use Rattle.route.specs.Values.{ids_of, packed, Known, route_in, OfNamed, subproblem_in, named_places, at_most, unbounded, walked_of, Clauses}
use Rattle.search.specs.declared.prepare.PreparedPlan.{PreparedPlan}
use Rattle.search.specs.declared.query.Query.{Query}
use Rattle.search.specs.declared.state.Search.{Search}
use Rattle.search.specs.declared.state.Stepped.{Stepped}
use Rattle.search.specs.Branching.{fixed_count, rule_count}
use Rattle.search.specs.declared.state.Ending as ended
use Rattle.search.specs.declared.state.Ending.TheVariants.{Found, Nothing, Spent}
use Rattle.search.specs.Search.{State, Ending, found_route, found_none, budget_spent, Turn, step}
use Rattle.search.specs.Answers.{Request, problem_in}

-- ---- picks

abbrev pub counts_of : Plan → List ℕ
counts_of p = padded max_named (map (rule_count p) (named p))

unfoldable pub numbers_of : Plan → List ℕ
numbers_of p = row_numbers p ++ (counts_of p ++ (p.modes ∷ []))

abbrev pub counts_from : ℕ
counts_from = row_numbers_end

abbrev pub modes_from : ℕ
modes_from = counts_from + max_named

abbrev pub count_at : List ℕ → ℕ → ℕ
count_at ns k = get_or ns (counts_from + k) 0

abbrev pub modes_at : List ℕ → ℕ
modes_at ns = get_or ns modes_from 0

pub record Prepared (b words numbers places clauses : List ℕ) : Type 0 where
  pub accepted : Accepted b
  pub bytes : Bytes b
  pub worded : words ≡ words_in (length words) (plan_of b)
  pub words_fit : max_named + records b ≤ length words
  pub numbered : numbers ≡ numbers_of (plan_of b)
  pub placed : places ≡ named_places b
  pub ruled : Clauses b clauses

abbrev pub picked_place : List ℕ → Option ℕ → Place
picked_place ns none = None
picked_place ns (some e) = place_of ns e

-- ---- searches

abbrev pub no_fixings : Fixings
no_fixings = record { required = 0; forbidden = 0 }

abbrev pub max_waiting : ℕ
max_waiting = max_named + 1

abbrev pub first_search : Search
first_search = record { waiting = replicate max_waiting no_fixings; count = 1; opened = 0; best = packed []; bound = unbounded }

abbrev pub waiting_in : List ℕ → List Fixings → ℕ → List Subproblem
waiting_in b xs zero = []
waiting_in b xs (suc n) = subproblem_in b (get_or xs n no_fixings) ∷ waiting_in b xs n

abbrev pub is_held : ℕ → Bool
is_held k = not (eqb k unbounded)

abbrev pub best_in : List ℕ → Bool → Route → Option (List Belt)
best_in b true r = some (route_in b r)
best_in b false r = none

abbrev pub state_in : List ℕ → Search → State
state_in b v = record { waiting = waiting_in b v.waiting v.count; opened = v.opened; best = best_in b (is_held v.bound) v.best }

abbrev pub ending_in : code.Option ended.Ending → Option Ending
ending_in None = none
ending_in (Some Found) = some found_route
ending_in (Some Nothing) = some found_none
ending_in (Some Spent) = some budget_spent

abbrev pub turn_in : List ℕ → Stepped → Turn
turn_in b v = record { state = state_in b v.search; ending = ending_in v.ending }

abbrev pub bound_of : Option (List Belt) → ℕ
bound_of none = unbounded
bound_of (some r) = cost r

abbrev pub Deep : Plan → List Subproblem → Type 0
Deep p [] = Unit {0}
Deep p (x ∷ older) = (length older ≤ fixed_count p x) × Deep p older

pub record Valid (b : List ℕ) (v : Search) : Type 0 where
  pub required : (i : ℕ) → OfNamed b (get_or v.waiting i no_fixings).required
  pub forbidden : (i : ℕ) → OfNamed b (get_or v.waiting i no_fixings).forbidden
  pub deep : Deep (plan_of b) (waiting_in b v.waiting v.count)
  pub spare : (i : ℕ) → v.count ≤ i → get_or v.waiting i no_fixings ≡ no_fixings
  pub known : Known b v.best
  pub rest_zero : v.best ≡ packed (ids_of v.best)
  pub unheld : is_held v.bound ≡ false → v.best ≡ packed []
  pub bound_is : v.bound ≡ bound_of (best_in b (is_held v.bound) v.best)

pub record Ready (b words numbers places clauses : List ℕ) (q : Query) : Type 0 where
  pub prepared : Prepared b words numbers places clauses
  pub junctions : wrong_ends (plan_of b) q.trip.s q.trip.t ≡ false
  pub lock : wrong_lock (plan_of b) q.trip.lock ≡ false

-- the same of the arrays where the code hands them about as one value
abbrev pub IsReady : List ℕ → PreparedPlan → Query → Type 0
IsReady b prepared q = Ready b prepared.words.now prepared.numbers.now prepared.places.now prepared.clauses.now q

abbrev pub newest_of : Search → Fixings
newest_of v = get_or v.waiting (v.count - 1) no_fixings

abbrev pub relaxed_in : List ℕ → Trip → Fixings → Option (List Belt)
relaxed_in b q f = relaxed (plan_of b) q.s q.t (subproblem_in b f)

-- by whether the step ends the search
abbrev pub walked_by : Bool → Option (List Belt) → List ℕ → List ℕ
walked_by true o array = array
walked_by false o array = walked_of o array

abbrev pub walked_in : List ℕ → Query → Search → List ℕ → List ℕ
walked_in b q v array = walked_by (eqb v.count 0 || eqb v.opened q.budget) (at_most v.bound (relaxed_in b q.trip (newest_of v))) array

abbrev pub step_in : List ℕ → Query → Search → Turn
step_in b q v = step (problem_in b q) q.budget (state_in b v)

-- ---- requests

abbrev pub request_of : List ℕ → Query → List ℕ → Request
request_of b q out = record { plan = b; query = q; room = length out }
