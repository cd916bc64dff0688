-- What only the contracts of private functions cite; nothing that a reader has to believe.
--
-- Picks, by the places of the named belts:
--   belts_in rule          the belts in a rule, as often as they are named
--   with_rule xs n m       the counts xs, one more for each of the first n places that the mask m has
--   unfixed_at f k         the masks f do not fix the belt at place k; unfixed_places f n: the first n places where that is so
--   at_place o             a place that was looked for, as the code has it
-- Steps:
--   ended_as t             how a search ends in which none waits, where t says whether a best is held
--   child_at f q t         the masks f with the place q required, too, or else forbidden
--   branch_at q            what becomes of a subproblem that is branched on the belt at the place q: where there is none, it is dropped
--   tested_as q o          the same where its relaxed route is tested first: o is the setting that works, if one does
--   held_as o              the Route that holds the relaxed route o; an empty one where there is none
--   price_of o             what it costs; 0 where there is none
--   better_in b o t r      there is a relaxed route o, and it improves on the best r, where t says whether one is held
--   judged_in b q f on     what becomes of the masks f, where there is a relaxed route that improves on the best, and the test `on` says which belts
--                         are on it; judged_by t j: it is dropped where t says that there is none
-- Answers:
--   Listed b numbers places clauses
--                         the plan b is accepted, and the arrays have its number of modes, the places of its named belts, and its clauses
--   IsListed b prepared   the same of the code's PreparedPlan
--   best_of b trip v       what a search for the trip that found its best route comes to
--
-- Assumes nothing.
use Rattle.std.specs.Prelude.{◌≡◌, ℕ, Bool, true, false, not, ◌&&◌, ◌||◌, List, [], ◌∷◌, map, get_or, ltb}
use Rattle.std.proofs.Math.Option.{Option, none, some}
use Rattle.plan.specs.Plan.{Place}
use Rattle.std.specs.Prelude.{Some, None}
use Rattle.plan.specs.declared.read.Literal.{Literal}
use Rattle.plan.specs.declared.read.Literal.TheVariants.{OfBelt, OfMode}
use Rattle.plan.specs.Bounds.{max_named}
use Rattle.plan.specs.Lists.{count_by, keep, upto}
use Rattle.plan.specs.Plan.{Belt, plan_of, named}
use Rattle.plan.specs.Reading.{Bytes}
use Rattle.route.specs.declared.belts.Route.{Route}
use Rattle.route.specs.declared.path.Trip.{Trip}
use Rattle.route.specs.declared.relax.Fixings.{Fixings}
use Rattle.route.specs.Routes.{cost}
use Rattle.route.specs.Permission.{terms_of, lowest}
use Rattle.route.specs.Values.{packed, route_in, route_of, in_mask, with_place, subproblem_in, named_places, Ruled}
use Rattle.search.specs.declared.prepare.PreparedPlan.{PreparedPlan}
use Rattle.search.specs.declared.query.Query.{Query}
use Rattle.search.specs.declared.state.Search.{Search}
use Rattle.search.specs.declared.state.Ending.{Ending}
use Rattle.search.specs.declared.state.Ending.TheVariants.{Found, Nothing}
use Rattle.search.specs.declared.state.Judged.{Judged}
use Rattle.search.specs.declared.state.Judged.TheVariants.{Drop, Best, Branch}
use Rattle.search.specs.Branching.{pick_of}
use Rattle.search.specs.Search.{improves}
use Rattle.search.specs.Answers.{Outcome, best_route}
use Rattle.search.specs.Values.{modes_at, picked_place, best_in}

-- ---- picks

abbrev pub belts_in : List Literal → List ℕ
belts_in [] = []
belts_in (OfBelt e wanted ∷ ls) = e.0 ∷ belts_in ls
belts_in (OfMode m wanted ∷ ls) = belts_in ls

abbrev pub with_rule : List ℕ → ℕ → ℕ → List ℕ
with_rule xs n m = map (λ (k : ℕ). count_by (ltb k n && in_mask m (Some k)) (get_or xs k 0)) (upto 0 max_named)

abbrev pub unfixed_at : Fixings → ℕ → Bool
unfixed_at f k = not (in_mask f.required (Some k) || in_mask f.forbidden (Some k))

abbrev pub unfixed_places : Fixings → ℕ → List ℕ
unfixed_places f n = keep (unfixed_at f) (upto 0 n)

abbrev pub at_place : Option ℕ → Place
at_place none = None
at_place (some k) = Some k

-- ---- steps

abbrev pub ended_as : Bool → Ending
ended_as true = Found
ended_as false = Nothing

abbrev pub child_at : Fixings → Place → Bool → Fixings
child_at f q true = record { required = with_place f.required q; forbidden = f.forbidden }
child_at f q false = record { required = f.required; forbidden = with_place f.forbidden q }

abbrev pub branch_at : Place → Judged
branch_at (Some k) = Branch k
branch_at None = Drop

abbrev pub tested_as : Place → Option ℕ → Judged
tested_as q (some σ) = Best
tested_as q none = branch_at q

abbrev pub held_as : Option (List Belt) → Route
held_as none = packed []
held_as (some r) = route_of r

abbrev pub price_of : Option (List Belt) → ℕ
price_of none = 0
price_of (some r) = cost r

abbrev pub better_in : List ℕ → Option (List Belt) → Bool → Route → Bool
better_in b none t best = false
better_in b (some r) t best = improves r (best_in b t best)

abbrev pub judged_in : List ℕ → Query → Fixings → (ℕ → Bool) → Judged
judged_in b q f on =
    tested_as
    (picked_place (named (plan_of b)) (pick_of q.pick (plan_of b) (subproblem_in b f) on))
    (lowest (terms_of (plan_of b) q.trip) on)

abbrev pub judged_by : Bool → Judged → Judged
judged_by true j = j
judged_by false j = Drop

-- ---- answers

pub record Listed (b numbers places clauses : List ℕ) : Type 0 where
  pub ruled : Ruled b clauses
  pub modes : modes_at numbers ≡ (plan_of b).modes
  pub placed : places ≡ named_places b
  pub bytes : Bytes b

abbrev pub IsListed : List ℕ → PreparedPlan → Type 0
IsListed b prepared = Listed b prepared.numbers.now prepared.places.now prepared.clauses.now

abbrev pub best_of : List ℕ → Trip → Search → Outcome
best_of b trip v = best_route (terms_of (plan_of b) trip) v.opened (some (route_in b v.best))
