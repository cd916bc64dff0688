-- A step and a run, on what a Search stands for.
--
-- Step 3:
--   OnRoute b m r         the Route r is of belts of the plan b, and the mask m has its named ones
--   answered              a relaxed route, as the code holds it: it is of belts of the plan, the mask has its named ones, and what is not in use is 0
--   judged_same           the mask of a Route tells the rule test and the picks what the Route does
--   judged_settles        what is done with a subproblem that was taken is what steps 3 to 6 do
-- A whole step:
--   step_empty, step_spent, step_goes
--                         where nothing waits, where the budget is spent, and where it goes on
-- A run:
--   Running b q v         Invariant: running on from the Search v gives the result of the whole run
--   running_first         it holds at the beginning
--   Handed b q w o        the same of what a step handed back, w with the ending o: where the search goes on, of its Search; where it has ended,
--                         w is the result of the whole run
--   left q w o            the measure: how many steps are left, at most
--   handed, fewer         it holds after one more step, and the measure falls
--
-- Each goes by what was tested, clause by clause of the definition. Assumes nothing.
use mathlib.Core.Path.{◌≡◌, refl, sym, ◌∙◌, ap, subst}
use mathlib.Core.Bool.{Bool, true, false}
use mathlib.Core.Option.{Option, none, some, none-ne-some}
use Prim.Native.Nat.{ℕ, suc, ◌+◌, ◌-◌, ◌≤◌, ◌<◌}
use mathlib.Core.List.{List, Memᴰ}
use native.Mathlib.Omega.{arith}
use Rattle.std.specs.Prelude as code
use Rattle.std.specs.Prelude.{Some, None}
use lib.ListN.{length}
use lib.Dec.{eqb}
use borrow.Author.Tests.{eq-eqb, ne_eqb}
use Rattle.plan.specs.Plan.{Belt, plan_of, indices_of, named}
use Rattle.plan.specs.Reading.{Accepted, Bytes}
use Rattle.route.specs.declared.belts.Route.{Route}
use Rattle.route.specs.declared.relax.Fixings.{Fixings}
use Rattle.route.specs.Routes.{wrong_ends, cost}
use Rattle.route.specs.Permission.{passes, terms_of, lowest}
use Rattle.route.specs.Subproblems.{Subproblem, relaxed}
use Rattle.route.specs.Values.{ids_of, packed, Known, route_in, route_of, subproblem_in, mask_of, has_belt, unbounded}
use Rattle.route.proofs.RouteIndices.{known_cheap, ends_junctions}
use Rattle.route.proofs.RelaxAnswer.{answer_law}
use Rattle.route.proofs.RulesNamed.{mask_belt, lowest_mask}
use Rattle.search.specs.declared.query.Query.{Query}
use Rattle.search.specs.declared.state.Search.{Search}
use Rattle.search.specs.declared.state.Stepped.{Stepped}
use Rattle.search.specs.declared.state.Ending as ended
use Rattle.search.specs.declared.state.Ending.TheVariants.{Found, Nothing, Spent}
use Rattle.search.specs.Search.{State, Ending, found_route, found_none, budget_spent, Turn, improves, considered, at_end, budgeted, step_of, step, runs, run}
use Rattle.search.specs.Answers.{problem_in}
use Rattle.search.specs.Values.{picked_place, first_search, waiting_in, is_held, best_in, state_in, ending_in, turn_in, Valid, newest_of, relaxed_in, max_waiting}
use Rattle.search.specs.Inner.{ended_as, tested_as, held_as, price_of, better_in, judged_in, judged_by}
use Rattle.search.proofs.RunSteps.{run_goes, run_ends}
use Rattle.search.proofs.BranchPicks.{pick_cong}
use Rattle.search.proofs.SearchState.{Taken, Settles, compared_settles, popped, newest_waits, first_state, first_valid}

-- ---- the answer

-- the Route r is of belts of the plan b, and the mask m has its named ones
pub record OnRoute (b : List ℕ) (m : ℕ) (r : Route) : Type 0 where
  pub known : Known b r
  pub mask : m ≡ mask_of b (ids_of r)

pub answered : {b : List ℕ} → Accepted b → Bytes b → (s t : ℕ) → wrong_ends (plan_of b) s t ≡ false → (x : Subproblem) (r : List Belt)
    → relaxed (plan_of b) s t x ≡ some r
    → OnRoute b (mask_of b (indices_of r)) (route_of r) × (route_of r ≡ packed (ids_of (route_of r))) × (route_in b (route_of r) ≡ r)
answered {b} ok bytes s t ends x r e =
    let inside = ends_junctions (plan_of b) s t ends in
    let holds = answer_law b ok bytes s t inside.0 inside.3 x r e in
    (record { known = holds.known; mask = ap (mask_of b) (sym holds.indices) }, ap packed (sym holds.indices), holds.same)

-- ---- steps 3 to 6

module _ {b : List ℕ} (ok : Accepted b) (q : Query) (f : Fixings) where
  -- the mask of a Route tells the rule test and the picks what the Route does
  pub judged_same : (m : ℕ) (r : Route) → OnRoute b m r → judged_in b q f (has_belt b m) ≡ judged_in b q f (passes (route_in b r))
  judged_same m r there =
      let p = plan_of b in
      let named_same : (e : ℕ) → Memᴰ e (named p) → has_belt b m e ≡ passes (route_in b r) e =
      λ e i. ap (λ (k : ℕ). has_belt b k e) there.mask ∙ mask_belt ok r there.known e i in
      let setting = ap (λ (k : ℕ). lowest (terms_of p q.trip) (has_belt b k)) there.mask ∙ lowest_mask ok q.trip r there.known in
      let picked = pick_cong q.pick p (subproblem_in b f) (has_belt b m) (passes (route_in b r)) named_same in
      λ i. tested_as (picked_place (named p) (picked i)) (setting i)

module _ {b : List ℕ} (ok : Accepted b) (bytes : Bytes b) (v : Search) (size : length v.waiting ≡ max_waiting) (f : Fixings) (taken : Taken b v f) (q : Query)
    (ends : wrong_ends (plan_of b) q.trip.s q.trip.t ≡ false) where
  pub judged_settles : (o : Option (List Belt)) → relaxed_in b q.trip f ≡ o
      → Settles b v f q (held_as o) (price_of o) (considered (problem_in b q) (subproblem_in b f) (state_in b v) o)
      (judged_by (better_in b o (is_held v.bound) v.best) (judged_in b q f (passes (route_in b (held_as o)))))
  judged_settles none e = record { room = tt; state = refl; valid = taken.valid }
  judged_settles (some r) e =
      let (on, rest_zero, is) = answered ok bytes q.trip.s q.trip.t ends (subproblem_in b f) r e in
      let best = best_in b (is_held v.bound) v.best in
      let by : List Belt → Type 0 = λ l.
      Settles b v f q (route_of r) (cost r) (considered (problem_in b q) (subproblem_in b f) (state_in b v) (some l))
      (judged_by (improves l best) (judged_in b q f (passes (route_in b (route_of r))))) in
      let low : cost r < unbounded = subst (λ (l : List Belt). cost l < unbounded) is (known_cheap ok bytes (route_of r) on.known) in
      subst by is (compared_settles ok v size f taken q (route_of r) (cost r) on.known rest_zero (sym (ap cost is)) low (improves (route_in b (route_of r)) best))

-- ---- a step

module _ (b : List ℕ) (q : Query) (budget : ℕ) (v : Search) where
  -- what a step that ends hands back
  abbrev ends_with : code.Option ended.Ending → Turn
  ends_with e = record { state = state_in b v; ending = ending_in e }

  -- nothing waits: it goes by whether a best is held
  pub step_empty : v.count ≡ 0 → ends_with (Some (ended_as (is_held v.bound))) ≡ step (problem_in b q) budget (state_in b v)
  step_empty n =
      ap (λ (o : Option Ending). record { state = state_in b v; ending = o }) (held (is_held v.bound))
      ∙ sym (ap (step_of (problem_in b q) budget (state_in b v)) (ap (waiting_in b v.waiting) n))
    where
      held : (t : Bool) → ending_in (Some (ended_as t)) ≡ some (at_end (best_in b t v.best))
      held true = refl
      held false = refl

  -- the newest is taken
  module _ (waits : v.count ≡ 0 → ⊥) where
    abbrev taken : Subproblem
    taken = subproblem_in b (newest_of v)

    -- it goes by whether the budget is spent
    by_budget : (t : Bool) → eqb v.opened budget ≡ t
        → budgeted (problem_in b q) (state_in b v) taken (state_in b (popped v)).waiting t ≡ step (problem_in b q) budget (state_in b v)
    by_budget t e =
        sym (ap (step_of (problem_in b q) budget (state_in b v)) (newest_waits b v waits)
        ∙ ap (budgeted (problem_in b q) (state_in b v) taken (state_in b (popped v)).waiting) e)

    pub step_spent : v.opened ≡ budget → ends_with (Some Spent) ≡ step (problem_in b q) budget (state_in b v)
    step_spent e = by_budget true (eq-eqb v.opened budget e)

    -- what the taken one leads to, where n are opened
    abbrev opened_to : ℕ → State
    opened_to n =
        considered (problem_in b q) taken (record { waiting = (state_in b (popped v)).waiting; opened = n; best = (state_in b v).best })
        (relaxed (plan_of b) q.trip.s q.trip.t taken)

    pub step_goes : (v.opened ≡ budget → ⊥) → (w : Search)
        → state_in b w ≡ considered (problem_in b q) taken (state_in b (popped v)) (relaxed (plan_of b) q.trip.s q.trip.t taken)
        → turn_in b (record { search = w; ending = None }) ≡ step (problem_in b q) budget (state_in b v)
    step_goes d w e =
        let one : v.opened + 1 ≡ suc v.opened = omega arith in
        ap (λ (st : State). record { state = st; ending = none }) (e ∙ ap opened_to one)
        ∙ by_budget false (ne_eqb v.opened budget d)

-- ---- a run

pub record Running (b : List ℕ) (q : Query) (v : Search) : Type 0 where
  pub valid : Valid b v
  pub within : v.opened ≤ q.budget
  pub left : runs (problem_in b q) q.budget (suc (q.budget - v.opened)) (state_in b v) ≡ run (problem_in b q) q.budget

abbrev pub Handed : List ℕ → Query → Stepped → code.Option ended.Ending → Type 0
Handed b q w None = Running b q w.search
Handed b q w (Some e) = (turn_in b w ≡ run (problem_in b q) q.budget) × Valid b w.search

abbrev pub left : Query → Stepped → code.Option ended.Ending → ℕ
left q w None = suc (q.budget - w.search.opened)
left q w (Some e) = 0

module _ (b : List ℕ) (q : Query) where
  pub running_first : (v : Search) → v ≡ first_search → Running b q v
  running_first v e =
      let whole : q.budget - 0 ≡ q.budget = omega arith in
      subst (Running b q) (sym e) (record {
        valid = first_valid b;
        within = omega arith;
        left = λ k. runs (problem_in b q) q.budget (suc (whole k)) (first_state b k);
      })

  -- a step from v
  module _ {v : Search} (now : Running b q v) (w : Stepped) (h : turn_in b w ≡ step (problem_in b q) q.budget (state_in b v)) where
    running_goes : Valid b w.search → w.ending ≡ None → Running b q w.search × (q.budget - w.search.opened < q.budget - v.opened)
    running_goes valid e =
        let state : state_in b w.search ≡ (step (problem_in b q) q.budget (state_in b v)).state = ap (λ (t : Turn). t.state) h in
        let goes = run_goes (problem_in b q) q.budget (state_in b v) now.within (sym (ap (λ (t : Turn). t.ending) h) ∙ ap ending_in e) in
        let one : w.search.opened ≡ suc v.opened = ap (λ (st : State). st.opened) state ∙ goes.0 in
        let below : v.opened < q.budget = goes.1 in
        let left : runs (problem_in b q) q.budget (suc (q.budget - w.search.opened)) (state_in b w.search) ≡ run (problem_in b q) q.budget =
        ap (λ (st : State). runs (problem_in b q) q.budget (suc (q.budget - st.opened)) st) state ∙ sym goes.2 ∙ now.left in
        (record { valid = valid; within = omega (arith, one, below); left = left }, omega (arith, one, below))

    running_ends : (ending_in w.ending ≡ none → ⊥) → turn_in b w ≡ run (problem_in b q) q.budget
    running_ends d =
        h
        ∙ sym (run_ends (problem_in b q) q.budget (q.budget - v.opened) (state_in b v) (λ e. d (ap (λ (t : Turn). t.ending) h ∙ e)))
        ∙ now.left

    pub handed : Valid b w.search → Handed b q w w.ending
    handed valid = go w.ending refl
      where
        over : (e : Ending) → ending_in w.ending ≡ some e → turn_in b w ≡ run (problem_in b q) q.budget
        over e k = running_ends (λ l. none-ne-some e (sym l ∙ k))

        go : (o : code.Option ended.Ending) → w.ending ≡ o → Handed b q w o
        go None k = (running_goes valid k).0
        go (Some Found) k = (over found_route (ap ending_in k), valid)
        go (Some Nothing) k = (over found_none (ap ending_in k), valid)
        go (Some Spent) k = (over budget_spent (ap ending_in k), valid)

    pub fewer : Valid b w.search → left q w w.ending < suc (q.budget - v.opened)
    fewer valid = go w.ending refl
      where
        go : (o : code.Option ended.Ending) → w.ending ≡ o → left q w o < suc (q.budget - v.opened)
        go None k = omega (arith, (running_goes valid k).1)
        go (Some e) k = omega arith
