-- What a request that is not refused comes to, from what its run is. Such a request's plan is accepted, so its problem is explored and its
-- run is right (AnyChoiceClaim); what the outcome says, and what the run says, are then matched ending by ending.
--
--   ended_spent, spent_ended
--                     the outcome is spent exactly where the run's ending is
--   ended_opened      its count is that of the run
--   ended_route       a route is the best of a run that has found one
--   ended_nothing     none is what a run that has ended so comes to
--   permitted_lowest  a permitted route has a lowest setting
--   run_right, comes_to_lem
--                     the run of a request that is not refused is right, and is what the request comes to
--   cheapest          so a route is the cheapest
--   budgeted          a larger budget is not refused either
--   right_claim       RightClaim
--   solves_claim      SolvesClaim: a permitted route is a feasible path, and the first one costs no more than any other
--   ends_claim        EndsClaim
--   accepted_claim    AcceptedClaim: the sheet is that of a permitted route with its lowest setting, and fits the buffer
--
-- Assumes nothing.
use mathlib.Core.Path.{◌≡◌, refl, sym, ◌∙◌, ap, subst}
use mathlib.Core.Logic.{◌⊎◌, inl, inr}
use mathlib.Core.Bool.{true, false}
use mathlib.Core.Option.{Option, none, some}
use Prim.Native.Nat.{ℕ, ◌≤◌, ◌<◌}
use mathlib.Core.List.{List, ◌++◌, map}
use native.Mathlib.Omega.{arith}
use lib.ListN.{length, take, drop, length-map}
use lib.Seq.{take-append_seam, drop-append_seam}
use lib.Dec.{ltb}
use borrow.Author.Tests.{ltb-true, ltb-false}
use Rattle.plan.specs.Bounds.{max_sheet_bytes}
use Rattle.plan.proofs.Lists.{test, never}
use Rattle.plan.specs.Plan.{Belt, plan_of, indices_of}
use Rattle.plan.specs.Reading.{Accepted, Bytes}
use Rattle.route.specs.Routes.{cost, lower}
use Rattle.route.specs.Lcsp.{Arc, Instance, weight_of, Feasible, Solves}
use Rattle.route.specs.Instances.{arc_of, instance_of}
use Rattle.route.specs.Permission.{Terms, terms_of, Permitted, IsPermitted}
use Rattle.route.specs.Sheets.{sheet_of, Reads}
use Rattle.route.specs.Refusals.{sheet_refusal}
use Rattle.route.specs.Values.{case_of}
use Rattle.route.proofs.RouteIndices.{route_few}
use Rattle.route.proofs.RulesLowest.{lowest_claim}
use Rattle.route.proofs.SheetReading.{length_sheet}
use Rattle.route.proofs.LcspInstance.{cost_weight}
use Rattle.route.proofs.LcspFeasible.{permitted_claim, paths_claim}
use Rattle.route.proofs.RouteOrder.{first_gt}
use Rattle.route.proofs.SheetSolutions.{numbers_indices, reads_written, written_claim}
use Rattle.search.specs.Search.{Problem, Ending, found_route, found_none, budget_spent, Turn, setting_of, state_at}
use Rattle.search.specs.Answers.{Request, trip_in, asked, search_refusal, Outcome, route, nothing, spent, or_zero, ending_of, ended_by, ended, problem_in, outcome, out_after}
use Rattle.search.specs.Claims.{InLimits, Answered, EndsClaim, AcceptedClaim, Cheapest, opened_of, with_budget, IsSpent, Right, RightClaim, RunRight, SolvesClaim}
use Rattle.search.proofs.BranchChildren.{explores}
use Rattle.search.proofs.RunCoverage.{any_choice_claim}
use Rattle.search.proofs.AnswerRefusal.{query_trip, query_accepted, zero_query, limits_claim, apart, run_of, outcome_ended, ended_answered, route_unrefused}

-- ---- what a run comes to, ending by ending

module _ (terms : Terms) (v : Turn) where
  ended_spent : v.ending ≡ some budget_spent → IsSpent (ended terms v)
  ended_spent e = (v.state.opened, ap (ended_by terms v.state) e)

  spent_ended : IsSpent (ended terms v) → v.ending ≡ some budget_spent
  spent_ended h = go v.state.best v.ending h.1
    where
      ending : (best : Option (List Belt)) (e : Ending) → ending_of terms v.state.opened best e ≡ spent h.0 → some e ≡ some budget_spent
      ending best budget_spent q = refl
      ending best found_none q = absurd (apart cc)
      ending none found_route q = absurd (apart cc)
      ending (some r) found_route q = absurd (apart cc)

      go : (best : Option (List Belt)) (o : Option Ending) → ended_by terms v.state o ≡ spent h.0 → o ≡ some budget_spent
      go best none q = absurd (apart cc)
      go best (some e) q = ending v.state.best e q

  ended_opened : opened_of (ended terms v) ≡ v.state.opened
  ended_opened = go v.ending
    where
      ending : (best : Option (List Belt)) (e : Ending) → opened_of (ending_of terms v.state.opened best e) ≡ v.state.opened
      ending best budget_spent = refl
      ending best found_none = refl
      ending none found_route = refl
      ending (some r) found_route = refl

      go : (o : Option Ending) → opened_of (ended_by terms v.state o) ≡ v.state.opened
      go none = refl
      go (some e) = ending v.state.best e

  ended_route : (es : List ℕ) (c σ n : ℕ) → ended terms v ≡ route es c σ n
      → (v.ending ≡ some found_route) × ((r : List Belt) → v.state.best ≡ some r → (indices_of r ≡ es) × (cost r ≡ c) × (or_zero (setting_of terms r) ≡ σ))
  ended_route es c σ n h = go v.ending h
    where
      Same : List Belt → Type 0
      Same r = (indices_of r ≡ es) × (cost r ≡ c) × (or_zero (setting_of terms r) ≡ σ)

      parts : (m : ℕ) (r : List Belt) → route (indices_of r) (cost r) (or_zero (setting_of terms r)) m ≡ route es c σ n → Same r
      parts m r q = (cc, cc, cc)

      ending : (m : ℕ) (best : Option (List Belt)) (e : Ending) → ending_of terms m best e ≡ route es c σ n
          → (some e ≡ some found_route) × ((r : List Belt) → best ≡ some r → Same r)
      ending m best budget_spent q = absurd (apart cc)
      ending m best found_none q = absurd (apart cc)
      ending m none found_route q = absurd (apart cc)
      ending m (some x) found_route q = (refl, λ r i. let w : x ≡ r = cc in subst Same w (parts m x q))

      go : (o : Option Ending) → ended_by terms v.state o ≡ route es c σ n
          → (o ≡ some found_route) × ((r : List Belt) → v.state.best ≡ some r → Same r)
      go none q = absurd (apart cc)
      go (some e) q = ending v.state.opened v.state.best e q

  ended_nothing : (n : ℕ) → ended terms v ≡ nothing n → (v.ending ≡ some found_route → (r : List Belt) × (v.state.best ≡ some r))
      → v.ending ≡ some found_none
  ended_nothing n h held = go v.ending h held
    where
      ending : (m : ℕ) (best : Option (List Belt)) (e : Ending) → ending_of terms m best e ≡ nothing n
          → (some e ≡ some found_route → (r : List Belt) × (best ≡ some r)) → some e ≡ some found_none
      ending m best budget_spent q held = absurd (apart cc)
      ending m best found_none q held = refl
      ending m none found_route q held = let i = (held refl).1 in absurd (apart cc)
      ending m (some x) found_route q held = absurd (apart cc)

      go : (o : Option Ending) → ended_by terms v.state o ≡ nothing n
          → (o ≡ some found_route → (r : List Belt) × (v.state.best ≡ some r)) → o ≡ some found_none
      go none q held = absurd (apart cc)
      go (some e) q held = ending v.state.opened v.state.best e q held

permitted_lowest : (terms : Terms) (r : List Belt) → Permitted terms r → setting_of terms r ≡ some (or_zero (setting_of terms r))
permitted_lowest terms r h = go (setting_of terms r) refl
  where
    go : (o : Option ℕ) → setting_of terms r ≡ o → o ≡ some (or_zero o)
    go none e = absurd ((lowest_claim terms r).1.0 e h)
    go (some σ) e = refl

-- ---- a request that is not refused

module _ (k : Request) (fine : search_refusal k ≡ 0) where
  abbrev terms : Terms
  terms = terms_of (plan_of k.plan) k.query.trip

  abbrev q : Problem
  q = problem_in k.plan k.query

  limits : InLimits k
  limits = (limits_claim k).1 fine

  accepted : Accepted k.plan
  accepted = query_accepted (asked k) (zero_query k fine)

  run_right : RunRight q k.query.budget
  run_right =
      any_choice_claim q (explores k.plan accepted k.query.trip k.query.pick k.query.order) k.query.budget

  comes_to_lem : outcome k ≡ ended terms (run_of k)
  comes_to_lem = outcome_ended k fine

  is_spent : IsSpent (outcome k) → (run_of k).ending ≡ some budget_spent
  is_spent h = spent_ended terms (run_of k) (h.0, sym comes_to_lem ∙ h.1)

  spent_is : (run_of k).ending ≡ some budget_spent → IsSpent (outcome k)
  spent_is e = let h = ended_spent terms (run_of k) e in (h.0, comes_to_lem ∙ h.1)

  cheapest : (es : List ℕ) (c σ n : ℕ) → outcome k ≡ route es c σ n → Cheapest (plan_of k.plan) k.query.trip es c σ
  cheapest es c σ n h =
      let (over, same) = ended_route terms (run_of k) es c σ n (sym comes_to_lem ∙ h) in
      let (r, best, permitted, first) = run_right.found over in
      let (names, costs, setting) = same r best in
      record {
        belts = r;
        indices = names;
        permitted = permitted;
        costs = costs;
        setting = permitted_lowest terms r permitted.1 ∙ ap {B = Option ℕ} some setting;
        first = first;
      }

  counts : opened_of (outcome k) ≡ (run_of k).state.opened
  counts = ap opened_of comes_to_lem ∙ ended_opened terms (run_of k)

  held : (run_of k).ending ≡ some found_route → (r : List Belt) × ((run_of k).state.best ≡ some r)
  held e = let (r, best, permitted, first) = run_right.found e in (r, best)

  budgeted : (budget : ℕ) → k.query.budget ≤ budget → search_refusal (with_budget k budget) ≡ 0
  budgeted budget l =
      let low : 1 ≤ k.query.budget = limits.budget in
      (limits_claim (with_budget k budget)).0 record {
        plan = limits.plan;
        s_from = limits.s_from;
        s_to = limits.s_to;
        t_from = limits.t_from;
        t_to = limits.t_to;
        mask = limits.mask;
        values = limits.values;
        pick = limits.pick;
        order = limits.order;
        budget = omega arith;
        room = limits.room;
      }

  right : Right k
  right = record {
    found = cheapest;
    none_permitted = λ n h. run_right.none_permitted (ended_nothing terms (run_of k) n (sym comes_to_lem ∙ h) held);
    spent_when = (λ h. run_right.spent_when.0 (is_spent h), λ w. spent_is (run_right.spent_when.1 w));
    never_spent = λ l h. run_right.never_spent l (is_spent h);
    counted = (
      (run_of k).state,
      ap (state_at q) counts ∙ run_right.counted,
      sym counts,
      λ h. run_right.complete (λ e. h (spent_is e)),
      λ h. counts ∙ run_right.spent_at (is_spent h),
    );
    larger = λ h budget l.
        outcome_ended (with_budget k budget) (budgeted budget l)
        ∙ ap (ended terms) (run_right.larger (λ e. h (spent_is e)) budget l)
        ∙ sym comes_to_lem;
  }

pub right_claim : RightClaim
right_claim = right

-- ---- in the words of source document 000

module _ (k : Request) (fine : search_refusal k ≡ 0) where
  abbrev instance : Instance
  instance = instance_of (plan_of k.plan) k.query.trip

  -- a route that comes before every other permitted one costs no more
  no_dearer : (es : List ℕ) (c σ : ℕ) (best : Cheapest (plan_of k.plan) k.query.trip es c σ)
      → (w : List Belt) → IsPermitted (plan_of k.plan) k.query.trip w → cost best.belts ≤ cost w
  no_dearer es c σ best w i = go (test (ltb (cost w) (cost best.belts)))
    where
      go : (ltb (cost w) (cost best.belts) ≡ true) ⊎ (ltb (cost w) (cost best.belts) ≡ false) → cost best.belts ≤ cost w
      go (inl t) =
          let less : cost w < cost best.belts = ltb-true (cost w) (cost best.belts) t in
          let behind = first_gt (cost best.belts) (cost w) (lower best.belts w) less in
          absurd (never (best.first w i (λ e. omega (arith, ap cost e))) behind)
      go (inr t) = ltb-false (cost w) (cost best.belts) t

  solved : (es : List ℕ) (c σ n : ℕ) → outcome k ≡ route es c σ n
      → (p : List Arc) × (map (λ (a : Arc). a.number) p ≡ es) × (weight_of p ≡ c) × Solves instance p
  solved es c σ n h =
      let best = cheapest k fine es c σ n h in
      let r = best.belts in (
        map arc_of r,
        numbers_indices r ∙ best.indices,
        sym (cost_weight r) ∙ best.costs,
        record {
          feasible = (permitted_claim k.plan (accepted k fine) k.query.trip r).0 best.permitted;
          minimal = λ p f.
              let (w, e, i) = paths_claim k.plan (accepted k fine) k.query.trip p f in
              omega (arith, no_dearer es c σ best w i, cost_weight r, cost_weight w, ap weight_of e);
        },
      )

  infeasible : (n : ℕ) → outcome k ≡ nothing n → (p : List Arc) → Feasible instance p → ⊥
  infeasible n h p f =
      let (w, e, i) = paths_claim k.plan (accepted k fine) k.query.trip p f in
      (right_claim k fine).none_permitted n h w i

pub solves_claim : SolvesClaim
solves_claim k fine = record { found = solved k fine; infeasible = infeasible k fine }

pub ends_claim : EndsClaim
ends_claim k fine = (subst Answered (sym (comes_to_lem k fine)) (ended_answered (terms k fine) (run_of k) (run_right k fine).ends), (run_right k fine).ends)

-- ---- the sheet

module _ (k : Request) (bytes : Bytes k.plan) (out : List ℕ) (es : List ℕ) (c σ n : ℕ) (h : outcome k ≡ route es c σ n) where
  unrefused : search_refusal k ≡ 0
  unrefused = route_unrefused k es c σ n h

  within : InLimits k
  within = limits k unrefused

  best : Cheapest (plan_of k.plan) k.query.trip es c σ
  best = cheapest k unrefused es c σ n h

  abbrev sheet : List ℕ
  sheet = sheet_of es c σ

  abbrev after : List ℕ
  after = out_after (outcome k) out

  short : length sheet ≤ max_sheet_bytes
  short =
      let r = best.belts in
      let few = route_few (accepted k unrefused) k.query.trip.s k.query.trip.t r within.s_from within.t_to best.permitted.0 in
      let as_many : length es ≡ length r = ap length (sym best.indices) ∙ length-map r (λ (e : Belt). e.index) in
      omega (arith, few, as_many, length_sheet es c σ)

  after_is : after ≡ sheet ++ drop (length sheet) out
  after_is = ap (λ (o : Outcome). out_after o out) h

  front : take (length sheet) after ≡ sheet
  front = ap (take (length sheet)) after_is ∙ take-append_seam sheet (drop (length sheet) out)

  behind : drop (length sheet) after ≡ drop (length sheet) out
  behind = ap (drop (length sheet)) after_is ∙ drop-append_seam sheet (drop (length sheet) out)

  checks : sheet_refusal (case_of k.plan k.query.trip (take (length sheet) after)) ≡ 0
  checks =
      subst (λ (b : List ℕ). sheet_refusal (case_of k.plan k.query.trip b) ≡ 0)
      ((λ i. sheet_of (best.indices i) (best.costs i) σ) ∙ sym front)
      (written_claim (trip_in (asked k)) (query_trip (asked k) (zero_query k unrefused)) bytes best.belts best.permitted.0 σ best.setting)

  reads : Reads sheet es c σ
  reads =
      let (low, working, first) = ((lowest_claim (terms_of (plan_of k.plan) k.query.trip) best.belts).0 σ).0 best.setting in
      let trip = k.query.trip in
      subst (λ (fs : List ℕ). Reads (sheet_of fs c σ) fs c σ) best.indices
      (subst (λ (d : ℕ). Reads (sheet_of (indices_of best.belts) d σ) (indices_of best.belts) d σ) best.costs
      (reads_written (accepted k unrefused) bytes trip.s trip.t within.s_from within.t_to best.belts best.permitted.0 σ low))

pub accepted_claim : AcceptedClaim
accepted_claim k bytes out size es c σ n h =
    let room : max_sheet_bytes ≤ k.room = (within k bytes out es c σ n h).room in (
      omega (arith, short k bytes out es c σ n h),
      front k bytes out es c σ n h,
      behind k bytes out es c σ n h,
      checks k bytes out es c σ n h,
      reads k bytes out es c σ n h,
    )
