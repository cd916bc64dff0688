-- What the planner replies: its numbers and the out buffer are those of the outcome. The one idea: each answer of the code belongs to one
-- outcome (the sheet of a best route, an ending of the run, a broken line), and the request comes to that outcome.
--
--   or_none             a setting that was looked for, or 0
--   written_best        the sheet of the best route of a search that found it
--   found_held          a run that ends with a route holds one
--   turn_ended, turn_found
--                       what a run comes to, by its ending
--   trip_refused, refused_9, refused_10, none_refused
--                       the number of the first broken line: that of the plan and the trip, and where these are unbroken 9, 10 or 0
--   outcome_by          what the request comes to, by that number
--   refused_told        where a line is broken its number is the answer, and the buffer is as it was
--
-- Assumes nothing.
use mathlib.Core.Path.{◌≡◌, refl, sym, ◌∙◌, ap, subst}
use mathlib.Core.Bool.{Bool, true, false}
use mathlib.Core.Option.{some}
use Prim.Native.Nat.{ℕ, zero, suc, ◌≤◌, ◌<◌}
use mathlib.Core.List.{List, [], ◌∷◌, ◌++◌, map}
use native.Mathlib.Omega.{arith}
use lib.ListN.{length, drop}
use borrow.Author.Tests.{lt-ltb, le-ltb}
use Rattle.std.specs.Prelude as code
use Rattle.std.specs.Prelude.{Some, None}
use Rattle.std.specs.Option.{unwrap_or}
use Rattle.plan.specs.declared.refusal.Refusal.{Refusal}
use Rattle.plan.specs.Bounds.{max_sheet_bytes}
use Rattle.plan.specs.Plan.{Belt, plan_of}
use Rattle.plan.specs.Refusals.{Line, about, first_broken, refusal_number}
use Rattle.plan.specs.Claims.{Unbroken}
use Rattle.plan.specs.Reading.{Accepted}
use Rattle.plan.proofs.LineFirst.{front_first, on_broken, on_unbroken, past, passed, first_about, unbroken_about}
use Rattle.plan.proofs.LineNumbers.{nonzero}
use Rattle.route.specs.declared.belts.Route.{Route}
use Rattle.route.specs.declared.path.Trip.{Trip}
use Rattle.route.specs.Routes.{cost}
use Rattle.route.specs.Permission.{Terms, terms_of}
use Rattle.route.specs.Sheets.{sheet_of}
use Rattle.route.specs.Refusals.{trip_lines}
use Rattle.route.specs.Values.{ids_of, Known, route_in, setting_in}
use Rattle.route.proofs.RouteIndices.{known_indices}
use Rattle.search.specs.declared.state.Search.{Search}
use Rattle.search.specs.declared.state.Stepped.{Stepped}
use Rattle.search.specs.declared.state.Ending as ending
use Rattle.search.specs.declared.state.Ending.TheVariants.{Found}
use Rattle.search.specs.declared.query.Query.{Query}
use Rattle.search.specs.Search.{found_route, Turn, setting_of, run}
use Rattle.search.specs.Answers.{Asked, Request, trip_in, asked, wrong_query, broken9, broken10, line9, line10, query_lines, search_refusal, route, or_zero, ending_of, ended_by, ended, problem_in, unless_refused, outcome, reply, Told}
use Rattle.search.specs.Values.{is_held, best_in, state_in, ending_in, turn_in, request_of}
use Rattle.search.specs.Inner.{best_of}
use Rattle.search.proofs.RunSteps.{run_found}

-- ---- the sheet of the best route

pub or_none : (o : code.Option ℕ) → unwrap_or o 0 ≡ or_zero (setting_in o)
or_none (Some σ) = refl
or_none None = refl

-- c, σ and size are the sheet's cost, setting and length
pub written_best : {b : List ℕ} → Accepted b → (trip : Trip) (v : Search) → Known b v.best → (c σ size : ℕ) (before after : List ℕ)
    → c ≡ cost (route_in b v.best) → σ ≡ or_zero (setting_of (terms_of (plan_of b) trip) (route_in b v.best))
    → size ≡ length (sheet_of (ids_of v.best) c σ) → after ≡ sheet_of (ids_of v.best) c σ ++ drop size before
    → Told (reply 0 v.opened size) before after (best_of b trip v)
written_best {b} ok trip v k c σ size before after ec eσ es ea =
    let ids = ids_of v.best in
    let same : route ids c σ v.opened ≡ best_of b trip v = λ i. route (sym (known_indices ok v.best k) i) (ec i) (eσ i) v.opened in
    subst (Told (reply 0 v.opened size) before after) same
    (ap (reply 0 v.opened) es, ea ∙ ap (λ (n : ℕ). sheet_of ids c σ ++ drop n before) es)

-- ---- the ending of a run

held : (b : List ℕ) (found : Bool) (best : Route) (r : List Belt) → best_in b found best ≡ some r → found ≡ true
held b true best r e = refl
held b false best r e = let z : ◌≡◌ {A = ℕ} 0 1 = cc in absurd (omega arith)

module _ (b : List ℕ) (q : Query) (v : Stepped) (same : turn_in b v ≡ run (problem_in b q) q.budget) where
  abbrev terms : Terms
  terms = terms_of (plan_of b) q.trip

  pub found_held : v.ending ≡ Some Found → is_held v.search.bound ≡ true
  found_held e =
      let (r, h) = run_found (problem_in b q) q.budget (sym (ap (λ (x : Turn). x.ending) same) ∙ ap ending_in e) in
      held b (is_held v.search.bound) v.search.best r (ap (λ (x : Turn). x.state.best) same ∙ h)

  pub turn_ended : (out : List ℕ) (x : code.Option ending.Ending) → v.ending ≡ x
      → ended_by terms (state_in b v.search) (ending_in x) ≡ unless_refused 0 (request_of b q out)
  turn_ended out x e = ap (λ (y : code.Option ending.Ending). ended_by terms (state_in b v.search) (ending_in y)) (sym e) ∙ ap (ended terms) same

  pub turn_found : (out : List ℕ) → v.ending ≡ Some Found → best_of b q.trip v.search ≡ unless_refused 0 (request_of b q out)
  turn_found out e =
      ap (λ (t : Bool). ending_of terms v.search.opened (best_in b t v.search.best) found_route) (sym (found_held e)) ∙ turn_ended out (Some Found) e

-- ---- the first broken line

-- lines of the plan and the trip as lines of what is asked, and those of what is asked as lines of a request
abbrev trip_front : List (Line Asked)
trip_front = map (about trip_in) trip_lines

abbrev query_front : List (Line Request)
query_front = map (about asked) query_lines

-- a broken line of the plan or the trip decides
pub trip_refused : (k : Request) (n : ℕ) → (n ≡ 0 → ⊥) → first_broken trip_lines (trip_in (asked k)) ≡ n → search_refusal k ≡ n
unfolding search_refusal
trip_refused k n h e =
    let by-trip : first_broken trip_front (asked k) ≡ n = first_about trip_in trip_lines (asked k) ∙ e in
    let by-query : first_broken query_front k ≡ n =
    first_about asked query_lines k ∙ front_first (line9 ∷ []) (asked k) trip_front (λ z. h (sym by-trip ∙ z)) ∙ by-trip in
    front_first (line10 ∷ []) k query_front (λ z. h (sym by-query ∙ z)) ∙ by-query

module _ (k : Request) (fine : Unbroken trip_lines (trip_in (asked k))) where
  past_trip : first_broken query_front k ≡ first_broken (line9 ∷ []) (asked k)
  past_trip = first_about asked query_lines k ∙ past trip_front (line9 ∷ []) (asked k) (unbroken_about trip_in trip_lines (asked k) fine)

  pub refused_9 : wrong_query k.query ≡ true → search_refusal k ≡ 9
  unfolding broken9 search_refusal
  refused_9 e =
      let nine : first_broken query_front k ≡ 9 = past_trip ∙ on_broken line9 [] (asked k) e in
      front_first (line10 ∷ []) k query_front (λ z. let w : ◌≡◌ {A = ℕ} 9 0 = sym nine ∙ z in omega arith) ∙ nine

  module _ (right : wrong_query k.query ≡ false) where
    past_9 : search_refusal k ≡ first_broken (line10 ∷ []) k
    unfolding broken9 search_refusal
    past_9 =
        let zero : first_broken query_front k ≡ 0 = past_trip ∙ on_unbroken line9 [] (asked k) right in
        past query_front (line10 ∷ []) k (passed query_front k refl zero)

    pub refused_10 : k.room < max_sheet_bytes → search_refusal k ≡ 10
    unfolding broken10
    refused_10 h = past_9 ∙ on_broken line10 [] k (lt-ltb k.room max_sheet_bytes h)

    pub none_refused : max_sheet_bytes ≤ k.room → search_refusal k ≡ 0
    unfolding broken10
    none_refused h = past_9 ∙ on_unbroken line10 [] k (le-ltb k.room max_sheet_bytes h)

-- ---- what the request comes to

pub outcome_by : (k : Request) (n : ℕ) → search_refusal k ≡ n → unless_refused n k ≡ outcome k
unfolding outcome
outcome_by k n e = ap (λ (m : ℕ). unless_refused m k) (sym e)

pub refused_told : (k : Request) (r : Refusal) (out : List ℕ) → search_refusal k ≡ refusal_number r → Told (reply (refusal_number r) 0 0) out out (outcome k)
refused_told k r out e = go (refusal_number r) (nonzero r) e
  where
    go : (n : ℕ) → (n ≡ 0 → ⊥) → search_refusal k ≡ n → Told (reply n 0 0) out out (outcome k)
    go zero h e = absurd (h refl)
    go (suc n) h e = subst (Told (reply (suc n) 0 0) out out) (outcome_by k (suc n) e) (refl, refl)
