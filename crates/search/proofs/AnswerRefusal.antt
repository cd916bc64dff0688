-- What is refused: lines 1 to 8 and 15 are those of the sheet check, about a plan and a trip; lines 9 and 10 are comparisons of numbers.
-- A request is refused with the number of the first broken line, and what is not refused comes to something else than a refusal.
--
--   first_refusal      search_refusal answers n exactly when n is the number of the first broken line, and 0 exactly when none is broken;
--                      first_numbered: that number is from 1 to 10, or 15
--   query_trip, query_9, trip_query, query_accepted
--                      the lines of what is asked are unbroken exactly where those of the trip and line 9 are; then the plan is accepted
--   zero_query, zero_10, query_zero
--                      the answer is 0 exactly where the lines of what is asked and line 10 are unbroken
--   limits_claim       InLimitsClaim
--   apart              0 is not 1: by this an equation of two different constructors is refuted
--   run_of k            the run of the request
--   outcome_refused, outcome_ended
--                      the outcome, by whether a line is broken
--   ended_answered     a run that has an ending comes to a route, to none or to spent; ended_unrefused: no run comes to a refusal
--   refused_claim      RefusedClaim; refused_numbered: the number of a refusal is from 1 to 10, or 15
--   route_unrefused    what comes to a route is not refused
--   unchanged_claim    UnchangedClaim
--
-- Assumes nothing.
use mathlib.Core.Path.{◌≡◌, refl, sym, ◌∙◌, ap, subst}
use mathlib.Core.Logic.{◌⊎◌, inl, inr, ◌↔◌}
use mathlib.Core.Bool.{Bool, true, false, not, ◌&&◌, ◌||◌}
use mathlib.Core.Option.{Option, none, some}
use Prim.Native.Nat.{ℕ, zero, suc, ◌≤◌}
use mathlib.Core.List.{List, [], ◌∷◌, map, Memᴰ}
use native.Mathlib.Omega.{arith}
use lib.Dec.{eqb, leb}
use borrow.Author.Tests.{eqb-true, ltb-false, leb-true, le-leb, le-ltb, not-false}
use Rattle.plan.specs.Bounds.{max_sheet_bytes}
use Rattle.plan.specs.Plan.{Belt, plan_of}
use Rattle.plan.specs.Refusals.{Line, about}
use Rattle.plan.specs.Reading.{Accepted}
use Rattle.plan.specs.Claims.{Unbroken, FirstIn}
use Rattle.plan.proofs.Lists.{both, either, all_in}
use Rattle.plan.proofs.LineFirst.{first_exactly, passed, none_broken, unbroken_about, about_unbroken}
use Rattle.plan.proofs.Reading.{limits, in_limits}
use Rattle.route.specs.Permission.{Terms, terms_of}
use Rattle.route.specs.Refusals.{trip_lines}
use Rattle.route.proofs.RulesLock.{lock_limits}
use Rattle.route.proofs.SheetLines.{trip_accepted, trip_ends, trip_lock, fine_trip, inside, ends_inside, lock_right, right_lock}
use Rattle.search.specs.Search.{Ending, found_route, found_none, budget_spent, Turn, run}
use Rattle.search.specs.Answers.{Asked, Request, trip_in, asked, broken9, broken10, line9, line10, query_lines, search_lines, search_refusal, Outcome, refused, route, nothing, spent, paused, ending_of, ended_by, ended, problem_in, unless_refused, outcome, out_after}
use Rattle.search.specs.Claims.{RefusedClaim, InLimits, InLimitsClaim, Answered, UnchangedClaim}

-- ---- the first broken line

first_refusal : (k : Request) (n : ℕ) → (search_refusal k ≡ n) ↔ (((n ≡ 0) × Unbroken search_lines k) ⊎ FirstIn search_lines k n)
unfolding search_refusal
first_refusal k n = first_exactly search_lines k n

-- the lines have the numbers 1 to 10, and 15
abbrev pub Numbered : ℕ → Type 0
Numbered n = (1 ≤ n) × ((n ≤ 10) ⊎ (n ≡ 15))

first_numbered : (k : Request) (n : ℕ) → FirstIn search_lines k n → Numbered n
first_numbered k n f =
    let l = f.line.number in
    let numbered : Line Request → Bool = λ (l : Line Request). leb 1 l.number && (leb l.number 10 || eqb l.number 15) in
    let m : Memᴰ f.line search_lines =
    subst (Memᴰ f.line) (sym f.split) (mathlib.Core.List.Memᴰ.append_right f.before (mathlib.Core.List.Memᴰ.head refl)) in
    let (low, high) = both (leb 1 l) (leb l 10 || eqb l 15) (all_in numbered search_lines refl m) in
    subst Numbered f.number (leb-true 1 l low, go l (either (leb l 10) (eqb l 15) high))
  where
    go : (l : ℕ) → (leb l 10 ≡ true) ⊎ (eqb l 15 ≡ true) → (l ≤ 10) ⊎ (l ≡ 15)
    go l (inl t) = inl (leb-true l 10 t)
    go l (inr t) = inr (eqb-true l 15 t)

-- ---- what unbroken lines say

-- lines of the trip, as lines of what is asked; and those, as lines of a request
abbrev trip_front : List (Line Asked)
trip_front = map (about trip_in) trip_lines

abbrev query_front : List (Line Request)
query_front = map (about asked) query_lines

module _ (k : Asked) where
  pub query_trip : Unbroken query_lines k → Unbroken trip_lines (trip_in k)
  query_trip h = about_unbroken trip_in trip_lines k (λ l m. h l (mathlib.Core.List.Memᴰ.append_left (line9 ∷ []) m))

  query_9 : Unbroken query_lines k → broken9 k ≡ false
  query_9 h = h line9 (mathlib.Core.List.Memᴰ.append_right trip_front (mathlib.Core.List.Memᴰ.head refl))

  trip_query : Unbroken trip_lines (trip_in k) → broken9 k ≡ false → Unbroken query_lines k
  trip_query h e l m = go (mathlib.Core.List.Memᴰ.append_cases trip_front m)
    where
      go : Memᴰ l trip_front ⊎ Memᴰ l (line9 ∷ []) → l.broken k ≡ false
      go (inl a) = unbroken_about trip_in trip_lines k h l a
      go (inr a) = ap (λ (y : Line Asked). y.broken k) (mathlib.Core.List.Memᴰ.eq_of_singleton a) ∙ e

  pub query_accepted : Unbroken query_lines k → Accepted k.plan
  query_accepted h = trip_accepted (trip_in k) (query_trip h)

  -- line 9
  query_right : broken9 k ≡ false → (k.query.pick ≤ 2) × (k.query.order ≤ 1) × (1 ≤ k.query.budget)
  unfolding broken9
  query_right e =
      let q = k.query in
      let All-three = not-false (leb q.pick 2 && leb q.order 1 && leb 1 q.budget) e in
      let (h, c) = both (leb q.pick 2 && leb q.order 1) (leb 1 q.budget) All-three in
      let (a, b) = both (leb q.pick 2) (leb q.order 1) h in
      (leb-true q.pick 2 a, leb-true q.order 1 b, leb-true 1 q.budget c)

  right_query : k.query.pick ≤ 2 → k.query.order ≤ 1 → 1 ≤ k.query.budget → broken9 k ≡ false
  unfolding broken9
  right_query a b c =
      let q = k.query in
      λ i. not (le-leb q.pick 2 a i && le-leb q.order 1 b i && le-leb 1 q.budget c i)

module _ (k : Request) where
  pub zero_query : search_refusal k ≡ 0 → Unbroken query_lines (asked k)
  unfolding search_refusal
  zero_query e = about_unbroken asked query_lines k (λ l m. passed search_lines k refl e l (mathlib.Core.List.Memᴰ.append_left (line10 ∷ []) m))

  zero_10 : search_refusal k ≡ 0 → broken10 k ≡ false
  unfolding search_refusal
  zero_10 e = passed search_lines k refl e line10 (mathlib.Core.List.Memᴰ.append_right query_front (mathlib.Core.List.Memᴰ.head refl))

  query_zero : Unbroken query_lines (asked k) → broken10 k ≡ false → search_refusal k ≡ 0
  unfolding search_refusal
  query_zero h e = none_broken search_lines k (λ l m. go l (mathlib.Core.List.Memᴰ.append_cases query_front m))
    where
      go : (l : Line Request) → Memᴰ l query_front ⊎ Memᴰ l (line10 ∷ []) → l.broken k ≡ false
      go l (inl a) = unbroken_about asked query_lines k h l a
      go l (inr a) = ap (λ (y : Line Request). y.broken k) (mathlib.Core.List.Memᴰ.eq_of_singleton a) ∙ e

  -- line 10
  buffer_long : broken10 k ≡ false → max_sheet_bytes ≤ k.room
  unfolding broken10
  buffer_long e = ltb-false k.room max_sheet_bytes e

  long_buffer : max_sheet_bytes ≤ k.room → broken10 k ≡ false
  unfolding broken10
  long_buffer h = le-ltb k.room max_sheet_bytes h

pub limits_claim : InLimitsClaim
limits_claim k = (to, from)
  where
    to : InLimits k → search_refusal k ≡ 0
    to h =
        let ok = in_limits k.plan h.plan in
        let trip = trip_in (asked k) in
        let ends = inside trip h.s_from h.s_to h.t_from h.t_to in
        let lock = lock_right trip ((lock_limits (plan_of k.plan) k.query.trip.lock).1 (h.mask, h.values)) in
        query_zero k (trip_query (asked k) (fine_trip trip ok ends lock) (right_query (asked k) h.pick h.order h.budget)) (long_buffer k h.room)

    from : search_refusal k ≡ 0 → InLimits k
    from e =
        let fine = zero_query k e in
        let trip = trip_in (asked k) in
        let (a, b, c, d) = ends_inside trip (trip_ends trip (query_trip (asked k) fine)) in
        let locked = right_lock trip (trip_lock trip (query_trip (asked k) fine)) in
        let (mask, values) = (lock_limits (plan_of k.plan) k.query.trip.lock).0 locked in
        let (pick, order, budget) = query_right (asked k) (query_9 (asked k) fine) in
        record {
          plan = limits (query_accepted (asked k) fine);
          s_from = a;
          s_to = b;
          t_from = c;
          t_to = d;
          mask = mask;
          values = values;
          pick = pick;
          order = order;
          budget = budget;
          room = buffer_long k (zero_10 k e);
        }

-- ---- outcomes

pub apart : ◌≡◌ {A = ℕ} 0 1 → ⊥
apart e = omega arith

abbrev pub run_of : Request → Turn
run_of k = run (problem_in k.plan k.query) k.query.budget

module _ (k : Request) where
  outcome_refused : (n : ℕ) → search_refusal k ≡ suc n → outcome k ≡ refused (suc n)
  unfolding outcome
  outcome_refused n e = ap (λ (m : ℕ). unless_refused m k) e

  pub outcome_ended : search_refusal k ≡ 0 → outcome k ≡ ended (terms_of (plan_of k.plan) k.query.trip) (run_of k)
  unfolding outcome
  outcome_ended e = ap (λ (m : ℕ). unless_refused m k) e

ending_answered : (terms : Terms) (n : ℕ) (best : Option (List Belt)) (e : Ending) → Answered (ending_of terms n best e)
ending_answered terms n best budget_spent = inr (inr (n, refl))
ending_answered terms n best found_none = inr (inl (n, refl))
ending_answered terms n none found_route = inr (inl (n, refl))
ending_answered terms n (some r) found_route = inl (_, _, _, n, refl)

pub ended_answered : (terms : Terms) (v : Turn) → (v.ending ≡ none → ⊥) → Answered (ended terms v)
ended_answered terms v over = go v.ending over
  where
    go : (o : Option Ending) → (o ≡ none → ⊥) → Answered (ended_by terms v.state o)
    go none h = absurd (h refl)
    go (some e) h = ending_answered terms v.state.opened v.state.best e

ended_unrefused : (terms : Terms) (v : Turn) (n : ℕ) → ended terms v ≡ refused n → ⊥
ended_unrefused terms v n h = go v.ending h
  where
    answered : (o : Outcome) → o ≡ refused n → Answered o → ⊥
    answered o h (inl (es, c, σ, m, e)) = apart cc
    answered o h (inr (inl (m, e))) = apart cc
    answered o h (inr (inr (m, e))) = apart cc

    go : (o : Option Ending) → ended_by terms v.state o ≡ refused n → ⊥
    go none h = apart cc
    go (some e) h = answered _ h (ending_answered terms v.state.opened v.state.best e)

pub refused_claim : RefusedClaim
refused_claim k n = (to (search_refusal k) refl, λ f. from n ((first_refusal k n).1 (inr f)) (first_numbered k n f).0)
  where
    first : 1 ≤ n → ((n ≡ 0) × Unbroken search_lines k) ⊎ FirstIn search_lines k n → FirstIn search_lines k n
    first l (inl h) = let z : n ≡ 0 = h.0 in absurd (omega arith)
    first l (inr f) = f

    to : (m : ℕ) → search_refusal k ≡ m → outcome k ≡ refused n → FirstIn search_lines k n
    to zero e h = absurd (ended_unrefused (terms_of (plan_of k.plan) k.query.trip) (run_of k) n (sym (outcome_ended k e) ∙ h))
    to (suc m) e h =
        let q : refused (suc m) ≡ refused n = sym (outcome_refused k m e) ∙ h in
        let w : suc m ≡ n = cc in
        first (omega arith) ((first_refusal k n).0 (e ∙ w))

    from : (m : ℕ) → search_refusal k ≡ m → 1 ≤ m → outcome k ≡ refused m
    from zero e l = absurd (omega arith)
    from (suc m) e l = outcome_refused k m e

-- a refusal is no other answer
pub refused_numbered : (k : Request) (n : ℕ) → outcome k ≡ refused n → Numbered n
refused_numbered k n h = first_numbered k n ((refused_claim k n).0 h)

pub route_unrefused : (k : Request) (es : List ℕ) (c σ n : ℕ) → outcome k ≡ route es c σ n → search_refusal k ≡ 0
route_unrefused k es c σ n h = go (search_refusal k) refl
  where
    go : (m : ℕ) → search_refusal k ≡ m → search_refusal k ≡ 0
    go zero e = e
    go (suc m) e = let q = outcome_refused k m e in absurd (apart cc)

-- ---- the out buffer

pub unchanged_claim : UnchangedClaim
unchanged_claim k out no_route = go (outcome k) refl
  where
    go : (o : Outcome) → outcome k ≡ o → out_after o out ≡ out
    go (refused n) e = refl
    go (route es c σ n) e = absurd (no_route es c σ n e)
    go (nothing n) e = refl
    go (spent n) e = refl
    go (paused n) e = refl
