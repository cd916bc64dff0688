-- The first broken line of the sheet check: lines of plans first, then those of trips, then those of sheets.
--
--   trip_accepted, trip_ends, trip_lock, fine_trip
--                      the lines of plan and trip are unbroken exactly where the plan is accepted and lines 8 and 15 are unbroken
--   trip_plan, trip_8, trip_15
--                      the number of the first broken one of them: a refused plan gives its own, with an accepted plan line 8 gives 8, and where
--                      that is unbroken line 15 gives 15
--   ends_wrong, ends_fine, inside, ends_inside
--                      line 8 is unbroken exactly where s and t are junctions
--   lock_wrong, lock_right, right_lock
--                      line 15 is unbroken exactly where the lock is not wrong
--   instance_claim     InstanceClaim
--   trip_refused       a broken line of plan or trip decides
--   no_form, content_refused
--                      where none is: the sheet is not in the form, and where it is, what it says decides
--   Unrefused          no line is broken; zero_unrefused, unrefused_zero: exactly where the answer is 0
--   first_refusal      FirstRefusalClaim
--
-- Assumes nothing.
use mathlib.Core.Path.{◌≡◌, refl, sym, ◌∙◌, ap}
use mathlib.Core.Logic.{◌⊎◌, inl, inr}
use mathlib.Core.Bool.{Bool, true, false, not, ◌&&◌}
use Prim.Native.Nat.{ℕ, ◌^◌, ◌≤◌}
use mathlib.Core.List.Memᴰ
use mathlib.Core.List.{List, [], ◌∷◌, map, Memᴰ}
use lib.Dec.{eqb, ltb}
use Rattle.plan.specs.Lists.{all, mem, within}
use Rattle.plan.specs.Plan.{plan_of, indices_of}
use Rattle.plan.specs.Refusals.{Line, about, plan_lines, first_broken, refusal}
use Rattle.plan.specs.Claims.{Unbroken}
use Rattle.plan.specs.Reading.{Accepted}
use Rattle.plan.proofs.Lists.{and_is, is_within, each}
use Rattle.plan.proofs.LineFirst.{front_first, on_broken, on_unbroken, past, none_broken, first_exactly, passed, first_about, unbroken_about, about_unbroken}
use Rattle.route.specs.Refusals.{PlanTrip, Case, plan_trip, broken8, broken15, broken11, broken12, broken13, broken14, line8, line15, trip_lines, sheet_lines, check_lines, sheet_refusal}
use Rattle.route.specs.declared.sheet.Sheet.{Sheet}
use Rattle.route.specs.Routes.{wrong_ends, connects, cost, belts_by_index}
use Rattle.route.specs.Permission.{passes, wrong_lock, terms_of, works}
use Rattle.route.specs.Sheets.{in_form, belts_on, cost_on, setting_on}
use Rattle.route.specs.Values.{ids_of}
use Rattle.route.specs.Inner.{sheet_by, content_refusal}
use Rattle.route.specs.Claims.{InstanceClaim, FirstRefusalClaim}
use Rattle.route.proofs.LcspInstance.{instance_is}
use Rattle.route.proofs.RouteIndices.{ends_junctions}

pub first_refusal : FirstRefusalClaim
unfolding sheet_refusal
first_refusal k n = first_exactly check_lines k n

-- ---- lines of plans and trips

-- those of trips
abbrev behind : List (Line PlanTrip)
behind = line8 ∷ line15 ∷ []

-- those of plans
abbrev front : List (Line PlanTrip)
front = map (about (λ (k : PlanTrip). k.plan)) plan_lines

front_unbroken : (k : PlanTrip) → Accepted k.plan → Unbroken front k
unfolding refusal
front_unbroken k ok = unbroken_about (λ (k : PlanTrip). k.plan) plan_lines k (passed plan_lines k.plan refl ok.unrefused)

module _ (k : PlanTrip) where
  pub trip_accepted : Unbroken trip_lines k → Accepted k.plan
  unfolding refusal
  trip_accepted h = record {
    unrefused = none_broken plan_lines k.plan
        (about_unbroken (λ (k : PlanTrip). k.plan) plan_lines k (λ l m. h l (Memᴰ.append_left behind m)));
  }

  pub trip_ends : Unbroken trip_lines k → broken8 k ≡ false
  trip_ends h = h line8 (Memᴰ.append_right front (Memᴰ.head refl))

  pub trip_lock : Unbroken trip_lines k → broken15 k ≡ false
  trip_lock h = h line15 (Memᴰ.append_right front (Memᴰ.tail (Memᴰ.head refl)))

  pub fine_trip : Accepted k.plan → broken8 k ≡ false → broken15 k ≡ false → Unbroken trip_lines k
  fine_trip ok e f l m = go (Memᴰ.append_cases front m)
    where
      go : Memᴰ l front ⊎ Memᴰ l behind → l.broken k ≡ false
      go (inl a) = front_unbroken k ok l a
      go (inr a) =
          each (λ (y : Line PlanTrip). y.broken k ≡ false) e
          (λ y b. ap (λ (z : Line PlanTrip). z.broken k) (Memᴰ.eq_of_singleton b) ∙ f) l a

  -- the number of the first broken one: the plan's, that of line 8, or that of line 15
  pub trip_plan : (refusal k.plan ≡ 0 → ⊥) → first_broken trip_lines k ≡ refusal k.plan
  unfolding refusal
  trip_plan h = front_first behind k front h

  pub trip_8 : Accepted k.plan → broken8 k ≡ true → first_broken trip_lines k ≡ 8
  trip_8 ok e = past front behind k (front_unbroken k ok) ∙ on_broken line8 (line15 ∷ []) k e

  pub trip_15 : Accepted k.plan → broken8 k ≡ false → broken15 k ≡ true → first_broken trip_lines k ≡ 15
  trip_15 ok e f = past front behind k (front_unbroken k ok) ∙ on_unbroken line8 (line15 ∷ []) k e ∙ on_broken line15 [] k f

  -- line 8
  pub ends_wrong : wrong_ends (plan_of k.plan) k.trip.s k.trip.t ≡ true → broken8 k ≡ true
  unfolding broken8
  ends_wrong e = e

  pub ends_fine : wrong_ends (plan_of k.plan) k.trip.s k.trip.t ≡ false → broken8 k ≡ false
  unfolding broken8
  ends_fine e = e

  pub inside : 1 ≤ k.trip.s → k.trip.s ≤ (plan_of k.plan).junctions → 1 ≤ k.trip.t → k.trip.t ≤ (plan_of k.plan).junctions
      → broken8 k ≡ false
  unfolding broken8
  inside a b c d =
      let J = (plan_of k.plan).junctions in
      ap not (and_is (within 1 k.trip.s J) (within 1 k.trip.t J) (is_within 1 k.trip.s J a b) (is_within 1 k.trip.t J c d))

  pub ends_inside : broken8 k ≡ false
      → (1 ≤ k.trip.s) × (k.trip.s ≤ (plan_of k.plan).junctions) × (1 ≤ k.trip.t) × (k.trip.t ≤ (plan_of k.plan).junctions)
  unfolding broken8
  ends_inside e = ends_junctions (plan_of k.plan) k.trip.s k.trip.t e

  -- line 15
  pub lock_wrong : wrong_lock (plan_of k.plan) k.trip.lock ≡ true → broken15 k ≡ true
  unfolding broken15
  lock_wrong e = e

  pub lock_right : wrong_lock (plan_of k.plan) k.trip.lock ≡ false → broken15 k ≡ false
  unfolding broken15
  lock_right e = e

  pub right_lock : broken15 k ≡ false → wrong_lock (plan_of k.plan) k.trip.lock ≡ false
  unfolding broken15
  right_lock e = e

pub instance_claim : InstanceClaim
instance_claim k h =
    let (a, b, c, d) = ends_inside k (trip_ends k h) in
    instance_is (trip_accepted k h) k.trip a b c d

-- ---- lines of cases

-- those of the plan and the trip
abbrev trip_front : List (Line Case)
trip_front = map (about plan_trip) trip_lines

-- a broken line of the plan or the trip decides
pub trip_refused : (k : Case) (n : ℕ) → (n ≡ 0 → ⊥) → first_broken trip_lines (plan_trip k) ≡ n → sheet_refusal k ≡ n
unfolding sheet_refusal
trip_refused k n h e =
    let same = first_about plan_trip trip_lines k in
    front_first sheet_lines k trip_front (λ z. h (sym e ∙ sym same ∙ z)) ∙ same ∙ e

module _ (k : Case) (fine : Unbroken trip_lines (plan_trip k)) where
  by_sheet : sheet_refusal k ≡ sheet_by (broken11 k) (broken12 k) (broken13 k) (broken14 k)
  unfolding sheet_refusal
  by_sheet = past trip_front sheet_lines k (unbroken_about plan_trip trip_lines k fine)

  -- the lines, by what the sheet holds
  by : Bool → List ℕ → ℕ → ℕ → ℕ
  by form es c σ =
      let p = plan_of k.plan in
      let r = belts_by_index p es in
      sheet_by (not (form && all (λ (e : ℕ). mem e (indices_of p.belts)) es && ltb σ (2 ^ p.modes))) (not (connects k.trip.s k.trip.t r))
      (not (eqb (cost r) c)) (not (works (terms_of p k.trip) (passes r) σ))

  by_content : sheet_refusal k ≡ by (in_form k.sheet) (belts_on k.sheet) (cost_on k.sheet) (setting_on k.sheet)
  unfolding broken11 broken12 broken13 broken14 by
  by_content = by_sheet

  -- where the sheet is in the form, what it holds decides
  pub content_refused : (v : Sheet) → in_form k.sheet ≡ true → ids_of v.route ≡ belts_on k.sheet → v.cost ≡ cost_on k.sheet
      → v.setting ≡ setting_on k.sheet → sheet_refusal k ≡ content_refusal (plan_of k.plan) k.trip v
  unfolding by
  content_refused v form ids c σ = by_content ∙ (λ i. by (form i) (sym ids i) (sym c i) (sym σ i))

  pub no_form : in_form k.sheet ≡ false → sheet_refusal k ≡ 11
  unfolding by
  no_form e = by_content ∙ (λ i. by (e i) (belts_on k.sheet) (cost_on k.sheet) (setting_on k.sheet))

  none_refused : broken11 k ≡ false → broken12 k ≡ false → broken13 k ≡ false → broken14 k ≡ false → sheet_refusal k ≡ 0
  none_refused a b c d = by_sheet ∙ (λ i. sheet_by (a i) (b i) (c i) (d i))

-- ---- what unbroken lines say

-- what is said of the lines of plan and trip, and of the four of the sheet
pub record Unrefused (k : Case) : Type 0 where
  pub trip : Unbroken trip_lines (plan_trip k)
  pub fine_11 : broken11 k ≡ false
  pub fine_12 : broken12 k ≡ false
  pub fine_13 : broken13 k ≡ false
  pub fine_14 : broken14 k ≡ false

pub zero_unrefused : (k : Case) → sheet_refusal k ≡ 0 → Unrefused k
unfolding sheet_refusal
zero_unrefused k e =
    let h = passed check_lines k refl e in
    let sheet : (l : Line Case) → Memᴰ l sheet_lines → l.broken k ≡ false = λ l m. h l (Memᴰ.append_right trip_front m) in
    record {
      trip = about_unbroken plan_trip trip_lines k (λ l m. h l (Memᴰ.append_left sheet_lines m));
      fine_11 = sheet _ (Memᴰ.head refl);
      fine_12 = sheet _ (Memᴰ.tail (Memᴰ.head refl));
      fine_13 = sheet _ (Memᴰ.tail (Memᴰ.tail (Memᴰ.head refl)));
      fine_14 = sheet _ (Memᴰ.tail (Memᴰ.tail (Memᴰ.tail (Memᴰ.head refl))));
    }

pub unrefused_zero : (k : Case) → Unrefused k → sheet_refusal k ≡ 0
unrefused_zero k u = none_refused k u.trip u.fine_11 u.fine_12 u.fine_13 u.fine_14
