-- Demand 2: what the check accepts are the sheets of feasible solutions, and every sheet of a permitted route is accepted.
--
--   fine_sheet, sheet_fine   line 11 is unbroken exactly where the sheet is in the form, names belts, and its setting is below 2^M
--   numbers_indices          the numbers of a route's arcs are the indices of its belts
--   reads_written            the sheet of a route reads as its belts, its cost and its setting
--   accepted_solved          an accepted sheet reads as a feasible solution
--   solved_accepted          a sheet that reads as a feasible solution is accepted
--   check_claim              both (CheckClaim)
--   written_claim            the sheet of a permitted route with its lowest setting is accepted (WrittenClaim)
--   writer_claim             and so is what the code writes of a route that it holds (WriterClaim)
--
-- Assumes nothing.
use mathlib.Core.Path.{◌≡◌, refl, sym, ◌∙◌, ap, subst}
use mathlib.Core.Bool.{Bool, true, false, not, ◌&&◌}
use Prim.Native.Nat.{ℕ, ◌^◌, ◌≤◌, ◌<◌}
use mathlib.Core.List.{List, map, Memᴰ, map-map}
use native.Mathlib.Omega.{arith}
use lib.ListN.{length, length-map}
use lib.Dec.{eqb, ltb}
use borrow.Author.Tests.{eqb-true, eq-eqb, ltb-true, lt-ltb, not-false}
use Rattle.plan.specs.Bounds.{field_limit, max_steps}
use Rattle.plan.specs.Lists.{all, mem}
use Rattle.plan.specs.Plan.{Belt, Plan, plan_of, indices_of}
use Rattle.plan.specs.Claims.{Unbroken}
use Rattle.plan.specs.Reading.{Accepted, Bytes}
use Rattle.plan.proofs.Lists.{both, and_is, all_is, in_map, map_in, in_mem}
use Rattle.plan.proofs.NamedBelts.{indices_back}
use Rattle.plan.proofs.Reading.{plan_sizes, belt_of_lem, belt_low}
use Rattle.route.specs.Lcsp.{Arc, weight_of, FeasibleBy}
use Rattle.route.specs.Routes.{IsRoute, connects, cost, belts_by_index}
use Rattle.route.specs.Permission.{passes, terms_of, works}
use Rattle.route.specs.Instances.{arc_of, instance_of, joint}
use Rattle.route.specs.Sheets.{sheet_of, Reads, in_form, belts_on, cost_on, setting_on}
use Rattle.route.specs.Refusals.{Case, plan_trip, broken11, broken12, broken13, broken14, route_on, trip_lines, sheet_refusal}
use Rattle.route.specs.Claims.{ReadsSolved, CheckClaim, WrittenClaim, WriterClaim}
use Rattle.route.specs.Values.{ids_of, route_in, case_of}
use Rattle.route.proofs.LcspInstance.{arcs_belts, cost_weight}
use Rattle.route.proofs.LcspFeasible.{joint_feasible, feasible_joint}
use Rattle.route.proofs.RouteIndices.{indexed_map, indices_belts, indexed_in, known_belts, connects_route, route_connects, route_belts, route_few, route_cheap, known_indices}
use Rattle.route.proofs.RulesLowest.{all_modes, lowest_claim}
use Rattle.route.proofs.SheetReading.{round_trip, reading_claim}
use Rattle.route.proofs.SheetLines.{Unrefused, zero_unrefused, unrefused_zero, trip_accepted, trip_ends, ends_inside}

-- ---- line 11

record FineSheet (k : Case) : Type 0 where
  form : in_form k.sheet ≡ true
  known : all (λ (e : ℕ). mem e (indices_of (plan_of k.plan).belts)) (belts_on k.sheet) ≡ true
  low : ltb (setting_on k.sheet) (2 ^ (plan_of k.plan).modes) ≡ true

module _ (k : Case) where
  abbrev formed : Bool
  formed = in_form k.sheet

  abbrev belted : Bool
  belted = all (λ (e : ℕ). mem e (indices_of (plan_of k.plan).belts)) (belts_on k.sheet)

  abbrev low_set : Bool
  low_set = ltb (setting_on k.sheet) (2 ^ (plan_of k.plan).modes)

  fine_sheet : broken11 k ≡ false → FineSheet k
  unfolding broken11
  fine_sheet e =
      let h = both (formed && belted) low_set (not-false (formed && belted && low_set) e) in
      let g = both formed belted h.0 in
      record { form = g.0; known = g.1; low = h.1 }

  sheet_fine : FineSheet k → broken11 k ≡ false
  unfolding broken11
  sheet_fine f = ap not (and_is (formed && belted) low_set (and_is formed belted f.form f.known) f.low)

-- ---- the numbers of arcs are the indices of belts

pub numbers_indices : (r : List Belt) → map (λ (a : Arc). a.number) (map arc_of r) ≡ indices_of r
numbers_indices r = map-map (λ (a : Arc). a.number) arc_of r

-- ---- an accepted sheet reads as a feasible solution

module _ (k : Case) (bytes : Bytes k.sheet) (u : Unrefused k) where
  ok : Accepted k.plan
  ok = trip_accepted (plan_trip k) u.trip

  fine : FineSheet k
  fine = fine_sheet k u.fine_11

  abbrev es : List ℕ
  es = belts_on k.sheet

  route : IsRoute (plan_of k.plan) k.trip.s k.trip.t (route_on k)
  unfolding broken12
  route =
      connects_route ok k.trip.s k.trip.t (route_on k) (indexed_in (plan_of k.plan) es)
      (not-false (connects k.trip.s k.trip.t (route_on k)) u.fine_12)

  indices : indices_of (route_on k) ≡ es
  indices = ap indices_of (indexed_map ok es (known_belts ok es fine.known)) ∙ indices_back k.plan es

  sum : cost (route_on k) ≡ cost_on k.sheet
  unfolding broken13
  sum = eqb-true (cost (route_on k)) (cost_on k.sheet) (not-false (eqb (cost (route_on k)) (cost_on k.sheet)) u.fine_13)

  working : works (terms_of (plan_of k.plan) k.trip) (passes (route_on k)) (setting_on k.sheet) ≡ true
  unfolding broken14
  working = not-false (works (terms_of (plan_of k.plan) k.trip) (passes (route_on k)) (setting_on k.sheet)) u.fine_14

  accepted_solved : ReadsSolved k
  accepted_solved = record {
    belts = es;
    cost = cost_on k.sheet;
    setting = setting_on k.sheet;
    reads = (reading_claim k.sheet bytes).0 fine.form;
    solution = record {
      path = map arc_of (route_on k);
      belts = numbers_indices (route_on k) ∙ indices;
      cost = sym (cost_weight (route_on k)) ∙ sum;
      setting = ltb-true (setting_on k.sheet) (2 ^ (plan_of k.plan).modes) fine.low;
      feasible = joint_feasible ok k.trip (route_on k) (setting_on k.sheet) route working;
    };
  }

-- ---- a sheet that reads as a feasible solution is accepted

module _ (k : Case) (trip : Unbroken trip_lines (plan_trip k)) (x : ReadsSolved k) where
  okay : Accepted k.plan
  okay = trip_accepted (plan_trip k) trip

  abbrev p : Plan
  p = plan_of k.plan

  back : (in_form k.sheet ≡ true) × (belts_on k.sheet ≡ x.belts) × (cost_on k.sheet ≡ x.cost) × (setting_on k.sheet ≡ x.setting)
  back = round_trip k.sheet x.belts x.cost x.setting x.reads

  abbrev r : List Belt
  r = (arcs_belts x.solution.path).0

  is_path : x.solution.path ≡ map arc_of r
  is_path = (arcs_belts x.solution.path).1

  holds_for : IsRoute p k.trip.s k.trip.t r × (works (terms_of p k.trip) (passes r) x.setting ≡ true)
  holds_for =
      feasible_joint okay k.trip r x.setting
      (subst (λ (q : List Arc). FeasibleBy (instance_of p k.trip) q (joint p q x.setting)) is_path x.solution.feasible)

  indices_read : belts_on k.sheet ≡ indices_of r
  indices_read = back.1 ∙ sym x.solution.belts ∙ ap (map (λ (a : Arc). a.number)) is_path ∙ numbers_indices r

  read_is : route_on k ≡ r
  read_is = ap (belts_by_index p) indices_read ∙ indices_belts okay r (route_belts p k.trip.s k.trip.t r holds_for.0)

  all_known : all (λ (e : ℕ). mem e (indices_of p.belts)) (belts_on k.sheet) ≡ true
  all_known = all_is (λ (e : ℕ). mem e (indices_of p.belts)) (belts_on k.sheet) one
    where
      one : (e : ℕ) → Memᴰ e (belts_on k.sheet) → mem e (indices_of p.belts) ≡ true
      one e m =
          let (f, i, q) = map_in (λ (f : Belt). f.index) r (subst (Memᴰ e) indices_read m) in
          let n = in_map (λ (f : Belt). f.index) (route_belts p k.trip.s k.trip.t r holds_for.0 f i) in
          ap (λ (n : ℕ). mem n (indices_of p.belts)) q ∙ in_mem (indices_of p.belts) n

  fine_route : broken12 k ≡ false
  unfolding broken12
  fine_route = ap not (ap (connects k.trip.s k.trip.t) read_is ∙ route_connects p k.trip.s k.trip.t r holds_for.0)

  fine_cost : broken13 k ≡ false
  unfolding broken13
  fine_cost =
      let e : cost (route_on k) ≡ cost_on k.sheet =
      ap cost read_is ∙ cost_weight r ∙ ap weight_of (sym is_path) ∙ x.solution.cost ∙ sym back.2 in
      ap not (eq-eqb (cost (route_on k)) (cost_on k.sheet) e)

  fine_rules : broken14 k ≡ false
  unfolding broken14
  fine_rules = ap not ((λ i. works (terms_of p k.trip) (passes (read_is i)) (back.3 i)) ∙ holds_for.1)

  solved_accepted : sheet_refusal k ≡ 0
  solved_accepted =
      let low : setting_on k.sheet < 2 ^ p.modes = subst (λ (n : ℕ). n < 2 ^ p.modes) (sym back.3) x.solution.setting in
      unrefused_zero k record {
        trip = trip;
        fine_11 = sheet_fine k record { form = back.0; known = all_known; low = lt-ltb (setting_on k.sheet) (2 ^ p.modes) low };
        fine_12 = fine_route;
        fine_13 = fine_cost;
        fine_14 = fine_rules;
      }

pub check_claim : CheckClaim
check_claim k bytes =
    (λ e. let u = zero_unrefused k e in (u.trip, accepted_solved k bytes u), λ h. solved_accepted k h.0 h.1)

-- ---- the sheet of a permitted route

module _ {b : List ℕ} (good : Accepted b) (plan-bytes : Bytes b) (s t : ℕ) (s-low : 1 ≤ s) (t-high : t ≤ (plan_of b).junctions)
    (way : List Belt) (is-route : IsRoute (plan_of b) s t way) (σ : ℕ) (low : σ < 2 ^ (plan_of b).modes) where
  few : length way ≤ max_steps
  few = route_few good s t way s-low t-high is-route

  small : (e : ℕ) → Memᴰ e (indices_of way) → e < field_limit
  small e m =
      let (f, i, q) = map_in (λ (f : Belt). f.index) way m in
      let is = (belt_of_lem good f (route_belts (plan_of b) s t way is-route f i)).0 in
      omega (arith, (belt_low good f.index is).2)

  tiny : σ < field_limit
  tiny = omega (arith, low, all_modes (plan_of b).modes (plan_sizes good).2)

  pub reads_written : Reads (sheet_of (indices_of way) (cost way) σ) (indices_of way) (cost way) σ
  reads_written = record {
    written = refl;
    short = omega (arith, few, length-map way (λ (f : Belt). f.index));
    indices = small;
    cost_fits = omega (arith, route_cheap good plan-bytes s t way t-high is-route);
    setting_fits = tiny;
  }

pub written_claim : WrittenClaim
written_claim k fine bytes r route σ h =
    let b = k.plan in
    let ok = trip_accepted k fine in
    let (s-low, s-high, t-low, t-high) = ends_inside k (trip_ends k fine) in
    let (low, working, first) = ((lowest_claim (terms_of (plan_of b) k.trip) r).0 σ).0 h in
    solved_accepted (case_of b k.trip (sheet_of (indices_of r) (cost r) σ)) fine record {
      belts = indices_of r;
      cost = cost r;
      setting = σ;
      reads = reads_written ok bytes k.trip.s k.trip.t s-low t-high r route σ low;
      solution = record {
        path = map arc_of r;
        belts = numbers_indices r;
        cost = sym (cost_weight r);
        setting = low;
        feasible = joint_feasible ok k.trip r σ route working;
      };
    }

pub writer_claim : WriterClaim
writer_claim k fine bytes v known route sum least =
    let r : List Belt = route_in k.plan v.route in
    let indices : indices_of r ≡ ids_of v.route = known_indices (trip_accepted k fine) v.route known in
    subst (λ (h : List ℕ). sheet_refusal (case_of k.plan k.trip h) ≡ 0) (λ i. sheet_of (indices i) (sym sum i) v.setting)
    (written_claim k fine bytes r route v.setting least)
