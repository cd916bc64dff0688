-- What is claimed of routes, permission and sheets, as types; proofs/Claims.antt proves them all. The contracts of the code say that its
-- answers are what the definitions give; these say what the definitions mean. All are about ALL lists of bytes and ALL trips; `Accepted b` says
-- that b is a plan, `Unbroken trip_lines k` that moreover s and t of the trip k are its junctions, and the lock is not wrong (lines 8 and 15),
-- `Bytes h` that the elements of h are bytes.
--
-- The published definition (source document 000):
--   OrderFreeClaim     conditioning on an assignment does not depend on its order
--   InstanceClaim      a trip through a plan, of which no line is broken, is an instance of the problem
--   MetClaim           a setting works for a route exactly when conditioning the instance's formula by their joint assignment leaves nothing
--   PermittedClaim     a list of belts is a permitted route of the trip exactly when its path is feasible
--   PathsClaim         every feasible path is that of a permitted route
--   CostClaim          the cost of a route is the weight of its path
-- Routes:
--   LowestClaim        `lowest` is the lowest setting that works, and there is none exactly when the route is not permitted
--   UnlockedClaim      where no mode is locked, a setting works exactly when every rule is met under it, so any setting may be chosen
--   MaskClaim          it does not depend on more than which of the named belts a route has: the mask of these has the route's lowest setting
--   OrderClaim         "comes before" is a strict total order on the routes from s to t
--   UpwardClaim        there is no route from s to t where s > t, and only the empty one where s = t
--   RoutesClaim        `routes` lists exactly the routes from s to t, each once
-- Subproblems:
--   RelaxedClaim       `relaxed` is the one admitted route that comes before every other, and there is none exactly when no route is admitted
--   CutClaim           a route from s to t has a belt g that leaves u exactly when s ≤ u < t and no other belt of the route leaves a
--                      junction ≤ u and arrives at one > u
--   EnforcedClaim      so a subproblem admits exactly the routes that each of its required belts restricts in this way and that have no
--                      forbidden belt
-- Sheets:
--   ReadingClaim       bytes are in the form of a sheet exactly when they have a reading, which is what stands in their fields
--   OneReadingClaim    a sheet has at most one reading
--   RoundTripClaim     a sheet reads as what was written
--   FirstRefusalClaim  the check answers n exactly when n is the number of the first broken line, and 0 exactly when none is broken
--   CheckClaim         DEMAND 2: the check accepts exactly when lines 1 to 8 and 15 are unbroken and the sheet reads as belts, cost and setting
--                      that are a feasible solution (Solution) of the instance
--   WrittenClaim       the sheet of a permitted route with its lowest setting is accepted; WriterClaim: and so is what the code writes
--                      of a route that it holds
--
-- Assumes nothing.
use Rattle.std.specs.Prelude.{◌≡◌, ◌⊎◌, ◌↔◌, Bool, true, false, ℕ, ◌^◌, ◌≤◌, ◌<◌}
use Rattle.std.proofs.Math.Option.{none, some}
use mathlib.Core.List.{List, [], ◌++◌, map, Memᴰ}
use Rattle.plan.specs.Plan.{Belt, Plan, plan_of, indices_of}
use Rattle.plan.specs.Claims.{Unbroken, FirstIn}
use Rattle.plan.specs.Reading.{Accepted, Bytes}
use Rattle.route.specs.Lcsp.{Var, Lit, Formula, IsAssignment, ◌given_all◌, Satisfies, Arc, IsInstance, weight_of, FeasibleBy, Feasible}
use Rattle.route.specs.declared.path.Trip.{Trip}
use Rattle.route.specs.declared.sheet.Sheet.{Sheet}
use Rattle.route.specs.Routes.{IsRoute, cost, before, routes, Distinct}
use Rattle.route.specs.Permission.{passes, all_met, Terms, terms_of, works, Permitted, IsPermitted, lowest}
use Rattle.route.specs.Subproblems.{Subproblem, admits, relaxed, Restricts}
use Rattle.route.specs.Instances.{arc_of, instance_of, joint}
use Rattle.route.specs.Sheets.{sheet_of, Reads, in_form, belts_on, cost_on, setting_on}
use Rattle.route.specs.Refusals.{PlanTrip, Case, plan_trip, trip_lines, check_lines, sheet_refusal}
use Rattle.route.specs.Values.{Known, route_in, bytes_of, mask_of, has_belt, case_of}

-- ---- the published definition

abbrev pub OrderFreeClaim : Type 0
OrderFreeClaim = (X : List Var) (T U : List Lit) (Φ : Formula) → IsAssignment X T
    → ((l : Lit) → Memᴰ l T ↔ Memᴰ l U) → Φ given_all T ≡ Φ given_all U

abbrev pub InstanceClaim : Type 0
InstanceClaim = (k : PlanTrip) → Unbroken trip_lines k → IsInstance (instance_of (plan_of k.plan) k.trip)

abbrev pub MetClaim : Type 0
MetClaim = (b : List ℕ) → Accepted b → (trip : Trip) (r : List Belt) (σ : ℕ)
    → (works (terms_of (plan_of b) trip) (passes r) σ ≡ true) ↔ Satisfies (joint (plan_of b) (map arc_of r) σ) (instance_of (plan_of b) trip).formula

abbrev pub PermittedClaim : Type 0
PermittedClaim = (b : List ℕ) → Accepted b → (trip : Trip) (r : List Belt)
    → IsPermitted (plan_of b) trip r ↔ Feasible (instance_of (plan_of b) trip) (map arc_of r)

abbrev pub PathsClaim : Type 0
PathsClaim = (b : List ℕ) → Accepted b → (trip : Trip) (q : List Arc) → Feasible (instance_of (plan_of b) trip) q
    → (r : List Belt) × (q ≡ map arc_of r) × IsPermitted (plan_of b) trip r

abbrev pub CostClaim : Type 0
CostClaim = (r : List Belt) → cost r ≡ weight_of (map arc_of r)

-- ---- routes

abbrev pub LowestClaim : Type 0
LowestClaim = (terms : Terms) (r : List Belt) →
    ((σ : ℕ) → (lowest terms (passes r) ≡ some σ)
    ↔ ((σ < 2 ^ terms.modes) × (works terms (passes r) σ ≡ true) × ((τ : ℕ) → τ < σ → works terms (passes r) τ ≡ false)))
    × ((lowest terms (passes r) ≡ none) ↔ (Permitted terms r → ⊥))

abbrev pub UnlockedClaim : Type 0
UnlockedClaim = (p : Plan) (trip : Trip) → trip.lock.mask ≡ 0 → (on : ℕ → Bool) (σ : ℕ)
    → works (terms_of p trip) on σ ≡ all_met p.rules on σ

abbrev pub MaskClaim : Type 0
MaskClaim = (b : List ℕ) → Accepted b → (trip : Trip) (r : List Belt) → ((e : Belt) → Memᴰ e r → Memᴰ e (plan_of b).belts)
    → lowest (terms_of (plan_of b) trip) (has_belt b (mask_of b (indices_of r))) ≡ lowest (terms_of (plan_of b) trip) (passes r)

-- irreflexive, transitive, and of two different routes one comes before the other; and no route goes on where another ends, so that
-- two different ones have a first difference
abbrev pub OrderClaim : Type 0
OrderClaim = (b : List ℕ) → Accepted b → (s t : ℕ) →
    ((x : List Belt) → before x x ≡ false)
    × ((x y z : List Belt) → before x y ≡ true → before y z ≡ true → before x z ≡ true)
    × ((x y : List Belt) → IsRoute (plan_of b) s t x → IsRoute (plan_of b) s t y → (x ≡ y → ⊥) → (before x y ≡ true) ⊎ (before y x ≡ true))
    × ((x y : List Belt) → IsRoute (plan_of b) s t x → IsRoute (plan_of b) s t (x ++ y) → y ≡ [])

abbrev pub UpwardClaim : Type 0
UpwardClaim = (b : List ℕ) → Accepted b → (s t : ℕ) (r : List Belt) → IsRoute (plan_of b) s t r → (s ≤ t) × (s ≡ t → r ≡ [])

abbrev pub RoutesClaim : Type 0
RoutesClaim = (b : List ℕ) → Accepted b → (s t : ℕ)
    → ((r : List Belt) → Memᴰ r (routes (plan_of b) s t) ↔ IsRoute (plan_of b) s t r) × Distinct (routes (plan_of b) s t)

-- ---- subproblems

abbrev pub RelaxedClaim : Type 0
RelaxedClaim = (b : List ℕ) → Accepted b → (s t : ℕ) (x : Subproblem) →
    ((r : List Belt) → (relaxed (plan_of b) s t x ≡ some r)
    ↔ (IsRoute (plan_of b) s t r × (admits x r ≡ true)
    × ((q : List Belt) → IsRoute (plan_of b) s t q → admits x q ≡ true → (q ≡ r → ⊥) → before r q ≡ true)))
    × ((relaxed (plan_of b) s t x ≡ none) ↔ ((q : List Belt) → IsRoute (plan_of b) s t q → admits x q ≡ true → ⊥))

abbrev pub CutClaim : Type 0
CutClaim = (b : List ℕ) → Accepted b → (s t : ℕ) (r : List Belt) → IsRoute (plan_of b) s t r
    → (g : Belt) → Memᴰ g (plan_of b).belts → (passes r g.index ≡ true) ↔ Restricts s t g r

abbrev pub EnforcedClaim : Type 0
EnforcedClaim = (b : List ℕ) → Accepted b → (s t : ℕ) (r : List Belt) → IsRoute (plan_of b) s t r
    → (x : Subproblem) → ((e : ℕ) → Memᴰ e x.required → Memᴰ e (indices_of (plan_of b).belts))
    → (admits x r ≡ true)
    ↔ (((g : Belt) → Memᴰ g (plan_of b).belts → Memᴰ g.index x.required → Restricts s t g r)
    × ((e : ℕ) → Memᴰ e x.forbidden → passes r e ≡ false))

-- ---- sheets

abbrev pub ReadingClaim : Type 0
ReadingClaim = (h : List ℕ) → Bytes h → (in_form h ≡ true) ↔ Reads h (belts_on h) (cost_on h) (setting_on h)

abbrev pub OneReadingClaim : Type 0
OneReadingClaim = (h es fs : List ℕ) (c d σ τ : ℕ) → Reads h es c σ → Reads h fs d τ → (es ≡ fs) × (c ≡ d) × (σ ≡ τ)

abbrev pub RoundTripClaim : Type 0
RoundTripClaim = (h es : List ℕ) (c σ : ℕ) → Reads h es c σ → (in_form h ≡ true) × (belts_on h ≡ es) × (cost_on h ≡ c) × (setting_on h ≡ σ)

abbrev pub FirstRefusalClaim : Type 0
FirstRefusalClaim = (k : Case) (n : ℕ) → (sheet_refusal k ≡ n) ↔ (((n ≡ 0) × Unbroken check_lines k) ⊎ FirstIn check_lines k n)

-- the belts es, the cost c and the setting σ are a feasible solution of the instance of a trip through plan b: σ is a setting of the plan's
-- modes, there is a path of these arcs and this weight, and by the joint assignment of path and setting it is feasible
pub record Solution (b : List ℕ) (trip : Trip) (es : List ℕ) (c σ : ℕ) : Type 0 where
  pub path : List Arc
  pub belts : map (λ (a : Arc). a.number) path ≡ es
  pub cost : weight_of path ≡ c
  pub setting : σ < 2 ^ (plan_of b).modes
  pub feasible : FeasibleBy (instance_of (plan_of b) trip) path (joint (plan_of b) path σ)

-- a reading of the sheet that is a feasible solution
pub record ReadsSolved (k : Case) : Type 0 where
  pub belts : List ℕ
  pub cost : ℕ
  pub setting : ℕ
  pub reads : Reads k.sheet belts cost setting
  pub solution : Solution k.plan k.trip belts cost setting

abbrev pub CheckClaim : Type 0
CheckClaim = (k : Case) → Bytes k.sheet → (sheet_refusal k ≡ 0) ↔ (Unbroken trip_lines (plan_trip k) × ReadsSolved k)

abbrev pub WrittenClaim : Type 0
WrittenClaim = (k : PlanTrip) → Unbroken trip_lines k → Bytes k.plan → (r : List Belt) → IsRoute (plan_of k.plan) k.trip.s k.trip.t r
    → (σ : ℕ) → lowest (terms_of (plan_of k.plan) k.trip) (passes r) ≡ some σ
    → sheet_refusal (case_of k.plan k.trip (sheet_of (indices_of r) (cost r) σ)) ≡ 0

abbrev pub WriterClaim : Type 0
WriterClaim = (k : PlanTrip) → Unbroken trip_lines k → Bytes k.plan → (v : Sheet) → Known k.plan v.route
    → IsRoute (plan_of k.plan) k.trip.s k.trip.t (route_in k.plan v.route)
    → v.cost ≡ cost (route_in k.plan v.route)
    → lowest (terms_of (plan_of k.plan) k.trip) (passes (route_in k.plan v.route)) ≡ some v.setting
    → sheet_refusal (case_of k.plan k.trip (bytes_of v)) ≡ 0

-- all of them
pub record Claims : Type 0 where
  pub order_free : OrderFreeClaim
  pub is_instance : InstanceClaim
  pub met : MetClaim
  pub permitted : PermittedClaim
  pub paths : PathsClaim
  pub cost : CostClaim
  pub lowest : LowestClaim
  pub unlocked : UnlockedClaim
  pub mask : MaskClaim
  pub order : OrderClaim
  pub upward : UpwardClaim
  pub routes : RoutesClaim
  pub relaxed : RelaxedClaim
  pub cut : CutClaim
  pub enforced : EnforcedClaim
  pub reading : ReadingClaim
  pub one_reading : OneReadingClaim
  pub round_trip : RoundTripClaim
  pub first_refusal : FirstRefusalClaim
  pub check : CheckClaim
  pub written : WrittenClaim
  pub writer : WriterClaim
