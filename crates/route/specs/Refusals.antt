-- The check of a sheet against a plan: lines 1 to 8 and 11 to 14 of paper 01's table "Causes of refusal", and line 15 of paper 02, each a
-- sentence of its own that is true where the line is broken, and the first broken one.
--
--   PlanTrip            a plan's bytes and a trip
--   Case                a plan's bytes, a trip and a sheet's bytes; plan_trip k: the first two
--   broken8, broken15, broken11 to broken14
--                       the line is broken. A sentence means what the paper says where the lines before it are unbroken
--   line8, line15, line11 to line14
--                       the lines, each with its number
--   route_on k           the belts that the sheet names
--   trip_lines           lines 1 to 8 and 15, in the order in which they count: what is asked of a plan and a trip, whatever is done with them
--   check_lines          those of the sheet check: trip_lines, and 11 to 14
--   sheet_refusal k      the number of the first broken one, or 0
--
-- The check's number is that of its answer (`number_of`, plan/Refusals). Assumes nothing.
use Rattle.std.specs.Prelude.{ℕ, ◌^◌, Bool, not, ◌&&◌, List, [], ◌∷◌, ◌++◌, map, eqb, ltb}
use Rattle.plan.specs.Lists.{all, mem}
use Rattle.plan.specs.Plan.{Belt, plan_of, indices_of}
use Rattle.plan.specs.Refusals.{Line, about, plan_lines, first_broken}
use Rattle.route.specs.declared.path.Trip.{Trip}
use Rattle.route.specs.Routes.{wrong_ends, connects, cost, belts_by_index}
use Rattle.route.specs.Permission.{passes, wrong_lock, terms_of, works}
use Rattle.route.specs.Sheets.{in_form, belts_on, cost_on, setting_on}

pub record PlanTrip : Type 0 where
  pub plan : List ℕ
  pub trip : Trip

pub record Case : Type 0 where
  pub plan : List ℕ
  pub trip : Trip
  pub sheet : List ℕ

abbrev pub plan_trip : Case → PlanTrip
plan_trip k = record { plan = k.plan; trip = k.trip }

-- 8: s or t outside 1 to J
unfoldable pub broken8 : PlanTrip → Bool
broken8 k = wrong_ends (plan_of k.plan) k.trip.s k.trip.t

-- 15: mask with a bit at or above M, or a value with a bit outside the mask
unfoldable pub broken15 : PlanTrip → Bool
broken15 k = wrong_lock (plan_of k.plan) k.trip.lock

-- 11: sheet empty, over 3,072 bytes, not in the form, a step whose f2 is no belt's index, or setting 2^M or more
unfoldable pub broken11 : Case → Bool
broken11 k =
    not (in_form k.sheet
    && all (λ (e : ℕ). mem e (indices_of (plan_of k.plan).belts)) (belts_on k.sheet)
    && ltb (setting_on k.sheet) (2 ^ (plan_of k.plan).modes))

abbrev pub route_on : Case → List Belt
route_on k = belts_by_index (plan_of k.plan) (belts_on k.sheet)

-- 12: belts not a route from s to t
unfoldable pub broken12 : Case → Bool
broken12 k = not (connects k.trip.s k.trip.t (route_on k))

-- 13: cost differs from the sum
unfoldable pub broken13 : Case → Bool
broken13 k = not (eqb (cost (route_on k)) (cost_on k.sheet))

-- 14: a rule not met under the sheet's setting, or a setting that breaks the lock
unfoldable pub broken14 : Case → Bool
broken14 k = not (works (terms_of (plan_of k.plan) k.trip) (passes (route_on k)) (setting_on k.sheet))

-- ---- the lines in the order in which they count

abbrev pub line8 : Line PlanTrip
line8 = record { number = 8; broken = broken8 }

abbrev pub line15 : Line PlanTrip
line15 = record { number = 15; broken = broken15 }

abbrev pub line11 : Line Case
line11 = record { number = 11; broken = broken11 }

abbrev pub line12 : Line Case
line12 = record { number = 12; broken = broken12 }

abbrev pub line13 : Line Case
line13 = record { number = 13; broken = broken13 }

abbrev pub line14 : Line Case
line14 = record { number = 14; broken = broken14 }

abbrev pub trip_lines : List (Line PlanTrip)
trip_lines = map (about (λ (k : PlanTrip). k.plan)) plan_lines ++ line8 ∷ line15 ∷ []

abbrev pub sheet_lines : List (Line Case)
sheet_lines = line11 ∷ line12 ∷ line13 ∷ line14 ∷ []

abbrev pub check_lines : List (Line Case)
check_lines = map (about plan_trip) trip_lines ++ sheet_lines

unfoldable pub sheet_refusal : Case → ℕ
sheet_refusal k = first_broken check_lines k
