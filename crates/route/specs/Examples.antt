-- Worked out by computation: plan P of paper 01 and its neighbours, against the definitions of this crate. Assumes nothing.
--
--   sheet_p            the sheet of E1: belt 5, cost 9, setting 0
--   plan_e10           P with the only rule "not belt 4, or mode 1"
--   plan_empty         P and a rule without literals
--   plan_twins         twin belts 4 and 5, and belt 6 that costs as much as either of them with belt 7
use Rattle.std.specs.Prelude.{◌≡◌, refl, true, ℕ, List, [], ◌∷◌, ◌++◌, map}
use Rattle.std.proofs.Math.Option.{Option, none, some}
use Rattle.plan.specs.Records.{record_of, row_of, fits, links_at, links}
use Rattle.plan.specs.Plan.{Plan, plan_of, named, indices_of}
use Rattle.plan.specs.Refusals.{broken1, broken2, broken3, broken4, broken5, broken6, broken7}
use Rattle.plan.specs.Examples.{plan_p}
use Rattle.route.specs.Lcsp.{Formula, ◌given_all◌}
use Rattle.route.specs.Routes.{before, routes, belts_by_index}
use Rattle.route.specs.declared.path.Trip.{Trip}
use Rattle.route.specs.Permission.{passes, no_lock, terms_of, lowest}
use Rattle.route.specs.Subproblems.{Subproblem, relaxed}
use Rattle.route.specs.Instances.{arc_of, instance_of, joint}
use Rattle.route.specs.Sheets.{sheet_of, in_form}
use Rattle.route.specs.Values.{subproblem_in}
use Rattle.route.specs.Refusals.{broken8, broken15, broken11, broken12, broken13, broken14, sheet_refusal}

-- ---- routes of P

-- from 1 to 3 by belts 4 and 6, or by belt 5; none from 3 to 1, and the empty one from 1 to 1
routes_1_3 : map indices_of (routes (plan_of plan_p) 1 3) ≡ (4 ∷ 6 ∷ []) ∷ (5 ∷ []) ∷ []
unfolding plan_p plan_of
routes_1_3 = refl

routes_3_1 : routes (plan_of plan_p) 3 1 ≡ []
unfolding plan_p plan_of
routes_3_1 = refl

routes_1_1 : routes (plan_of plan_p) 1 1 ≡ [] ∷ []
unfolding plan_p plan_of
routes_1_1 = refl

-- 4 6 costs 7 and 5 costs 9
cheaper : before (belts_by_index (plan_of plan_p) (4 ∷ 6 ∷ [])) (belts_by_index (plan_of plan_p) (5 ∷ [])) ≡ true
unfolding plan_p plan_of
cheaper = refl

-- ---- permission

abbrev from_1_to_3 : Trip
from_1_to_3 = record { s = 1; t = 3; lock = no_lock }

-- the same with these modes locked, and these of them on
abbrev locked_1_to_3 : ℕ → ℕ → Trip
locked_1_to_3 mask values = record { s = 1; t = 3; lock = record { mask = mask; values = values } }

abbrev lowest_in : List ℕ → Trip → List ℕ → Option ℕ
lowest_in b trip es = lowest (terms_of (plan_of b) trip) (passes (belts_by_index (plan_of b) es))

abbrev lowest_of : List ℕ → List ℕ → Option ℕ
lowest_of b es = lowest_in b from_1_to_3 es

-- the rule: not belt 4, or not belt 6
P_5 : lowest_of plan_p (5 ∷ []) ≡ some 0
unfolding plan_p plan_of
P_5 = refl

P_4_6 : lowest_of plan_p (4 ∷ 6 ∷ []) ≡ none
unfolding plan_p plan_of
P_4_6 = refl

-- what conditioning by the joint assignment of these belts and this setting leaves of the formula
abbrev leaves : List ℕ → Trip → List ℕ → ℕ → Formula
leaves b trip es σ = (instance_of (plan_of b) trip).formula given_all joint (plan_of b) (map arc_of (belts_by_index (plan_of b) es)) σ

-- conditioning by the joint assignment of belt 5 and setting 0 leaves nothing; that of belts 4 and 6 leaves the empty clause
p_5_leaves : leaves plan_p from_1_to_3 (5 ∷ []) 0 ≡ []
unfolding plan_p plan_of
p_5_leaves = refl

p_4_6_leaves : leaves plan_p from_1_to_3 (4 ∷ 6 ∷ []) 1 ≡ [] ∷ []
unfolding plan_p plan_of
p_4_6_leaves = refl

pub plan_e10 : List ℕ
plan_e10 =
    record_of 7 3 1 7 10 0
    ++ record_of 1 4 0 0 0 0
    ++ record_of 1 6 0 0 0 0
    ++ record_of 1 0 0 0 0 0
    ++ record_of 2 5 2 3 0 0
    ++ record_of 2 0 3 9 0 0
    ++ record_of 2 0 3 4 0 0
    ++ record_of 3 0 8 0 0 0
    ++ record_of 4 9 0 0 4 0
    ++ record_of 4 0 1 1 1 0

-- belt 4 needs mode 1 on
E10_4_6 : lowest_of plan_e10 (4 ∷ 6 ∷ []) ≡ some 1
unfolding plan_e10 plan_of
E10_4_6 = refl

-- locked off belt 4 is not permitted, and the clause of the lock is what conditioning leaves unmet; locked on, the mode counts for belt 5 too
e10_4_6_off : lowest_in plan_e10 (locked_1_to_3 1 0) (4 ∷ 6 ∷ []) ≡ none
unfolding plan_e10 plan_of
e10_4_6_off = refl

e10_4_6_off_leaves : leaves plan_e10 (locked_1_to_3 1 0) (4 ∷ 6 ∷ []) 1 ≡ [] ∷ []
unfolding plan_e10 plan_of
e10_4_6_off_leaves = refl

e10_5_on : lowest_in plan_e10 (locked_1_to_3 1 1) (5 ∷ []) ≡ some 1
unfolding plan_e10 plan_of
e10_5_on = refl

pub plan_empty : List ℕ
plan_empty =
    record_of 7 3 1 7 11 0
    ++ record_of 1 4 0 0 0 0
    ++ record_of 1 6 0 0 0 0
    ++ record_of 1 0 0 0 0 0
    ++ record_of 2 5 2 3 0 0
    ++ record_of 2 0 3 9 0 0
    ++ record_of 2 0 3 4 0 0
    ++ record_of 3 10 8 0 0 0
    ++ record_of 4 9 0 0 4 0
    ++ record_of 4 0 0 0 6 0
    ++ record_of 3 0 0 0 0 0

-- a rule without literals is never met
empty_5 : lowest_of plan_empty (5 ∷ []) ≡ none
unfolding plan_empty plan_of
empty_5 = refl

-- ---- relaxed routes

abbrev fixing : List ℕ → List ℕ → Subproblem
fixing es fs = record { required = es; forbidden = fs }

-- from 1 to 3 the rule of P is left aside
p_relaxed : relaxed (plan_of plan_p) 1 3 (fixing [] []) ≡ some (belts_by_index (plan_of plan_p) (4 ∷ 6 ∷ []))
unfolding plan_p plan_of relaxed
p_relaxed = refl

p_without_4 : relaxed (plan_of plan_p) 1 3 (fixing [] (4 ∷ [])) ≡ some (belts_by_index (plan_of plan_p) (5 ∷ []))
unfolding plan_p plan_of relaxed
p_without_4 = refl

p_4_without_6 : relaxed (plan_of plan_p) 1 3 (fixing (4 ∷ []) (6 ∷ [])) ≡ none
unfolding plan_p plan_of relaxed
p_4_without_6 = refl

-- belt 4 leaves 1, so no route from 2 has it; belt 6 leaves 2, so no route to 2 has it
p_from_2_with_4 : relaxed (plan_of plan_p) 2 3 (fixing (4 ∷ []) []) ≡ none
unfolding plan_p plan_of relaxed
p_from_2_with_4 = refl

p_to_2_with_6 : relaxed (plan_of plan_p) 1 2 (fixing (6 ∷ []) []) ≡ none
unfolding plan_p plan_of relaxed
p_to_2_with_6 = refl

-- from 1 to 1 the empty route, if nothing is required; from 3 to 1 none
P_1_1 : relaxed (plan_of plan_p) 1 1 (fixing [] (4 ∷ [])) ≡ some []
unfolding plan_p plan_of relaxed
P_1_1 = refl

p_1_1_with_4 : relaxed (plan_of plan_p) 1 1 (fixing (4 ∷ []) []) ≡ none
unfolding plan_p plan_of relaxed
p_1_1_with_4 = refl

P_3_1 : relaxed (plan_of plan_p) 3 1 (fixing [] []) ≡ none
unfolding plan_p plan_of relaxed
P_3_1 = refl

-- P names 4 and 6, at places 0 and 1
p_masks : subproblem_in plan_p (record { required = 2; forbidden = 1 }) ≡ fixing (6 ∷ []) (4 ∷ [])
unfolding plan_p plan_of named
p_masks = refl

abbrev plan_twins : Plan
plan_twins = record {
  junctions = 3;
  modes = 0;
  belts =
      record { index = 4; leaves = 1; leads = 2; cost = 3 }
      ∷ record { index = 5; leaves = 1; leads = 2; cost = 3 }
      ∷ record { index = 6; leaves = 1; leads = 3; cost = 7 }
      ∷ record { index = 7; leaves = 2; leads = 3; cost = 4 }
      ∷ [];
  rules = [];
}

-- all three routes cost 7: the lower index at the first difference decides
twins_relaxed : relaxed plan_twins 1 3 (fixing [] []) ≡ some (belts_by_index plan_twins (4 ∷ 7 ∷ []))
unfolding relaxed
twins_relaxed = refl

twins_without_4 : relaxed plan_twins 1 3 (fixing [] (4 ∷ [])) ≡ some (belts_by_index plan_twins (5 ∷ 7 ∷ []))
unfolding relaxed
twins_without_4 = refl

-- two belts that leave one junction are on no route together
twins_both : relaxed plan_twins 1 3 (fixing (4 ∷ 5 ∷ []) []) ≡ none
unfolding relaxed
twins_both = refl

-- belt 6 jumps over junction 2, which belt 7 leaves
twins_with_7 : relaxed plan_twins 1 3 (fixing (7 ∷ []) (4 ∷ 5 ∷ [])) ≡ none
unfolding relaxed
twins_with_7 = refl

-- ---- sheets

pub sheet_p : List ℕ
sheet_p = record_of 8 1 0 0 9 0 ++ record_of 5 0 5 0 0 0

written : sheet_of (5 ∷ []) 9 0 ≡ sheet_p
unfolding sheet_p
written = refl

written_empty : sheet_of [] 0 0 ≡ record_of 8 0 0 0 0 0
written_empty = refl

-- two steps, a cost of more than 32 bits
written_two : sheet_of (4 ∷ 6 ∷ []) 281470681808900 3 ≡ record_of 8 1 65535 1 4 3 ++ record_of 5 2 4 0 0 0 ++ record_of 5 0 6 0 0 0
written_two = refl

-- the check of P, from 1 to 3: E1's sheet is accepted; belts 4 and 6 break the rule; a high field of the cost counts
abbrev check_p : List ℕ → ℕ
check_p h = sheet_refusal (record { plan = plan_p; trip = from_1_to_3; sheet = h })

accepted : check_p sheet_p ≡ 0
unfolding plan_p sheet_p in_form broken1 broken2 broken3 broken4 broken5 broken6 broken7 broken8 broken15 broken11 broken12 broken13 broken14 row_of fits links_at links plan_of named sheet_refusal
accepted = refl

unmet : check_p (sheet_of (4 ∷ 6 ∷ []) 7 0) ≡ 14
unfolding plan_p sheet_p in_form broken1 broken2 broken3 broken4 broken5 broken6 broken7 broken8 broken15 broken11 broken12 broken13 broken14 row_of fits links_at links plan_of named sheet_refusal
unmet = refl

high_cost : check_p (record_of 8 1 1 0 9 0 ++ record_of 5 0 5 0 0 0) ≡ 13
unfolding plan_p sheet_p in_form broken1 broken2 broken3 broken4 broken5 broken6 broken7 broken8 broken15 broken11 broken12 broken13 broken14 row_of fits links_at links plan_of named sheet_refusal
high_cost = refl
