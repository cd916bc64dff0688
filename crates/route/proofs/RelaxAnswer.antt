-- The relaxed route, as the code holds it, can be tested, written and checked.
--
--   answer_law   this as it is claimed (AnswerLaw)
--
-- Assumes nothing.
use mathlib.Core.Path.{◌≡◌, sym, ◌∙◌, ap, subst}
use mathlib.Core.Option.{some}
use Prim.Native.Nat.{ℕ, ◌+◌, ◌≤◌}
use mathlib.Core.List.{List, Memᴰ}
use native.Mathlib.Omega.{arith}
use lib.ListN.{length, take, drop, length-map}
use lib.Seq.{sets-eq, take_at}
use Rattle.plan.specs.Bounds.{max_steps}
use Rattle.plan.specs.Plan.{Belt, plan_of, indices_of}
use Rattle.plan.specs.Reading.{Accepted, IsBelt}
use Rattle.plan.proofs.Lists.{map_in}
use Rattle.plan.proofs.Reading.{belt_of_lem}
use Rattle.route.specs.Routes.{IsRoute, belts_by_index}
use Rattle.route.specs.Values.{ids_of, packed, Known, route_in, route_of, first_belts, unbounded, walked_of}
use Rattle.route.specs.Laws.{AnswerLaw}
use Rattle.route.proofs.RouteIndices.{indices_belts, route_few, route_cheap, route_belts, ids_packed}
use Rattle.route.proofs.RelaxBound.{at_most_some}
use Rattle.route.proofs.SubproblemFirst.{relaxed_some}

-- a route between junctions of the plan, as the code holds it
module _ {b : List ℕ} (ok : Accepted b) (s t : ℕ) (r : List Belt) (h : IsRoute (plan_of b) s t r) (low : 1 ≤ s) (high : t ≤ (plan_of b).junctions) where
  few : length (indices_of r) ≤ max_steps
  few = omega (arith, route_few ok s t r low high h, length-map r (λ (e : Belt). e.index))

  known : Known b (packed (indices_of r))
  known = record { belts = belts }
    where
      belts : (e : ℕ) → Memᴰ e (ids_of (packed (indices_of r))) → IsBelt b e
      belts e m =
          let (f, i, q) = map_in (λ (f : Belt). f.index) r (subst (Memᴰ e) (ids_packed (indices_of r) few) m) in
          subst (IsBelt b) (sym q) (belt_of_lem ok f (route_belts (plan_of b) s t r h f i)).0

  same : route_in b (packed (indices_of r)) ≡ r
  same = ap (belts_by_index (plan_of b)) (ids_packed (indices_of r) few) ∙ indices_belts ok r (route_belts (plan_of b) s t r h)

-- belts that were put into room are read back
stands : (r : List Belt) → length r ≤ max_steps → (room : List ℕ) → length room ≡ max_steps → first_belts (length r) (walked_of (some r) room) ≡ route_of r
stands r h room size =
    let many : length (indices_of r) ≡ length r = length-map r (λ (e : Belt). e.index) in
    ap packed
    (ap (take (length r)) (sets-eq (indices_of r) room 0 (omega arith)) ∙ take_at (indices_of r) (drop (0 + length (indices_of r)) room) (length r) many)

pub answer_law : AnswerLaw
answer_law b ok bytes s t low high x r q =
    let i : IsRoute (plan_of b) s t r = (relaxed_some ok s t x r q).0 in
    let h = few ok s t r i low high in
    let cheap = route_cheap ok bytes s t r high i in
    record {
      few = omega (arith, length-map r (λ (e : Belt). e.index));
      cheap = cheap;
      within = at_most_some unbounded (some r) (omega arith);
      known = known ok s t r i low high;
      indices = ids_packed (indices_of r) h;
      same = same ok s t r i low high;
      back = stands r (omega (arith, length-map r (λ (e : Belt). e.index)));
    }
