-- What the pass answers, and the relaxed route of a trip.
--
--   ends_within    s and t are junctions, and have places in the table
--   none_past      where t is before s there is no relaxed route
--   Gives words numbers due forbidden bound s t way ways
--                  the pass from place s to place t answers `way`, and leaves its table in `ways`
--   pass_lost      where it answers that there is no way, there is no relaxed route within the bound
--   Answer         a relaxed route within the bound, its cost, which the pass answers, and its trail in the table
--   pass_found     where it answers a cost there is such a route
--
-- Assumes nothing.
use mathlib.Core.Path.{◌≡◌, refl, sym, ◌∙◌, ap}
use mathlib.Core.Logic.{◌⊎◌, inl, inr}
use mathlib.Core.Bool.{true, false, ◌&&◌}
use mathlib.Core.Option.{Option, none, some}
use Rattle.std.proofs.Common.{Some, None}
use Rattle.std.specs.declared.option.Option as answer
use Prim.Native.Nat.{ℕ, suc, ◌-◌, ◌≤◌, ◌<◌}
use mathlib.Core.List.{List}
use native.Mathlib.Omega.{arith}
use lib.Bits.{bit_and}
use lib.Dec.{leb, ltb}
use borrow.Author.Tests.{leb-true, leb-false}
use Rattle.plan.specs.Bounds.{max_junctions}
use Rattle.plan.specs.Plan.{Belt, plan_of}
use Rattle.plan.specs.Words.{tail_place_at, named_at}
use Rattle.plan.proofs.Lists.{test}
use Rattle.plan.proofs.Reading.{plan_sizes}
use Rattle.route.specs.declared.ways.Way.{Way}
use Rattle.route.specs.declared.relax.Fixings.{Fixings}
use Rattle.route.specs.Routes.{IsRoute, cost, wrong_ends}
use Rattle.route.specs.Subproblems.{Subproblem, relaxed}
use Rattle.route.specs.Values.{subproblem_in, at_most, Graph}
use Rattle.route.specs.Ways.{bit, cost_of, Asked, Traces}
use Rattle.route.specs.Walks.{Trail}
use Rattle.route.proofs.RouteIndices.{ends_junctions}
use Rattle.route.proofs.SubproblemFirst.{relaxed_some}
use Rattle.route.proofs.RelaxBound.{at_most_none, at_most_some}
use Rattle.route.proofs.RelaxOnward.{relaxed_past}
use Rattle.route.proofs.RelaxAsked.{graph_asked}
use Rattle.route.proofs.WalkTrail.{route_trail}

-- ---- the relaxed route of a trip

abbrev pub Gives : List ℕ → List ℕ → ℕ → ℕ → ℕ → ℕ → ℕ → answer.Option ℕ → List Way → Type 0
Gives words numbers due forbidden bound s t way ways =
    (b : List ℕ) (x : Subproblem) → Asked b x words numbers due forbidden t
    → (way ≡ cost_of (at_most bound (relaxed (plan_of b) (suc s) (suc t) x)))
    × ((r : List Belt) → at_most bound (relaxed (plan_of b) (suc s) (suc t) x) ≡ some r → Traces ways r)

pub record Answer (b : List ℕ) (f : Fixings) (bound s t price : ℕ) (ways : List Way) : Type 0 where
  pub route : List Belt
  pub is : at_most bound (relaxed (plan_of b) s t (subproblem_in b f)) ≡ some route
  pub price_is : price ≡ cost route
  pub trail : Trail ways (s - 1) (t - 1) route

no_cost : (o : Option (List Belt)) → cost_of o ≡ None → o ≡ none
no_cost none h = refl
no_cost (some r) h = cc

some_cost : (o : Option (List Belt)) (price : ℕ) → cost_of o ≡ Some price → (r : List Belt) × (o ≡ some r) × (price ≡ cost r)
some_cost none price h = cc
some_cost (some r) price h = (r, refl, cc)

-- a route within a bound is the route
bounded : (bound : ℕ) (o : Option (List Belt)) (r : List Belt) → at_most bound o ≡ some r → o ≡ some r
bounded bound none r h = h
bounded bound (some q) r h = go (test (leb (cost q) bound))
  where
    go : (leb (cost q) bound ≡ true) ⊎ (leb (cost q) bound ≡ false) → ◌≡◌ {A = Option (List Belt)} (some q) (some r)
    go (inl k) = sym (at_most_some bound (some q) (leb-true (cost q) bound k)) ∙ h
    go (inr k) = let lost = at_most_none bound (some q) (leb-false (cost q) bound k) in cc

module _ {b words numbers places : List ℕ} (g : Graph b words numbers places) (f : Fixings) (s t : ℕ) (ends : wrong_ends (plan_of b) s t ≡ false) where
  -- s and t are junctions
  pub ends_within : (1 ≤ s) × (1 ≤ t) × (t ≤ max_junctions)
  ends_within =
      let (from, _, to, high) = ends_junctions (plan_of b) s t ends in
      (from, to, omega (arith, (plan_sizes g.accepted).1))

  pub none_past : t - 1 < s - 1 → relaxed (plan_of b) s t (subproblem_in b f) ≡ none
  none_past l = relaxed_past g.accepted (subproblem_in b f) t s (omega arith)

  -- a junction by its place
  from_place : suc (s - 1) ≡ s
  from_place = omega (arith, (ends_junctions (plan_of b) s t ends).0)

  to_place : suc (t - 1) ≡ t
  to_place = omega (arith, (ends_junctions (plan_of b) s t ends).2)

  by_places : relaxed (plan_of b) (suc (s - 1)) (suc (t - 1)) (subproblem_in b f) ≡ relaxed (plan_of b) s t (subproblem_in b f)
  by_places = λ i. relaxed (plan_of b) (from_place i) (to_place i) (subproblem_in b f)

  module _ (bound : ℕ) {due : ℕ} {way : answer.Option ℕ} (ways : List Way) (apart : bit_and f.required f.forbidden ≡ 0)
      (has : (k : ℕ) → bit due k ≡ (ltb k (named_at numbers) && bit f.required (tail_place_at numbers k)))
      (gives : Gives words numbers due f.forbidden bound (s - 1) (t - 1) way ways) where
    asked : Asked b (subproblem_in b f) words numbers due f.forbidden (t - 1)
    asked = graph_asked g f due (t - 1) has (omega (arith, to_place, (ends_junctions (plan_of b) s t ends).3)) apart

    answered : way ≡ cost_of (at_most bound (relaxed (plan_of b) s t (subproblem_in b f)))
    answered = (gives b (subproblem_in b f) asked).0 ∙ (λ i. cost_of (at_most bound (by_places i)))

    pub pass_lost : way ≡ None → at_most bound (relaxed (plan_of b) s t (subproblem_in b f)) ≡ none
    pass_lost h = no_cost (at_most bound (relaxed (plan_of b) s t (subproblem_in b f))) (sym answered ∙ h)

    pub pass_found : (price : ℕ) → way ≡ Some price → Answer b f bound s t price ways
    pass_found price h =
        let (r, is, priced) = some_cost (at_most bound (relaxed (plan_of b) s t (subproblem_in b f))) price (sym answered ∙ h) in
        let bounded_is = ap (at_most bound) by_places ∙ is in
        let whole = bounded bound (relaxed (plan_of b) (suc (s - 1)) (suc (t - 1)) (subproblem_in b f)) r bounded_is in
        let route : IsRoute (plan_of b) (suc (s - 1)) (suc (t - 1)) r =
        (relaxed_some g.accepted (suc (s - 1)) (suc (t - 1)) (subproblem_in b f) r whole).0 in
        record {
          route = r;
          is = is;
          price_is = priced;
          trail = route_trail g.accepted ways (t - 1) (s - 1) r route ((gives b (subproblem_in b f) asked).1 r bounded_is);
        }
