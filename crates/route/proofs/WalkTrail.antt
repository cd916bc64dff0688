-- The walk along a trail.
--
--   Walked places ways t start whole at count stored m
--                  the walk has come to place at: what is left of the trail `whole`, stored and gathered from here on, gives what the whole gives
--   walked_start   it starts with nothing stored
--   Step           the walk can go on by the link of its place
--   walked_next    so it can where place t is not reached
--   walked_end     where it is, everything is stored
--   route_trail    a route that the table traces is a trail
--
-- Assumes nothing.
use mathlib.Core.Path.{◌≡◌, refl, sym, ◌∙◌, ap, subst}
use Prim.Native.Nat.{ℕ, suc, ◌+◌, ◌-◌, ◌/◌, ◌%◌, ◌≤◌, ◌<◌}
use mathlib.Core.List.{List, [], ◌∷◌}
use native.Mathlib.Omega.{arith}
use native.Mathlib.Numerals.{add-one}
use lib.ListN.{length, set}
use lib.Seq.{sets}
use Rattle.plan.specs.Bounds.{max_junctions, max_records}
use Rattle.plan.specs.Plan.{Belt, plan_of, indices_of, place_in}
use Rattle.plan.specs.Reading.{Accepted}
use Rattle.plan.proofs.Reading.{belt_of_lem, belt_low, belt_ends}
use Rattle.route.specs.declared.ways.Way.{Way}
use Rattle.route.specs.declared.relax.Summary.{Summary}
use Rattle.route.specs.Routes.{IsRoute}
use Rattle.route.specs.Values.{with_place, gathered_in}
use Rattle.route.specs.Ways.{link_at, Traces}
use Rattle.route.specs.Walks.{Trail, walk_as}
use Rattle.route.proofs.RouteIndices.{route_length}

-- ---- the walk

-- a trail has no more belts than there are places
trail_length : (ways : List Way) (i t : ℕ) (r : List Belt) → Trail ways i t r → i + length r ≤ t
trail_length ways i t [] h = omega arith
trail_length ways i t (e ∷ r) h = omega (arith, h.0.up, trail_length ways (e.leads - 1) t r h.1)

pub record Walked (places : List ℕ) (ways : List Way) (t : ℕ) (start : List ℕ) (whole : List Belt) (at count : ℕ) (stored : List ℕ) (m : ℕ) : Type 0 where
  left : List Belt
  trail : Trail ways at t left
  few : length whole ≤ t
  counts : count + length left ≡ length whole
  stores : sets stored count (indices_of left) ≡ sets start 0 (indices_of whole)
  gathers : gathered_in places m (indices_of left) ≡ gathered_in places 0 (indices_of whole)

pub record Step (places : List ℕ) (ways : List Way) (t : ℕ) (start : List ℕ) (whole : List Belt) (at count : ℕ) (stored : List ℕ) (m : ℕ) : Type 0 where
  pub room : count < t
  pub index : link_at ways at / max_junctions < max_records
  pub higher : at < link_at ways at % max_junctions
  pub inside : link_at ways at % max_junctions ≤ t
  pub walked : let e = link_at ways at / max_junctions in
      Walked places ways t start whole (link_at ways at % max_junctions) (count + 1) (set stored count e) (with_place m (place_in places e))

module _ {places : List ℕ} {ways : List Way} {t : ℕ} {start : List ℕ} {whole : List Belt} where
  pub walked_start : (s : ℕ) → Trail ways s t whole → Walked places ways t start whole s 0 start 0
  walked_start s h = record {
    left = whole;
    trail = h;
    few = omega (arith, trail_length ways s t whole h);
    counts = omega arith;
    stores = refl;
    gathers = refl;
  }

  module _ {at count : ℕ} {stored : List ℕ} {m : ℕ} (w : Walked places ways t start whole at count stored m) where
    pub walked_next : t < max_junctions → (at ≡ t → ⊥) → Step places ways t start whole at count stored m
    walked_next inside past = go w.left refl
      where
        go : (l : List Belt) → w.left ≡ l → Step places ways t start whole at count stored m
        go [] q = absurd (past (subst (Trail ways at t) q w.trail))
        go (e ∷ r) q =
            let (lead, rest) = subst (Trail ways at t) q w.trail in
            let index = lead.index in
            let up = lead.up in
            let top = lead.top in
            let link = lead.link in
            let name : link_at ways at / max_junctions ≡ e.index = omega arith in
            let head : link_at ways at % max_junctions ≡ e.leads - 1 = omega arith in
            let size : length w.left ≡ suc (length r) = ap length q in
            record {
              room = omega (arith, w.counts, w.few);
              index = omega arith;
              higher = omega arith;
              inside = omega arith;
              walked = record {
                left = r;
                trail = subst (λ (i : ℕ). Trail ways i t r) (sym head) rest;
                few = w.few;
                counts = omega (arith, w.counts);
                stores = ap (λ (n : ℕ). sets (set stored count n) (count + 1) (indices_of r)) name
                    ∙ ap (λ (k : ℕ). sets (set stored count e.index) k (indices_of r)) (add-one count)
                    ∙ sym (ap (λ (l : List Belt). sets stored count (indices_of l)) q)
                    ∙ w.stores;
                gathers = ap (λ (n : ℕ). gathered_in places (with_place m (place_in places n)) (indices_of r)) name
                    ∙ sym (ap (λ (l : List Belt). gathered_in places m (indices_of l)) q)
                    ∙ w.gathers;
              };
            }

    pub walked_end : (c : ℕ) → at ≡ t
        → (◌≡◌ {A = Summary} (record { cost = c; count = count; named = m }) (walk_as places c whole)) × (stored ≡ sets start 0 (indices_of whole))
    walked_end c end =
        let none_left = nothing w.left w.trail in
        let size : length w.left ≡ 0 = ap length none_left in
        let counted : count ≡ length whole = omega (arith, w.counts) in
        let gathered = sym (ap (λ (l : List Belt). gathered_in places m (indices_of l)) none_left) ∙ w.gathers in (
          (λ i. record { cost = c; count = counted i; named = gathered i }),
          sym (ap (λ (l : List Belt). sets stored count (indices_of l)) none_left) ∙ w.stores,
        )
      where
        nothing : (l : List Belt) → Trail ways at t l → l ≡ []
        nothing [] h = refl
        nothing (e ∷ r) h = absurd (omega (arith, h.0.up, h.0.top))

-- ---- the trail of a route

module _ {b : List ℕ} (ok : Accepted b) (ways : List Way) (t : ℕ) where
  pub route_trail : (i : ℕ) (r : List Belt) → IsRoute (plan_of b) (suc i) (suc t) r → Traces ways r → Trail ways i t r
  route_trail i [] h tr = let q : suc i ≡ suc t = h in omega arith
  route_trail i (e ∷ r) h tr =
      let (from, up, top) = belt_ends ok e h.0 in
      let at : e.leaves - 1 ≡ i = omega (arith, h.1) in
      let back : e.leads ≡ suc (e.leads - 1) = omega arith in (
        record {
          link = ap (link_at ways) (sym at) ∙ tr.0;
          index = (belt_low ok e.index (belt_of_lem ok e h.0).0).2;
          up = omega arith;
          top = omega (arith, route_length ok e.leads (suc t) r h.2);
        },
        route_trail (e.leads - 1) r (subst (λ (j : ℕ). IsRoute (plan_of b) j (suc t) r) back h.2) tr.1,
      )
