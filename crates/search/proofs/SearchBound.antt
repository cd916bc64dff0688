-- The bound of a step: the summary of a subproblem's relaxed route, asked for with the bound, tells whether the route improves on the best.
--
--   bound_low         the bound is at most `unbounded`, as the cost of a Route of the plan is
--   Held b k o v      there is a relaxed route o, it costs at most k, and the summary v is of it
--   Tells b o t r k a what the answer a, asked for with the bound k, tells of the relaxed route o and the best r, where t says whether one is held:
--                     a summary is of the relaxed route (held), which improves on the best where it costs less than the bound (less), and where it
--                     costs as much `lower` decides (tied); without a summary it does not improve (lost)
--   tells             this holds of what relaxed_route answers
--   walked_in_size    a step leaves the length of `kept` as it was
--   held_few, held_back
--                     where there is such a relaxed route it has at most max_steps belts, and is read back whole from the array that its belts were stored in
--
-- Costs are compared first, and every route costs less than `unbounded`. Assumes nothing.
use mathlib.Core.Path.{◌≡◌, refl, sym, ◌∙◌, ap, subst}
use mathlib.Core.Logic.{◌⊎◌, inl, inr}
use mathlib.Core.Bool.{Bool, true, false, ◌||◌, true≢false}
use mathlib.Core.Option.{Option, none, some}
use Prim.Native.Nat.{ℕ, ◌≤◌, ◌<◌}
use mathlib.Core.List.{List}
use native.Mathlib.Omega.{arith}
use lib.ListN.{length}
use lib.Dec.{eqb, leb}
use borrow.Author.Tests.{leb-true, leb-false, le-leb, lt-leb, lt-ltb, le-ltb}
use Rattle.std.specs.Prelude.{Some, None}
use Rattle.std.specs.declared.option.Option as answer
use Rattle.plan.specs.Bounds.{max_steps}
use Rattle.plan.specs.Plan.{Belt, plan_of}
use Rattle.plan.specs.Reading.{Accepted, Bytes}
use Rattle.plan.proofs.Lists.{test}
use Rattle.route.specs.declared.belts.Route.{Route}
use Rattle.route.specs.declared.path.Trip.{Trip}
use Rattle.route.specs.declared.relax.Fixings.{Fixings}
use Rattle.route.specs.declared.relax.Summary.{Summary}
use Rattle.route.specs.Routes.{wrong_ends, cost, lower}
use Rattle.route.specs.Values.{Known, route_in, first_belts, subproblem_in, at_most, unbounded, summary_of, summary_as, walked_of}
use Rattle.route.specs.Laws.{Holdable}
use Rattle.route.specs.Inner.{way_cost}
use Rattle.route.proofs.RouteIndices.{known_cheap, ends_junctions}
use Rattle.route.proofs.RouteOrder.{first_eq, first_ne}
use Rattle.route.proofs.RelaxBound.{at_most_none, at_most_some, walked_size}
use Rattle.route.proofs.RelaxAnswer.{answer_law}
use Rattle.search.specs.declared.query.Query.{Query}
use Rattle.search.specs.declared.state.Search.{Search}
use Rattle.search.specs.Search.{improves}
use Rattle.search.specs.Values.{best_in, bound_of, newest_of, relaxed_in, walked_by, walked_in}
use Rattle.search.specs.Inner.{held_as, better_in}

-- ---- the bound

pub bound_low : {b : List ℕ} → Accepted b → Bytes b → (t : Bool) (best : Route) → Known b best → bound_of (best_in b t best) ≤ unbounded
bound_low ok bytes true best k = omega (arith, known_cheap ok bytes best k)
bound_low ok bytes false best k = omega arith

-- ---- the summary

pub record Held (b : List ℕ) (k : ℕ) (o : Option (List Belt)) (v : Summary) : Type 0 where
  pub route : List Belt
  pub is : o ≡ some route
  pub low : cost route ≤ k
  pub within : at_most k o ≡ some route
  pub summary : v ≡ summary_of b route

-- a summary is of the relaxed route, and without one that route costs more than k, if there is one
abbrev Summed : List ℕ → ℕ → Option (List Belt) → answer.Option Summary → Type 0
Summed b k o (Some v) = Held b k o v
Summed b k o None = (r : List Belt) → o ≡ some r → k < cost r

summed : (b : List ℕ) (k : ℕ) (o : Option (List Belt)) → Summed b k o (summary_as b (at_most k o))
summed b k none = λ r q. let z : ◌≡◌ {A = ℕ} 0 1 = cc in absurd (omega arith)
summed b k (some r) = go (test (leb (cost r) k))
  where
    go : (leb (cost r) k ≡ true) ⊎ (leb (cost r) k ≡ false) → Summed b k (some r) (summary_as b (at_most k (some r)))
    go (inl h) =
        let less = leb-true (cost r) k h in
        let same = at_most_some k (some r) less in
        subst (λ (o : Option (List Belt)). Summed b k (some r) (summary_as b o)) (sym same)
        (record { route = r; is = refl; low = less; within = same; summary = refl })
    go (inr h) =
        let more = leb-false (cost r) k h in
        let lost = at_most_none k (some r) more in
        subst (λ (o : Option (List Belt)). Summed b k (some r) (summary_as b o)) (sym lost) (λ q i. omega (arith, ap way_cost i, more))

pub walked_in_size : (b : List ℕ) (q : Query) (v : Search) (room : List ℕ) → length (walked_in b q v room) ≡ length room
walked_in_size b q v room = go (eqb v.count 0 || eqb v.opened q.budget)
  where
    o : Option (List Belt)
    o = at_most v.bound (relaxed_in b q.trip (newest_of v))

    go : (t : Bool) → length (walked_by t o room) ≡ length room
    go true = refl
    go false = walked_size o room

-- ---- whether it improves on the best

improves_less : (b : List ℕ) (r : List Belt) (t : Bool) (best : Route) → cost r ≤ bound_of (best_in b t best)
    → (cost r ≡ bound_of (best_in b t best) → ⊥) → improves r (best_in b t best) ≡ true
improves_less b r false best l d = refl
improves_less b r true best l d =
    first_ne (cost r) (cost (route_in b best)) (lower r (route_in b best)) d ∙ lt-ltb (cost r) (cost (route_in b best)) (omega arith)

improves_more : (b : List ℕ) (r : List Belt) (t : Bool) (best : Route) → cost r < unbounded → bound_of (best_in b t best) < cost r
    → improves r (best_in b t best) ≡ false
improves_more b r false best low l = absurd (omega arith)
improves_more b r true best low l =
    first_ne (cost r) (cost (route_in b best)) (lower r (route_in b best)) (λ e. omega arith) ∙ le-ltb (cost r) (cost (route_in b best)) (omega arith)

-- a route costs as much as the bound only where a best is held: then `lower` decides
improves_tied : (b : List ℕ) (r : List Belt) (t : Bool) (best : Route) → cost r < unbounded → cost r ≡ bound_of (best_in b t best)
    → improves r (best_in b t best) ≡ lower r (route_in b best)
improves_tied b r false best low e = absurd (omega arith)
improves_tied b r true best low e = first_eq (cost r) (cost (route_in b best)) (lower r (route_in b best)) e

pub record Tells (b : List ℕ) (o : Option (List Belt)) (t : Bool) (best : Route) (k : ℕ) (a : answer.Option Summary) : Type 0 where
  pub held : (v : Summary) → a ≡ Some v → Held b k o v
  pub lost : a ≡ None → better_in b o t best ≡ false
  pub less : (v : Summary) → Held b k o v → v.cost < k → better_in b o t best ≡ true
  pub tied : (v : Summary) (h : Held b k o v) → k ≤ v.cost → better_in b o t best ≡ lower h.route (route_in b best)

module _ (b : List ℕ) (o : Option (List Belt)) (t : Bool) (best : Route) (k : ℕ) (bound : k ≡ bound_of (best_in b t best))
    (cheap : (r : List Belt) → o ≡ some r → cost r < unbounded) where
  -- a route that costs more than the bound
  dear : ((r : List Belt) → o ≡ some r → k < cost r) → better_in b o t best ≡ false
  dear more = go o refl
    where
      go : (u : Option (List Belt)) → o ≡ u → better_in b u t best ≡ false
      go none q = refl
      go (some r) q = improves_more b r t best (cheap r q) (omega (arith, more r q, bound))

  -- a route within the bound
  of_held : {v : Summary} (h : Held b k o v) {w : Bool} → improves h.route (best_in b t best) ≡ w → better_in b o t best ≡ w
  of_held h e = ap (λ (u : Option (List Belt)). better_in b u t best) h.is ∙ e

  cost_is : {v : Summary} (h : Held b k o v) → v.cost ≡ cost h.route
  cost_is h = ap (λ (w : Summary). w.cost) h.summary

  sum_tells : (a : answer.Option Summary) → Summed b k o a → Tells b o t best k a
  sum_tells a h = record {
    held = λ v e. subst (Summed b k o) e h;
    lost = λ e. dear (subst (Summed b k o) e h);
    less = λ v g l. of_held g (improves_less b g.route t best (omega (arith, g.low, bound)) (λ e. omega (arith, l, cost_is g, e, bound)));
    tied = λ v g l. of_held g (improves_tied b g.route t best (cheap g.route g.is) (omega (arith, l, g.low, cost_is g, bound)));
  }

module _ {b : List ℕ} (ok : Accepted b) (bytes : Bytes b) (q : Trip) (ends : wrong_ends (plan_of b) q.s q.t ≡ false) (f : Fixings) where
  -- what is claimed of the relaxed route
  claim : (r : List Belt) → relaxed_in b q f ≡ some r → Holdable b r
  claim r e =
      let inside = ends_junctions (plan_of b) q.s q.t ends in
      answer_law b ok bytes q.s q.t inside.0 inside.3 (subproblem_in b f) r e

  pub tells : (t : Bool) (best : Route) → Known b best → (k : ℕ) → k ≡ bound_of (best_in b t best) → (a : answer.Option Summary)
      → a ≡ summary_as b (at_most k (relaxed_in b q f)) → Tells b (relaxed_in b q f) t best k a
  tells t best known k bound a e =
      sum_tells b (relaxed_in b q f) t best k bound (λ r i. (claim r i).cheap) a
      (subst (Summed b k (relaxed_in b q f)) (sym e) (summed b k (relaxed_in b q f)))

  module _ {k : ℕ} {v : Summary} (h : Held b k (relaxed_in b q f) v) where
    pub held_few : v.count ≤ max_steps
    held_few = omega (arith, ap (λ (w : Summary). w.count) h.summary, (claim h.route h.is).few)

    pub held_back : (room : List ℕ) → length room ≡ max_steps → first_belts v.count (walked_of (at_most k (relaxed_in b q f)) room) ≡ held_as (relaxed_in b q f)
    held_back room size =
        (λ i. first_belts (h.summary i).count (walked_of (h.within i) room)) ∙ (claim h.route h.is).back room size ∙ sym (ap held_as h.is)
