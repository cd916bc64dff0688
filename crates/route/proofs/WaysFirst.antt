-- The least word is the first way: the cheapest way on from a junction, and of equal ones that whose first belt has the lowest index.
--
--   not_earlier    where one route does not come before another, it does not cost less; if as much, its first belt has no lower index
--   First          what is wanted of the least word v at u: link_limit times the cost of the way on from u, and the link of its first belt
--   way_opens      the way on from u begins with an open belt, and goes on as the way on from its head
--   opens_way      an open belt and the way on from its head are a route that what remains from u on admits
--   first_way      THE LAW: the least by membership (Lowest) is so
--
-- The way on is known, and the least word is compared with the word of its first belt; nothing is folded. Each is not above the other, by the order of
-- numbers c * link_limit + l (WaysWords.antt) and by the order of routes, so they are the same belt. Assumes nothing.
use mathlib.Core.Path.{◌≡◌, refl, sym, ◌∙◌, ap, subst}
use mathlib.Core.Logic.{◌⊎◌, inl, inr, ⊎_elim}
use mathlib.Core.Bool.{Bool, true, false, ◌&&◌}
use mathlib.Core.Option.{Option, none, some, none-ne-some, some-injective}
use Prim.Native.Nat.{ℕ, ◌+◌, ◌*◌, ◌-◌, ◌%◌, ◌≤◌, ◌<◌}
use mathlib.Core.List.{List, [], ◌∷◌, head-eq_of_cons-eq}
use native.Mathlib.Omega.{arith}
use lib.Dec.{eqb, ltb}
use borrow.Author.Tests.{eq-eqb, ltb-false}
use Rattle.plan.specs.Plan.{Belt, plan_of}
use Rattle.plan.specs.Reading.{Accepted, Bytes}
use Rattle.plan.specs.Words.{link_limit, way_limit, far, link_of}
use Rattle.plan.proofs.Lists.{neither}
use Rattle.plan.proofs.Reading.{plan_sizes, belt_index, belt_ends}
use Rattle.route.specs.declared.ways.Way.{Way}
use Rattle.route.specs.Routes.{IsRoute, cost, before, lower}
use Rattle.route.specs.Subproblems.{Subproblem, admits}
use Rattle.route.specs.Inner.{remaining, way_on}
use Rattle.route.proofs.RouteIndices.{route_cheap}
use Rattle.route.proofs.RouteOrder.{upward_claim}
use Rattle.route.proofs.SubproblemFirst.{relaxed_some, relaxed_none}
use Rattle.route.proofs.RelaxOnward.{Owed, Goes, remaining_step, way_route, way_next}
use Rattle.route.specs.Ways.{rest_of, rest_at, over_belt, Opens, Lowest, Cut}
use Rattle.route.proofs.WaysWords.{parts, ordered, link_of_lem}

pub not_earlier : (e f : Belt) (r s : List Belt) → before (f ∷ s) (e ∷ r) ≡ false
    → (cost (e ∷ r) ≤ cost (f ∷ s)) × (cost (f ∷ s) ≡ cost (e ∷ r) → e.index ≤ f.index)
not_earlier e f r s h =
    let (l, k) = neither (ltb (cost (f ∷ s)) (cost (e ∷ r))) (eqb (cost (f ∷ s)) (cost (e ∷ r)) && lower (f ∷ s) (e ∷ r)) h in
    (ltb-false (cost (f ∷ s)) (cost (e ∷ r)) l, λ q. low (subst (λ (t : Bool). (t && lower (f ∷ s) (e ∷ r)) ≡ false) (eq-eqb (cost (f ∷ s)) (cost (e ∷ r)) q) k))
  where
    low : lower (f ∷ s) (e ∷ r) ≡ false → e.index ≤ f.index
    low k = ltb-false f.index e.index (neither (ltb f.index e.index) (eqb f.index e.index && lower s r) k).0

-- the ways over a belt, after the way r and after none
over_some : (ways : List Way) (e : Belt) (r : List Belt) → rest_at ways (e.leads - 1) ≡ rest_of (some r) → over_belt ways e ≡ cost (e ∷ r) * link_limit + link_of e
over_some ways e r h = omega (arith, h)

over_none : (ways : List Way) (e : Belt) → rest_at ways (e.leads - 1) ≡ rest_of none → far ≤ over_belt ways e
over_none ways e h = omega (arith, h)

pub record First (b : List ℕ) (x : Subproblem) (t u v : ℕ) : Type 0 where
  pub price : v - v % link_limit ≡ rest_of (way_on (plan_of b) x t u)
  pub link : (e : Belt) (r : List Belt) → way_on (plan_of b) x t u ≡ some (e ∷ r) → v % link_limit ≡ link_of e

module _ {b : List ℕ} (ok : Accepted b) (bytes : Bytes b) (x : Subproblem) (t : ℕ) (inside : t ≤ (plan_of b).junctions) where
  module _ (u nearest : ℕ) (cut : Cut b x t u nearest) where
    pub way_opens : (e : Belt) (r : List Belt) → way_on (plan_of b) x t u ≡ some (e ∷ r) → Opens b x u nearest e × (way_on (plan_of b) x t e.leads ≡ some r)
    way_opens e r h =
        let (k, a, least) = relaxed_some ok u t (remaining (plan_of b) x t u) (e ∷ r) h in
        let goes = ((remaining_step ok x t u e r k).0 a).0 in
        let (m, leaves, next) = way_next ok x t u e r h in
        (record { belt = m; leaves = leaves; allowed = goes.allowed; near = near goes k.2 leaves }, next)
      where
        near : Goes b x u e → IsRoute (plan_of b) e.leads t r → e.leaves ≡ u → e.leads ≤ nearest
        near goes k leaves =
            ⊎_elim
            (λ q. omega (arith, (upward_claim b ok e.leads t r k).0))
            (λ w.
            let (g, i, n, q) = w in
            let past : nearest < e.leads → ⊥ =
            λ l. let owed : Owed b x e.leads u g = record { belt = i; wanted = n; from = omega (arith, cut.above); before_t = omega arith } in
            omega (arith, cut.above, ap (λ (d : Belt). d.leaves) (goes.only g owed)) in
            omega arith)
            cut.reached

    pub opens_way : (e : Belt) (r : List Belt) → Opens b x u nearest e → way_on (plan_of b) x t e.leads ≡ some r
        → IsRoute (plan_of b) u t (e ∷ r) × (admits (remaining (plan_of b) x t u) (e ∷ r) ≡ true)
    opens_way e r o h =
        let route : IsRoute (plan_of b) u t (e ∷ r) = (o.belt, o.leaves, way_route ok x t e.leads r h) in (
          route,
          (remaining_step ok x t u e r route).1 (
            record { allowed = o.allowed; only = λ g l. absurd (cut.clear g l.belt l.wanted l.from (omega (arith, l.before_t, o.near))) },
            (relaxed_some ok e.leads t (remaining (plan_of b) x t e.leads) r h).1,
          ),
        )

    module _ (ways : List Way) (priced : (j : ℕ) → u < j → j ≤ nearest → rest_at ways (j - 1) ≡ rest_of (way_on (plan_of b) x t j))
        (v : ℕ) (lowest : Lowest b x u nearest ways v) where
      -- what the table has for the head of an open belt
      head_price : (e : Belt) → Opens b x u nearest e → rest_at ways (e.leads - 1) ≡ rest_of (way_on (plan_of b) x t e.leads)
      head_price e o = priced e.leads (omega (arith, o.leaves, (belt_ends ok e o.belt).1)) o.near

      -- where there is no way on, no open belt has one behind it
      no_way : way_on (plan_of b) x t u ≡ none → v ≡ far
      no_way h = go lowest.one
        where
          behind : (e : Belt) → Opens b x u nearest e → v ≡ over_belt ways e → (o : Option (List Belt)) → way_on (plan_of b) x t e.leads ≡ o → v ≡ far
          behind e o q none k = omega (arith, lowest.start, over_none ways e (head_price e o ∙ ap rest_of k))
          behind e o q (some r) k = let (route, a) = opens_way e r o k in absurd (relaxed_none ok u t (remaining (plan_of b) x t u) h (e ∷ r) route a)

          go : (v ≡ far) ⊎ ((e : Belt) × Opens b x u nearest e × (v ≡ over_belt ways e)) → v ≡ far
          go (inl q) = q
          go (inr (e, o, q)) = behind e o q (way_on (plan_of b) x t e.leads) refl

      -- where there is one, v is the way over its first belt
      some_way : (e : Belt) (r : List Belt) → way_on (plan_of b) x t u ≡ some (e ∷ r) → v ≡ cost (e ∷ r) * link_limit + link_of e
      some_way e r h = go lowest.one
        where
          opened : Opens b x u nearest e × (way_on (plan_of b) x t e.leads ≡ some r)
          opened = way_opens e r h

          link : link_of e < link_limit
          link = link_of_lem ok e opened.0.belt

          over : over_belt ways e ≡ cost (e ∷ r) * link_limit + link_of e
          over = over_some ways e r (head_price e opened.0 ∙ ap rest_of opened.1)

          cheap : cost (e ∷ r) < way_limit
          cheap = omega (arith, route_cheap ok bytes u t (e ∷ r) inside (way_route ok x t u (e ∷ r) h))

          low : v ≤ cost (e ∷ r) * link_limit + link_of e
          low = omega (arith, over, lowest.below e opened.0)

          same : (f : Belt) → Opens b x u nearest f → v ≡ over_belt ways f → (s : List Belt) → way_on (plan_of b) x t f.leads ≡ some s
              → v ≡ cost (e ∷ r) * link_limit + link_of e
          same f o q s k =
              let (route, a) = opens_way f s o k in
              let (dear, later) = not_earlier e f r s ((relaxed_some ok u t (remaining (plan_of b) x t u) (e ∷ r) h).2 (f ∷ s) route a) in
              let flow = link_of_lem ok f o.belt in
              let is : v ≡ cost (f ∷ s) * link_limit + link_of f = q ∙ over_some ways f s (head_price f o ∙ ap rest_of k) in
              let (less, under) = ordered (cost (f ∷ s)) (link_of f) (cost (e ∷ r)) (link_of e) flow link (omega (arith, low)) in
              let both : cost (f ∷ s) ≡ cost (e ∷ r) = omega arith in
              let index : f.index ≡ e.index =
              omega (arith, later both, under dear, belt_ends ok e opened.0.belt, belt_ends ok f o.belt, (plan_sizes ok).1) in
              let one : f ≡ e = belt_index ok f e o.belt opened.0.belt index in
              q ∙ ap (over_belt ways) one ∙ over

          behind : (f : Belt) → Opens b x u nearest f → v ≡ over_belt ways f → (o : Option (List Belt)) → way_on (plan_of b) x t f.leads ≡ o
              → v ≡ cost (e ∷ r) * link_limit + link_of e
          behind f o q none k = absurd (omega (arith, low, link, cheap, over_none ways f (head_price f o ∙ ap rest_of k)))
          behind f o q (some s) k = same f o q s k

          go : (v ≡ far) ⊎ ((f : Belt) × Opens b x u nearest f × (v ≡ over_belt ways f)) → v ≡ cost (e ∷ r) * link_limit + link_of e
          go (inl q) = absurd (omega (arith, low, link, cheap))
          go (inr (f, o, q)) = behind f o q (way_on (plan_of b) x t f.leads) refl

      pub first_way : First b x t u v
      first_way = go (way_on (plan_of b) x t u) refl
        where
          go : (o : Option (List Belt)) → way_on (plan_of b) x t u ≡ o → First b x t u v
          go none h = record {
            price = let q = no_way h in let is : v - v % link_limit ≡ far = omega arith in is ∙ sym (ap rest_of h);
            link = λ e r k. absurd (none-ne-some (e ∷ r) (sym h ∙ k));
          }
          go (some []) h = absurd (omega (arith, way_route ok x t u [] h, cut.above, cut.within))
          go (some (e ∷ r)) h =
              let q = some_way e r h in
              let link = link_of_lem ok e (way_opens e r h).0.belt in
              let low : v % link_limit ≡ link_of e = ap (λ (n : ℕ). n % link_limit) q ∙ (parts (cost (e ∷ r)) (link_of e) link).1 in
              let is : v - v % link_limit ≡ rest_of (some (e ∷ r)) = omega arith in
              record {
                price = is ∙ sym (ap rest_of h);
                link = λ d s k. low ∙ ap link_of (head-eq_of_cons-eq (some-injective (e ∷ r) (d ∷ s) (sym h ∙ k)));
              }
