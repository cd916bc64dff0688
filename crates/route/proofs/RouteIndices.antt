-- Belts by their indices, routes against what the code can test of them, and routes as the code holds them.
--
-- The indices of a plan's belts rise, so exactly one belt has a given index:
--   indexed_map      the belts with the indices es, all of them belts, are the belts at these records
--   indices_belts    the belts with the indices of a list of the plan's belts are that list
--   indexed_in       the belts with any indices are belts of the plan
--   known_belts      numbers that all pass the test of being a belt's index are belt records
-- Routes:
--   connects_route   belts of the plan that connect s to t are a route from s to t
--   route_connects   a route from s to t connects them
--   route_belts      its belts are the plan's
--   passes_indices   it passes the belts whose indices it has
--   route_length     it has at most t - s belts: each leads higher
--   sum_cost         THE BOUND of a cost: belt_cost_limit - 1 for each belt of the plan, whether they are a route or not
--   route_few, route_cheap
--                    so between junctions it has at most max_steps belts, and costs less than `unbounded`
--   ends_junctions   s and t are junctions where they are no wrong ends
-- Routes as the code holds them:
--   same_route       two Routes are equal where their counts and arrays are
--   packed_count, packed_belts
--                    the count and the array of a packed route of max_steps belts or fewer
--   ids_packed       such a packed route holds the belts that were packed
--   packed_sets      belts stored from the front of an array of max_steps are `packed`
--   known_route      the belts that a known Route holds are the belts at their records
--   known_indices    and their indices are those that it holds
--   known_cheap      they cost less than `unbounded`
--
-- Assumes nothing.
use mathlib.Core.Path.{◌≡◌, refl, sym, ◌∙◌, ap}
use mathlib.Core.Logic.{◌⊎◌, inl, inr}
use mathlib.Core.HLevel.{is_prop→PathP}
use mathlib.Core.Bool.{Bool, true, false, ◌&&◌, ◌||◌}
use Prim.Native.Nat.{ℕ, ◌+◌, ◌*◌, ◌-◌, ◌≤◌, ◌<◌}
use mathlib.Core.List.Memᴰ
use mathlib.Core.List.{List, [], ◌∷◌, ◌++◌, map, Memᴰ, map-map, map-id}
use native.Mathlib.Omega.{arith}
use lib.ListN.{length, take, replicate, length-map, length-take}
use lib.Seq.{take_at, sets}
use Rattle.std.proofs.Math.Bridge.{le_prop}
use Rattle.std.proofs.lemmas.List.{take_all}
use lib.Dec.{eqb}
use borrow.Author.Tests.{eqb-true, eq-eqb, ne_eqb, not-false}
use Rattle.plan.specs.declared.read.BeltId.{BeltId}
use Rattle.plan.specs.Bounds.{belt_cost_limit, max_steps}
use Rattle.plan.specs.Lists.{all, keep_by, keep, mem, within}
use Rattle.plan.specs.Plan.{Belt, Plan, plan_of, belt_at, indices_of, belt_id}
use Rattle.plan.specs.Reading.{Accepted, Bytes, IsBelt}
use Rattle.plan.proofs.Lists.{both, and_is, eqb_sym, within_is, each, all_in, keep_in, keep_none, in_map, joined_in}
use Rattle.plan.proofs.ListRising.{Rises, more}
use Rattle.plan.proofs.NamedPlaces.{ids_sets}
use Rattle.plan.proofs.Reading.{plan_sizes, belt_in, index_belt, belts_rise, belt_ends, belts_cost}
use Rattle.route.specs.declared.belts.Route.{Route}
use Rattle.route.specs.Routes.{wrong_ends, IsRoute, connects, cost, belts_by_index}
use Rattle.route.specs.Permission.{passes}
use Rattle.route.specs.Values.{ids_of, packed, Known, route_in, unbounded}

-- ---- the belt of an index

-- of belts whose indices rise exactly one has the index of x
one_indexed : (x : Belt) (xs : List Belt) → Rises (indices_of xs) → Memᴰ x xs → keep (λ (y : Belt). eqb y.index x.index) xs ≡ x ∷ []
one_indexed x [] r m = absurd (Memᴰ.not-nil m)
one_indexed x (y ∷ ys) (more h r) m = go (Memᴰ.cases_cons m) (one_indexed x ys r)
  where
    same : Belt → Bool
    same z = eqb z.index x.index

    go : (x ≡ y) ⊎ Memᴰ x ys → (Memᴰ x ys → keep same ys ≡ x ∷ []) → keep_by (same y) y (keep same ys) ≡ x ∷ []
    go (inl e) below =
        let w : y ≡ x = sym e in
        let n : y.index ≡ x.index = ap (λ (z : Belt). z.index) w in
        let rest : keep same ys ≡ [] =
        keep_none same ys (λ z k. ne_eqb z.index x.index (λ q. omega (arith, h z.index (in_map (λ (v : Belt). v.index) k)))) in
        λ i. keep_by (eq-eqb y.index x.index n i) (w i) (rest i)
    go (inr k) below =
        let d : same y ≡ false = ne_eqb y.index x.index (λ q. omega (arith, h x.index (in_map (λ (v : Belt). v.index) k))) in
        ap (λ (t : Bool). keep_by t y (keep same ys)) d ∙ below k

pub route_belts : (p : Plan) (s t : ℕ) (r : List Belt) → IsRoute p s t r → (e : Belt) → Memᴰ e r → Memᴰ e p.belts
route_belts p s t [] h e m = absurd (Memᴰ.not-nil m)
route_belts p s t (f ∷ r) h e m = each (λ (e : Belt). Memᴰ e p.belts) h.0 (route_belts p f.leads t r h.2) e m

module _ {b : List ℕ} (ok : Accepted b) where
  -- the belts of the plan with the index of one of them
  the_indexed : (x : Belt) → Memᴰ x (plan_of b).belts → keep (λ (y : Belt). eqb y.index x.index) (plan_of b).belts ≡ x ∷ []
  the_indexed x m = one_indexed x (plan_of b).belts (belts_rise ok) m

  pub indexed_map : (es : List ℕ) → ((e : ℕ) → Memᴰ e es → IsBelt b e) → belts_by_index (plan_of b) es ≡ map (belt_at b) es
  indexed_map [] h = refl
  indexed_map (e ∷ es) h =
      λ i. the_indexed (belt_at b e) (belt_in ok e (h e (Memᴰ.head refl))) i ++ indexed_map es (λ f m. h f (Memᴰ.tail m)) i

  pub indices_belts : (r : List Belt) → ((e : Belt) → Memᴰ e r → Memᴰ e (plan_of b).belts) → belts_by_index (plan_of b) (indices_of r) ≡ r
  indices_belts [] h = refl
  indices_belts (x ∷ r) h = λ i. the_indexed x (h x (Memᴰ.head refl)) i ++ indices_belts r (λ f m. h f (Memᴰ.tail m)) i

  pub known_belts : (es : List ℕ) → all (λ (e : ℕ). mem e (indices_of (plan_of b).belts)) es ≡ true → (e : ℕ) → Memᴰ e es → IsBelt b e
  known_belts es h e m = index_belt ok e (all_in (λ (e : ℕ). mem e (indices_of (plan_of b).belts)) es h m)

  -- ---- routes

  pub connects_route : (s t : ℕ) (r : List Belt) → ((e : Belt) → Memᴰ e r → Memᴰ e (plan_of b).belts)
      → connects s t r ≡ true → IsRoute (plan_of b) s t r
  connects_route s t [] h c = eqb-true s t c
  connects_route s t (e ∷ r) h c =
      let (k, l) = both (eqb e.leaves s) (connects e.leads t r) c in
      (h e (Memᴰ.head refl), eqb-true e.leaves s k, connects_route e.leads t r (λ f m. h f (Memᴰ.tail m)) l)

  pub route_length : (s t : ℕ) (r : List Belt) → IsRoute (plan_of b) s t r → s + length r ≤ t
  route_length s t [] h = omega arith
  route_length s t (e ∷ r) h = omega (arith, h.1, (belt_ends ok e h.0).1, route_length e.leads t r h.2)

  sum_cost : Bytes b → (r : List Belt) → ((e : Belt) → Memᴰ e r → Memᴰ e (plan_of b).belts) → cost r ≤ (belt_cost_limit - 1) * length r
  sum_cost bytes [] h = omega arith
  sum_cost bytes (e ∷ r) h = omega (arith, belts_cost ok bytes e (h e (Memᴰ.head refl)), sum_cost bytes r (λ f m. h f (Memᴰ.tail m)))

  pub route_few : (s t : ℕ) (r : List Belt) → 1 ≤ s → t ≤ (plan_of b).junctions → IsRoute (plan_of b) s t r → length r ≤ max_steps
  route_few s t r low inside h = omega (arith, route_length s t r h, (plan_sizes ok).1)

  pub route_cheap : Bytes b → (s t : ℕ) (r : List Belt) → t ≤ (plan_of b).junctions → IsRoute (plan_of b) s t r → cost r < unbounded
  route_cheap bytes s t r inside h = omega (arith, sum_cost bytes r (route_belts (plan_of b) s t r h), route_length s t r h, (plan_sizes ok).1)

pub indexed_in : (p : Plan) (es : List ℕ) (e : Belt) → Memᴰ e (belts_by_index p es) → Memᴰ e p.belts
indexed_in p es e m =
    let (n, i, k) = joined_in (λ (n : ℕ). keep (λ (x : Belt). eqb x.index n) p.belts) es m in
    (keep_in (λ (x : Belt). eqb x.index n) p.belts k).0

pub route_connects : (p : Plan) (s t : ℕ) (r : List Belt) → IsRoute p s t r → connects s t r ≡ true
route_connects p s t [] h = eq-eqb s t h
route_connects p s t (e ∷ r) h =
    and_is (eqb e.leaves s) (connects e.leads t r) (eq-eqb e.leaves s h.1) (route_connects p e.leads t r h.2)

pub passes_indices : (r : List Belt) (e : ℕ) → passes r e ≡ mem e (indices_of r)
passes_indices [] e = refl
passes_indices (x ∷ r) e = λ i. eqb_sym x.index e i || passes_indices r e i

pub ends_junctions : (p : Plan) (s t : ℕ) → wrong_ends p s t ≡ false → (1 ≤ s) × (s ≤ p.junctions) × (1 ≤ t) × (t ≤ p.junctions)
ends_junctions p s t h =
    let J = p.junctions in
    let (k, l) = both (within 1 s J) (within 1 t J) (not-false (within 1 s J && within 1 t J) h) in
    let (a, b) = within_is 1 s J k in
    let (c, d) = within_is 1 t J l in
    (a, b, c, d)

-- ---- routes as the code holds them

pub same_route : (x y : Route) → x.count ≡ y.count → x.belts ≡ y.belts → x ≡ y
same_route x y p q = λ i. record { count = p i; belts = q i; few = is_prop→PathP (λ j. p j ≤ max_steps) (λ j. le_prop) x.few y.few i }

module _ (es : List ℕ) (h : length es ≤ max_steps) where
  pub packed_count : (packed es).count ≡ length es
  packed_count = omega arith

  pub packed_belts : (packed es).belts ≡ map belt_id es ++ replicate (max_steps - length es) (belt_id 0)
  packed_belts = ap (λ (xs : List ℕ). map belt_id xs ++ replicate (max_steps - length es) (belt_id 0)) (take_all max_steps es h)

  pub ids_packed : ids_of (packed es) ≡ es
  ids_packed =
      (λ i. map (λ (e : BeltId). e.0) (take (packed_count i) (packed_belts i)))
      ∙ ap (map (λ (e : BeltId). e.0)) (take_at (map belt_id es) (replicate (max_steps - length es) (belt_id 0)) (length es) (length-map es belt_id))
      ∙ map-map (λ (e : BeltId). e.0) belt_id es
      ∙ map-id es

  pub packed_sets : sets (replicate max_steps (belt_id 0)) 0 (map belt_id es) ≡ (packed es).belts
  packed_sets = ids_sets max_steps es h ∙ sym packed_belts

pub known_route : {b : List ℕ} → Accepted b → (r : Route) → Known b r → route_in b r ≡ map (belt_at b) (ids_of r)
known_route ok r k = indexed_map ok (ids_of r) k.belts

pub known_indices : {b : List ℕ} → Accepted b → (r : Route) → Known b r → indices_of (route_in b r) ≡ ids_of r
known_indices {b} ok r k = ap indices_of (known_route ok r k) ∙ map-map (λ (e : Belt). e.index) (belt_at b) (ids_of r) ∙ map-id (ids_of r)

pub known_cheap : {b : List ℕ} → Accepted b → Bytes b → (r : Route) → Known b r → cost (route_in b r) < unbounded
known_cheap {b} ok bytes r k =
    let sum = sum_cost ok bytes (route_in b r) (indexed_in (plan_of b) (ids_of r)) in
    let size : length (route_in b r) ≡ length (ids_of r) = sym (length-map (route_in b r) (λ (e : Belt). e.index)) ∙ ap length (known_indices ok r k) in
    omega (arith, sum, size, r.few, length-map (take r.count r.belts) (λ (e : BeltId). e.0), length-take r.count r.belts)
