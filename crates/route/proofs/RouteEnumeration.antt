-- `routes` lists exactly the routes from s to t, each once.
--
--   leaving_rises     the belts leaving a junction have rising indices
--   routes_claim      the listed lists are the routes, and none is listed twice (RoutesClaim)
--
-- Assumes nothing.
use mathlib.Core.Path.{◌≡◌, refl, sym, ap, subst}
use mathlib.Core.Logic.{◌⊎◌, inl, inr}
use mathlib.Core.Bool.{Bool, true, false}
use Prim.Native.Nat.{ℕ, zero, suc, ◌+◌, ◌-◌, ◌≤◌, ◌<◌}
use mathlib.Core.List.Memᴰ
use mathlib.Core.List.{List, [], ◌∷◌, ◌++◌, map, Memᴰ}
use native.Mathlib.Omega.{arith}
use lib.Dec.{eqb}
use borrow.Author.Tests.{eqb-true, eq-eqb, ne_eqb}
use Rattle.plan.specs.Lists.{keep_by, keep, joined}
use Rattle.plan.specs.Plan.{Belt, Plan, plan_of, indices_of, leaving}
use Rattle.plan.specs.Reading.{Accepted}
use Rattle.plan.proofs.Lists.{keep_in, in_map, map_in, in_joined, joined_in}
use Rattle.plan.proofs.ListRising.{Rises, more}
use Rattle.plan.proofs.Reading.{in_leaving, leaving_in, belts_rise, belt_ends}
use Rattle.route.specs.Routes.{IsRoute, stay, routes_of, Distinct}
use Rattle.route.specs.Claims.{RoutesClaim}
use Rattle.route.proofs.RouteOrder.{upward_claim}

-- ---- the parts of `routes_of`

-- the routes that go on by belt e, where f u are those from u
abbrev via : (ℕ → List (List Belt)) → Belt → List (List Belt)
via f e = map (λ (r : List Belt). e ∷ r) (f e.leads)

-- those that go on from s
abbrev onward : Plan → ℕ → (ℕ → List (List Belt)) → List (List Belt)
onward p s f = joined (via f) (leaving p s)

-- the empty route where it is one, or else rs
abbrev from : Bool → List (List Belt) → List (List Belt)
from here rs = elim here [ true ↦ [] ∷ [] | false ↦ rs ]

stay_from : (t : Bool) → stay t ≡ from t []
stay_from true = refl
stay_from false = refl

-- ---- what is listed is a route

module _ (p : Plan) (t : ℕ) where
  onward_sound : (f : ℕ → List (List Belt)) → ((u : ℕ) (r : List Belt) → Memᴰ r (f u) → IsRoute p u t r)
      → (s : ℕ) (r : List Belt) → Memᴰ r (onward p s f) → IsRoute p s t r
  onward_sound f below s r m =
      let (e, k, l) = joined_in (via f) (leaving p s) m in
      let (q, n, w) = map_in (λ (r : List Belt). e ∷ r) (f e.leads) l in
      let (i, g) = leaving_in p s e k in
      subst (IsRoute p s t) (sym w) (i, g, below e.leads q n)

  from_sound : (s : ℕ) (here : Bool) → eqb s t ≡ here → (rs : List (List Belt)) (r : List Belt) → (Memᴰ r rs → IsRoute p s t r)
      → Memᴰ r (from here rs) → IsRoute p s t r
  from_sound s true e rs r below m = subst (IsRoute p s t) (sym (Memᴰ.eq_of_singleton m)) (eqb-true s t e)
  from_sound s false e rs r below m = below m

  sound : (n s : ℕ) (r : List Belt) → Memᴰ r (routes_of p n s t) → IsRoute p s t r
  sound zero s r m =
      from_sound s (eqb s t) refl [] r (λ k. absurd (Memᴰ.not-nil k)) (subst (Memᴰ r) (stay_from (eqb s t)) m)
  sound (suc n) s r m =
      let f : ℕ → List (List Belt) = λ (u : ℕ). routes_of p n u t in
      from_sound s (eqb s t) refl (onward p s f) r (onward_sound f (λ u q k. sound n u q k) s r) m

-- ---- each route is listed

module _ {b : List ℕ} (ok : Accepted b) (t : ℕ) where
  here_listed : (s : ℕ) (rs : List (List Belt)) → s ≡ t → Memᴰ [] (from (eqb s t) rs)
  here_listed s rs e = subst (λ (h : Bool). Memᴰ [] (from h rs)) (sym (eq-eqb s t e)) (Memᴰ.head refl)

  later_listed : (s : ℕ) (rs : List (List Belt)) (r : List Belt) → s < t → Memᴰ r rs → Memᴰ r (from (eqb s t) rs)
  later_listed s rs r h m = subst (λ (k : Bool). Memᴰ r (from k rs)) (sym (ne_eqb s t (λ e. omega arith))) m

  complete : (n s : ℕ) (r : List Belt) → t ≤ s + n → IsRoute (plan_of b) s t r → Memᴰ r (routes_of (plan_of b) n s t)
  complete zero s [] u h = subst (Memᴰ []) (sym (stay_from (eqb s t))) (here_listed s [] h)
  complete (suc n) s [] u h = here_listed s (onward (plan_of b) s (λ (u : ℕ). routes_of (plan_of b) n u t)) h
  complete zero s (e ∷ r) u h = absurd (omega (arith, h.1, (belt_ends ok e h.0).1, (upward_claim b ok e.leads t r h.2).0))
  complete (suc n) s (e ∷ r) u h =
      let f : ℕ → List (List Belt) = λ (u : ℕ). routes_of (plan_of b) n u t in
      let w : e.leaves ≡ s = h.1 in
      let up : e.leaves < e.leads = (belt_ends ok e h.0).1 in
      let top : e.leads ≤ t = (upward_claim b ok e.leads t r h.2).0 in
      later_listed s (onward (plan_of b) s f) (e ∷ r) (omega arith)
      (in_joined (via f)
      (in_leaving (plan_of b) s e h.0 w)
      (in_map (λ (q : List Belt). e ∷ q) (complete n e.leads r (omega arith) h.2)))

-- ---- no route is listed twice

distinct_append : (xs ys : List (List Belt)) → Distinct xs → Distinct ys
    → ((r : List Belt) → Memᴰ r xs → Memᴰ r ys → ⊥) → Distinct (xs ++ ys)
distinct_append [] ys d e apart = e
distinct_append (x ∷ xs) ys d e apart =
    (λ m. go (Memᴰ.append_cases xs m), distinct_append xs ys d.1 e (λ r k l. apart r (Memᴰ.tail k) l))
  where
    go : Memᴰ x xs ⊎ Memᴰ x ys → ⊥
    go (inl k) = d.0 k
    go (inr k) = apart x (Memᴰ.head refl) k

-- one belt in front of each
distinct_cons : (e : Belt) (rs : List (List Belt)) → Distinct rs → Distinct (map (λ (r : List Belt). e ∷ r) rs)
distinct_cons e [] d = d
distinct_cons e (r ∷ rs) d = (λ m. go (map_in (λ (q : List Belt). e ∷ q) rs m), distinct_cons e rs d.1)
  where
    go : (q : List Belt) × Memᴰ q rs × (◌≡◌ {A = List Belt} (e ∷ r) (e ∷ q)) → ⊥
    go (q, k, w) = let z : r ≡ q = cc in d.0 (Memᴰ.cast z k)

-- belts of rising indices in front: the routes by different belts differ
distinct_joined : (f : ℕ → List (List Belt)) → ((u : ℕ) → Distinct (f u)) → (es : List Belt) → Rises (indices_of es) → Distinct (joined (via f) es)
distinct_joined f d [] r = tt
distinct_joined f d (e ∷ es) (more h r) =
    distinct_append (via f e) (joined (via f) es) (distinct_cons e (f e.leads) (d e.leads)) (distinct_joined f d es r) apart
  where
    apart : (q : List Belt) → Memᴰ q (via f e) → Memᴰ q (joined (via f) es) → ⊥
    apart q k l =
        let (x, m, v) = map_in (λ (r : List Belt). e ∷ r) (f e.leads) k in
        let (g, i, n) = joined_in (via f) es l in
        let (y, o, w) = map_in (λ (r : List Belt). g ∷ r) (f g.leads) n in
        let z : e ≡ g = cc in
        let same : e.index ≡ g.index = ap (λ (u : Belt). u.index) z in
        omega (arith, h g.index (in_map (λ (u : Belt). u.index) i))

-- what is kept of belts of rising indices has rising indices
keep_indices_rise : (f : Belt → Bool) (xs : List Belt) → Rises (indices_of xs) → Rises (indices_of (keep f xs))
keep_indices_rise f [] r = r
keep_indices_rise f (x ∷ xs) (more h r) = go (f x) (keep_indices_rise f xs r)
  where
    above : (n : ℕ) → Memᴰ n (indices_of (keep f xs)) → x.index < n
    above n m =
        let (y, k, e) = map_in (λ (u : Belt). u.index) (keep f xs) m in
        h n (Memᴰ.cast e (in_map (λ (u : Belt). u.index) (keep_in f xs k).0))

    go : (t : Bool) → Rises (indices_of (keep f xs)) → Rises (indices_of (keep_by t x (keep f xs)))
    go true k = more above k
    go false k = k

pub leaving_rises : {b : List ℕ} → Accepted b → (j : ℕ) → Rises (indices_of (leaving (plan_of b) j))
leaving_rises {b} ok j = keep_indices_rise (λ (e : Belt). eqb e.leaves j) (plan_of b).belts (belts_rise ok)

from_distinct : (here : Bool) (rs : List (List Belt)) → Distinct rs → Distinct (from here rs)
from_distinct true rs d = (λ m. Memᴰ.not-nil m, tt)
from_distinct false rs d = d

module _ {b : List ℕ} (ok : Accepted b) (t : ℕ) where
  distinct : (n s : ℕ) → Distinct (routes_of (plan_of b) n s t)
  distinct zero s = subst Distinct (sym (stay_from (eqb s t))) (from_distinct (eqb s t) [] tt)
  distinct (suc n) s =
      from_distinct (eqb s t) (onward (plan_of b) s (λ (u : ℕ). routes_of (plan_of b) n u t))
      (distinct_joined (λ (u : ℕ). routes_of (plan_of b) n u t) (λ u. distinct n u) (leaving (plan_of b) s)
      (leaving_rises ok s))

pub routes_claim : RoutesClaim
routes_claim b ok s t =
    (λ r. (sound (plan_of b) t (t - s) s r, complete ok t (t - s) s r (omega arith)), distinct ok t (t - s) s)
