-- Ways on: the relaxed route from u to t of what remains of a subproblem from u on, belt by belt.
--
--   Owed b x t u g     belt g of the plan is required, and leaves u or a later junction before t
--   owed_between       so it is with any other bounds between which it leaves
--   Goes b x u e       a way on from u may begin with belt e: it is not forbidden, and no other required belt leaves u or a later junction
--                      before the one that e leads to
--   remaining_step     a route from u is admitted by what remains from u on exactly when its first belt goes and the rest is admitted by
--                      what remains from there on
--   way_end            the way on from t is empty; relaxed_past: past t there is no route
--   way_route          a way on is a route; way_length: it has at most t - u belts
--   way_next           what follows the first belt of a way on is the way on from where it leads
--   way_above          where the way on from the junction that a required belt leaves costs more than k, so does that from an earlier one
--   AllOwed b x t s    every required belt is owed from s on
--   way_relaxed        then the way on from s is the relaxed route
--   unowed_relaxed     and else there is none
--
-- What remains from u on admits a route from u exactly when the route has every belt that is owed and no forbidden one (Admitted);
-- by this form, in belts instead of their indices, all the rest goes. Assumes nothing.
use mathlib.Core.Path.{◌≡◌, refl, sym, ◌∙◌, ap}
use mathlib.Core.Logic.{◌↔◌, ◌⊎◌, inl, inr}
use mathlib.Core.Bool.{true, false, ◌&&◌}
use mathlib.Core.Option.{Option, none, some}
use Prim.Native.Nat.{ℕ, ◌+◌, ◌≤◌, ◌<◌}
use mathlib.Core.List.Memᴰ
use mathlib.Core.List.{List, [], ◌∷◌, Memᴰ}
use native.Mathlib.Omega.{arith}
use native.Mathlib.Nat.{eq-or-lt_of_le}
use lib.ListN.{length}
use lib.Dec.{eqb, leb, ltb}
use borrow.Author.Tests.{ne_eqb, ltb-true, ltb-false, lt-ltb, leb-true, le-leb}
use Rattle.plan.specs.Lists.{keep, mem}
use Rattle.plan.specs.Plan.{Belt, plan_of, indices_of}
use Rattle.plan.specs.Reading.{Accepted}
use Rattle.plan.proofs.Lists.{test, both, and_is, neither, or_is, never, untrue, each, in_keep, keep_in, in_map, map_in, in_mem, mem_in}
use Rattle.plan.proofs.Reading.{belt_ends}
use Rattle.route.specs.Routes.{IsRoute, cost, before}
use Rattle.route.specs.Permission.{passes}
use Rattle.route.specs.Subproblems.{Subproblem, admits, relaxed}
use Rattle.route.specs.Values.{at_most}
use Rattle.route.specs.Inner.{is_required, is_forbidden, is_owed, remaining, way_on, way_cost}
use Rattle.route.proofs.RouteIndices.{route_length}
use Rattle.route.proofs.RelaxBound.{at_most_none}
use Rattle.route.proofs.RouteOrder.{before_cons, upward_claim}
use Rattle.route.proofs.SubproblemFirst.{admits_is, is_admits, relaxed_some, relaxed_none, is_relaxed, no_relaxed}
use Rattle.route.proofs.SubproblemCut.{in_passes, on_route, route_between, cut_claim}

-- ---- what remains from u on

pub record Owed (b : List ℕ) (x : Subproblem) (t u : ℕ) (g : Belt) : Type 0 where
  pub belt : Memᴰ g (plan_of b).belts
  pub wanted : is_required x g ≡ true
  pub from : u ≤ g.leaves
  pub before_t : g.leaves < t

pub owed_between : {b : List ℕ} {x : Subproblem} {t u : ℕ} {g : Belt} → Owed b x t u g → (v w : ℕ) → v ≤ g.leaves → g.leaves < w → Owed b x w v g
owed_between l v w h k = record { belt = l.belt; wanted = l.wanted; from = h; before_t = k }

abbrev pub AllOwed : List ℕ → Subproblem → ℕ → ℕ → Type 0
AllOwed b x t s = (n : ℕ) → Memᴰ n x.required → (g : Belt) × Owed b x t s g × (n ≡ g.index)

-- route r has the belts that are owed from u on, and no forbidden one
record Admitted (b : List ℕ) (x : Subproblem) (t u : ℕ) (r : List Belt) : Type 0 where
  has : (g : Belt) → Owed b x t u g → Memᴰ g r
  allowed : (e : ℕ) → Memᴰ e x.forbidden → passes r e ≡ false

module _ {b : List ℕ} (x : Subproblem) (t u : ℕ) where
  in_remaining : (g : Belt) → Owed b x t u g → Memᴰ g.index (remaining (plan_of b) x t u).required
  in_remaining g l =
      in_map (λ (e : Belt). e.index)
      (in_keep (is_owed x t u) (plan_of b).belts l.belt
      (and_is (is_required x g) (leb u g.leaves && ltb g.leaves t) l.wanted
      (and_is (leb u g.leaves) (ltb g.leaves t) (le-leb u g.leaves l.from) (lt-ltb g.leaves t l.before_t))))

  remaining_in : (n : ℕ) → Memᴰ n (remaining (plan_of b) x t u).required → (g : Belt) × Owed b x t u g × (n ≡ g.index)
  remaining_in n m =
      let (g, k, e) = map_in (λ (e : Belt). e.index) (keep (is_owed x t u) (plan_of b).belts) m in
      let (i, h) = keep_in (is_owed x t u) (plan_of b).belts k in
      let (w, o) = both (is_required x g) (leb u g.leaves && ltb g.leaves t) h in
      let (l, v) = both (leb u g.leaves) (ltb g.leaves t) o in
      (g, record { belt = i; wanted = w; from = leb-true u g.leaves l; before_t = ltb-true g.leaves t v }, e)

module _ {b : List ℕ} (ok : Accepted b) (x : Subproblem) (t u : ℕ) (r : List Belt) where
  admits_owed : IsRoute (plan_of b) u t r → admits (remaining (plan_of b) x t u) r ≡ true → Admitted b x t u r
  admits_owed h a =
      let (k, f) = admits_is (remaining (plan_of b) x t u) r a in
      record { has = λ g l. on_route ok u t r h g l.belt (k g.index (in_remaining x t u g l)); allowed = f }

  owed_admits : Admitted b x t u r → admits (remaining (plan_of b) x t u) r ≡ true
  owed_admits a = is_admits (remaining (plan_of b) x t u) r has a.allowed
    where
      has : (n : ℕ) → Memᴰ n (remaining (plan_of b) x t u).required → passes r n ≡ true
      has n m = let (g, l, e) = remaining_in x t u n m in ap (passes r) e ∙ in_passes r g (a.has g l)

-- ---- the first belt and the rest

pub record Goes (b : List ℕ) (x : Subproblem) (u : ℕ) (e : Belt) : Type 0 where
  pub allowed : is_forbidden x e ≡ false
  pub only : (g : Belt) → Owed b x e.leads u g → g ≡ e

module _ {b : List ℕ} (ok : Accepted b) (x : Subproblem) (t u : ℕ) (e : Belt) (r : List Belt) (h : IsRoute (plan_of b) u t (e ∷ r)) where
  here : e.leaves ≡ u
  here = h.1

  up : e.leaves < e.leads
  up = (belt_ends ok e h.0).1

  top : e.leads ≤ t
  top = (upward_claim b ok e.leads t r h.2).0

  -- the belts after e leave where e leads, or later
  later : (g : Belt) → Memᴰ g r → e.leads ≤ g.leaves
  later g m = (route_between ok e.leads t r h.2 g m).0

  -- a belt of the route that leaves before e leads is e; one that does not is among the rest
  low_first : (g : Belt) → Memᴰ g (e ∷ r) → g.leaves < e.leads → g ≡ e
  low_first = each (λ (g : Belt). g.leaves < e.leads → g ≡ e) (λ l. refl) (λ g k l. absurd (omega (arith, later g k)))

  high_rest : (g : Belt) → Memᴰ g (e ∷ r) → e.leads ≤ g.leaves → Memᴰ g r
  high_rest = each (λ (g : Belt). e.leads ≤ g.leaves → Memᴰ g r) (λ l. absurd (omega (arith, up))) (λ g k l. k)

  admitted_goes : Admitted b x t u (e ∷ r) → Goes b x u e
  admitted_goes a = record {
    allowed = untrue (is_forbidden x e) (λ k. never (in_passes (e ∷ r) e (Memᴰ.head refl)) (a.allowed e.index (mem_in x.forbidden k)));
    only = λ g l. low_first g (a.has g (owed_between l u t l.from (omega (arith, top, l.before_t)))) l.before_t;
  }

  admitted_rest : Admitted b x t u (e ∷ r) → Admitted b x t e.leads r
  admitted_rest a = record {
    has = λ g l. high_rest g (a.has g (owed_between l u t (omega (arith, here, up, l.from)) l.before_t)) l.from;
    allowed = λ n m. (neither (eqb e.index n) (passes r n) (a.allowed n m)).1;
  }

  goes_admitted : Goes b x u e → Admitted b x t e.leads r → Admitted b x t u (e ∷ r)
  goes_admitted k a = record { has = λ g l. has g l (test (ltb g.leaves e.leads)); allowed = allowed }
    where
      has : (g : Belt) → Owed b x t u g → (ltb g.leaves e.leads ≡ true) ⊎ (ltb g.leaves e.leads ≡ false) → Memᴰ g (e ∷ r)
      has g l (inl v) = Memᴰ.head (k.only g (owed_between l u e.leads l.from (ltb-true g.leaves e.leads v)))
      has g l (inr v) = Memᴰ.tail (a.has g (owed_between l e.leads t (ltb-false g.leaves e.leads v) l.before_t))

      allowed : (n : ℕ) → Memᴰ n x.forbidden → passes (e ∷ r) n ≡ false
      allowed n m =
          or_is (eqb e.index n) (passes r n) (ne_eqb e.index n (λ q. never (in_mem x.forbidden (Memᴰ.cast q m)) k.allowed)) (a.allowed n m)

-- ---- what remains and the whole

module _ {b : List ℕ} (ok : Accepted b) (x : Subproblem) (t s : ℕ) where
  -- what x admits, what remains of it admits
  whole_remaining : (q : List Belt) → admits x q ≡ true → admits (remaining (plan_of b) x t s) q ≡ true
  whole_remaining q a =
      let (k, f) = admits_is x q a in
      is_admits (remaining (plan_of b) x t s) q
      (λ n m. let (g, l, e) = remaining_in x t s n m in ap (passes q) e ∙ k g.index (mem_in x.required l.wanted)) f

  -- a required belt that is on a route from s to t is owed from s on
  on_owed : (q : List Belt) → IsRoute (plan_of b) s t q → (g : Belt) → Memᴰ g (plan_of b).belts → is_required x g ≡ true
      → passes q g.index ≡ true → Owed b x t s g
  on_owed q h g m w k =
      let cut = (cut_claim b ok s t q h g m).0 k in
      record { belt = m; wanted = w; from = cut.from; before_t = cut.before_t }

  -- so where x admits some route, all of them are
  admitted_owed : ((e : ℕ) → Memᴰ e x.required → mem e (indices_of (plan_of b).belts) ≡ true)
      → (q : List Belt) → IsRoute (plan_of b) s t q → admits x q ≡ true → AllOwed b x t s
  admitted_owed named q h a n m =
      let (g, i, e) = map_in (λ (f : Belt). f.index) (plan_of b).belts (mem_in (indices_of (plan_of b).belts) (named n m)) in
      (g, on_owed q h g i (in_mem x.required (Memᴰ.cast (sym e) m)) (ap (passes q) (sym e) ∙ (admits_is x q a).0 n m), e)

-- ---- the way on

module _ {b : List ℕ} (ok : Accepted b) (x : Subproblem) (t : ℕ) where
  pub remaining_step : (u : ℕ) (e : Belt) (r : List Belt) → IsRoute (plan_of b) u t (e ∷ r)
      → (admits (remaining (plan_of b) x t u) (e ∷ r) ≡ true) ↔ (Goes b x u e × (admits (remaining (plan_of b) x t e.leads) r ≡ true))
  remaining_step u e r h = (onto, λ k. back k.0 k.1)
    where
      onto : admits (remaining (plan_of b) x t u) (e ∷ r) ≡ true → Goes b x u e × (admits (remaining (plan_of b) x t e.leads) r ≡ true)
      onto a =
          let k = admits_owed ok x t u (e ∷ r) h a in
          (admitted_goes ok x t u e r h k, owed_admits ok x t e.leads r (admitted_rest ok x t u e r h k))

      back : Goes b x u e → admits (remaining (plan_of b) x t e.leads) r ≡ true → admits (remaining (plan_of b) x t u) (e ∷ r) ≡ true
      back g a = owed_admits ok x t u (e ∷ r) (goes_admitted ok x t u e r h g (admits_owed ok x t e.leads r h.2 a))

  pub way_end : way_on (plan_of b) x t t ≡ some []
  way_end =
      is_relaxed ok t t (remaining (plan_of b) x t t) [] refl
      (owed_admits ok x t t [] (record { has = λ g l. absurd (omega (arith, l.from, l.before_t)); allowed = λ e m. refl }))
      (λ q h a. ap (λ (r : List Belt). before r []) ((upward_claim b ok t t q h).1 refl))

  pub relaxed_past : (u : ℕ) → t < u → relaxed (plan_of b) u t x ≡ none
  relaxed_past u l = no_relaxed ok u t x (λ q h a. omega (arith, (upward_claim b ok u t q h).0))

  pub way_route : (u : ℕ) (r : List Belt) → way_on (plan_of b) x t u ≡ some r → IsRoute (plan_of b) u t r
  way_route u r h = (relaxed_some ok u t (remaining (plan_of b) x t u) r h).0

  pub way_length : (u : ℕ) (r : List Belt) → way_on (plan_of b) x t u ≡ some r → u + length r ≤ t
  way_length u r h = route_length ok u t r (way_route u r h)

  pub way_next : (u : ℕ) (e : Belt) (r : List Belt) → way_on (plan_of b) x t u ≡ some (e ∷ r)
      → Memᴰ e (plan_of b).belts × (e.leaves ≡ u) × (way_on (plan_of b) x t e.leads ≡ some r)
  way_next u e r h =
      let (k, a, least) = relaxed_some ok u t (remaining (plan_of b) x t u) (e ∷ r) h in
      let (g, rest) = (remaining_step u e r k).0 a in
      let first : (q : List Belt) → IsRoute (plan_of b) e.leads t q → admits (remaining (plan_of b) x t e.leads) q ≡ true → before q r ≡ false =
      λ q l c. let w : IsRoute (plan_of b) u t (e ∷ q) = (k.0, k.1, l) in sym (before_cons e q r) ∙ least (e ∷ q) w ((remaining_step u e q w).1 (g, c)) in
      (k.0, k.1, is_relaxed ok e.leads t (remaining (plan_of b) x t e.leads) r k.2 rest first)

  -- each way on from v, at or before where g leaves, comes by the junction that g leaves, and goes on as the way on from there
  abbrev Comes : Belt → List Belt → Type 0
  Comes g r = (q : List Belt) × (way_on (plan_of b) x t g.leaves ≡ some q) × (cost q ≤ cost r)

  come_by : (g : Belt) → Owed b x t g.leaves g → (r : List Belt) (v : ℕ) → v ≤ g.leaves → way_on (plan_of b) x t v ≡ some r → Comes g r
  come_by g owed [] v l h = let end : v ≡ t = way_route v [] h in absurd (omega (arith, owed.before_t))
  come_by g owed (e ∷ r) v l h = go (come_by g owed r e.leads) (eq-or-lt_of_le l) (test (ltb g.leaves e.leads))
    where
      goes : Goes b x v e
      goes = let (k, a, least) = relaxed_some ok v t (remaining (plan_of b) x t v) (e ∷ r) h in ((remaining_step v e r k).0 a).0

      go : (e.leads ≤ g.leaves → way_on (plan_of b) x t e.leads ≡ some r → Comes g r) → (v ≡ g.leaves) ⊎ (v < g.leaves)
          → (ltb g.leaves e.leads ≡ true) ⊎ (ltb g.leaves e.leads ≡ false) → Comes g (e ∷ r)
      go rest (inl q) k = (e ∷ r, ap (way_on (plan_of b) x t) (sym q) ∙ h, omega arith)
      go rest (inr m) (inl k) =
          let same = goes.only g (owed_between owed v e.leads l (ltb-true g.leaves e.leads k)) in
          let leaves : e.leaves ≡ v = (way_next v e r h).1 in
          absurd (omega (arith, ap (λ (f : Belt). f.leaves) same))
      go rest (inr m) (inr k) =
          let (q, is, c) = rest (ltb-false g.leaves e.leads k) (way_next v e r h).2 in
          let more : cost (e ∷ r) ≡ e.cost + cost r = refl in
          (q, is, omega arith)

  pub way_above : (g : Belt) → Owed b x t g.leaves g → (k : ℕ) → k < way_cost (way_on (plan_of b) x t g.leaves) → (v : ℕ) → v ≤ g.leaves
      → at_most k (way_on (plan_of b) x t v) ≡ none
  way_above g owed k c v l = go (way_on (plan_of b) x t v) refl
    where
      go : (o : Option (List Belt)) → way_on (plan_of b) x t v ≡ o → at_most k o ≡ none
      go none e = refl
      go (some r) e =
          let (q, is, low) = come_by g owed r v l e in
          let dear : way_cost (way_on (plan_of b) x t g.leaves) ≡ cost q = ap way_cost is in
          at_most_none k (some r) (omega arith)

  pub way_relaxed : (s : ℕ) → AllOwed b x t s → way_on (plan_of b) x t s ≡ relaxed (plan_of b) s t x
  way_relaxed s owed = go (way_on (plan_of b) x t s) refl
    where
      go : (o : Option (List Belt)) → way_on (plan_of b) x t s ≡ o → o ≡ relaxed (plan_of b) s t x
      go none e = sym (no_relaxed ok s t x (λ q h a. relaxed_none ok s t (remaining (plan_of b) x t s) e q h (whole_remaining ok x t s q a)))
      go (some r) e =
          let (h, a, least) = relaxed_some ok s t (remaining (plan_of b) x t s) r e in
          let (has, allowed) = admits_is (remaining (plan_of b) x t s) r a in
          let admitted : admits x r ≡ true =
          is_admits x r (λ n m. let (g, l, q) = owed n m in ap (passes r) q ∙ has g.index (in_remaining x t s g l)) allowed in
          sym (is_relaxed ok s t x r h admitted (λ q l c. least q l (whole_remaining ok x t s q c)))

  pub unowed_relaxed : (s : ℕ) → ((e : ℕ) → Memᴰ e x.required → mem e (indices_of (plan_of b).belts) ≡ true)
      → (AllOwed b x t s → ⊥) → relaxed (plan_of b) s t x ≡ none
  unowed_relaxed s named h = no_relaxed ok s t x (λ q r a. h (admitted_owed ok x t s named q r a))
