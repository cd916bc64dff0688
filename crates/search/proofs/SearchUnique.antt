-- A Search holds nothing beside its state: valid ones that stand for one state are equal.
--
--   valid_claim   this as it is claimed (ValidClaim)
--
-- A mask over the named belts is told by the belts that it fixes, the best by the indices of its belts, and what is not in use is 0.
-- Assumes nothing.
use mathlib.Core.Path.{◌≡◌, refl, sym, ◌∙◌, ap}
use mathlib.Core.Logic.{◌⊎◌, inl, inr}
use mathlib.Core.Bool.{Bool, true, false}
use mathlib.Core.Option.{Option, none, some}
use Prim.Native.Nat.{ℕ, zero, suc, ◌≤◌, ◌<◌}
use mathlib.Core.List.{List, []}
use native.Mathlib.Omega.{arith}
use lib.ListN.{length, get_or, drop}
use lib.Seq.{ext_get_or}
use lib.Dec.{eqb, ltb}
use borrow.Author.Tests.{eqb-true, eqb-false, ltb-true, ltb-false}
use Rattle.plan.specs.Lists.{mem}
use Rattle.plan.specs.Plan.{Belt, plan_of, indices_of, named}
use Rattle.plan.specs.Reading.{Accepted}
use Rattle.plan.proofs.Lists.{test}
use Rattle.plan.proofs.NamedBelts.{named_rises}
use Rattle.route.specs.declared.belts.Route.{Route}
use Rattle.route.specs.declared.relax.Fixings.{Fixings}
use Rattle.route.specs.Subproblems.{Subproblem}
use Rattle.route.specs.Values.{ids_of, packed, Known, route_in, fixed_in, OfNamed, subproblem_in}
use Rattle.route.proofs.RouteIndices.{known_indices}
use Rattle.route.proofs.MaskFixings.{fixed_mem, masks_equal}
use Rattle.search.specs.declared.state.Search.{Search}
use Rattle.search.specs.Search.{State, free}
use Rattle.search.specs.Values.{no_fixings, waiting_in, is_held, best_in, bound_of, state_in, Valid}
use Rattle.search.specs.Claims.{ValidClaim}
use Rattle.search.proofs.SearchState.{waiting_length}

-- ---- what waits

-- the same subproblems at each place
same_waiting : (b : List ℕ) (xs ys : List Fixings) (n : ℕ) → waiting_in b xs n ≡ waiting_in b ys n → (i : ℕ) → i < n
    → subproblem_in b (get_or xs i no_fixings) ≡ subproblem_in b (get_or ys i no_fixings)
same_waiting b xs ys zero e i l = absurd (omega (arith, l))
same_waiting b xs ys (suc n) e i l = go (test (eqb i n)) (same_waiting b xs ys n (ap (λ (x : List Subproblem). drop 1 x) e) i)
  where
    go : (eqb i n ≡ true) ⊎ (eqb i n ≡ false)
        → (i < n → subproblem_in b (get_or xs i no_fixings) ≡ subproblem_in b (get_or ys i no_fixings))
        → subproblem_in b (get_or xs i no_fixings) ≡ subproblem_in b (get_or ys i no_fixings)
    go (inl t) below =
        let at = eqb-true i n t in
        ap (λ (k : ℕ). subproblem_in b (get_or xs k no_fixings)) at
        ∙ ap (λ (x : List Subproblem). get_or x 0 free) e
        ∙ sym (ap (λ (k : ℕ). subproblem_in b (get_or ys k no_fixings)) at)
    go (inr t) below = let apart = eqb-false i n t in below (omega (arith, l, apart))

-- masks that fix the same belts are equal
same_mask : (b : List ℕ) (m n : ℕ) → OfNamed b m → OfNamed b n → fixed_in (named (plan_of b)) m ≡ fixed_in (named (plan_of b)) n → m ≡ n
same_mask b m n h k e =
    let ns = named (plan_of b) in
    masks_equal (named_rises b) m n h k (λ x i. sym (fixed_mem ns m x) ∙ ap (mem x) e ∙ fixed_mem ns n x)

module _ (b : List ℕ) (v w : Search) (valid : Valid b v) (also : Valid b w) (e : state_in b v ≡ state_in b w) where
  same_count : v.count ≡ w.count
  same_count =
      sym (waiting_length b v.waiting v.count) ∙ ap (λ (st : State). length st.waiting) e ∙ waiting_length b w.waiting w.count

  same_fixings : (i : ℕ) → get_or v.waiting i no_fixings ≡ get_or w.waiting i no_fixings
  same_fixings i = go (test (ltb i v.count))
    where
      go : (ltb i v.count ≡ true) ⊎ (ltb i v.count ≡ false) → get_or v.waiting i no_fixings ≡ get_or w.waiting i no_fixings
      go (inl t) =
          let waits : waiting_in b v.waiting v.count ≡ waiting_in b w.waiting v.count =
          ap (λ (st : State). st.waiting) e ∙ sym (ap (waiting_in b w.waiting) same_count) in
          let x = same_waiting b v.waiting w.waiting v.count waits i (ltb-true i v.count t) in
          let required = same_mask b _ _ (valid.required i) (also.required i) (ap (λ (y : Subproblem). y.required) x) in
          let forbidden = same_mask b _ _ (valid.forbidden i) (also.forbidden i) (ap (λ (y : Subproblem). y.forbidden) x) in
          λ k. record { required = required k; forbidden = forbidden k }
      go (inr t) =
          let past : v.count ≤ i = ltb-false i v.count t in
          valid.spare i past ∙ sym (also.spare i (omega (arith, past, same_count)))

-- ---- the best

abbrev is_found : Option (List Belt) → Bool
is_found none = false
is_found (some r) = true

found_is : (b : List ℕ) (t : Bool) (r : Route) → is_found (best_in b t r) ≡ t
found_is b true r = refl
found_is b false r = refl

abbrev belts_or : Option (List Belt) → List Belt
belts_or none = []
belts_or (some r) = r

-- a Route of the plan has the indices of its belts
ids_of_lem : {b : List ℕ} → Accepted b → (r : Route) → Known b r → ids_of r ≡ indices_of (route_in b r)
ids_of_lem ok r k = sym (known_indices ok r k)

same_best : {b : List ℕ} → Accepted b → (v w : Search) → Valid b v → Valid b w → is_held v.bound ≡ is_held w.bound → (t : Bool) → is_held v.bound ≡ t
    → best_in b (is_held v.bound) v.best ≡ best_in b (is_held w.bound) w.best → v.best ≡ w.best
same_best {b} ok v w valid also f true h e =
    let same : route_in b v.best ≡ route_in b w.best =
    ap (λ (t : Bool). belts_or (best_in b t v.best)) (sym h) ∙ ap belts_or e ∙ ap (λ (t : Bool). belts_or (best_in b t w.best)) (sym f ∙ h) in
    valid.rest_zero
    ∙ ap packed (ids_of_lem ok v.best valid.known ∙ ap indices_of same ∙ sym (ids_of_lem ok w.best also.known))
    ∙ sym also.rest_zero
same_best {b} ok v w valid also f false h e = valid.unheld h ∙ sym (also.unheld (sym f ∙ h))

pub valid_claim : ValidClaim
valid_claim b ok v w size long valid also e =
    let t = is_held v.bound in
    let u = is_held w.bound in
    let best : best_in b t v.best ≡ best_in b u w.best = ap (λ (st : State). st.best) e in
    let found : t ≡ u = sym (found_is b t v.best) ∙ ap is_found best ∙ found_is b u w.best in
    let waiting : v.waiting ≡ w.waiting =
    ext_get_or no_fixings v.waiting w.waiting (size ∙ sym long) (λ i l. same_fixings b v w valid also e i) in
    λ k. record {
      waiting = waiting k;
      count = same_count b v w valid also e k;
      opened = (e k).opened;
      best = same_best ok v w valid also found t refl best k;
      bound = (valid.bound_is ∙ ap bound_of best ∙ sym also.bound_is) k;
    }
