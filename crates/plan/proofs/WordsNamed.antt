-- The named belts among those in order (specs/Words.antt): how many there are.
--
--   keep_append        what is kept of two lists
--   order_fit          there are no more belts in order than records
--   order_few          there are fewer than max_records
--   order_next         how many there are, one junction further
--   named_order        at most max_named named belts leave the junctions up to u
--   named_all          up to the last junction they are all
--
-- Assumes nothing.
use mathlib.Core.Path.{◌≡◌, refl, sym, ◌∙◌, ap}
use mathlib.Core.Bool.{Bool, true, false, ◌&&◌}
use Prim.Native.Nat.{ℕ, zero, suc, ◌+◌, ◌-◌, ◌≤◌, ◌<◌}
use mathlib.Core.List.{List, [], ◌∷◌, ◌++◌, Memᴰ}
use native.Mathlib.Omega.{arith}
use lib.ListN.{length, length-append, length-map}
use lib.Dec.{eqb, leb}
use borrow.Author.Tests.{eqb-true, eqb-false, leb-true, leb-false, le-leb, lt-leb}
use Rattle.plan.specs.Bounds.{max_named, max_records}
use Rattle.plan.specs.Lists.{any, keep_by, keep, count_by, count, mem, upto}
use Rattle.plan.specs.Records.{kind, junctions, records}
use Rattle.plan.specs.Plan.{Belt, Plan, plan_of, belt_at, belt_records, indices_of, in_rule, leaving, named}
use Rattle.plan.specs.Reading.{Accepted}
use Rattle.plan.specs.Words.{in_order, is_named, named_to}
use Rattle.plan.proofs.Lists.{never, alike, in_keep, keep_in, keep_map, in_map, in_mem, mem_in, length_iota, count_append}
use Rattle.plan.proofs.ListCounts.{length_keep, count_few}
use Rattle.plan.proofs.LineForms.{few}
use Rattle.plan.proofs.LineAccepted.{accepted_passed}
use Rattle.plan.proofs.Reading.{belt_ends, named_few}

-- ---- counting

pub keep_append : {A : Type 0} (f : A → Bool) (xs ys : List A) → keep f (xs ++ ys) ≡ keep f xs ++ keep f ys
keep_append f [] ys = refl
keep_append f (x ∷ xs) ys = go (f x) (keep_append f xs ys)
  where
    go : (t : Bool) → keep f (xs ++ ys) ≡ keep f xs ++ keep f ys → keep_by t x (keep f (xs ++ ys)) ≡ keep_by t x (keep f xs) ++ keep f ys
    go true e = λ i. x ∷ e i
    go false e = e

-- what passes alike is counted alike
count_same : (f g : Belt → Bool) (es : List Belt) → ((e : Belt) → Memᴰ e es → f e ≡ g e) → count f es ≡ count g es
count_same f g [] h = refl
count_same f g (e ∷ es) h =
    ap (λ (t : Bool). count_by t (count f es)) (h e (Memᴰ.head refl)) ∙ ap (count_by (g e)) (count_same f g es (λ d m. h d (Memᴰ.tail m)))

count_never : (es : List Belt) → count (λ (e : Belt). false) es ≡ 0
count_never [] = refl
count_never (e ∷ es) = count_never es

-- what passes both tests
count_keep : (f g : Belt → Bool) (es : List Belt) → count f (keep g es) ≡ count (λ (e : Belt). g e && f e) es
count_keep f g [] = refl
count_keep f g (e ∷ es) = go (g e) (count_keep f g es)
  where
    go : (t : Bool) → count f (keep g es) ≡ count (λ (d : Belt). g d && f d) es
        → count f (keep_by t e (keep g es)) ≡ count_by (t && f e) (count (λ (d : Belt). g d && f d) es)
    go true h = ap (count_by (f e)) h
    go false h = h

-- what passes less often is counted no more
count_mono : (f g : Belt → Bool) → ((e : Belt) → f e ≡ true → g e ≡ true) → (es : List Belt) → count f es ≤ count g es
count_mono f g h [] = omega arith
count_mono f g h (e ∷ es) = go (f e) (g e) refl refl (count_mono f g h es)
  where
    go : (s t : Bool) → f e ≡ s → g e ≡ t → count f es ≤ count g es → count_by s (count f es) ≤ count_by t (count g es)
    go true true p q l = omega arith
    go true false p q l = absurd (never (h e p) q)
    go false true p q l = omega arith
    go false false p q l = l

-- those that leave a junction up to u, and those that leave the next, are those that leave a junction up to the next
one_further : (f : Belt → Bool) (u : ℕ) (es : List Belt)
    → count (λ (e : Belt). leb e.leaves u && f e) es + count (λ (e : Belt). eqb e.leaves (suc u) && f e) es ≡ count (λ (e : Belt). leb e.leaves (suc u) && f e) es
one_further f u [] = omega arith
one_further f u (e ∷ es) = go (leb e.leaves u) (eqb e.leaves (suc u)) (leb e.leaves (suc u)) (f e) refl refl refl (one_further f u es)
  where
    low : ℕ
    low = count (λ (x : Belt). leb x.leaves u && f x) es

    next : ℕ
    next = count (λ (x : Belt). eqb x.leaves (suc u) && f x) es

    both : ℕ
    both = count (λ (x : Belt). leb x.leaves (suc u) && f x) es

    go : (s t v w : Bool) → leb e.leaves u ≡ s → eqb e.leaves (suc u) ≡ t → leb e.leaves (suc u) ≡ v → low + next ≡ both
        → count_by (s && w) low + count_by (t && w) next ≡ count_by (v && w) both
    go false false false w p q r h = h
    go true false true true p q r h = omega arith
    go true false true false p q r h = h
    go false true true true p q r h = omega arith
    go false true true false p q r h = h
    go false false true w p q r h =
        absurd (omega (arith, leb-false e.leaves u p, eqb-false e.leaves (suc u) q, leb-true e.leaves (suc u) r))
    go true true v w p q r h = absurd (omega (arith, leb-true e.leaves u p, eqb-true e.leaves (suc u) q))
    go true false false w p q r h = absurd (omega (arith, leb-true e.leaves u p, leb-false e.leaves (suc u) r))
    go false true false w p q r h = absurd (omega (arith, eqb-true e.leaves (suc u) q, leb-false e.leaves (suc u) r))

-- belts leave junctions from 1 on
order_count : (f : Belt → Bool) (p : Plan) → ((e : Belt) → Memᴰ e p.belts → 1 ≤ e.leaves) → (u : ℕ)
    → count f (in_order p u) ≡ count (λ (e : Belt). leb e.leaves u && f e) p.belts
order_count f p low zero =
    sym (count_same (λ (e : Belt). leb e.leaves 0 && f e) (λ (e : Belt). false) p.belts
    (λ e m. ap (λ (t : Bool). t && f e) (lt-leb e.leaves 0 (low e m))) ∙ count_never p.belts)
order_count f p low (suc u) =
    omega (arith, count_append f (in_order p u) (leaving p (suc u)), count_keep f (λ (e : Belt). eqb e.leaves (suc u)) p.belts, order_count f p low u, one_further f u p.belts)

module _ {b : List ℕ} (ok : Accepted b) where
  -- ---- belts in order

  -- the header and the junctions are no belts
  belts_few : length (plan_of b).belts ≤ records b - suc (junctions b)
  unfolding plan_of
  belts_few =
      let all = upto (suc (junctions b)) (records b) in
      let is_belt : ℕ → Bool = λ (r : ℕ). eqb (kind b r) 2 in
      omega (arith, length-map (belt_records b) (belt_at b), length_keep is_belt all, count_few is_belt all, length_iota (suc (junctions b)) (records b - suc (junctions b)))

  -- every belt is counted
  all_counted : (es : List Belt) → count (λ (e : Belt). true) es ≡ length es
  all_counted [] = refl
  all_counted (e ∷ es) = ap suc (all_counted es)

  order_most : (u : ℕ) → length (in_order (plan_of b) u) ≤ records b - suc (junctions b)
  order_most u =
      let each : Belt → Bool = λ (e : Belt). true in
      omega (
        arith,
        all_counted (in_order (plan_of b) u),
        order_count each (plan_of b) (λ e m. (belt_ends ok e m).0) u,
        count_few (λ (e : Belt). leb e.leaves u && each e) (plan_of b).belts,
        belts_few,
      )

  pub order_fit : (u : ℕ) → length (in_order (plan_of b) u) ≤ records b
  order_fit u = omega (arith, order_most u)

  pub order_few : (u : ℕ) → length (in_order (plan_of b) u) < max_records
  order_few u = omega (arith, order_most u, few b (accepted_passed b ok.unrefused).0.0.0.0)

  pub order_next : (u : ℕ) → length (in_order (plan_of b) (suc u)) ≡ length (in_order (plan_of b) u) + length (leaving (plan_of b) (suc u))
  order_next u = length-append (in_order (plan_of b) u) (leaving (plan_of b) (suc u))

  -- ---- named ones

  named_count : count (is_named (plan_of b)) (plan_of b).belts ≡ length (named (plan_of b))
  unfolding named
  named_count =
      let rule : ℕ → Bool = λ (n : ℕ). any (in_rule n) (plan_of b).rules in
      let own : Belt → Bool = λ (e : Belt). rule e.index in
      let names = indices_of (plan_of b).belts in
      let is : length (keep rule names) ≡ count own (plan_of b).belts =
      ap length (keep_map rule (λ (e : Belt). e.index) (plan_of b).belts) ∙ length-map (keep own (plan_of b).belts) (λ (e : Belt). e.index) ∙ length_keep own (plan_of b).belts in
      count_same (is_named (plan_of b)) own (plan_of b).belts
      (λ e m.
      alike (mem e.index (keep rule names)) (own e)
      (λ h. (keep_in rule names (mem_in (keep rule names) h)).1)
      (λ h. in_mem (keep rule names) (in_keep rule names (in_map (λ (d : Belt). d.index) m) h)))
      ∙ sym is

  order_named : (u : ℕ) → length (named_to (plan_of b) u) ≡ count (λ (e : Belt). leb e.leaves u && is_named (plan_of b) e) (plan_of b).belts
  order_named u = length_keep (is_named (plan_of b)) (in_order (plan_of b) u) ∙ order_count (is_named (plan_of b)) (plan_of b) (λ e m. (belt_ends ok e m).0) u

  pub named_order : (u : ℕ) → length (named_to (plan_of b) u) ≤ max_named
  named_order u =
      omega (
        arith,
        order_named u,
        count_mono (λ (e : Belt). leb e.leaves u && is_named (plan_of b) e) (is_named (plan_of b)) (λ e h. second (leb e.leaves u) (is_named (plan_of b) e) h) (plan_of b).belts,
        named_count,
        named_few ok,
      )
    where
      second : (s t : Bool) → (s && t) ≡ true → t ≡ true
      second true t h = h
      second false t h = absurd (never h refl)

  pub named_all : (u : ℕ) → (plan_of b).junctions ≤ u → length (named_to (plan_of b) u) ≡ length (named (plan_of b))
  named_all u h =
      order_named u
      ∙ count_same (λ (e : Belt). leb e.leaves u && is_named (plan_of b) e) (is_named (plan_of b)) (plan_of b).belts
      (λ e m. ap (λ (t : Bool). t && is_named (plan_of b) e) (le-leb e.leaves u (omega (arith, belt_ends ok e m))))
      ∙ named_count
