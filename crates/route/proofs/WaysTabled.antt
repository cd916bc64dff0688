-- From rows of words to belts: what the code finds is the least by membership.
--
--   bit_none, none_bit   a bit of a mask is 0 where the mask does not have its place, and only there
--   over_of              the way over the word of a belt is the way over the belt
--   lowest_of_lem            the least of both rows of a place is the least over the open belts of its junction
--
-- Each open word of a row is that of an open belt, and each open belt has a word in a row that is not greater. Assumes nothing.
use mathlib.Core.Path.{◌≡◌, sym, ◌∙◌, ap, subst}
use mathlib.Core.Logic.{◌⊎◌, inl, inr}
use mathlib.Core.Bool.{true, false}
use Prim.Native.Nat.{ℕ, suc, ◌+◌, ◌-◌, ◌/◌, ◌%◌, ◌^◌, ◌≤◌, ◌<◌}
use mathlib.Core.List.{List, Memᴰ}
use native.Mathlib.Omega.{arith}
use lib.ListN.{get_or}
use borrow.Author.Tests.{eqb-false, ne_eqb}
use Rattle.plan.specs.Plan.{Belt, plan_of}
use Rattle.plan.specs.Reading.{Accepted}
use Rattle.plan.specs.Words.{word_head, word_of, far, is_named, start_at, mark_at, tail_place_at}
use Rattle.plan.proofs.Lists.{test}
use Rattle.route.specs.declared.ways.Way.{Way}
use Rattle.route.specs.Subproblems.{Subproblem}
use Rattle.route.specs.Ways.{bit, rest_at, Asked, over_word, over_belt, Near, OpenArc, Hit, Rows, Opens, Lowest}
use Rattle.route.proofs.WaysWords.{head_of}

-- a bit is 0 or 1
pub bit_none : (m k : ℕ) → bit m k ≡ false → m / 2 ^ k % 2 ≡ 0
bit_none m k h = omega (arith, eqb-false (m / 2 ^ k % 2) 1 h)

pub none_bit : (m k : ℕ) → m / 2 ^ k % 2 ≡ 0 → bit m k ≡ false
none_bit m k h = ne_eqb (m / 2 ^ k % 2) 1 (λ q. omega arith)

pub over_of : {b : List ℕ} (ok : Accepted b) (ways : List Way) (e : Belt) → Memᴰ e (plan_of b).belts → over_word ways (word_of e) ≡ over_belt ways e
over_of ok ways e m = ap (λ (j : ℕ). rest_at ways j + word_of e) (head_of ok e m)

module _ {b : List ℕ} {x : Subproblem} {words numbers : List ℕ} {due forbidden t : ℕ} (q : Asked b x words numbers due forbidden t)
    (u nearest : ℕ) (ways : List Way) (v : ℕ) (l : u < (plan_of b).junctions) (rows : Rows words numbers forbidden nearest ways u v) where
  -- the head of an open belt, as a place
  near_head : (e : Belt) → Opens b x (suc u) (suc nearest) e → e.leads - 1 ≤ nearest
  near_head e o = omega (arith, o.near)

  below_named : (e : Belt) → Opens b x (suc u) (suc nearest) e → is_named (plan_of b) e ≡ true → v ≤ over_belt ways e
  below_named e o h =
      let (k, arc) = q.tabled.has u e o.belt o.leaves h in
      let head : word_head (get_or words k 0) ≡ e.leads - 1 = ap word_head arc.same ∙ head_of q.accepted e o.belt in
      let free = bit_none forbidden (tail_place_at numbers k) (sym (q.of_named u k e arc).1 ∙ o.allowed) in
      let low = rows.of_named.below k arc.from arc.before (omega (arith, near_head e o), free) in
      let is : over_word ways (get_or words k 0) ≡ over_belt ways e = ap (over_word ways) arc.same ∙ over_of q.accepted ways e o.belt in
      omega (arith, rows.of_others.start)

  below_nameless : (e : Belt) → Opens b x (suc u) (suc nearest) e → is_named (plan_of b) e ≡ false → v ≤ over_belt ways e
  below_nameless e o h =
      let (i, cover) = q.tabled.covers u e o.belt o.leaves h in
      let low = rows.of_others.below i cover.from cover.before (omega (arith, cover.head, near_head e o)) in
      let is : over_word ways (get_or words i 0) ≡ rest_at ways (e.leads - 1) + get_or words i 0 =
      ap (λ (j : ℕ). rest_at ways j + get_or words i 0) cover.head in
      omega (arith, cover.less)

  abbrev Of : ℕ → Type 0
  Of w = (w ≡ far) ⊎ ((e : Belt) × Opens b x (suc u) (suc nearest) e × (w ≡ over_belt ways e))

  of_arc : (k : ℕ) → Hit words (OpenArc words numbers nearest forbidden) (mark_at numbers u) (mark_at numbers (u + 1)) ways rows.least k → Of rows.least
  of_arc k hit =
      let (e, arc) = q.tabled.arc_is u k l hit.from hit.before in
      let head : word_head (get_or words k 0) ≡ e.leads - 1 = ap word_head arc.same ∙ head_of q.accepted e arc.belt in
      let free = (q.of_named u k e arc).1 ∙ none_bit forbidden (tail_place_at numbers k) hit.is_open.1 in
      inr (
        e,
        record { belt = arc.belt; leaves = arc.leaves; allowed = free; near = omega (arith, hit.is_open.0) },
        hit.same ∙ ap (over_word ways) arc.same ∙ over_of q.accepted ways e arc.belt,
      )

  of_word : (i : ℕ) → Hit words (Near words nearest) (start_at numbers u) (start_at numbers (u + 1)) ways v i → Of v
  of_word i hit =
      let (e, word) = q.tabled.word_is u i l hit.from hit.before in
      let head : word_head (get_or words i 0) ≡ e.leads - 1 = ap word_head word.same ∙ head_of q.accepted e word.belt in
      inr (
        e,
        record {
          belt = word.belt;
          leaves = word.leaves;
          allowed = (q.of_nameless e word.belt word.nameless).1;
          near = omega (arith, hit.is_open);
        },
        hit.same ∙ ap (over_word ways) word.same ∙ over_of q.accepted ways e word.belt,
      )

  pub lowest_of_lem : Lowest b x (suc u) (suc nearest) ways v
  lowest_of_lem = record {
    start = omega (arith, rows.of_named.start, rows.of_others.start);
    below = λ e o. below e o (test (is_named (plan_of b) e));
    one = one rows.of_others.one rows.of_named.one;
  }
    where
      below : (e : Belt) → Opens b x (suc u) (suc nearest) e → (is_named (plan_of b) e ≡ true) ⊎ (is_named (plan_of b) e ≡ false) → v ≤ over_belt ways e
      below e o (inl h) = below_named e o h
      below e o (inr h) = below_nameless e o h

      one : (v ≡ rows.least)
          ⊎ ((i : ℕ) × Hit words (Near words nearest) (start_at numbers u) (start_at numbers (u + 1)) ways v i)
          → (rows.least ≡ far)
          ⊎ ((k : ℕ) × Hit words (OpenArc words numbers nearest forbidden) (mark_at numbers u) (mark_at numbers (u + 1)) ways rows.least k)
          → Of v
      one (inr (i, hit)) s = of_word i hit
      one (inl q) (inl s) = inl (q ∙ s)
      one (inl q) (inr (k, hit)) = subst Of (sym q) (of_arc k hit)
