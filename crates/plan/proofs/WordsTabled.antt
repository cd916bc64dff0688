-- The arrays of an accepted plan (specs/Words.antt) are what a pass over them goes by (specs/Tables.antt).
--
--   length_words_in    the array of words has n places
--   words_low          every word in it is below far
--   words_sound        the arrays are sound
--   words_table        they are those of the plan
--   words_tabled       both
--
-- Assumes nothing.
use mathlib.Core.Path.{◌≡◌, refl, sym, ◌∙◌, ap, subst}
use mathlib.Core.Logic.{◌⊎◌, inl, inr}
use mathlib.Core.Bool.{Bool, true, false, not}
use Prim.Native.Nat.{ℕ, zero, suc, ◌+◌, ◌-◌, ◌≤◌, ◌<◌}
use mathlib.Core.List.Memᴰ
use mathlib.Core.List.{List, [], ◌++◌, map, Memᴰ}
use native.Mathlib.Omega.{arith}
use native.Mathlib.Numerals.{add-one}
use lib.ListN.{length, get_or, replicate, length-map, get_or-eq_default}
use Rattle.std.specs.Prelude.{Some}
use Rattle.plan.specs.Bounds.{max_junctions, max_named}
use Rattle.plan.specs.Lists.{keep}
use Rattle.plan.specs.Records.{records}
use Rattle.plan.specs.Plan.{Belt, plan_of, leaving, named}
use Rattle.plan.specs.Reading.{Accepted, Bytes}
use Rattle.plan.specs.Words.{word_of, word_head, far, is_named, is_nameless, row_of, rows_to, named_to, padded, words_in, row_numbers, start_at, mark_at, named_at}
use Rattle.plan.specs.Tables.{Below, Rising, Sound, Word, Covered, Arc, Tabled}
use Rattle.plan.specs.Inner.{words_to, start_of, mark_of, tail_of, tail_place_of}
use Rattle.plan.proofs.Lists.{at_member, lt_or_le, in_keep, map_in, mem_in}
use Rattle.plan.proofs.ListRising.{none}
use Rattle.plan.proofs.NamedBelts.{named_rises}
use Rattle.plan.proofs.NamedPlaces.{at_place, place_in_lem}
use Rattle.plan.proofs.Reading.{plan_sizes, in_leaving, belt_ends, named_few}
use Rattle.plan.proofs.WordsParts.{belt_word, belt_parts, same_word}
use Rattle.plan.proofs.WordsRows.{row_covers, row_rises, heads_rise}
use Rattle.plan.proofs.WordsNamed.{order_fit, named_order, named_all}
use Rattle.plan.proofs.WordsFilled.{length_words, words_all, rows_fit}
use Rattle.plan.proofs.WordsPlaces.{member_at, rises_once, named_in, word_in, rows_in, named_of, mark_next, start_next, marks_rise, mark_of_lem, leaving_rises, row_at, length_numbers, named_at_lem, start_at_lem, start_past, mark_at_lem, mark_past, tails_are, places_are, Placed, belts_at, belt_at_lem}

-- ---- words

-- what holds of 0 and of all elements holds at every place
at_every : (P : ℕ → Type 0) (l : List ℕ) → P 0 → ((x : ℕ) → Memᴰ x l → P x) → (i : ℕ) → P (get_or l i 0)
at_every P l zero_is each i = go (lt_or_le i (length l))
  where
    go : (i < length l) ⊎ (length l ≤ i) → P (get_or l i 0)
    go (inl h) = each (get_or l i 0) (at_member l i h)
    go (inr h) = subst P (sym (get_or-eq_default l 0 h)) zero_is

-- what holds of 0 and of some elements holds of those with 0 behind them
padded_each : (P : ℕ → Type 0) (n : ℕ) (l : List ℕ) → P 0 → ((x : ℕ) → Memᴰ x l → P x) → (x : ℕ) → Memᴰ x (padded n l) → P x
padded_each P n l zero_is each x m = go (Memᴰ.append_cases l m)
  where
    fresh : (k : ℕ) → Memᴰ x (replicate k 0) → P x
    fresh zero j = absurd (Memᴰ.not-nil j)
    fresh (suc k) (Memᴰ.head q) = subst P (sym q) zero_is
    fresh (suc k) (Memᴰ.tail j) = fresh k j

    go : Memᴰ x l ⊎ Memᴰ x (replicate (n - length l) 0) → P x
    go (inl k) = each x k
    go (inr k) = fresh (n - length l) k

module _ {b : List ℕ} (ok : Accepted b) (n : ℕ) where
  pub length_words_in : max_named + records b ≤ n → length (words_in n (plan_of b)) ≡ n
  length_words_in room =
      let p = plan_of b in
      let last = p.junctions in
      ap length (sym (words_all n p))
      ∙ length_words n (named_to p last) (named_order ok last) (rows_to p last) (omega (arith, rows_fit p last, order_fit ok last))

  pub words_low : Bytes b → Below (words_in n (plan_of b))
  words_low bytes i =
      let p = plan_of b in
      subst (λ (ws : List ℕ). get_or ws i 0 < far) (words_all n p)
      (at_every (λ (x : ℕ). x < far) (words_to n (named_to p p.junctions) (rows_to p p.junctions)) (omega arith) (λ x m.
      both x (Memᴰ.append_cases (padded max_named (map word_of (named_to p p.junctions))) m)) i)
    where
      word : (e : Belt) → Memᴰ e (plan_of b).belts → (x : ℕ) → x ≡ word_of e → x < far
      word e m x q = omega (arith, belt_word ok e m bytes)

      both : (x : ℕ)
          → Memᴰ x (padded max_named (map word_of (named_to (plan_of b) (plan_of b).junctions))) ⊎ Memᴰ x (padded (n - max_named) (rows_to (plan_of b) (plan_of b).junctions)) → x < far
      both x (inl m) =
          let p = plan_of b in
          padded_each (λ (y : ℕ). y < far) max_named (map word_of (named_to p p.junctions)) (omega arith)
          (λ y k. let (e, i, q) = map_in word_of (named_to p p.junctions) k in word e (named_in p p.junctions e i).0 y q) x m
      both x (inr m) =
          let p = plan_of b in
          padded_each (λ (y : ℕ). y < far) (n - max_named) (rows_to p p.junctions) (omega arith)
          (λ y k. let (e, i, q) = rows_in p p.junctions y k in word e i y q) x m

-- ---- both arrays

module _ {b : List ℕ} (ok : Accepted b) (n : ℕ) (numbers more : List ℕ) (are : numbers ≡ row_numbers (plan_of b) ++ more) where
  -- the place behind u
  start_behind : (u : ℕ) → u < (plan_of b).junctions → start_at numbers (u + 1) ≡ start_of (plan_of b) (suc u)
  start_behind u h = start_at_lem ok numbers more are (u + 1) (omega arith) ∙ ap (start_of (plan_of b)) (add-one u)

  mark_behind : (u : ℕ) → u < (plan_of b).junctions → mark_at numbers (u + 1) ≡ mark_of (plan_of b) (suc u)
  mark_behind u h = mark_at_lem ok numbers more are (u + 1) (omega arith) ∙ ap (mark_of (plan_of b)) (add-one u)

  -- a place of a row, as one of its words
  row_place : (u i : ℕ) → u < (plan_of b).junctions → start_at numbers u ≤ i → i < start_at numbers (u + 1)
      → (i - start_of (plan_of b) u < length (row_of (plan_of b) (suc u))) × (start_of (plan_of b) u ≤ i)
      × (get_or (words_in n (plan_of b)) i 0 ≡ get_or (row_of (plan_of b) (suc u)) (i - start_of (plan_of b) u) 0)
  row_place u i h from to =
      let p = plan_of b in
      let first = start_at_lem ok numbers more are u (omega arith) in
      let last = start_behind u h in
      let next = start_next p u in
      let j = i - start_of p u in
      let at : i ≡ start_of p u + j = omega arith in
      let low : j < length (row_of p (suc u)) = omega arith in
      (low, omega arith, ap (λ (k : ℕ). get_or (words_in n p) k 0) at ∙ row_at ok n u j h low)

  -- a place of a junction's named belts
  mark_place : (u k : ℕ) → u < (plan_of b).junctions → mark_at numbers u ≤ k → k < mark_at numbers (u + 1) → (mark_of (plan_of b) u ≤ k) × (k < mark_of (plan_of b) (suc u))
  mark_place u k h from to = (omega (arith, mark_at_lem ok numbers more are u (omega arith)), omega (arith, mark_behind u h))

  named_all_of : named_at numbers ≡ length (named_to (plan_of b) (plan_of b).junctions)
  named_all_of = named_at_lem ok numbers more are ∙ sym (named_all ok (plan_of b).junctions (omega arith))

  -- what is made of the named belts, at any place
  at_belt : (P : ℕ → Type 0) (f : Belt → ℕ) → P 0 → ((e : Belt) → Memᴰ e (plan_of b).belts → is_named (plan_of b) e ≡ true → P (f e)) → (k : ℕ)
      → P (get_or (padded max_named (map f (named_to (plan_of b) (plan_of b).junctions))) k 0)
  at_belt P f zero_is each k =
      let p = plan_of b in
      let es = named_to p p.junctions in
      at_every P (padded max_named (map f es)) zero_is
      (padded_each P max_named (map f es) zero_is (λ x m.
      let (e, i, q) = map_in f es m in
      let (inside, t) = named_in p p.junctions e i in
      subst P (sym q) (each e inside t))) k

  -- a named belt's place is one of max_named
  place_few : (e : Belt) → is_named (plan_of b) e ≡ true → tail_place_of (plan_of b) e < max_named
  place_few e t =
      let p = plan_of b in
      omega (arith, (at_place e.index (named_rises b) (mem_in (named p) t)).1, named_few ok)

  pub words_sound : Bytes b → max_named + records b ≤ n → Sound (words_in n (plan_of b)) numbers
  words_sound bytes room = record {
    numbers_fit = omega (arith, length_numbers ok numbers more are);
    words_fit = omega (arith, length_words_in ok n room);
    row = λ u l. row u l (lt_or_le (plan_of b).junctions u);
    named_row = λ u l. named_row u l (lt_or_le (plan_of b).junctions u);
    rises = λ u l. rises u l (lt_or_le u (plan_of b).junctions);
    low = words_low ok n bytes;
    named_few = omega (arith, named_at_lem ok numbers more are, named_few ok);
    tail_low = λ k l.
        subst (λ (x : ℕ). x < max_junctions) (sym (tails_are ok numbers more are k l))
        (at_belt (λ (x : ℕ). x < max_junctions) tail_of (omega arith) (λ e m t. omega (arith, belt_ends ok e m, (plan_sizes ok).1)) k);
    place_low = λ k l.
        subst (λ (x : ℕ). x < max_named) (sym (places_are ok numbers more are k l))
        (at_belt (λ (x : ℕ). x < max_named) (tail_place_of (plan_of b)) (omega arith) (λ e m t. place_few e t) k);
  }
    where
      row : (u : ℕ) → u ≤ max_junctions → ((plan_of b).junctions < u) ⊎ (u ≤ (plan_of b).junctions) → start_at numbers u ≤ length (words_in n (plan_of b))
      row u l (inl h) = omega (arith, start_past ok numbers more are u h l)
      row u l (inr h) = omega (arith, start_at_lem ok numbers more are u h, rows_fit (plan_of b) u, order_fit ok u, length_words_in ok n room)

      named_row : (u : ℕ) → u ≤ max_junctions → ((plan_of b).junctions < u) ⊎ (u ≤ (plan_of b).junctions) → mark_at numbers u ≤ max_named
      named_row u l (inl h) = omega (arith, mark_past ok numbers more are u h l)
      named_row u l (inr h) = omega (arith, mark_at_lem ok numbers more are u h, named_order ok u)

      rises : (u : ℕ) → u < max_junctions → (u < (plan_of b).junctions) ⊎ ((plan_of b).junctions ≤ u) → Rising (words_in n (plan_of b)) (start_at numbers u) (start_at numbers (u + 1))
      rises u l (inr h) i j from order to = absurd (omega (arith, start_past ok numbers more are (u + 1) (omega arith) (omega arith)))
      rises u l (inl h) i j from order to =
          let p = plan_of b in
          let (low-i, above-i, is-i) = row_place u i h from (omega arith) in
          let (low-j, above-j, is-j) = row_place u j h (omega arith) to in
          omega (
            arith,
            ap word_head is-i,
            ap word_head is-j,
            heads_rise (row_of p (suc u)) (row_rises [] (keep (is_nameless p) (leaving p (suc u))) none) (i - start_of p u) (j - start_of p u) (omega arith) low-j,
          )

  -- the junction of a belt is one of the plan
  junction_low : (u : ℕ) (e : Belt) → Memᴰ e (plan_of b).belts → e.leaves ≡ suc u → u < (plan_of b).junctions
  junction_low u e m q = omega (arith, belt_ends ok e m)

  arc_of_lem : (u k : ℕ) (e : Belt) → u < (plan_of b).junctions → mark_of (plan_of b) u ≤ k → k < mark_of (plan_of b) (suc u) → Placed (plan_of b) (words_in n (plan_of b)) numbers u k e
      → Arc (plan_of b) (words_in n (plan_of b)) numbers u k e
  arc_of_lem u k e h from to s = record {
    from = omega (arith, mark_at_lem ok numbers more are u (omega arith));
    before = omega (arith, mark_behind u h);
    belt = s.belt;
    leaves = s.leaves;
    same = s.same;
  }

  -- the belt of an arc is that of its place
  of_arc : (u k : ℕ) (e : Belt) → Arc (plan_of b) (words_in n (plan_of b)) numbers u k e
      → (mark_of (plan_of b) u ≤ k) × (k < mark_of (plan_of b) (suc u)) × Placed (plan_of b) (words_in n (plan_of b)) numbers u k e
  of_arc u k e a =
      let p = plan_of b in
      let h = junction_low u e a.belt a.leaves in
      let (from, to) = mark_place u k h a.from a.before in
      let (d, s) = belts_at ok n numbers more are u k h from to in
      (from, to, subst (Placed p (words_in n p) numbers u k) (same_word ok d e s.belt a.belt (sym s.same ∙ a.same)) s)

  pub words_table : Tabled (plan_of b) (words_in n (plan_of b)) numbers
  words_table = record {
    word_is = word_is;
    covers = covers;
    arc_is = λ u k h from to.
        let (first, last) = mark_place u k h from to in
        let (e, s) = belts_at ok n numbers more are u k h first last in
        (e, arc_of_lem u k e h first last s);
    has = λ u e m q t.
        let h = junction_low u e m q in
        let (k, first, last, s) = belt_at_lem ok n numbers more are u e h (in_keep (is_named (plan_of b)) (leaving (plan_of b) (suc u)) (in_leaving (plan_of b) (suc u) e m q) t) in
        (k, arc_of_lem u k e h first last s);
    once = once;
    arc_named = λ u k e a. (of_arc u k e a).2.is_named;
    tail_is = λ u k e a. omega (arith, (of_arc u k e a).2.tail, a.leaves);
    place_is = λ u k e a.
        let s = (of_arc u k e a).2 in
        place_in_lem e.index (named (plan_of b)) (mem_in (named (plan_of b)) s.is_named) ∙ ap Some (sym s.place);
    arc_at = λ k l.
        let (u, h, first, last) = mark_of_lem (plan_of b) k (plan_of b).junctions (omega (arith, named_all_of)) in
        let (e, s) = belts_at ok n numbers more are u k h first last in
        (u, e, h, arc_of_lem u k e h first last s);
    arc_few = λ u k e a.
        let (first, last, s) = of_arc u k e a in
        omega (arith, named_all_of, marks_rise (plan_of b) (suc u) (plan_of b).junctions (junction_low u e a.belt a.leaves));
    named_all = named_at_lem ok numbers more are;
    marks_rise = λ u h.
        let here = mark_at_lem ok numbers more are u (omega arith) in
        let next = mark_at_lem ok numbers more are (u + 1) (omega arith) in
        let up = marks_rise (plan_of b) u (u + 1) (omega arith) in
        omega arith;
  }
    where
      word_is : (u i : ℕ) → u < (plan_of b).junctions → start_at numbers u ≤ i → i < start_at numbers (u + 1) → (e : Belt) × Word (plan_of b) (words_in n (plan_of b)) i u e
      word_is u i h from to =
          let p = plan_of b in
          let row = row_of p (suc u) in
          let (low, above, is) = row_place u i h from to in
          let (e, m, q, t, w) = word_in p (suc u) (get_or row (i - start_of p u) 0) (at_member row (i - start_of p u) low) in
          (e, record { belt = m; leaves = q; nameless = flip (is_named p e) t; same = is ∙ w })
        where
          flip : (t : Bool) → not t ≡ true → t ≡ false
          flip true q = sym q
          flip false q = refl

      covers : (u : ℕ) (e : Belt) → Memᴰ e (plan_of b).belts → e.leaves ≡ suc u → is_named (plan_of b) e ≡ false → (i : ℕ) × Covered (words_in n (plan_of b)) numbers u i e
      covers u e m q t =
          let p = plan_of b in
          let row = row_of p (suc u) in
          let h = junction_low u e m q in
          let mine = keep (is_nameless p) (leaving p (suc u)) in
          let (x, inside, head, less) = row_covers [] mine e (in_keep (is_nameless p) (leaving p (suc u)) (in_leaving p (suc u) e m q) (ap not t)) in
          let (j, low, at) = member_at inside in
          let is : get_or (words_in n p) (start_of p u + j) 0 ≡ x = row_at ok n u j h low ∙ at in
          let first = start_at_lem ok numbers more are u (omega arith) in
          let last = start_behind u h in
          let next = start_next p u in (
            start_of p u + j,
            record { from = omega arith; before = omega arith; head = ap word_head is ∙ head ∙ (belt_parts ok e m).2; less = omega arith },
          )

      once : (u v j k : ℕ) (e : Belt) → Arc (plan_of b) (words_in n (plan_of b)) numbers u j e → Arc (plan_of b) (words_in n (plan_of b)) numbers v k e → j ≡ k
      once u v j k e a c =
          let p = plan_of b in
          let one : v ≡ u = omega (arith, a.leaves, c.leaves) in
          let (first, last, s) = of_arc u j e a in
          let (first', last', s') = of_arc u k e (subst (λ (w : ℕ). Arc p (words_in n p) numbers w k e) one c) in
          let size = length-map (named_of p u) (λ (d : Belt). d.index) in
          let next = mark_next p u in
          let same = rises_once (leaving_rises ok u) (j - mark_of p u) (k - mark_of p u) (omega arith) (omega arith) (s.index ∙ sym s'.index) in
          omega arith

pub words_tabled : {b : List ℕ} (ok : Accepted b) (bytes : Bytes b) (n : ℕ) → max_named + records b ≤ n → (numbers more : List ℕ) → numbers ≡ row_numbers (plan_of b) ++ more
    → Sound (words_in n (plan_of b)) numbers × Tabled (plan_of b) (words_in n (plan_of b)) numbers
words_tabled ok bytes n room numbers more are = (words_sound ok n numbers more are bytes room, words_table ok n numbers more are)
