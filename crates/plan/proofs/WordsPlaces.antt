-- Where things stand in the arrays of a plan (specs/Words.antt): what each part of the array of numbers has, and which belt each place of the words is.
--
--   member_at          what is in a list stands at a place
--   pick               one belt for all that is made of the belts of a list
--   rises_once         what is in a rising list stands there once
--   named_in, word_in, rows_in
--                      the named belts in order are belts of the plan, and the words in rows are those of its nameless belts
--   named_of p u        the named belts that leave junction u + 1; leaving_rises: their indices rise
--   start_next, mark_next
--                      starts and marks, one junction further
--   marks_rise         marks rise; mark_of_lem: each place of a named belt is that of a junction
--   row_at             a place of a junction's row has the word that stands there in its row
--   length_numbers     the array of numbers has all its parts; length_rows: how long these are
--   start_at_lem, start_past, mark_at_lem, mark_past
--                      it has the starts and marks of the junctions of the plan, and 0 behind them
--   tails_are, places_are, named_at_lem
--                      the tails and places of the named belts, and how many there are
--   Placed             what the arrays have of a named belt
--   belts_at           each place of a junction's named belts has one of them; belt_at_lem: each of them has a place
--
-- Assumes nothing.
use mathlib.Core.Path.{◌≡◌, refl, sym, ◌∙◌, ap, subst}
use mathlib.Core.Logic.{◌⊎◌, inl, inr}
use mathlib.Core.Bool.{Bool, true, false}
use Prim.Native.Nat.{ℕ, zero, suc, ◌+◌, ◌-◌, ◌≤◌, ◌<◌}
use mathlib.Core.List.Memᴰ
use mathlib.Core.List.{List, [], ◌∷◌, ◌++◌, map, Memᴰ, append-nil, append_assoc, map-append}
use native.Mathlib.Omega.{arith}
use native.Mathlib.Nat.{eq-or-lt_of_le}
use lib.ListN.{length, get_or, length-append, length-map, get_or-append}
use lib.Dec.{eqb}
use Rattle.plan.specs.Bounds.{max_junctions, max_named, junction_places}
use Rattle.plan.specs.Lists.{keep_by, keep, upto}
use Rattle.plan.specs.Plan.{Belt, Plan, plan_of, indices_of, leaving, named}
use Rattle.plan.specs.Reading.{Accepted}
use Rattle.plan.specs.Words.{word_of, in_order, is_named, is_nameless, row_of, rows_to, named_to, padded, words_in, starts_of, marks_of, tails_of, tail_places_of, row_numbers, tails_from, tail_places_from, named_from, row_numbers_end, start_at, mark_at, tail_at, tail_place_at, named_at}
use Rattle.plan.specs.Inner.{start_of, mark_of, tail_of, tail_place_of}
use Rattle.plan.proofs.Lists.{lt_or_le, keep_in, in_map, map_in, get_d_first}
use Rattle.plan.proofs.ListRising.{Rises, more}
use Rattle.plan.proofs.Reading.{plan_sizes, leaving_in, belts_rise}
use Rattle.plan.proofs.WordsLists.{get_d_behind, padded_at, padded_past}
use Rattle.plan.proofs.WordsRows.{row_in, rises_at}
use Rattle.plan.proofs.WordsNamed.{keep_append, named_order}
use Rattle.plan.proofs.WordsFilled.{words_at, words_first, words_all, length_starts, length_marks, length_tails, length_upto}

-- ---- lists by their places

pub member_at : {x : ℕ} {l : List ℕ} → Memᴰ x l → (i : ℕ) × (i < length l) × (get_or l i 0 ≡ x)
member_at (Memᴰ.head q) = (0, omega arith, sym q)
member_at (Memᴰ.tail m) = let (i, h, q) = member_at m in (suc i, omega arith, q)

-- one belt for all that is made of the belts of a list
pub pick : (es : List Belt) (i : ℕ) → i < length es → (e : Belt) × Memᴰ e es × ((f : Belt → ℕ) → get_or (map f es) i 0 ≡ f e)
pick [] i h = absurd (omega arith)
pick (e ∷ es) zero h = (e, Memᴰ.head refl, λ f. refl)
pick (e ∷ es) (suc i) h = let (d, m, q) = pick es i (omega arith) in (d, Memᴰ.tail m, q)

belt_place : {e : Belt} {es : List Belt} → Memᴰ e es → (i : ℕ) × (i < length es) × ((f : Belt → ℕ) → get_or (map f es) i 0 ≡ f e)
belt_place (Memᴰ.head q) = (0, omega arith, λ f. ap f (sym q))
belt_place (Memᴰ.tail m) = let (i, h, q) = belt_place m in (suc i, omega arith, q)

pub rises_once : {xs : List ℕ} → Rises xs → (i j : ℕ) → i < length xs → j < length xs → get_or xs i 0 ≡ get_or xs j 0 → i ≡ j
rises_once r i j h k q = go (lt_or_le i j) (lt_or_le j i)
  where
    go : (i < j) ⊎ (j ≤ i) → (j < i) ⊎ (i ≤ j) → i ≡ j
    go (inl l) m = absurd (omega (arith, rises_at r i j l k))
    go (inr l) (inl m) = absurd (omega (arith, rises_at r j i m h))
    go (inr l) (inr m) = omega arith

-- what grows at its end keeps what it had
grows : {A : Type 0} (f g : ℕ → List A) → ((v : ℕ) → f (suc v) ≡ f v ++ g v) → (u v : ℕ) → u ≤ v → (rest : List A) × (f v ≡ f u ++ rest)
grows f g step u zero h = let e : 0 ≡ u = omega arith in ([], ap f e ∙ sym (append-nil (f u)))
grows {A} f g step u (suc v) h = go (eq-or-lt_of_le h) (grows f g step u v)
  where
    go : (u ≡ suc v) ⊎ (u < suc v) → (u ≤ v → (rest : List A) × (f v ≡ f u ++ rest)) → (rest : List A) × (f (suc v) ≡ f u ++ rest)
    go (inl q) below = ([], ap f (sym q) ∙ sym (append-nil (f u)))
    go (inr l) below =
        let (rest, q) = below (omega arith) in
        (rest ++ g v, step v ∙ ap (λ (l : List A). l ++ g v) q ∙ append_assoc (f u) rest (g v))

-- ---- belts in order

order_in : (p : Plan) (u : ℕ) (e : Belt) → Memᴰ e (in_order p u) → Memᴰ e p.belts
order_in p zero e m = absurd (Memᴰ.not-nil m)
order_in p (suc u) e m = go (Memᴰ.append_cases (in_order p u) m) (order_in p u e)
  where
    go : Memᴰ e (in_order p u) ⊎ Memᴰ e (leaving p (suc u)) → (Memᴰ e (in_order p u) → Memᴰ e p.belts) → Memᴰ e p.belts
    go (inl k) below = below k
    go (inr k) below = (leaving_in p (suc u) e k).0

pub named_in : (p : Plan) (u : ℕ) (e : Belt) → Memᴰ e (named_to p u) → Memᴰ e p.belts × (is_named p e ≡ true)
named_in p u e m = let (k, t) = keep_in (is_named p) (in_order p u) m in (order_in p u e k, t)

-- a word of a row is that of a nameless belt of its junction
pub word_in : (p : Plan) (u x : ℕ) → Memᴰ x (row_of p u) → (e : Belt) × Memᴰ e p.belts × (e.leaves ≡ u) × (is_nameless p e ≡ true) × (x ≡ word_of e)
word_in p u x m = go (row_in [] (keep (is_nameless p) (leaving p u)) x m)
  where
    go : Memᴰ x [] ⊎ ((e : Belt) × Memᴰ e (keep (is_nameless p) (leaving p u)) × (x ≡ word_of e))
        → (e : Belt) × Memᴰ e p.belts × (e.leaves ≡ u) × (is_nameless p e ≡ true) × (x ≡ word_of e)
    go (inl k) = absurd (Memᴰ.not-nil k)
    go (inr (e, k, q)) =
        let (i, t) = keep_in (is_nameless p) (leaving p u) k in
        let (j, l) = leaving_in p u e i in
        (e, j, l, t, q)

pub rows_in : (p : Plan) (u x : ℕ) → Memᴰ x (rows_to p u) → (e : Belt) × Memᴰ e p.belts × (x ≡ word_of e)
rows_in p zero x m = absurd (Memᴰ.not-nil m)
rows_in p (suc u) x m = go (Memᴰ.append_cases (rows_to p u) m) (rows_in p u x)
  where
    go : Memᴰ x (rows_to p u) ⊎ Memᴰ x (row_of p (suc u)) → (Memᴰ x (rows_to p u) → (e : Belt) × Memᴰ e p.belts × (x ≡ word_of e))
        → (e : Belt) × Memᴰ e p.belts × (x ≡ word_of e)
    go (inl k) below = below k
    go (inr k) below = let (e, i, l, t, q) = word_in p (suc u) x k in (e, i, q)

-- what is kept of belts with rising indices
keep_belts : (f : Belt → Bool) (es : List Belt) → Rises (indices_of es) → Rises (indices_of (keep f es))
keep_belts f [] r = r
keep_belts f (e ∷ es) (more up r) = go (f e) (keep_belts f es r)
  where
    above : (n : ℕ) → Memᴰ n (indices_of (keep f es)) → e.index < n
    above n m =
        let (d, k, q) = map_in (λ (x : Belt). x.index) (keep f es) m in
        up n (subst (λ (i : ℕ). Memᴰ i (indices_of es)) (sym q) (in_map (λ (x : Belt). x.index) (keep_in f es k).0))

    go : (t : Bool) → Rises (indices_of (keep f es)) → Rises (indices_of (keep_by t e (keep f es)))
    go true k = more above k
    go false k = k

-- the named belts that leave junction u + 1
abbrev pub named_of : Plan → ℕ → List Belt
named_of p u = keep (is_named p) (leaving p (suc u))

named_step : (p : Plan) (u : ℕ) → named_to p (suc u) ≡ named_to p u ++ named_of p u
named_step p u = keep_append (is_named p) (in_order p u) (leaving p (suc u))

pub mark_next : (p : Plan) (u : ℕ) → mark_of p (suc u) ≡ mark_of p u + length (named_of p u)
mark_next p u = ap length (named_step p u) ∙ length-append (named_to p u) (named_of p u)

pub start_next : (p : Plan) (u : ℕ) → start_of p (suc u) ≡ start_of p u + length (row_of p (suc u))
start_next p u = omega (arith, length-append (rows_to p u) (row_of p (suc u)))

pub marks_rise : (p : Plan) (u v : ℕ) → u ≤ v → mark_of p u ≤ mark_of p v
marks_rise p u v h =
    let (rest, q) = grows (named_to p) (named_of p) (named_step p) u v h in
    omega (arith, ap length q, length-append (named_to p u) rest)

pub mark_of_lem : (p : Plan) (k v : ℕ) → k < mark_of p v → (u : ℕ) × (u < v) × (mark_of p u ≤ k) × (k < mark_of p (suc u))
mark_of_lem p k zero h = absurd (omega arith)
mark_of_lem p k (suc v) h = go (lt_or_le k (mark_of p v)) (mark_of_lem p k v)
  where
    go : (k < mark_of p v) ⊎ (mark_of p v ≤ k) → (k < mark_of p v → (u : ℕ) × (u < v) × (mark_of p u ≤ k) × (k < mark_of p (suc u)))
        → (u : ℕ) × (u < suc v) × (mark_of p u ≤ k) × (k < mark_of p (suc u))
    go (inl l) below = let (u, c, f, t) = below l in (u, omega arith, f, t)
    go (inr l) below = (v, omega arith, l, h)

pub leaving_rises : {b : List ℕ} (ok : Accepted b) (u : ℕ) → Rises (indices_of (named_of (plan_of b) u))
leaving_rises {b} ok u =
    keep_belts (is_named (plan_of b)) (leaving (plan_of b) (suc u))
    (keep_belts (λ (e : Belt). eqb e.leaves (suc u)) (plan_of b).belts (belts_rise ok))

-- ---- the words

module _ {b : List ℕ} (ok : Accepted b) (n : ℕ) where
  -- every named belt has a place
  full : length (named_to (plan_of b) (plan_of b).junctions) ≤ max_named
  full = named_order ok (plan_of b).junctions

  pub row_at : (u j : ℕ) → u < (plan_of b).junctions → j < length (row_of (plan_of b) (suc u))
      → get_or (words_in n (plan_of b)) (start_of (plan_of b) u + j) 0 ≡ get_or (row_of (plan_of b) (suc u)) j 0
  row_at u j h l =
      let p = plan_of b in
      let last = p.junctions in
      let row = row_of p (suc u) in
      let m = length (rows_to p u) in
      let (rest, q) = grows (rows_to p) (λ (v : ℕ). row_of p (suc v)) (λ v. refl) (suc u) last h in
      let at : max_named + m + j ≡ max_named + (m + j) = omega arith in
      let size = length-append (rows_to p u) row in
      let all = ap length q in
      (λ i. get_or (sym (words_all n p) i) (at i) 0)
      ∙ words_at n (named_to p last) full (rows_to p last) (m + j) (omega (arith, length-append (rows_to p u ++ row) rest))
      ∙ ap (λ (ws : List ℕ). get_or ws (m + j) 0) q
      ∙ get_or-append (rows_to p u ++ row) rest 0 (m + j) (omega arith)
      ∙ get_d_behind (rows_to p u) row m refl j 0

  -- what is made of the named belts in order, at a place of a junction
  named_place : (f : Belt → ℕ) (u j : ℕ) → u < (plan_of b).junctions → j < length (named_of (plan_of b) u)
      → (mark_of (plan_of b) u + j < length (named_to (plan_of b) (plan_of b).junctions))
      × (get_or (map f (named_to (plan_of b) (plan_of b).junctions)) (mark_of (plan_of b) u + j) 0 ≡ get_or (map f (named_of (plan_of b) u)) j 0)
  named_place f u j h l =
      let p = plan_of b in
      let last = p.junctions in
      let before = map f (named_to p u) in
      let here = map f (named_of p u) in
      let (rest, q) = grows (named_to p) (named_of p) (named_step p) (suc u) last h in
      let split : map f (named_to p last) ≡ (before ++ here) ++ map f rest =
      ap (map f) (q ∙ ap (λ (es : List Belt). es ++ rest) (named_step p u))
      ∙ map-append f (named_to p u ++ named_of p u) rest
      ∙ ap (λ (l : List ℕ). l ++ map f rest) (map-append f (named_to p u) (named_of p u)) in
      let size = length-map (named_to p u) f in
      let size' = length-map (named_of p u) f in (
        omega (arith, ap length q, length-append (named_to p (suc u)) rest, mark_next p u),
        ap (λ (l : List ℕ). get_or l (mark_of p u + j) 0) split
            ∙ get_or-append (before ++ here) (map f rest) 0 (mark_of p u + j) (omega (arith, length-append before here))
            ∙ get_d_behind before here (mark_of p u) size j 0,
      )

  word_at : (k : ℕ) → k < length (named_to (plan_of b) (plan_of b).junctions)
      → get_or (words_in n (plan_of b)) k 0 ≡ get_or (map word_of (named_to (plan_of b) (plan_of b).junctions)) k 0
  word_at k h =
      let p = plan_of b in
      ap (λ (ws : List ℕ). get_or ws k 0) (sym (words_all n p)) ∙ words_first n (named_to p p.junctions) full (rows_to p p.junctions) k h

-- ---- the numbers

module _ {b : List ℕ} (ok : Accepted b) (numbers more : List ℕ) (are : numbers ≡ row_numbers (plan_of b) ++ more) where
  size_c : (length (tails_of (plan_of b)) ≡ max_named) × (length (tail_places_of (plan_of b)) ≡ max_named)
  size_c = length_tails (plan_of b) (named_order ok (plan_of b).junctions)

  parts : numbers ≡ starts_of (plan_of b) ++ (marks_of (plan_of b) ++ (tails_of (plan_of b) ++ (tail_places_of (plan_of b) ++ (length (named (plan_of b)) ∷ more))))
  unfolding row_numbers
  parts = are ∙ regroup (starts_of (plan_of b)) (marks_of (plan_of b)) (tails_of (plan_of b)) (tail_places_of (plan_of b)) (length (named (plan_of b)))
    where
      regroup : (a b c d : List ℕ) (k : ℕ) → (a ++ (b ++ (c ++ (d ++ (k ∷ []))))) ++ more ≡ a ++ (b ++ (c ++ (d ++ (k ∷ more))))
      regroup a b c d k = simp (append_assoc)

  pub length_numbers : named_from < length numbers
  length_numbers =
      let p = plan_of b in
      let e = length (named p) ∷ more in
      omega (
        arith,
        ap length parts,
        length-append (starts_of p) (marks_of p ++ (tails_of p ++ (tail_places_of p ++ e))),
        length-append (marks_of p) (tails_of p ++ (tail_places_of p ++ e)),
        length-append (tails_of p) (tail_places_of p ++ e),
        length-append (tail_places_of p) e,
        length_starts p (plan_sizes ok).1,
        length_marks p (plan_sizes ok).1,
        size_c,
      )

  pub length_rows : length (row_numbers (plan_of b)) ≡ row_numbers_end
  unfolding row_numbers
  length_rows =
      let p = plan_of b in
      let e : List ℕ = length (named p) ∷ [] in
      omega (
        arith,
        length-append (starts_of p) (marks_of p ++ (tails_of p ++ (tail_places_of p ++ e))),
        length-append (marks_of p) (tails_of p ++ (tail_places_of p ++ e)),
        length-append (tails_of p) (tail_places_of p ++ e),
        length-append (tail_places_of p) e,
        length_starts p (plan_sizes ok).1,
        length_marks p (plan_sizes ok).1,
        size_c,
      )

  -- behind the starts, and behind the marks
  behind_starts : (i : ℕ) → get_or numbers (junction_places + i) 0 ≡ get_or (marks_of (plan_of b) ++ (tails_of (plan_of b) ++ (tail_places_of (plan_of b) ++ (length (named (plan_of b)) ∷ more)))) i 0
  behind_starts i =
      let p = plan_of b in
      ap (λ (l : List ℕ). get_or l (junction_places + i) 0) parts
      ∙ get_d_behind (starts_of p) (marks_of p ++ (tails_of p ++ (tail_places_of p ++ (length (named p) ∷ more)))) junction_places (length_starts p (plan_sizes ok).1) i 0

  behind_marks : (i : ℕ) → get_or numbers (tails_from + i) 0 ≡ get_or (tails_of (plan_of b) ++ (tail_places_of (plan_of b) ++ (length (named (plan_of b)) ∷ more))) i 0
  behind_marks i =
      let p = plan_of b in
      let at : tails_from + i ≡ junction_places + (junction_places + i) = omega arith in
      ap (λ (k : ℕ). get_or numbers k 0) at
      ∙ behind_starts (junction_places + i)
      ∙ get_d_behind (marks_of p) (tails_of p ++ (tail_places_of p ++ (length (named p) ∷ more))) junction_places (length_marks p (plan_sizes ok).1) i 0

  behind_tails : (i : ℕ) → get_or numbers (tail_places_from + i) 0 ≡ get_or (tail_places_of (plan_of b) ++ (length (named (plan_of b)) ∷ more)) i 0
  behind_tails i =
      let p = plan_of b in
      let at : tail_places_from + i ≡ tails_from + (max_named + i) = omega arith in
      ap (λ (k : ℕ). get_or numbers k 0) at
      ∙ behind_marks (max_named + i)
      ∙ get_d_behind (tails_of p) (tail_places_of p ++ (length (named p) ∷ more)) max_named size_c.0 i 0

  pub named_at_lem : named_at numbers ≡ length (named (plan_of b))
  named_at_lem =
      let p = plan_of b in
      let at : named_from ≡ tail_places_from + (max_named + 0) = omega arith in
      ap (λ (k : ℕ). get_or numbers k 0) at
      ∙ behind_tails (max_named + 0)
      ∙ get_d_behind (tail_places_of p) (length (named p) ∷ more) max_named size_c.1 0 0

  -- what is made of the junctions up to the last
  upto_at : (f : ℕ → ℕ) (u : ℕ) → u ≤ (plan_of b).junctions → get_or (padded junction_places (map f (upto 0 (suc (plan_of b).junctions)))) u 0 ≡ f u
  upto_at f u h =
      let last = suc (plan_of b).junctions in
      padded_at junction_places (map f (upto 0 last)) u (omega (arith, length_upto f last)) ∙ get_d_first f (last - 0) u 0 (omega arith)

  upto_past : (f : ℕ → ℕ) (u : ℕ) → (plan_of b).junctions < u → get_or (padded junction_places (map f (upto 0 (suc (plan_of b).junctions)))) u 0 ≡ 0
  upto_past f u h = padded_past junction_places (map f (upto 0 (suc (plan_of b).junctions))) u (omega (arith, length_upto f (suc (plan_of b).junctions)))

  starts_are : (u : ℕ) → u ≤ max_junctions → start_at numbers u ≡ get_or (starts_of (plan_of b)) u 0
  starts_are u h =
      let p = plan_of b in
      ap (λ (l : List ℕ). get_or l u 0) parts
      ∙ get_or-append (starts_of p) (marks_of p ++ (tails_of p ++ (tail_places_of p ++ (length (named p) ∷ more)))) 0 u (omega (arith, length_starts p (plan_sizes ok).1))

  marks_are : (u : ℕ) → u ≤ max_junctions → mark_at numbers u ≡ get_or (marks_of (plan_of b)) u 0
  marks_are u h =
      let p = plan_of b in
      behind_starts u ∙ get_or-append (marks_of p) (tails_of p ++ (tail_places_of p ++ (length (named p) ∷ more))) 0 u (omega (arith, length_marks p (plan_sizes ok).1))

  pub start_at_lem : (u : ℕ) → u ≤ (plan_of b).junctions → start_at numbers u ≡ start_of (plan_of b) u
  start_at_lem u h = starts_are u (omega (arith, (plan_sizes ok).1)) ∙ upto_at (start_of (plan_of b)) u h

  pub start_past : (u : ℕ) → (plan_of b).junctions < u → u ≤ max_junctions → start_at numbers u ≡ 0
  start_past u h l = starts_are u l ∙ upto_past (start_of (plan_of b)) u h

  pub mark_at_lem : (u : ℕ) → u ≤ (plan_of b).junctions → mark_at numbers u ≡ mark_of (plan_of b) u
  mark_at_lem u h = marks_are u (omega (arith, (plan_sizes ok).1)) ∙ upto_at (mark_of (plan_of b)) u h

  pub mark_past : (u : ℕ) → (plan_of b).junctions < u → u ≤ max_junctions → mark_at numbers u ≡ 0
  mark_past u h l = marks_are u l ∙ upto_past (mark_of (plan_of b)) u h

  pub tails_are : (k : ℕ) → k < max_named → tail_at numbers k ≡ get_or (padded max_named (map tail_of (named_to (plan_of b) (plan_of b).junctions))) k 0
  tails_are k h =
      let p = plan_of b in
      behind_marks k ∙ get_or-append (tails_of p) (tail_places_of p ++ (length (named p) ∷ more)) 0 k (omega (arith, size_c.0))

  pub places_are : (k : ℕ) → k < max_named → tail_place_at numbers k ≡ get_or (padded max_named (map (tail_place_of (plan_of b)) (named_to (plan_of b) (plan_of b).junctions))) k 0
  places_are k h =
      let p = plan_of b in
      behind_tails k ∙ get_or-append (tail_places_of p) (length (named p) ∷ more) 0 k (omega (arith, size_c.1))

-- a place of a junction's named belts
pub record Placed (p : Plan) (words numbers : List ℕ) (u k : ℕ) (e : Belt) : Type 0 where
  pub belt : Memᴰ e p.belts
  pub leaves : e.leaves ≡ suc u
  pub is_named : is_named p e ≡ true
  pub same : get_or words k 0 ≡ word_of e
  pub tail : tail_at numbers k ≡ tail_of e
  pub place : tail_place_at numbers k ≡ tail_place_of p e
  pub index : get_or (indices_of (named_of p u)) (k - mark_of p u) 0 ≡ e.index

module _ {b : List ℕ} (ok : Accepted b) (n : ℕ) (numbers more : List ℕ) (are : numbers ≡ row_numbers (plan_of b) ++ more) where
  -- belt e of a junction, of which place j is that of the junction's named belts
  placed_at : (u j : ℕ) (e : Belt) → u < (plan_of b).junctions → j < length (named_of (plan_of b) u) → Memᴰ e (named_of (plan_of b) u)
      → ((f : Belt → ℕ) → get_or (map f (named_of (plan_of b) u)) j 0 ≡ f e) → Placed (plan_of b) (words_in n (plan_of b)) numbers u (mark_of (plan_of b) u + j) e
  placed_at u j e h l m own =
      let p = plan_of b in
      let k = mark_of p u + j in
      let all = named_to p p.junctions in
      let (low, words) = named_place ok n word_of u j h l in
      let few = named_order ok p.junctions in
      let (i, t) = keep_in (is_named p) (leaving p (suc u)) m in
      let (inside, from) = leaving_in p (suc u) e i in
      let back : k - mark_of p u ≡ j = omega arith in
      record {
        belt = inside;
        leaves = from;
        is_named = t;
        same = word_at ok n k low ∙ words ∙ own word_of;
        tail = tails_are ok numbers more are k (omega arith) ∙ padded_at max_named (map tail_of all) k (omega (arith, length-map all tail_of)) ∙ (named_place ok n tail_of u j h l).1 ∙ own tail_of;
        place =
            places_are ok numbers more are k (omega arith)
            ∙ padded_at max_named (map (tail_place_of p) all) k (omega (arith, length-map all (tail_place_of p)))
            ∙ (named_place ok n (tail_place_of p) u j h l).1
            ∙ own (tail_place_of p);
        index = ap (λ (i : ℕ). get_or (indices_of (named_of p u)) i 0) back ∙ own (λ (d : Belt). d.index);
      }

  pub belts_at : (u k : ℕ) → u < (plan_of b).junctions → mark_of (plan_of b) u ≤ k → k < mark_of (plan_of b) (suc u) → (e : Belt) × Placed (plan_of b) (words_in n (plan_of b)) numbers u k e
  belts_at u k h from to =
      let p = plan_of b in
      let next = mark_next p u in
      let j = k - mark_of p u in
      let low : j < length (named_of p u) = omega arith in
      let (e, m, own) = pick (named_of p u) j low in
      let at : mark_of p u + j ≡ k = omega arith in
      (e, subst (λ (i : ℕ). Placed p (words_in n p) numbers u i e) at (placed_at u j e h low m own))

  pub belt_at_lem : (u : ℕ) (e : Belt) → u < (plan_of b).junctions → Memᴰ e (named_of (plan_of b) u)
      → (k : ℕ) × (mark_of (plan_of b) u ≤ k) × (k < mark_of (plan_of b) (suc u)) × Placed (plan_of b) (words_in n (plan_of b)) numbers u k e
  belt_at_lem u e h m =
      let p = plan_of b in
      let (j, low, own) = belt_place m in
      (mark_of p u + j, omega arith, omega (arith, mark_next p u), placed_at u j e h low m own)
