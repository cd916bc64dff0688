-- The records of junctions and of belts in an archive form (specs/Form.antt), as they are written: the first belt and the next belt of a plan's record,
-- with its new index, are those of the archive form.
--
--   junction_first      the new index of the first belt of a junction is what the archive form has there
--   junctions_to b j     the records of the junctions below j; length_junctions: how many
--   junction_put        writing one more record behind them gives those below j + 1
--   all_legs b           the records of all legs
--   legs_to b e          the records of the legs whose belts are below record e
--   legs_none, legs_same, legs_all, length_legs_to
--                       none are below the first record behind the junctions; a record that is no belt adds nothing; below the end are all; there are as
--                       many as lower belts
--   belt_put            writing the record of belt e behind them gives those below record e + 1
--
-- Assumes nothing.
use mathlib.Core.Path.{◌≡◌, refl, sym, ◌∙◌, ap, subst}
use mathlib.Core.Bool.{Bool, true, false}
use Prim.Native.Nat.{ℕ, zero, suc, ◌+◌, ◌*◌, ◌/◌, ◌%◌, ◌-◌, ◌≤◌, ◌<◌}
use mathlib.Core.List.Memᴰ
use mathlib.Core.List.{List, [], ◌∷◌, ◌++◌, map, Memᴰ, map-append}
use native.Mathlib.Omega.{arith}
use lib.ListN.{length, take, length-append, length-map}
use lib.Seq.{take_all, length-take-le}
use lib.Dec.{eqb}
use borrow.Author.Tests.{eq-eqb}
use Rattle.std.specs.Prelude.{Option, Some, None, IfSome, MatchOption}
use Rattle.plan.specs.declared.read.BeltId.{BeltId}
use Rattle.plan.specs.Lists.{keep, keep_by, upto}
use Rattle.plan.specs.Bounds.{field_limit}
use Rattle.plan.specs.Records.{field, kind, records, record_of, placed}
use Rattle.plan.specs.Plan.{Belt, plan_of, leaves, belt_at, belt_records, indices_of}
use Rattle.plan.specs.Reading.{Accepted, IsBelt, first_belt, next_belt, belt_link, belts_from}
use Rattle.plan.proofs.Lists.{keep_in, in_map, length_iota}
use Rattle.plan.proofs.ListRising.{Rises, more, upto_rises, keep_rises}
use Rattle.plan.proofs.NamedBelts.{indices_back}
use Rattle.plan.proofs.WordsNamed.{keep_append}
use Rattle.plan.proofs.Reading.{leaving_from, belts_end, belts_next, first_belt_is, next_belt_is, belts_rise, on_chain, belt_low}
use Rattle.archive.specs.Content.{Leg, leg_of, place, content_of, new_index}
use Rattle.archive.specs.Form.{Fields, fields, bytes_of, first_leaving, legs_start, junction_record, leg_record, leg_records}
use Rattle.archive.proofs.FormRecords.{length_legs}
use Rattle.archive.proofs.WriteRecords.{put_more}
use Rattle.archive.proofs.WriteIndices.{place_append, place_head, upto_more, low_belts, behind_belts, low_in, low_none, low_few, low_more, low_same}
use Rattle.archive.proofs.WriteIndices.{low_split, belt_split, indices_are, new_index_lem}

-- ---- the first leg that leaves a junction

-- the first of some belts, by what g gives for its index; 0 where there is none
abbrev head_by : (ℕ → ℕ) → List Belt → ℕ
head_by g [] = 0
head_by g (x ∷ xs) = g x.index

abbrev leaves_at : ℕ → Belt → Bool
leaves_at j x = eqb x.leaves j

first_leaving_lem : (j i : ℕ) (es : List Belt) → Rises (indices_of es)
    → first_leaving j i (map leg_of es) ≡ head_by (λ (e : ℕ). i + place (indices_of es) e) (keep (leaves_at j) es)
first_leaving_lem j i [] r = refl
first_leaving_lem j i (y ∷ es) (more h r) = go (leaves_at j y) (first_leaving_lem j (suc i) es r)
  where
    -- behind y the places are one more
    on : (xs : List Belt) → ((x : Belt) → Memᴰ x xs → y.index < x.index)
        → head_by (λ (e : ℕ). suc i + place (indices_of es) e) xs ≡ head_by (λ (e : ℕ). i + place (y.index ∷ indices_of es) e) xs
    on [] low = refl
    on (x ∷ xs) low =
        let u = low x (Memᴰ.head refl) in
        let q = place_append (y.index ∷ []) (indices_of es) x.index (λ n m z. first n m z u) in
        omega arith
      where
        first : (n : ℕ) → Memᴰ n (y.index ∷ []) → n ≡ x.index → y.index < x.index → ⊥
        first n (Memᴰ.head e) z u = omega arith
        first n (Memᴰ.tail m) z u = absurd (Memᴰ.not-nil m)

    go : (t : Bool)
        → first_leaving j (suc i) (map leg_of es) ≡ head_by (λ (e : ℕ). suc i + place (indices_of es) e) (keep (leaves_at j) es)
        → elim t [ true ↦ i | false ↦ first_leaving j (suc i) (map leg_of es) ]
        ≡ head_by (λ (e : ℕ). i + place (y.index ∷ indices_of es) e) (keep_by t y (keep (leaves_at j) es))
    go true e = let z = place_head y.index (indices_of es) in omega arith
    go false e = e ∙ on (keep (leaves_at j) es) (λ x m. h x.index (in_map (λ (z : Belt). z.index) (keep_in (leaves_at j) es m).0))

-- ---- the first belt of a junction, and the next of a belt

module _ {b : List ℕ} (ok : Accepted b) where
  -- a chain's first belt, by what g gives for its index; 0 where there is none
  head_of : (g : ℕ → ℕ) (o : Option BeltId) → IfSome o (λ e. IsBelt b e.0) → (r : ℕ) → MatchOption o (r ≡ 0) (λ e. r ≡ g e.0)
      → r ≡ head_by g (belts_from b (belt_link o))
  head_of g None found r h = h ∙ ap (head_by g) (sym (belts_end ok))
  head_of g (Some e) found r h = h ∙ ap (head_by g) (sym (belts_next ok e.0 found))

  pub junction_first : (j : ℕ) → 1 ≤ j → j ≤ (plan_of b).junctions → (o : Option BeltId) → belt_link o ≡ first_belt b j → IfSome o (λ e. IsBelt b e.0)
      → (r : ℕ) → MatchOption o (r ≡ 0) (λ e. r ≡ new_index (plan_of b) e.0)
      → r ≡ first_leaving j (legs_start (content_of (plan_of b))) (content_of (plan_of b)).legs
  junction_first j l u o q found r h =
      head_of (new_index (plan_of b)) o found r h
      ∙ ap (λ (e : ℕ). head_by (new_index (plan_of b)) (belts_from b e)) q
      ∙ ap (head_by (new_index (plan_of b))) (sym (leaving_from ok j l u))
      ∙ sym (first_leaving_lem j (legs_start (content_of (plan_of b))) (plan_of b).belts (belts_rise ok))

  -- the head of a chain, and the chain behind it
  chain_head : (x : Belt) (xs : List Belt) (i : ℕ) → ((i ≡ 0 → ⊥) → IsBelt b i) → belts_from b i ≡ x ∷ xs
      → IsBelt b i × (belt_at b i ≡ x) × (belts_from b (next_belt b i) ≡ xs)
  chain_head x xs zero o q = let size = ap length (sym (belts_end ok) ∙ q) in absurd (omega arith)
  chain_head x xs (suc i) o q =
      let is = o (λ z. omega arith) in
      let k : belt_at b (suc i) ∷ belts_from b (next_belt b (suc i)) ≡ x ∷ xs = sym (belts_next ok (suc i) is) ∙ q in
      let first : belt_at b (suc i) ≡ x = cc in
      let rest : belts_from b (next_belt b (suc i)) ≡ xs = cc in
      (is, first, rest)

  -- what stands behind a belt on its chain is the chain of the next one
  chain_cut : (ps : List Belt) (x : Belt) (ss : List Belt) (i : ℕ) → ((i ≡ 0 → ⊥) → IsBelt b i) → belts_from b i ≡ ps ++ x ∷ ss
      → belts_from b (next_belt b x.index) ≡ ss
  chain_cut [] x ss i o q =
      let (is, first, rest) = chain_head x ss i o q in
      ap (λ (y : Belt). belts_from b (next_belt b y.index)) (sym first) ∙ rest
  chain_cut (p ∷ ps) x ss i o q =
      let (is, first, rest) = chain_head p (ps ++ x ∷ ss) i o q in
      chain_cut ps x ss (next_belt b i) (λ d. (next_belt_is ok i is d).1) rest

  -- the belts of the plan, cut before belt e
  belts_cut : (e : ℕ) → IsBelt b e → (plan_of b).belts ≡ map (belt_at b) (low_belts b e) ++ belt_at b e ∷ map (belt_at b) (behind_belts b (e + 1))
  unfolding plan_of
  belts_cut e o = ap (map (belt_at b)) (belt_split ok e o) ∙ map-append (belt_at b) (low_belts b e) (e ∷ behind_belts b (e + 1))

  -- the belts behind belt e that leave where it does are those on its chain
  behind_leaving : (e : ℕ) → IsBelt b e → belts_from b (next_belt b e) ≡ keep (leaves_at (leaves b e)) (map (belt_at b) (behind_belts b (e + 1)))
  behind_leaving e o =
      let j = leaves b e in
      let low = map (belt_at b) (low_belts b e) in
      let high = map (belt_at b) (behind_belts b (e + 1)) in
      let (l, u, m) = on_chain ok e o in
      chain_cut (keep (leaves_at j) low) (belt_at b e) (keep (leaves_at j) high) (first_belt b j) (first_belt_is ok j l u)
      (sym (leaving_from ok j l u)
      ∙ ap (keep (leaves_at j)) (belts_cut e o)
      ∙ keep_append (leaves_at j) low (belt_at b e ∷ high)
      ∙ ap (λ (t : Bool). keep (leaves_at j) low ++ keep_by t (belt_at b e) (keep (leaves_at j) high)) (eq-eqb j j refl))

  -- the new index of a belt behind belt e
  behind_index : (e d : ℕ) → IsBelt b e → e < d
      → new_index (plan_of b) d ≡ suc (suc (plan_of b).junctions + length (low_belts b e)) + place (behind_belts b (e + 1)) d
  behind_index e d o u =
      let high = behind_belts b (e + 1) in
      let cut = ap (λ (l : List ℕ). place l d) (indices_are b ∙ belt_split ok e o) in
      let q = place_append (low_belts b e) (e ∷ high) d (λ n m z. omega (arith, low_in b e n m)) in
      let one = place_append (e ∷ []) high d first in
      omega arith
    where
      first : (n : ℕ) → Memᴰ n (e ∷ []) → n ≡ d → ⊥
      first n (Memᴰ.head q) z = omega arith
      first n (Memᴰ.tail m) z = absurd (Memᴰ.not-nil m)

  belt_next : (e : ℕ) → IsBelt b e → (o : Option BeltId) → belt_link o ≡ next_belt b e → IfSome o (λ d. IsBelt b d.0)
      → (r : ℕ) → MatchOption o (r ≡ 0) (λ d. r ≡ new_index (plan_of b) d.0)
      → r ≡ first_leaving (leaves b e) (suc (suc (plan_of b).junctions + length (low_belts b e))) (map leg_of (map (belt_at b) (behind_belts b (e + 1))))
  belt_next e is o q found r h =
      head_of by_high o found r (behind o q found h)
      ∙ ap (λ (d : ℕ). head_by by_high (belts_from b d)) q
      ∙ ap (head_by by_high) (behind_leaving e is)
      ∙ sym (first_leaving_lem (leaves b e) i high (subst Rises (sym back) (keep_rises (λ (r : ℕ). eqb (kind b r) 2) (upto_rises (e + 1) (records b)))))
    where
      i : ℕ
      i = suc (suc (plan_of b).junctions + length (low_belts b e))

      high : List Belt
      high = map (belt_at b) (behind_belts b (e + 1))

      back : indices_of high ≡ behind_belts b (e + 1)
      back = indices_back b (behind_belts b (e + 1))

      by_high : ℕ → ℕ
      by_high d = i + place (indices_of high) d

      behind : (o : Option BeltId) → belt_link o ≡ next_belt b e → IfSome o (λ d. IsBelt b d.0)
          → MatchOption o (r ≡ 0) (λ d. r ≡ new_index (plan_of b) d.0) → MatchOption o (r ≡ 0) (λ d. r ≡ by_high d.0)
      behind None q found h = h
      behind (Some d) q found h =
          let (u, k) = next_belt_is ok e is (λ z. omega (arith, (belt_low ok d.0 found).0)) in
          h ∙ behind_index e d.0 is (omega arith) ∙ ap (λ (l : List ℕ). i + place l d.0) (sym back)

-- ---- the records of junctions

-- the records of the junctions below j
abbrev pub junctions_to : List ℕ → ℕ → List Fields
junctions_to b j = map (junction_record (content_of (plan_of b))) (upto 1 j)

pub length_junctions : (b : List ℕ) (j : ℕ) → 1 ≤ j → 1 + length (junctions_to b j) ≡ j
length_junctions b j h = let size = length-map (upto 1 j) (junction_record (content_of (plan_of b))) ∙ length_iota 1 (j - 1) in omega arith

pub junction_put : {b : List ℕ} → Accepted b → (l mid out : List ℕ) (j : ℕ) → 1 ≤ j → j ≤ (plan_of b).junctions
    → 12 * j + 12 ≤ length l → mid ≡ placed l (12 * 1) (bytes_of (junctions_to b j))
    → (o : Option BeltId) → belt_link o ≡ first_belt b j → IfSome o (λ e. IsBelt b e.0) → (r : ℕ) → MatchOption o (r ≡ 0) (λ e. r ≡ new_index (plan_of b) e.0)
    → out ≡ placed mid (12 * j) (record_of 1 r 0 0 0 0) → out ≡ placed l (12 * 1) (bytes_of (junctions_to b (j + 1)))
junction_put {b} ok l mid out j low high room p o q found r h put =
    let junction_record_of = junction_record (content_of (plan_of b)) in
    let size = length_junctions b j low in
    put_more l 1 (junctions_to b j) mid p (junction_record_of j) out j
    (put ∙ ap (λ (i : ℕ). placed mid (12 * j) (record_of 1 i 0 0 0 0)) (junction_first ok j low high o q found r h)) (omega arith) room
    ∙ ap (λ (rs : List Fields). placed l (12 * 1) (bytes_of rs)) (sym (ap (map junction_record_of) (upto_more 1 j low) ∙ map-append junction_record_of (upto 1 j) (j ∷ [])))

-- ---- the records of legs

take_more : (xs : List Leg) (i : ℕ) (x : Leg) (zs : List Leg)
    → take (suc (length xs)) (leg_records i (xs ++ x ∷ zs))
    ≡ take (length xs) (leg_records i (xs ++ x ∷ zs)) ++ leg_record x (first_leaving x.leaves (suc (i + length xs)) zs) ∷ []
take_more [] i x zs =
    let e : i ≡ i + 0 = omega arith in
    ap (λ (k : ℕ). leg_record x (first_leaving x.leaves (suc k) zs) ∷ []) e
take_more (a ∷ xs) i x zs =
    let e : suc i + length xs ≡ i + suc (length xs) = omega arith in
    let first = leg_record a (first_leaving a.leaves (suc i) (xs ++ x ∷ zs)) in
    ap (λ (l : List Fields). first ∷ l) (take_more xs (suc i) x zs)
    ∙ ap (λ (k : ℕ). first ∷ (take (length xs) (leg_records (suc i) (xs ++ x ∷ zs)) ++ leg_record x (first_leaving x.leaves (suc k) zs) ∷ [])) e

abbrev pub all_legs : List ℕ → List Fields
all_legs b = leg_records (legs_start (content_of (plan_of b))) (content_of (plan_of b)).legs

abbrev pub legs_to : List ℕ → ℕ → List Fields
legs_to b e = take (length (low_belts b e)) (all_legs b)

pub legs_none : (b : List ℕ) → legs_to b (suc (plan_of b).junctions) ≡ []
legs_none b = ap (λ (l : List ℕ). take (length l) (all_legs b)) (low_none b)

pub legs_same : (b : List ℕ) (e : ℕ) → suc (plan_of b).junctions ≤ e → (kind b e ≡ 2 → ⊥) → legs_to b (e + 1) ≡ legs_to b e
legs_same b e h d = ap (λ (l : List ℕ). take (length l) (all_legs b)) (low_same b e h d)

length_all : (b : List ℕ) → length (all_legs b) ≡ length (belt_records b)
unfolding plan_of
length_all b =
    length_legs (legs_start (content_of (plan_of b))) (content_of (plan_of b)).legs
    ∙ length-map (map (belt_at b) (belt_records b)) leg_of ∙ length-map (belt_records b) (belt_at b)

pub length_legs_to : (b : List ℕ) (e : ℕ) → suc (plan_of b).junctions ≤ e → e ≤ records b → length (legs_to b e) ≡ length (low_belts b e)
length_legs_to b e h u =
    let cut = ap length (low_split b e h u) ∙ length-append (low_belts b e) (behind_belts b e) in
    length-take-le (length (low_belts b e)) (all_legs b) (omega (arith, length_all b))

pub legs_all : (b : List ℕ) → legs_to b (records b) ≡ all_legs b
unfolding plan_of
legs_all b = let size = length_all b in take_all (length (belt_records b)) (all_legs b) (omega arith)

-- the two fields of a cost
cost_fields : (high low : ℕ) → low < field_limit → ((high * field_limit + low) % field_limit ≡ low) × ((high * field_limit + low) / field_limit ≡ high)
cost_fields high low h = (omega arith, omega arith)

module _ {b : List ℕ} (ok : Accepted b) where
  -- the legs of the plan, cut before that of belt e
  legs_cut : (e : ℕ) → IsBelt b e
      → (content_of (plan_of b)).legs
      ≡ map leg_of (map (belt_at b) (low_belts b e)) ++ leg_of (belt_at b e) ∷ map leg_of (map (belt_at b) (behind_belts b (e + 1)))
  legs_cut e o =
      ap (map leg_of) (belts_cut ok e o) ∙ map-append leg_of (map (belt_at b) (low_belts b e)) (belt_at b e ∷ map (belt_at b) (behind_belts b (e + 1)))

  legs_more : (e : ℕ) → suc (plan_of b).junctions ≤ e → IsBelt b e → field b e 3 < field_limit → (r : ℕ)
      → r ≡ first_leaving (leaves b e) (suc (suc (plan_of b).junctions + length (low_belts b e))) (map leg_of (map (belt_at b) (behind_belts b (e + 1))))
      → legs_to b (e + 1) ≡ legs_to b e ++ fields 2 r (field b e 2) (field b e 3) (field b e 4) 0 ∷ []
  legs_more e h o low_field r next =
      let low = map leg_of (map (belt_at b) (low_belts b e)) in
      let x = leg_of (belt_at b e) in
      let high = map leg_of (map (belt_at b) (behind_belts b (e + 1))) in
      let i = suc (plan_of b).junctions in
      let size : length low ≡ length (low_belts b e) = length-map (map (belt_at b) (low_belts b e)) leg_of ∙ length-map (low_belts b e) (belt_at b) in
      let longer = ap length (low_more b e h o.1) ∙ length-append (low_belts b e) (e ∷ []) in
      let one : length (low_belts b (e + 1)) ≡ suc (length low) = omega arith in
      let cost = cost_fields (field b e 4) (field b e 3) low_field in
      ap (λ (k : ℕ). take k (all_legs b)) one
      ∙ ap (λ (l : List Leg). take (suc (length low)) (leg_records i l)) (legs_cut e o)
      ∙ take_more low i x high
      ∙ ap (λ (l : List Leg). take (length low) (leg_records i l) ++ leg_record x (first_leaving (leaves b e) (suc (i + length low)) high) ∷ [])
      (sym (legs_cut e o))
      ∙ ap (λ (k : ℕ). take k (all_legs b) ++ leg_record x (first_leaving (leaves b e) (suc (i + k)) high) ∷ []) size
      ∙ ap (λ (k : ℕ). legs_to b e ++ leg_record x k ∷ []) (sym next)
      ∙ (λ k. legs_to b e ++ fields 2 r (field b e 2) (cost.0 k) (cost.1 k) 0 ∷ [])

  -- the record of belt e, written behind those of the lower ones, with the new index of the next belt of its chain
  pub belt_put : (l mid out : List ℕ) (e at to low high : ℕ) → IsBelt b e
      → 12 * records b ≤ length l → mid ≡ placed l (12 * suc (plan_of b).junctions) (bytes_of (legs_to b e))
      → at ≡ new_index (plan_of b) e
      → (o : Option BeltId) → belt_link o ≡ next_belt b e → IfSome o (λ d. IsBelt b d.0) → (r : ℕ) → MatchOption o (r ≡ 0) (λ d. r ≡ new_index (plan_of b) d.0)
      → to ≡ field b e 2 → low ≡ field b e 3 → low < field_limit → high ≡ field b e 4
      → out ≡ placed mid (12 * at) (record_of 2 r to low high 0)
      → out ≡ placed l (12 * suc (plan_of b).junctions) (bytes_of (legs_to b (e + 1)))
  belt_put l mid out e at to low high is room p place o q found r h q2 q3 small q4 put =
      let h0 : suc (plan_of b).junctions ≤ e = omega (arith, (belt_low ok e is).0) in
      let size = length_legs_to b e h0 (omega (arith, is.0)) in
      let few = low_few b e h0 in
      let new = new_index_lem ok e is in
      put_more l (suc (plan_of b).junctions) (legs_to b e) mid p (fields 2 r (field b e 2) (field b e 3) (field b e 4) 0) out at
      (put ∙ (λ k. placed mid (12 * at) (record_of 2 r (q2 k) (q3 k) (q4 k) 0)))
      (omega arith) (omega (arith, is.0))
      ∙ ap (λ (rs : List Fields). placed l (12 * suc (plan_of b).junctions) (bytes_of rs)) (sym (legs_more e h0 is (omega arith) r (belt_next ok e is o q found r h)))
