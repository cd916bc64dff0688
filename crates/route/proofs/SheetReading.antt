-- Route sheets: what is written on one is what it reads as, and bytes in the form are the sheet of what stands in their fields.
--
--   IsStep h i next e   record i of h is a step with the next index `next` and the belt e
--   InForm h            h is in the form of a sheet, said by equations
--   form_is, is_form    the same as `in_form`
--   length_belts        there are as many belts on h as steps; few_belts: at most max_steps where h is in the form
--   length_steps, length_sheet
--                       there are twelve bytes for each step, and a sheet has twelve more
--   round_trip          a sheet is in the form, and belts, cost and setting read back as written
--   read-back           so the code reads back what it writes
--   one_reading         bytes have at most one reading
--   reading_claim       bytes are in the form exactly when they read as what stands in their fields
--
-- Assumes nothing.
use mathlib.Core.Path.{◌≡◌, refl, sym, ◌∙◌, ap, subst}
use mathlib.Core.Bool.{Bool, true, ◌&&◌}
use Prim.Native.Nat.{ℕ, zero, suc, ◌+◌, ◌*◌, ◌-◌, ◌/◌, ◌%◌, ◌≤◌, ◌<◌}
use mathlib.Core.List.{List, [], ◌∷◌, ◌++◌, map, Memᴰ}
use native.Mathlib.Omega.{arith}
use lib.ListN.{length, get_or, take, drop, length-map, length-take, drop_of_length-le}
use Rattle.plan.specs.declared.read.BeltId.{BeltId}
use lib.Seq.{get_or-append-add, drop-cons}
use lib.Dec.{eqb}
use borrow.Author.Tests.{eqb-true, eq-eqb}
use Rattle.plan.specs.Bounds.{field_limit, max_sheet_bytes, max_steps, record_bytes}
use Rattle.plan.specs.Lists.{all, joined, iota, within}
use Rattle.plan.specs.Records.{field, field_bytes, record_of}
use Rattle.plan.specs.Reading.{Bytes}
use Rattle.plan.proofs.Lists.{both, within_is, is_within, all_in, all_is, map_in, length_iota, map_iota, in_upto, upto_in}
use Rattle.plan.proofs.Reading.{field_low}
use Rattle.route.specs.Sheets.{next_of, steps_from, head_of, sheet_of, Reads, steps, head_fits, step_fits, places, in_form, belts_on, cost_on, setting_on}
use Rattle.route.specs.Claims.{ReadingClaim, OneReadingClaim, RoundTripClaim}
use Rattle.route.specs.Laws.{ReadBackLaw}
use Rattle.route.specs.Values.{ids_of, packed, bytes_of}

-- ---- the form, by equations

pub record IsStep (h : List ℕ) (i next e : ℕ) : Type 0 where
  pub kind : field h i 0 ≡ 5
  pub next_is : field h i 1 ≡ next
  pub belt : field h i 2 ≡ e
  pub third : field h i 3 ≡ 0
  pub fourth : field h i 4 ≡ 0
  pub fifth : field h i 5 ≡ 0

pub record InForm (h : List ℕ) : Type 0 where
  pub least : record_bytes ≤ length h
  pub most : length h ≤ max_sheet_bytes
  pub whole : length h % record_bytes ≡ 0
  pub kind : field h 0 0 ≡ 8
  pub next : field h 0 1 ≡ next_of (steps h) 0
  pub step : (i : ℕ) → 1 ≤ i → i < steps h + 1 → IsStep h i (next_of (steps h) i) (field h i 2)

step_is : (h : List ℕ) (i : ℕ) → step_fits h i ≡ true → IsStep h i (next_of (steps h) i) (field h i 2)
step_is h i t =
    let kind : Bool = eqb (field h i 0) 5 in
    let next : Bool = eqb (field h i 1) (next_of (steps h) i) in
    let third : Bool = eqb (field h i 3) 0 in
    let fourth : Bool = eqb (field h i 4) 0 in
    let k5 = both (kind && next && third && fourth) (eqb (field h i 5) 0) t in
    let k4 = both (kind && next && third) fourth k5.0 in
    let k3 = both (kind && next) third k4.0 in
    let k1 = both kind next k3.0 in
    record {
      kind = eqb-true (field h i 0) 5 k1.0;
      next_is = eqb-true (field h i 1) (next_of (steps h) i) k1.1;
      belt = refl;
      third = eqb-true (field h i 3) 0 k3.1;
      fourth = eqb-true (field h i 4) 0 k4.1;
      fifth = eqb-true (field h i 5) 0 k5.1;
    }

is_step : (h : List ℕ) (i e : ℕ) → IsStep h i (next_of (steps h) i) e → step_fits h i ≡ true
is_step h i e s =
    λ k. eq-eqb (field h i 0) 5 s.kind k
    && eq-eqb (field h i 1) (next_of (steps h) i) s.next_is k
    && eq-eqb (field h i 3) 0 s.third k
    && eq-eqb (field h i 4) 0 s.fourth k
    && eq-eqb (field h i 5) 0 s.fifth k

pub form_is : (h : List ℕ) → in_form h ≡ true → InForm h
unfolding in_form
form_is h t =
    let size : Bool = within record_bytes (length h) max_sheet_bytes in
    let whole : Bool = eqb (length h % record_bytes) 0 in
    let a = both (size && whole && head_fits h) (all (step_fits h) (places h)) t in
    let b = both (size && whole) (head_fits h) a.0 in
    let c = both size whole b.0 in
    let d = within_is record_bytes (length h) max_sheet_bytes c.0 in
    let e = both (eqb (field h 0 0) 8) (eqb (field h 0 1) (next_of (steps h) 0)) b.1 in
    record {
      least = d.0;
      most = d.1;
      whole = eqb-true (length h % record_bytes) 0 c.1;
      kind = eqb-true (field h 0 0) 8 e.0;
      next = eqb-true (field h 0 1) (next_of (steps h) 0) e.1;
      step = λ i l u. step_is h i (all_in (step_fits h) (places h) a.1 (in_upto 1 (steps h + 1) i l u));
    }

is_form : (h : List ℕ) → InForm h → in_form h ≡ true
unfolding in_form
is_form h f =
    let each = all_is (step_fits h) (places h) (λ i m. let u = upto_in 1 (steps h + 1) i m in is_step h i (field h i 2) (f.step i u.0 u.1)) in
    λ k. is_within record_bytes (length h) max_sheet_bytes f.least f.most k
    && eq-eqb (length h % record_bytes) 0 f.whole k
    && (eq-eqb (field h 0 0) 8 f.kind k && eq-eqb (field h 0 1) (next_of (steps h) 0) f.next k)
    && each k

-- ---- fields of what is written

-- a number, out of its two bytes
bytes_back : (n : ℕ) → n / 256 * 256 + n % 256 ≡ n
bytes_back n = omega arith

-- a record in front moves the others by one
module _ (a b c d e f : ℕ) (rest : List ℕ) where
  field_next : (i j : ℕ) → field (record_of a b c d e f ++ rest) (suc i) j ≡ field rest i j
  field_next i j =
      let x : record_bytes * suc i + 2 * j ≡ record_bytes + (record_bytes * i + 2 * j) = omega arith in
      let y : record_bytes * suc i + 2 * j + 1 ≡ record_bytes + (record_bytes * i + 2 * j + 1) = omega arith in
      let at : ℕ → ℕ = λ n. get_or (record_of a b c d e f ++ rest) n 0 in
      let p = ap at x ∙ get_or-append-add (record_of a b c d e f) rest (record_bytes * i + 2 * j) 0 in
      let q = ap at y ∙ get_or-append-add (record_of a b c d e f) rest (record_bytes * i + 2 * j + 1) 0 in
      λ k. p k * 256 + q k

  step_next : (i next g : ℕ) → IsStep rest i next g → IsStep (record_of a b c d e f ++ rest) (suc i) next g
  step_next i next g s = record {
    kind = field_next i 0 ∙ s.kind;
    next_is = field_next i 1 ∙ s.next_is;
    belt = field_next i 2 ∙ s.belt;
    third = field_next i 3 ∙ s.third;
    fourth = field_next i 4 ∙ s.fourth;
    fifth = field_next i 5 ∙ s.fifth;
  }

-- the steps as written
step_back : (n i : ℕ) (es : List ℕ) (k : ℕ) → k < length es → IsStep (steps_from n i es) k (next_of n (i + k)) (get_or es k 0)
step_back n i [] k l = absurd (omega arith)
step_back n i (e ∷ es) zero l =
    let q : i ≡ i + zero = omega arith in
    record {
      kind = refl;
      next_is = bytes_back (next_of n i) ∙ ap (next_of n) q;
      belt = bytes_back e;
      third = refl;
      fourth = refl;
      fifth = refl;
    }
step_back n i (e ∷ es) (suc k) l =
    let q : suc i + k ≡ i + suc k = omega arith in
    let below = step_back n (suc i) es k (omega arith) in
    subst (λ (j : ℕ). IsStep (steps_from n i (e ∷ es)) (suc k) (next_of n j) (get_or es k 0)) q
    (step_next 5 (next_of n i) e 0 0 0 (steps_from n (suc i) es) k (next_of n (suc i + k)) (get_or es k 0) below)

pub length_steps : (n i : ℕ) (es : List ℕ) → length (steps_from n i es) ≡ record_bytes * length es
length_steps n i [] = refl
length_steps n i (e ∷ es) = omega (arith, length_steps n (suc i) es)

pub length_sheet : (es : List ℕ) (c σ : ℕ) → length (sheet_of es c σ) ≡ record_bytes * length es + record_bytes
length_sheet es c σ = omega (arith, length_steps (length es) 1 es)

-- ---- the round trip

module _ (es : List ℕ) (c σ : ℕ) where
  abbrev sheet : List ℕ
  sheet = sheet_of es c σ

  steps_back : steps sheet ≡ length es
  steps_back = omega (arith, length_sheet es c σ)

  sheet_step : (k : ℕ) → k < length es → IsStep sheet (1 + k) (next_of (length es) (1 + k)) (get_or es k 0)
  sheet_step k l =
      let q : suc k ≡ 1 + k = omega arith in
      let n : ℕ = length es in
      subst (λ (j : ℕ). IsStep sheet j (next_of n (1 + k)) (get_or es k 0)) q
      (step_next 8 (next_of n 0) (c / (field_limit * field_limit)) (c / field_limit % field_limit) (c % field_limit) σ (steps_from n 1 es) k (next_of n (1 + k)) (get_or es k 0)
      (step_back n 1 es k l))

  belts_back : belts_on sheet ≡ es
  belts_back =
      sym (map_iota (λ (i : ℕ). field sheet i 2) 1 ((steps sheet + 1) - 1) 0 es (omega (arith, steps_back)) (λ k l.
      sym (sheet_step k (omega (arith, steps_back))).belt))

  cost_back : cost_on sheet ≡ c
  cost_back =
      let p : field sheet 0 2 ≡ c / (field_limit * field_limit) = bytes_back (c / (field_limit * field_limit)) in
      let q : field sheet 0 3 ≡ c / field_limit % field_limit = bytes_back (c / field_limit % field_limit) in
      let r : field sheet 0 4 ≡ c % field_limit = bytes_back (c % field_limit) in
      (λ k. p k * (field_limit * field_limit) + q k * field_limit + r k) ∙ whole
    where
      whole : c / (field_limit * field_limit) * (field_limit * field_limit) + c / field_limit % field_limit * field_limit + c % field_limit ≡ c
      whole = omega arith

  setting_back : setting_on sheet ≡ σ
  setting_back = bytes_back σ

  form_back : length es ≤ max_steps → InForm sheet
  form_back short = record {
    least = omega (arith, length_sheet es c σ);
    most = omega (arith, length_sheet es c σ);
    whole = omega (arith, length_sheet es c σ);
    kind = refl;
    next = bytes_back (next_of (length es) 0) ∙ ap (λ (n : ℕ). next_of n 0) (sym steps_back);
    step = step;
  }
    where
      step : (i : ℕ) → 1 ≤ i → i < steps sheet + 1 → IsStep sheet i (next_of (steps sheet) i) (field sheet i 2)
      step i l u =
          let q : 1 + (i - 1) ≡ i = omega arith in
          let s = sheet_step (i - 1) (omega (arith, steps_back)) in
          let m = subst (λ (j : ℕ). IsStep sheet j (next_of (length es) j) (get_or es (i - 1) 0)) q s in
          record {
            kind = m.kind;
            next_is = m.next_is ∙ ap (λ (n : ℕ). next_of n i) (sym steps_back);
            belt = refl;
            third = m.third;
            fourth = m.fourth;
            fifth = m.fifth;
          }

pub round_trip : RoundTripClaim
round_trip h es c σ r =
    subst (λ (g : List ℕ). (in_form g ≡ true) × (belts_on g ≡ es) × (cost_on g ≡ c) × (setting_on g ≡ σ)) (sym r.written)
    (is_form (sheet_of es c σ) (form_back es c σ r.short), belts_back es c σ, cost_back es c σ, setting_back es c σ)

pub read_back : ReadBackLaw
read_back v fits =
    let es : List ℕ = ids_of v.route in
    let taken : List BeltId = take v.route.count v.route.belts in
    let short : length es ≤ max_steps =
    omega (arith, v.route.few, length-map taken (λ (e : BeltId). e.0), length-take v.route.count v.route.belts) in (
      is_form (bytes_of v) (form_back es v.cost v.setting short),
      λ i. record { route = packed (belts_back es v.cost v.setting i); cost = cost_back es v.cost v.setting i; setting = setting_back es v.cost v.setting i },
    )

pub one_reading : OneReadingClaim
one_reading h es fs c d σ τ r s =
    let a = round_trip h es c σ r in
    let b = round_trip h fs d τ s in
    (sym a.1 ∙ b.1, sym a.2 ∙ b.2, sym a.3 ∙ b.3)

-- ---- from the form to the bytes

-- two bytes, out of their number
high : (x y : ℕ) → y < 256 → (x * 256 + y) / 256 ≡ x
high x y v = omega arith

low : (x y : ℕ) → y < 256 → (x * 256 + y) % 256 ≡ y
low x y v = omega arith

-- a cost, out of its three fields
top : (x y z : ℕ) → y < field_limit → z < field_limit → (x * (field_limit * field_limit) + y * field_limit + z) / (field_limit * field_limit) ≡ x
top x y z v w = omega arith

middle : (x y z : ℕ) → y < field_limit → z < field_limit → (x * (field_limit * field_limit) + y * field_limit + z) / field_limit % field_limit ≡ y
middle x y z v w = omega arith

bottom : (x y z : ℕ) → z < field_limit → (x * (field_limit * field_limit) + y * field_limit + z) % field_limit ≡ z
bottom x y z w = omega arith

pub length_belts : (h : List ℕ) → length (belts_on h) ≡ steps h
length_belts h = omega (arith, length-map (places h) (λ (i : ℕ). field h i 2), length_iota 1 ((steps h + 1) - 1))

pub few_belts : (h : List ℕ) → InForm h → length (belts_on h) ≤ max_steps
few_belts h f = omega (arith, length_belts h, f.most)

module _ (h : List ℕ) (bytes : Bytes h) where
  -- n fields of record i, from field f on
  cut_fields : (i f n : ℕ) → record_bytes * i + 2 * (f + n) ≤ length h
      → drop (record_bytes * i + 2 * f) h ≡ joined field_bytes (map (field h i) (iota f n)) ++ drop (record_bytes * i + 2 * (f + n)) h
  cut_fields i f zero l =
      let q : record_bytes * i + 2 * f ≡ record_bytes * i + 2 * (f + zero) = omega arith in
      ap (λ (j : ℕ). drop j h) q
  cut_fields i f (suc n) l =
      let j : ℕ = record_bytes * i + 2 * f in
      let x : ℕ = get_or h j 0 in
      let y : ℕ = get_or h (j + 1) 0 in
      let s : suc j ≡ j + 1 = omega arith in
      let t : suc (j + 1) ≡ record_bytes * i + 2 * suc f = omega arith in
      let u : record_bytes * i + 2 * (suc f + n) ≡ record_bytes * i + 2 * (f + suc n) = omega arith in
      let one : drop j h ≡ x ∷ drop (suc j) h = drop-cons h j 0 (omega arith) in
      let two : drop (j + 1) h ≡ y ∷ drop (suc (j + 1)) h = drop-cons h (j + 1) 0 (omega arith) in
      let rest = cut_fields i (suc f) n (omega arith) in
      let tail = ap (λ (k : ℕ). joined field_bytes (map (field h i) (iota (suc f) n)) ++ drop k h) u in
      let all = ap (λ (k : ℕ). drop k h) t ∙ rest ∙ tail in
      one
      ∙ ap (λ (k : ℕ). x ∷ drop k h) s
      ∙ ap (λ (r : List ℕ). x ∷ r) two
      ∙ (λ k. sym (high x y (bytes (j + 1))) k ∷ sym (low x y (bytes (j + 1))) k ∷ all k)

  -- record i
  cut : (i : ℕ) → record_bytes * i + record_bytes ≤ length h
      → drop (record_bytes * i) h ≡ record_of (field h i 0) (field h i 1) (field h i 2) (field h i 3) (field h i 4) (field h i 5) ++ drop (record_bytes * suc i) h
  cut i l =
      let p : record_bytes * i ≡ record_bytes * i + 2 * 0 = omega arith in
      let q : record_bytes * i + 2 * (0 + 6) ≡ record_bytes * suc i = omega arith in
      let fields : List ℕ = record_of (field h i 0) (field h i 1) (field h i 2) (field h i 3) (field h i 4) (field h i 5) in
      ap (λ (j : ℕ). drop j h) p ∙ cut_fields i 0 6 l ∙ ap (λ (j : ℕ). fields ++ drop j h) q

  -- the last m records, where they are steps
  cut_steps : (n m i : ℕ) → length h ≡ record_bytes * (i + m)
      → ((k : ℕ) → i ≤ k → k < i + m → IsStep h k (next_of n k) (field h k 2))
      → drop (record_bytes * i) h ≡ steps_from n i (map (λ (k : ℕ). field h k 2) (iota i m))
  cut_steps n zero i l s = let past : length h ≤ record_bytes * i = omega arith in drop_of_length-le h past
  cut_steps n (suc m) i l s =
      let k = s i (omega arith) (omega arith) in
      let rest = cut_steps n m (suc i) (omega arith) (λ k a u. s k (omega arith) (omega arith)) in
      cut i (omega arith)
      ∙ (λ j. record_of (k.kind j) (k.next_is j) (field h i 2) (k.third j) (k.fourth j) (k.fifth j) ++ rest j)

  -- all of h
  written : InForm h → h ≡ sheet_of (belts_on h) (cost_on h) (setting_on h)
  written f =
      let n : ℕ = steps h in
      let x : ℕ = field h 0 2 in
      let y : ℕ = field h 0 3 in
      let z : ℕ = field h 0 4 in
      let c2 = top x y z (field_low h bytes 0 3) (field_low h bytes 0 4) in
      let c3 = middle x y z (field_low h bytes 0 3) (field_low h bytes 0 4) in
      let c4 = bottom x y z (field_low h bytes 0 4) in
      let size = length_belts h in
      let e : n ≡ (n + 1) - 1 = omega arith in
      let belts : map (λ (k : ℕ). field h k 2) (iota 1 n) ≡ belts_on h = ap (λ (m : ℕ). map (λ (k : ℕ). field h k 2) (iota 1 m)) e in
      let last = cut_steps n n 1 (omega (arith, f.least, f.whole)) (λ k l u. f.step k l (omega arith)) in
      cut 0 (omega (arith, f.least))
      ∙ (λ j. record_of (f.kind j) (f.next j) (sym c2 j) (sym c3 j) (sym c4 j) (setting_on h) ++ last j)
      ∙ (λ j. head_of (sym size j) (cost_on h) (setting_on h) ++ steps_from (sym size j) 1 (belts j))

  reads : InForm h → Reads h (belts_on h) (cost_on h) (setting_on h)
  reads f = record {
    written = written f;
    short = few_belts h f;
    indices = index_low;
    cost_fits = omega (arith, field_low h bytes 0 2, field_low h bytes 0 3, field_low h bytes 0 4);
    setting_fits = field_low h bytes 0 5;
  }
    where
      index_low : (e : ℕ) → Memᴰ e (belts_on h) → e < field_limit
      index_low e m = let (i, k, q) = map_in (λ (i : ℕ). field h i 2) (places h) m in omega (arith, field_low h bytes i 2, q)

pub reading_claim : ReadingClaim
reading_claim h bytes = (λ t. reads h bytes (form_is h t), λ r. (round_trip h (belts_on h) (cost_on h) (setting_on h) r).0)
