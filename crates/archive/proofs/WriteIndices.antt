-- New indices of belts (`new_index` of specs/Content.antt), as they are counted while the records of a plan are passed in rising index.
--
--   place_append, place_head
--                       the place of what stands behind some others, and of what stands first
--   upto_split, upto_more
--                       a run is cut into two, and gets one more
--   low_belts b e        the records of belts below record e; behind_belts b e: those at record e and behind it
--   low_in, low_few     the first are below e, and there is room for them between the junctions and e
--   low_none, low_more, low_same, low_all
--                       none are below the first record behind the junctions; a belt adds itself and another record nothing; below the end are all of
--                       the plan's belts
--   low_split           the plan's belts are the low ones and those behind; belt_split: the same where record e is a belt
--   no_belt             a number that is not the index of a belt is not that of a belt record
--   indices_are         the indices of the plan's belts are the records that are belts
--   new_index_lem           the new index of a belt: the first behind the junctions, and one more for each lower belt
--   NumberedTo b new e  the array `new` has the new indices of the belts below record e
--   number_none, number_same, number_more
--                       any array has those below the first record behind the junctions; a record that is no belt passes; that of a belt is stored
--   numbered            an array that has those below the end has all
--
-- Assumes nothing.
use mathlib.Core.Path.{◌≡◌, refl, sym, ◌∙◌, ap}
use mathlib.Core.Logic.{⊎_elim}
use mathlib.Core.Bool.{Bool, true, false}
use Prim.Native.Nat.{ℕ, suc, ◌+◌, ◌-◌, ◌≤◌, ◌<◌}
use mathlib.Core.List.{List, [], ◌∷◌, ◌++◌, map, Memᴰ, append-nil}
use native.Mathlib.Omega.{arith}
use native.Mathlib.Nat.{suc-add, zero-add}
use lib.ListN.{length, get_or, set, length-map, length-set}
use lib.Seq.{get_or-set_same, get_or-set_other}
use lib.Dec.{eqb}
use borrow.Author.Tests.{eq-eqb, ne_eqb}
use Rattle.plan.specs.Lists.{keep, keep_by, iota, upto, mem}
use Rattle.plan.specs.Bounds.{max_records}
use Rattle.plan.specs.Records.{kind, junctions, records}
use Rattle.plan.specs.Plan.{plan_of, belt_at, belt_records, indices_of}
use Rattle.plan.specs.Reading.{Accepted, IsBelt}
use Rattle.plan.proofs.Lists.{lt_or_le, keep_in, upto_in, upto_end, length_iota, iota_split}
use Rattle.plan.proofs.ListCounts.{length_keep, count_few, keep_first}
use Rattle.plan.proofs.NamedBelts.{indices_back}
use Rattle.plan.proofs.WordsNamed.{keep_append}
use Rattle.plan.proofs.Reading.{belt_low, belt_indexed}
use Rattle.archive.specs.Content.{place, leg_of, content_of, new_index}
use Rattle.archive.specs.Inner.{Numbered}

-- ---- places

pub place_append : (xs ys : List ℕ) (e : ℕ) → ((x : ℕ) → Memᴰ x xs → x ≡ e → ⊥) → place (xs ++ ys) e ≡ length xs + place ys e
place_append [] ys e none = sym (zero-add (place ys e))
place_append (x ∷ xs) ys e none =
    ap (λ (t : Bool). elim t [ true ↦ 0 | false ↦ suc (place (xs ++ ys) e) ]) (ne_eqb x e (none x (Memᴰ.head refl)))
    ∙ ap suc (place_append xs ys e (λ y m. none y (Memᴰ.tail m)))
    ∙ sym (suc-add (length xs) (place ys e))

pub place_head : (e : ℕ) (ys : List ℕ) → place (e ∷ ys) e ≡ 0
place_head e ys = ap (λ (t : Bool). elim t [ true ↦ 0 | false ↦ suc (place ys e) ]) (eq-eqb e e refl)

-- ---- runs that are cut

pub upto_split : (lo mid hi : ℕ) → lo ≤ mid → mid ≤ hi → upto lo hi ≡ upto lo mid ++ upto mid hi
upto_split lo mid hi h k =
    let e : hi - lo ≡ (mid - lo) + (hi - mid) = omega arith in
    let m : lo + (mid - lo) ≡ mid = omega arith in
    ap (iota lo) e ∙ iota_split lo (mid - lo) (hi - mid) ∙ ap (λ (i : ℕ). upto lo mid ++ iota i (hi - mid)) m

pub upto_more : (lo hi : ℕ) → lo ≤ hi → upto lo (hi + 1) ≡ upto lo hi ++ hi ∷ []
upto_more lo hi h =
    let e : (hi + 1) - hi ≡ 1 = omega arith in
    upto_split lo hi (hi + 1) h (omega arith) ∙ ap (λ (n : ℕ). upto lo hi ++ iota hi n) e

-- ---- belts below and behind a record

abbrev is_belt : List ℕ → ℕ → Bool
is_belt b r = eqb (kind b r) 2

abbrev pub low_belts : List ℕ → ℕ → List ℕ
low_belts b e = keep (is_belt b) (upto (suc (plan_of b).junctions) e)

abbrev pub behind_belts : List ℕ → ℕ → List ℕ
behind_belts b e = keep (is_belt b) (upto e (records b))

pub low_in : (b : List ℕ) (e d : ℕ) → Memᴰ d (low_belts b e) → d < e
low_in b e d m = (upto_in (suc (plan_of b).junctions) e d (keep_in (is_belt b) (upto (suc (plan_of b).junctions) e) m).0).1

pub low_none : (b : List ℕ) → low_belts b (suc (plan_of b).junctions) ≡ []
low_none b = ap (keep (is_belt b)) (upto_end (suc (plan_of b).junctions) (suc (plan_of b).junctions) (omega arith))

pub low_few : (b : List ℕ) (e : ℕ) → suc (plan_of b).junctions ≤ e → suc (plan_of b).junctions + length (low_belts b e) ≤ e
low_few b e h =
    let run = upto (suc (plan_of b).junctions) e in
    let kept = length_keep (is_belt b) run in
    let few = count_few (is_belt b) run in
    let size = length_iota (suc (plan_of b).junctions) (e - suc (plan_of b).junctions) in
    omega arith

-- record e, behind the junctions
module _ (b : List ℕ) (e : ℕ) (h : suc (plan_of b).junctions ≤ e) where
  low_grows : low_belts b (e + 1) ≡ low_belts b e ++ keep_by (is_belt b e) e []
  low_grows =
      ap (keep (is_belt b)) (upto_more (suc (plan_of b).junctions) e h) ∙ keep_append (is_belt b) (upto (suc (plan_of b).junctions) e) (e ∷ [])

  pub low_more : kind b e ≡ 2 → low_belts b (e + 1) ≡ low_belts b e ++ e ∷ []
  low_more k = low_grows ∙ ap (λ (t : Bool). low_belts b e ++ keep_by t e []) (eq-eqb (kind b e) 2 k)

  pub low_same : (kind b e ≡ 2 → ⊥) → low_belts b (e + 1) ≡ low_belts b e
  low_same d = low_grows ∙ ap (λ (t : Bool). low_belts b e ++ keep_by t e []) (ne_eqb (kind b e) 2 d) ∙ append-nil (low_belts b e)

  -- the plan's belts are the low ones and those behind
  pub low_split : e ≤ records b → belt_records b ≡ low_belts b e ++ behind_belts b e
  unfolding plan_of
  low_split u =
      ap (keep (is_belt b)) (upto_split (suc (junctions b)) e (records b) h u)
      ∙ keep_append (is_belt b) (upto (suc (junctions b)) e) (upto e (records b))

pub low_all : (b : List ℕ) → length (low_belts b (records b)) ≡ length (content_of (plan_of b)).legs
unfolding plan_of
low_all b = sym (length-map (map (belt_at b) (belt_records b)) leg_of ∙ length-map (belt_records b) (belt_at b))

pub indices_are : (b : List ℕ) → indices_of (plan_of b).belts ≡ belt_records b
unfolding plan_of
indices_are b = indices_back b (belt_records b)

module _ {b : List ℕ} (ok : Accepted b) where
  pub no_belt : (e : ℕ) → e < records b → mem e (indices_of (plan_of b).belts) ≡ false → kind b e ≡ 2 → ⊥
  no_belt e u n k = let is = belt_indexed ok e (u, k) in cc

  -- the belts, cut before belt e
  pub belt_split : (e : ℕ) → IsBelt b e → belt_records b ≡ low_belts b e ++ e ∷ behind_belts b (e + 1)
  belt_split e o =
      let h = (belt_low ok e o).0 in
      low_split b e (omega arith) (omega (arith, o.0))
      ∙ ap (λ (l : List ℕ). low_belts b e ++ l) (keep_first (is_belt b) e (records b) o.0 (eq-eqb (kind b e) 2 o.1))

  pub new_index_lem : (e : ℕ) → IsBelt b e → new_index (plan_of b) e ≡ suc (plan_of b).junctions + length (low_belts b e)
  new_index_lem e o =
      let q = place_append (low_belts b e) (e ∷ behind_belts b (e + 1)) e (λ d m z. omega (arith, low_in b e d m)) in
      let z = place_head e (behind_belts b (e + 1)) in
      let k : place (low_belts b e ++ e ∷ behind_belts b (e + 1)) e ≡ length (low_belts b e) = omega arith in
      ap (λ (l : List ℕ). suc (plan_of b).junctions + place l e) (indices_are b ∙ belt_split e o)
      ∙ ap (λ (n : ℕ). suc (plan_of b).junctions + n) k

-- ---- the array of new indices

pub record NumberedTo (b new : List ℕ) (e : ℕ) : Type 0 where
  pub size : length new ≡ max_records
  pub each : (d : ℕ) → IsBelt b d → d < e → get_or new d 0 ≡ new_index (plan_of b) d

pub number_none : {b : List ℕ} → Accepted b → (new : List ℕ) → length new ≡ max_records → (e : ℕ) → e ≡ suc (plan_of b).junctions → NumberedTo b new e
number_none ok new q e z = record { size = q; each = λ d o u. absurd (omega (arith, (belt_low ok d o).0)) }

pub number_same : (b new : List ℕ) (e : ℕ) → NumberedTo b new e → (kind b e ≡ 2 → ⊥) → NumberedTo b new (e + 1)
number_same b new e h k = record { size = h.size; each = λ d o u. h.each d o (low d o u) }
  where
    low : (d : ℕ) → IsBelt b d → d < e + 1 → d < e
    low d o u = ⊎_elim (λ (s : d < e). s) (λ (s : e ≤ d). let q : d ≡ e = omega arith in absurd (k (ap (kind b) (sym q) ∙ o.1))) (lt_or_le d e)

pub number_more : (b new : List ℕ) (e next : ℕ) → Accepted b → NumberedTo b new e → IsBelt b e → next ≡ suc (plan_of b).junctions + length (low_belts b e)
    → NumberedTo b (set new e next) (e + 1)
number_more b new e next ok h o q = record {
  size = length-set new e next ∙ h.size;
  each = λ d i u. ⊎_elim (λ (s : d < e). get_or-set_other new e d next 0 (λ z. omega arith) ∙ h.each d i s) (λ (s : e ≤ d). here d (omega arith)) (lt_or_le d e);
}
  where
    here : (d : ℕ) → d ≡ e → get_or (set new e next) d 0 ≡ new_index (plan_of b) d
    here d z =
        ap (λ (i : ℕ). get_or (set new e next) i 0) z
        ∙ get_or-set_same new e next 0 (omega (arith, (belt_low ok e o).2, h.size))
        ∙ q ∙ sym (new_index_lem ok e o) ∙ ap (new_index (plan_of b)) (sym z)

pub numbered : (b new : List ℕ) (e : ℕ) → NumberedTo b new e → records b ≤ e → Numbered b new
numbered b new e h u = record { size = h.size; each = λ d o. h.each d o (omega (arith, o.0)) }
