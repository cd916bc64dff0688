-- What is stored, piece by piece, in the buffer of a sheet. How a record is written there is said in crate plan (proofs/RecordWriting.antt).
--
--   no_steps            placing the steps of no belts changes nothing
--   length_stepped      placing the steps of the first belts leaves the buffer's length as it was
--   stepped             writing one more record behind them places the steps of one more belt
--   headed              a record 0 of the right fields is the head
--   written             the head and the steps behind it are the sheet, record_bytes * n + record_bytes bytes, and the bytes behind it do not change
--
-- Assumes nothing.
use mathlib.Core.Path.{◌≡◌, refl, sym, ◌∙◌, ap}
use Prim.Native.Nat.{ℕ, suc, ◌+◌, ◌*◌, ◌/◌, ◌%◌, ◌≤◌, ◌<◌}
use mathlib.Core.List.{List, [], ◌∷◌, ◌++◌}
use native.Mathlib.Omega.{arith}
use native.Mathlib.Nat.{add-suc, suc-add, add-zero}
use lib.ListN.{length, get_or, drop}
use lib.Seq.{sets-eq}
use Rattle.plan.specs.declared.read.BeltId.{BeltId}
use Rattle.plan.specs.Bounds.{field_limit}
use Rattle.plan.specs.Records.{record_of, placed}
use Rattle.plan.proofs.RecordWriting.{length_placed, behind}
use Rattle.route.specs.Sheets.{next_of, head_of, steps_from, sheet_of}
use Rattle.route.proofs.RouteBelts.{first_ids, length_first, first_more}
use Rattle.route.proofs.SheetReading.{length_steps, length_sheet}

-- ---- steps

steps_append : (n i : ℕ) (es : List ℕ) (e : ℕ) → steps_from n i (es ++ e ∷ []) ≡ steps_from n i es ++ record_of 5 (next_of n (i + length es)) e 0 0 0
steps_append n i [] e = ap (λ (k : ℕ). record_of 5 (next_of n k) e 0 0 0) (sym (add-zero i))
steps_append n i (x ∷ es) e =
    ap (λ (r : List ℕ). record_of 5 (next_of n i) x 0 0 0 ++ r)
    (steps_append n (suc i) es e
    ∙ ap (λ (k : ℕ). steps_from n (suc i) es ++ record_of 5 (next_of n k) e 0 0 0) (suc-add i (length es) ∙ sym (add-suc i (length es))))

steps_more : (n k : ℕ) (belts : List BeltId) (d : BeltId) → k < length belts
    → steps_from n 1 (first_ids (k + 1) belts) ≡ steps_from n 1 (first_ids k belts) ++ record_of 5 (next_of n (k + 1)) (get_or belts k d).0 0 0 0
steps_more n k belts d h =
    let size = length_first k belts (omega arith) in
    let e : 1 + length (first_ids k belts) ≡ k + 1 = omega arith in
    ap (steps_from n 1) (first_more k belts d h)
    ∙ steps_append n 1 (first_ids k belts) (get_or belts k d).0
    ∙ ap (λ (m : ℕ). steps_from n 1 (first_ids k belts) ++ record_of 5 (next_of n m) (get_or belts k d).0 0 0 0) e

pub no_steps : (l : List ℕ) → 12 ≤ length l → l ≡ placed l 12 []
no_steps l h = sets-eq [] l 12 (omega arith)

-- the steps of the first k belts, in a buffer l for a sheet with n steps
module _ (l : List ℕ) (n k : ℕ) (belts : List BeltId) (mid : List ℕ) (p : mid ≡ placed l 12 (steps_from n 1 (first_ids k belts))) where
  pub length_stepped : k ≤ length belts → 12 * k + 12 ≤ length l → length mid ≡ length l
  length_stepped h r =
      let few = length_first k belts h in
      let size = length_steps n 1 (first_ids k belts) in
      ap length p ∙ length_placed (steps_from n 1 (first_ids k belts)) l 12 (omega arith)

  pub stepped : (out : List ℕ) (next : ℕ) (d : BeltId) → k < length belts → 12 * (k + 1) + 12 ≤ length l → next ≡ next_of n (k + 1)
      → out ≡ placed mid (12 * (k + 1)) (record_of 5 next (get_or belts k d).0 0 0 0) → out ≡ placed l 12 (steps_from n 1 (first_ids (k + 1) belts))
  stepped out next d h r e q =
      let few = length_first k belts (omega arith) in
      let size = length_steps n 1 (first_ids k belts) in
      let e' = (get_or belts k d).0 in
      behind l 12 (steps_from n 1 (first_ids k belts)) (record_of 5 (next_of n (k + 1)) e' 0 0 0) mid out (12 * (k + 1)) p
      (q ∙ ap (λ (x : ℕ). placed mid (12 * (k + 1)) (record_of 5 x e' 0 0 0)) e)
      (omega arith) r
      ∙ ap (placed l 12) (sym (steps_more n k belts d h))

-- ---- sheets

pub headed : (l out : List ℕ) (n next c σ : ℕ) → next ≡ next_of n 0
    → out ≡ placed l 0 (record_of 8 next (c / (field_limit * field_limit)) (c / field_limit % field_limit) (c % field_limit) σ) → out ≡ placed l 0 (head_of n c σ)
headed l out n next c σ e q = q ∙ ap (λ (x : ℕ). placed l 0 (record_of 8 x (c / (field_limit * field_limit)) (c / field_limit % field_limit) (c % field_limit) σ)) e

pub written : (l es mid out : List ℕ) (n c σ : ℕ) → length es ≡ n → 12 * n + 12 ≤ length l
    → mid ≡ placed l 0 (head_of n c σ) → out ≡ placed mid 12 (steps_from n 1 es)
    → (12 * n + 12 ≡ length (sheet_of es c σ)) × (out ≡ sheet_of es c σ ++ drop (12 * n + 12) l)
written l es mid out n c σ e h p q =
    let steps = length_steps n 1 es in
    let size : 0 + length (head_of n c σ ++ steps_from n 1 es) ≡ 12 * n + 12 = omega arith in (
      omega (arith, length_sheet es c σ),
      behind l 0 (head_of n c σ) (steps_from n 1 es) mid out 12 p q refl (omega arith)
          ∙ ap (λ (m : ℕ). head_of n c σ ++ steps_from n 1 es ++ drop m l) size
          ∙ ap (λ (m : ℕ). head_of m c σ ++ steps_from m 1 es ++ drop (12 * n + 12) l) (sym e),
    )
