-- Writing records one after the other (`bytes_of` of specs/Form.antt): what stands where.
--
--   bytes_append      the bytes of two lists of records are those of both, one after the other
--   put_none          placing no record changes nothing
--   length_put        placing records that have room leaves the buffer's length as it was
--   put_list          records placed right behind others are placed with them; put_more: the same of one record
--   put_front         a record placed right before others is placed with them
--
-- Records are placed at 12 * i, where i is the index of the first of them. Assumes nothing.
use mathlib.Core.Path.{◌≡◌, refl, sym, ◌∙◌, ap}
use Prim.Native.Nat.{ℕ, suc, ◌+◌, ◌*◌, ◌≤◌}
use mathlib.Core.List.{List, [], ◌∷◌, ◌++◌}
use native.Mathlib.Omega.{arith}
use native.Mathlib.Nat.{add-suc, suc-add, add-zero}
use lib.ListN.{length, set, length-append}
use lib.Seq.{sets, sets-eq, length-sets, set_comm}
use Rattle.plan.specs.Records.{placed}
use Rattle.plan.proofs.Lists.{joined_append}
use Rattle.plan.proofs.RecordWriting.{length_placed, behind}
use Rattle.archive.specs.Form.{Fields, record_bytes_of, bytes_of}
use Rattle.archive.proofs.RecordBytes.{length_bytes}

-- ---- bytes

pub bytes_append : (rs ss : List Fields) → bytes_of (rs ++ ss) ≡ bytes_of rs ++ bytes_of ss
bytes_append rs ss = joined_append record_bytes_of rs ss

pub put_none : (l : List ℕ) (at : ℕ) → at ≤ length l → l ≡ placed l at (bytes_of [])
put_none l at h = sets-eq [] l at (omega arith)

-- ---- records behind records

-- the records rs, from record i of the buffer l on
module _ (l : List ℕ) (i : ℕ) (rs : List Fields) (mid : List ℕ) (p : mid ≡ placed l (12 * i) (bytes_of rs)) where
  pub length_put : 12 * (i + length rs) ≤ length l → length mid ≡ length l
  length_put h =
      let size = length_bytes rs in
      ap length p ∙ length_placed (bytes_of rs) l (12 * i) (omega arith)

  pub put_list : (ss : List Fields) (out : List ℕ) (j : ℕ) → out ≡ placed mid (12 * j) (bytes_of ss) → j ≡ i + length rs
      → 12 * (j + length ss) ≤ length l → out ≡ placed l (12 * i) (bytes_of (rs ++ ss))
  put_list ss out j q e h =
      let size = length_bytes rs in
      let more = length_bytes ss in
      behind l (12 * i) (bytes_of rs) (bytes_of ss) mid out (12 * j) p q (omega arith) (omega arith)
      ∙ ap (placed l (12 * i)) (sym (bytes_append rs ss))

  pub put_more : (r : Fields) (out : List ℕ) (j : ℕ) → out ≡ placed mid (12 * j) (record_bytes_of r) → j ≡ i + length rs
      → 12 * j + 12 ≤ length l → out ≡ placed l (12 * i) (bytes_of (rs ++ r ∷ []))
  put_more r out j q e h = put_list (r ∷ []) out j q e (omega arith)

-- ---- records before records

sets_set : (vs l : List ℕ) (i j a : ℕ) → j + 1 ≤ i → set (sets l i vs) j a ≡ sets (set l j a) i vs
sets_set [] l i j a h = refl
sets_set (v ∷ vs) l i j a h =
    sets_set vs (set l i v) (suc i) j a (omega arith)
    ∙ ap (λ (m : List ℕ). sets m (suc i) vs) (set_comm l i j v a (λ e. omega arith))

-- what ends where something was placed is placed with it
sets_front : (ws vs l : List ℕ) (i : ℕ) → sets (sets l (i + length ws) vs) i ws ≡ sets l i (ws ++ vs)
sets_front [] vs l i = ap (λ (j : ℕ). sets l j vs) (add-zero i)
sets_front (w ∷ ws) vs l i =
    ap (λ (m : List ℕ). sets m (suc i) ws)
    (sets_set vs l (i + suc (length ws)) i w (omega arith)
    ∙ ap (λ (j : ℕ). sets (set l i w) j vs) (add-suc i (length ws) ∙ sym (suc-add i (length ws))))
    ∙ sets_front ws vs (set l i w) (suc i)

placed_front : (ws vs l : List ℕ) (i j : ℕ) → j ≡ i + length ws → j + length vs ≤ length l → placed (placed l j vs) i ws ≡ placed l i (ws ++ vs)
placed_front ws vs l i j e h =
    let n = length-append ws vs in
    let q = length-sets l j vs in
    ap (λ (m : List ℕ). placed m i ws) (sym (sets-eq vs l j (omega arith)))
    ∙ sym (sets-eq ws (sets l j vs) i (omega arith))
    ∙ ap (λ (m : ℕ). sets (sets l m vs) i ws) e
    ∙ sets_front ws vs l i
    ∙ sets-eq (ws ++ vs) l i (omega arith)

pub put_front : (l : List ℕ) (i : ℕ) (r : Fields) (rs : List Fields) (mid out : List ℕ) → mid ≡ placed l (12 * (i + 1)) (bytes_of rs)
    → out ≡ placed mid (12 * i) (record_bytes_of r) → 12 * (i + 1 + length rs) ≤ length l → out ≡ placed l (12 * i) (bytes_of (r ∷ rs))
put_front l i r rs mid out p q h =
    let size = length_bytes rs in
    q ∙ ap (λ (m : List ℕ). placed m (12 * i) (record_bytes_of r)) p
    ∙ placed_front (record_bytes_of r) (bytes_of rs) l (12 * i) (12 * (i + 1)) (omega arith) (omega arith)
