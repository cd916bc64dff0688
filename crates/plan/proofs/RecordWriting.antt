-- Laws of writing into bytes (`placed` of specs/Records.antt), for whoever writes records: a field, a record, or a run of them.
--
--   length_placed   bytes over which something is placed are as many as before
--   placed_placed   what is placed right behind what was placed is placed with it; behind: the same along equations
--   next_field      one field more, behind those that are placed
--
-- Assumes nothing.
use mathlib.Core.Path.{◌≡◌, refl, sym, ◌∙◌, ap}
use Prim.Native.Nat.{ℕ, suc, ◌+◌, ◌*◌, ◌<◌, ◌≤◌}
use mathlib.Core.List.{List, [], ◌∷◌, ◌++◌}
use native.Mathlib.Omega.{arith}
use native.Mathlib.Nat.{add-suc, suc-add, add-zero}
use native.Mathlib.Numerals.{add-one}
use lib.ListN.{length, get_or, set, take, length-append, length-take}
use lib.Seq.{sets, sets-eq, length-sets, take-suc}
use Rattle.plan.specs.Lists.{joined}
use Rattle.plan.specs.Records.{field_bytes, placed}
use Rattle.plan.proofs.Lists.{joined_append}

pub length_placed : (vs l : List ℕ) (i : ℕ) → i + length vs ≤ length l → length (placed l i vs) ≡ length l
length_placed vs l i h = ap length (sym (sets-eq vs l i h)) ∙ length-sets l i vs

sets_append : (vs ws l : List ℕ) (i : ℕ) → sets (sets l i vs) (i + length vs) ws ≡ sets l i (vs ++ ws)
sets_append [] ws l i = ap (λ (j : ℕ). sets l j ws) (add-zero i)
sets_append (a ∷ vs) ws l i =
    ap (λ (j : ℕ). sets (sets (set l i a) (suc i) vs) j ws) (add-suc i (length vs) ∙ sym (suc-add i (length vs)))
    ∙ sets_append vs ws (set l i a) (suc i)

placed_placed : (vs ws l : List ℕ) (i j : ℕ) → j ≡ i + length vs → j + length ws ≤ length l → placed (placed l i vs) j ws ≡ placed l i (vs ++ ws)
placed_placed vs ws l i j e h =
    let n = length-append vs ws in
    let q = length-sets l i vs in
    ap (λ (m : List ℕ). placed m j ws) (sym (sets-eq vs l i (omega arith)))
    ∙ sym (sets-eq ws (sets l i vs) j (omega arith))
    ∙ ap (λ (m : ℕ). sets (sets l i vs) m ws) e
    ∙ sets_append vs ws l i
    ∙ sets-eq (vs ++ ws) l i (omega arith)

pub behind : (l : List ℕ) (at : ℕ) (vs ws mid out : List ℕ) (j : ℕ) → mid ≡ placed l at vs → out ≡ placed mid j ws
    → j ≡ at + length vs → j + length ws ≤ length l → out ≡ placed l at (vs ++ ws)
behind l at vs ws mid out j p q e h = q ∙ ap (λ (m : List ℕ). placed m j ws) p ∙ placed_placed vs ws l at j e h

length_fields : (fs : List ℕ) → length (joined field_bytes fs) ≡ 2 * length fs
length_fields [] = refl
length_fields (f ∷ fs) = omega (arith, length_fields fs)

pub next_field : (fs l mid out : List ℕ) (at k : ℕ) → mid ≡ placed l at (joined field_bytes (take k fs))
    → out ≡ placed mid (at + 2 * k) (field_bytes (get_or fs k 0)) → k < length fs → at + 2 * length fs ≤ length l
    → out ≡ placed l at (joined field_bytes (take (k + 1) fs))
next_field fs l mid out at k p q h room =
    let before = joined field_bytes (take k fs) in
    let n = length_fields (take k fs) in
    let t = length-take k fs in
    let last = get_or fs k 0 in
    let more : joined field_bytes (take (k + 1) fs) ≡ before ++ field_bytes last =
    ap (joined field_bytes) (ap (λ (j : ℕ). take j fs) (add-one k) ∙ take-suc fs k 0 h) ∙ joined_append field_bytes (take k fs) (last ∷ []) in
    behind l at before (field_bytes last) mid out (at + 2 * k) p q (omega arith) (omega arith) ∙ ap (placed l at) (sym more)
