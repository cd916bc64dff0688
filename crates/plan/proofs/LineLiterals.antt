-- What a literal's field 4 has to be, by its field 3, and what line 6 says.
--
--   fits_belt, fits_mode     `literal_fits` of a literal of a belt, and of a mode
--   fits_names, names_fits   it is what the limits say of a literal
--   unbroken_fits            where line 6 is unbroken it holds of every literal
--
-- Assumes nothing.
use mathlib.Core.Path.{◌≡◌, refl, sym, ◌∙◌, ap}
use mathlib.Core.Logic.{◌⊎◌, inl, inr}
use mathlib.Core.Bool.{Bool, true, false, not, ◌&&◌}
use Prim.Native.Nat.{ℕ, zero, suc, ◌≤◌, ◌<◌}
use mathlib.Core.List.{List}
use native.Mathlib.Omega.{arith}
use lib.Dec.{eqb, ltb}
use borrow.Author.Tests.{eqb-true, eqb-false, eq-eqb, ne_eqb, ltb-true, lt-ltb, not-false}
use Rattle.plan.specs.Lists.{within, upto}
use Rattle.plan.specs.Records.{field, kind, junctions, records, modes}
use Rattle.plan.specs.Refusals.{broken6, fits_by, literal_fits, misnames}
use Rattle.plan.specs.Limits.{Names}
use Rattle.plan.proofs.Lists.{test, both, and_is, within_is, is_within, any_none, in_upto}

pub fits_belt : (b : List ℕ) (l : ℕ) → field b l 3 ≡ 0 → literal_fits b l ≡ (ltb (field b l 4) (records b) && eqb (kind b (field b l 4)) 2)
fits_belt b l e = ap (λ (t : Bool). fits_by t b (field b l 4)) (eq-eqb (field b l 3) 0 e)

pub fits_mode : (b : List ℕ) (l : ℕ) → (field b l 3 ≡ 0 → ⊥) → literal_fits b l ≡ within 1 (field b l 4) (modes b)
fits_mode b l d = ap (λ (t : Bool). fits_by t b (field b l 4)) (ne_eqb (field b l 3) 0 d)

pub fits_names : (b : List ℕ) (l : ℕ) → literal_fits b l ≡ true → Names b l
fits_names b l h = record {
  belt = λ e.
      let k = both (ltb (field b l 4) (records b)) (eqb (kind b (field b l 4)) 2) (sym (fits_belt b l e) ∙ h) in
      (ltb-true (field b l 4) (records b) k.0, eqb-true (kind b (field b l 4)) 2 k.1);
  mode = λ e. within_is 1 (field b l 4) (modes b) (sym (fits_mode b l (λ z. omega arith)) ∙ h);
}

pub names_fits : (b : List ℕ) (l : ℕ) → field b l 3 ≤ 1 → Names b l → literal_fits b l ≡ true
names_fits b l s n = go (test (eqb (field b l 3) 0))
  where
    go : (eqb (field b l 3) 0 ≡ true) ⊎ (eqb (field b l 3) 0 ≡ false) → literal_fits b l ≡ true
    go (inl t) =
        let e = eqb-true (field b l 3) 0 t in
        let k = n.belt e in
        fits_belt b l e
        ∙ and_is (ltb (field b l 4) (records b)) (eqb (kind b (field b l 4)) 2) (lt-ltb (field b l 4) (records b) k.0) (eq-eqb (kind b (field b l 4)) 2 k.1)
    go (inr t) =
        let d = eqb-false (field b l 3) 0 t in
        let k = n.mode (one_or (field b l 3) s d) in
        fits_mode b l d ∙ is_within 1 (field b l 4) (modes b) k.0 k.1
      where
        one_or : (x : ℕ) → x ≤ 1 → (x ≡ 0 → ⊥) → x ≡ 1
        one_or zero q d = absurd (d refl)
        one_or (suc x) q d = omega arith

pub unbroken_fits : (b : List ℕ) → broken6 b ≡ false → (l : ℕ) → junctions b < l → l < records b → kind b l ≡ 4 → literal_fits b l ≡ true
unfolding broken6
unbroken_fits b h l lo hi e =
    let m = any_none (misnames b) (upto (suc (junctions b)) (records b)) h (in_upto (suc (junctions b)) (records b) l lo hi) in
    not-false (literal_fits b l) (sym (ap (λ (x : Bool). x && not (literal_fits b l)) (eq-eqb (kind b l) 4 e)) ∙ m)
