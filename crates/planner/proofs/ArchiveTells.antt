-- What a reply to a call for an archive form tells: by the number, since only the numbers 1 to 7 and 16 are those of its lines.
--
--   line_number       the first broken line of the call has such a number
--   archive_claim     ArchiveClaim
--
-- Assumes nothing.
use mathlib.Core.Path.{◌≡◌, refl, sym, ◌∙◌, ap, subst}
use mathlib.Core.Logic.{◌⊎◌, inl, inr}
use mathlib.Core.Bool.{Bool, true, ◌&&◌, ◌||◌}
use Prim.Native.Nat.{ℕ, zero, suc, ◌≤◌}
use mathlib.Core.List.{List, ◌++◌, Memᴰ}
use native.Mathlib.Omega.{arith}
use lib.ListN.{length, take, drop}
use lib.Seq.{take-append_seam, drop-append_seam}
use lib.Dec.{eqb, leb}
use borrow.Author.Tests.{eqb-true, leb-true}
use Rattle.plan.specs.Refusals.{Line, refusal}
use Rattle.plan.specs.Claims.{Unbroken, FirstIn}
use Rattle.plan.specs.Reading.{Bytes}
use Rattle.plan.proofs.Lists.{both, either, all_in}
use Rattle.archive.specs.Answers.{Lent, lent_of, archive_lines, archive_refusal, archive_in, archive_size, archive_after, written_or}
use Rattle.archive.proofs.WriteAnswer.{refused_claim, unrefused_plan}
use Rattle.archive.proofs.Claims.{form_claim, twice_claim}
use Rattle.planner.specs.Claims.{ArchiveClaim}

abbrev OfLine : ℕ → Type 0
OfLine n = (1 ≤ n) × ((n ≤ 7) ⊎ (n ≡ 16))

line_number : (k : Lent) (n : ℕ) → FirstIn archive_lines k n → OfLine n
line_number k n f =
    let l = f.line.number in
    let numbered : Line Lent → Bool = λ (l : Line Lent). leb 1 l.number && (leb l.number 7 || eqb l.number 16) in
    let m : Memᴰ f.line archive_lines =
    subst (Memᴰ f.line) (sym f.split) (mathlib.Core.List.Memᴰ.append_right f.before (mathlib.Core.List.Memᴰ.head refl)) in
    let (low, high) = both (leb 1 l) (leb l 7 || eqb l 16) (all_in numbered archive_lines refl m) in
    subst OfLine f.number (leb-true 1 l low, go l (either (leb l 7) (eqb l 16) high))
  where
    go : (l : ℕ) → (leb l 7 ≡ true) ⊎ (eqb l 16 ≡ true) → (l ≤ 7) ⊎ (l ≡ 16)
    go l (inl t) = inl (leb-true l 7 t)
    go l (inr t) = inr (eqb-true l 16 t)

module _ (b out : List ℕ) where
  abbrev k : Lent
  k = lent_of b out

  zero_unbroken : archive_refusal k ≡ 0 → Unbroken archive_lines k
  zero_unbroken e = go ((refused_claim k 0).0 e)
    where
      go : ((◌≡◌ {A = ℕ} 0 0) × Unbroken archive_lines k) ⊎ FirstIn archive_lines k 0 → Unbroken archive_lines k
      go (inl (same, h)) = h
      go (inr f) = absurd (omega (arith, (line_number k 0 f).0))

  other_first : (n : ℕ) → (n ≡ 0 → ⊥) → archive_refusal k ≡ n → FirstIn archive_lines k n
  other_first n d e = go ((refused_claim k n).0 e)
    where
      go : ((n ≡ 0) × Unbroken archive_lines k) ⊎ FirstIn archive_lines k n → FirstIn archive_lines k n
      go (inl (z, h)) = absurd (d z)
      go (inr f) = f

  among : (n : ℕ) → archive_refusal k ≡ n → (n ≤ 7) ⊎ (n ≡ 16)
  among zero e = inl (omega arith)
  among (suc n) e = (line_number k (suc n) (other_first (suc n) (λ z. omega arith) e)).1

  -- with 0
  module _ (e : archive_refusal k ≡ 0) where
    sized : archive_size k ≡ length (archive_in b)
    sized = ap (λ (n : ℕ). written_or {A = ℕ} n (length (archive_in b)) 0) e

    after : archive_after k out ≡ archive_in b ++ drop (length (archive_in b)) out
    after = ap (λ (n : ℕ). written_or {A = List ℕ} n (archive_in b ++ drop (length (archive_in b)) out) out) e

    whole : Bytes b → archive_size k ≡ length b
    whole bytes = sized ∙ (form_claim b bytes (unrefused_plan k e)).size

    front : take (archive_size k) (archive_after k out) ≡ archive_in b
    front = (λ i. take (sized i) (after i)) ∙ take-append_seam (archive_in b) (drop (length (archive_in b)) out)

    behind : drop (archive_size k) (archive_after k out) ≡ drop (archive_size k) out
    behind =
        (λ i. drop (sized i) (after i)) ∙ drop-append_seam (archive_in b) (drop (length (archive_in b)) out)
        ∙ ap (λ (m : ℕ). drop m out) (sym sized)

    unrefused : Bytes b → refusal (take (archive_size k) (archive_after k out)) ≡ 0
    unrefused bytes = ap refusal front ∙ (form_claim b bytes (unrefused_plan k e)).accepted

    again : Bytes b → archive_in (take (archive_size k) (archive_after k out)) ≡ take (archive_size k) (archive_after k out)
    again bytes = ap archive_in front ∙ twice_claim b bytes (unrefused_plan k e) ∙ sym front

  kept : (archive_refusal k ≡ 0 → ⊥) → (archive_size k ≡ 0) × (archive_after k out ≡ out)
  kept d = go (archive_refusal k) refl
    where
      go : (n : ℕ) → archive_refusal k ≡ n → (archive_size k ≡ 0) × (archive_after k out ≡ out)
      go zero e = absurd (d e)
      go (suc n) e = (
        ap (λ (m : ℕ). written_or {A = ℕ} m (length (archive_in b)) 0) e,
        ap (λ (m : ℕ). written_or {A = List ℕ} m (archive_in b ++ drop (length (archive_in b)) out) out) e,
      )

pub archive_claim : ArchiveClaim
archive_claim b out = record {
  zero = (zero_unbroken b out, λ h. (refused_claim (lent_of b out) 0).1 (inl (refl, h)));
  other = λ n d. (other_first b out n d, λ f. (refused_claim (lent_of b out) n).1 (inr f));
  among = among b out (archive_refusal (lent_of b out)) refl;
  opened = refl;
  tests = refl;
  written = λ bytes e. (whole b out e bytes, front b out e, behind b out e);
  accepted = λ bytes e. unrefused b out e bytes;
  again = λ bytes e. again b out e bytes;
  kept = kept b out;
}
