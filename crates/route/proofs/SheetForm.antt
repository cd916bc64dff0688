-- When bytes are in the form of a sheet, test by test, and the belts on one, step by step.
--
--   form_short, form_odd
--                       what is too short or too long, or of no whole number of records, is not in the form
--   form_sized          anything else is in the form exactly when its record 0 and its steps are
--   belts_from h k n     the belts of the steps from k + 1 on, of n steps
--   belts_next          storing them is to store the first, and then the others behind it
--   belts_done          where none is left, storing them changes nothing
--
-- Assumes nothing.
use mathlib.Core.Path.{◌≡◌, sym, ◌∙◌, ap}
use mathlib.Core.Bool.{true, false, ◌&&◌}
use Prim.Native.Nat.{ℕ, ◌+◌, ◌%◌, ◌≤◌, ◌<◌}
use mathlib.Core.List.{List, map}
use native.Mathlib.Omega.{arith}
use native.Mathlib.Numerals.{add-one}
use lib.ListN.{length, set}
use lib.Seq.{sets}
use borrow.Author.Tests.{eq-eqb, ne_eqb}
use Rattle.plan.specs.Bounds.{max_sheet_bytes, record_bytes}
use Rattle.plan.specs.Lists.{all, upto, within}
use Rattle.plan.specs.declared.read.BeltId.{BeltId}
use Rattle.plan.specs.Records.{field}
use Rattle.plan.specs.Plan.{belt_id}
use Rattle.plan.proofs.Lists.{upto_step, upto_end}
use Rattle.route.specs.Sheets.{head_fits, step_fits, places, in_form}

-- ---- the form

module _ (h : List ℕ) where
  pub form_short : within record_bytes (length h) max_sheet_bytes ≡ false → in_form h ≡ false
  unfolding in_form
  form_short a = rw a

  pub form_odd : within record_bytes (length h) max_sheet_bytes ≡ true → (length h % record_bytes ≡ 0 → ⊥) → in_form h ≡ false
  unfolding in_form
  form_odd a n = rw (a, ne_eqb (length h % record_bytes) 0 n)

  pub form_sized : within record_bytes (length h) max_sheet_bytes ≡ true → length h % record_bytes ≡ 0
      → in_form h ≡ (head_fits h && all (step_fits h) (places h))
  unfolding in_form
  form_sized a e = rw (a, eq-eqb (length h % record_bytes) 0 e)

-- ---- the belts

-- the belts of the steps from k + 1 on, of n steps
abbrev pub belts_from : List ℕ → ℕ → ℕ → List BeltId
belts_from h k n = map belt_id (map (λ (i : ℕ). field h i 2) (upto (k + 1) (n + 1)))

pub belts_next : (h : List ℕ) (belts : List BeltId) (k n e : ℕ) → k < n → e ≡ field h (k + 1) 2
    → sets (set belts k (belt_id e)) (k + 1) (belts_from h (k + 1) n) ≡ sets belts k (belts_from h k n)
belts_next h belts k n e l q =
    (λ i. sets (set belts k (belt_id (q i))) (add-one k i) (belts_from h (k + 1) n))
    ∙ sym (ap (λ (is : List ℕ). sets belts k (map belt_id (map (λ (i : ℕ). field h i 2) is))) (upto_step (k + 1) (n + 1) (omega arith)))

pub belts_done : (h : List ℕ) (belts : List BeltId) (k n : ℕ) → n ≤ k → sets belts k (belts_from h k n) ≡ belts
belts_done h belts k n l = ap (λ (is : List ℕ). sets belts k (map belt_id (map (λ (i : ℕ). field h i 2) is))) (upto_end (k + 1) (n + 1) (omega arith))
