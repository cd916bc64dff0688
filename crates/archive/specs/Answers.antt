-- What the writer of archive forms answers, whole: the refusals, the length written, and every byte of the out buffer (paper 02, K3).
--
--   Lent                a plan's bytes, and the length of the out buffer; lent_of b out: those of a call
--   broken16            the line is broken; line16: with its number
--   archive_lines        lines 1 to 7 and 16, in the order in which they count
--   archive_refusal k    the number of the first broken one, or 0
--   written_or n x y x with the number 0, else y
--   archive_in b         the archive form of the plan that the bytes b describe
--   archive_size k            the length that is written; 0 on a refusal
--   archive_after k out      the out buffer afterwards: the archive form, and behind it what stood there; on a refusal every byte as it was
--   size_in v           the length in the code's answer; 0 on a refusal
--   Told v b before after
--                       the answer v and the out buffer, before and after, are those of the plan b
--
-- The code answers a length or a refusal; `number_of` gives the number of either (plan/Refusals). Assumes nothing.
use Rattle.std.specs.Prelude.{◌≡◌, ℕ, zero, suc, Bool, List, [], ◌∷◌, ◌++◌, map, length, drop, ltb, Result, Ok, Err}
use Rattle.plan.specs.Plan.{plan_of}
use Rattle.plan.specs.Refusals.{Line, about, plan_lines, first_broken, number_of}
use Rattle.plan.specs.declared.refusal.Refusal.{Refusal}
use Rattle.archive.specs.Form.{archive_of}

pub record Lent : Type 0 where
  pub plan : List ℕ
  pub room : ℕ

-- ---- refusals

-- 16: out buffer shorter than the plan
unfoldable pub broken16 : Lent → Bool
broken16 k = ltb k.room (length k.plan)

abbrev pub line16 : Line Lent
line16 = record { number = 16; broken = broken16 }

abbrev pub archive_lines : List (Line Lent)
archive_lines = map (about (λ (k : Lent). k.plan)) plan_lines ++ line16 ∷ []

unfoldable pub archive_refusal : Lent → ℕ
archive_refusal k = first_broken archive_lines k

-- ---- answers

-- the first with 0, else the second
abbrev pub written_or : {A : Type 0} → ℕ → A → A → A
written_or zero done refused = done
written_or (suc n) done refused = refused

abbrev pub archive_in : List ℕ → List ℕ
archive_in b = archive_of (plan_of b)

abbrev pub archive_size : Lent → ℕ
archive_size k = written_or (archive_refusal k) (length (archive_in k.plan)) 0

abbrev pub archive_after : Lent → List ℕ → List ℕ
archive_after k out = written_or (archive_refusal k) (archive_in k.plan ++ drop (length (archive_in k.plan)) out) out

abbrev pub lent_of : List ℕ → List ℕ → Lent
lent_of b out = record { plan = b; room = length out }

-- ---- what the code answers, in numbers

abbrev pub size_in : Result ℕ Refusal → ℕ
size_in (Ok size) = size
size_in (Err r) = 0

pub record Told (v : Result ℕ Refusal) (b before after : List ℕ) : Type 0 where
  pub number : number_of v ≡ archive_refusal (lent_of b before)
  pub size : size_in v ≡ archive_size (lent_of b before)
  pub out : after ≡ archive_after (lent_of b before) before
