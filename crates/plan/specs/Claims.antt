-- What is claimed of the plan check, as types; proofs/Claims.antt proves them all. The contract of `check::check` says that its answer's
-- number is `refusal` of the bytes, for any bytes; these say what that number means.
--
--   Unbroken ls a     a breaks no line of ls
--   FirstIn ls a n    n is the number of the first line of ls that a breaks
--   FirstClaim        the number is n exactly when n is that of the first broken line, and 0 exactly when none is broken
--   LimitsClaim       nothing is refused exactly when the published limits hold
--   DistinctClaim     two cases of the code's refusals with the same number are the same case
--   NonzeroClaim      no case has the number 0, which says that nothing is refused
--
-- The first two are about ALL lists of bytes, the others about all 16 lines of the table. Assumes nothing.
use Rattle.std.specs.Prelude.{◌≡◌, true, false, ◌⊎◌, ◌↔◌, ℕ}
use mathlib.Core.List.{List, ◌∷◌, ◌++◌, Memᴰ}
use Rattle.plan.specs.declared.refusal.Refusal.{Refusal}
use Rattle.plan.specs.Refusals.{Line, plan_lines, refusal, refusal_number}
use Rattle.plan.specs.Limits.{Limits}

abbrev pub Unbroken : {A : Type 0} → List (Line A) → A → Type 0
Unbroken {A} ls a = (l : Line A) → Memᴰ l ls → l.broken a ≡ false

pub record FirstIn {A : Type 0} (ls : List (Line A)) (a : A) (n : ℕ) : Type 0 where
  pub before : List (Line A)
  pub line : Line A
  pub after : List (Line A)
  pub split : ls ≡ before ++ line ∷ after
  pub number : line.number ≡ n
  pub broken : line.broken a ≡ true
  pub unbroken : Unbroken before a

abbrev pub FirstClaim : Type 0
FirstClaim = (b : List ℕ) (n : ℕ) → (refusal b ≡ n) ↔ (((n ≡ 0) × Unbroken plan_lines b) ⊎ FirstIn plan_lines b n)

abbrev pub LimitsClaim : Type 0
LimitsClaim = (b : List ℕ) → Limits b ↔ (refusal b ≡ 0)

abbrev pub DistinctClaim : Type 0
DistinctClaim = (r s : Refusal) → refusal_number r ≡ refusal_number s → r ≡ s

abbrev pub NonzeroClaim : Type 0
NonzeroClaim = (r : Refusal) → refusal_number r ≡ 0 → ⊥

-- all of them
pub record Claims : Type 0 where
  pub first : FirstClaim
  pub limits : LimitsClaim
  pub distinct : DistinctClaim
  pub nonzero : NonzeroClaim
