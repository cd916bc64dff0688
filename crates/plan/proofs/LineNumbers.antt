-- The numbers of the code's refusals: the case is found again by its number.
--
--   table           the cases, in the order of the refusal table
--   refusal_at n     the case with the number n, if there is one; the table counts from 1
--   found           a case is the one with its number
--   distinct        cases with the same number are the same
--   nonzero         no case has the number 0
--
-- Assumes nothing.
use mathlib.Core.Path.{◌≡◌, refl, sym, ◌∙◌, ap}
use mathlib.Core.Option.{Option, none, some}
use mathlib.Core.List.{List, [], ◌∷◌}
use Prim.Native.Nat.{ℕ, zero, suc}
use native.Mathlib.Omega.{arith}
use Rattle.plan.specs.declared.refusal.Refusal.{Refusal}
use Rattle.plan.specs.declared.refusal.Refusal.TheVariants.{WrongSize, WrongHeader, WrongRecord, WrongChain, BackwardBelt, WrongLiteral, ManyNamed, WrongEnds, WrongQuery, ShortBuffer, WrongSheet, NotARoute, WrongCost, UnmetRule, WrongLock, ShortPlanBuffer}
use Rattle.plan.specs.Refusals.{refusal_number}
use Rattle.plan.specs.Claims.{DistinctClaim, NonzeroClaim}

abbrev table : List Refusal
table =
    WrongSize
    ∷ WrongHeader
    ∷ WrongRecord
    ∷ WrongChain
    ∷ BackwardBelt
    ∷ WrongLiteral
    ∷ ManyNamed
    ∷ WrongEnds
    ∷ WrongQuery
    ∷ ShortBuffer
    ∷ WrongSheet
    ∷ NotARoute
    ∷ WrongCost
    ∷ UnmetRule
    ∷ WrongLock
    ∷ ShortPlanBuffer
    ∷ []

abbrev nth : List Refusal → ℕ → Option Refusal
nth [] n = none
nth (r ∷ rs) zero = some r
nth (r ∷ rs) (suc n) = nth rs n

abbrev refusal_at : ℕ → Option Refusal
refusal_at zero = none
refusal_at (suc n) = nth table n

found : (r : Refusal) → refusal_at (refusal_number r) ≡ some r
found WrongSize = refl
found WrongHeader = refl
found WrongRecord = refl
found WrongChain = refl
found BackwardBelt = refl
found WrongLiteral = refl
found ManyNamed = refl
found WrongEnds = refl
found WrongQuery = refl
found ShortBuffer = refl
found WrongSheet = refl
found NotARoute = refl
found WrongCost = refl
found UnmetRule = refl
found WrongLock = refl
found ShortPlanBuffer = refl

pub distinct : DistinctClaim
distinct r s e = let same : some r ≡ some s = sym (found r) ∙ ap refusal_at e ∙ found s in cc

pub nonzero : NonzeroClaim
nonzero r e = let clash : none ≡ some r = sym (ap refusal_at e) ∙ found r in let z : ◌≡◌ {A = ℕ} 0 1 = cc in absurd (omega arith)
