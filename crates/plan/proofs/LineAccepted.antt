-- An accepted plan breaks no line, and a plan that breaks none is accepted.
--
--   unbroken, accepted_passed, passed_accepted   the two directions
--   refused_1 .. refused_7                       the number, where a line is the first to be broken
--   accepted_room, accepted_begins, accepted_junction, accepted_there
--                                                what the readers need of an accepted plan
--
-- Assumes nothing.
use mathlib.Core.Path.{◌≡◌, refl, ◌∙◌}
use mathlib.Core.Bool.{Bool, true, false}
use Prim.Native.Nat.{ℕ, suc, ◌+◌, ◌*◌, ◌≤◌, ◌<◌}
use mathlib.Core.List.Memᴰ
use mathlib.Core.List.{List, ◌∷◌}
use native.Mathlib.Omega.{arith}
use lib.ListN.{length, drop}
use Rattle.plan.specs.Records.{junctions, records}
use Rattle.plan.specs.Refusals.{broken1, broken2, broken3, broken4, broken5, broken6, broken7, plan_lines, first_broken, refusal}
use Rattle.plan.specs.Inner.{Passed2, Passed4, Passed6}
use Rattle.plan.specs.Claims.{Unbroken}
use Rattle.plan.specs.Plan.{plan_of}
use Rattle.plan.specs.Reading.{Accepted}
use Rattle.plan.proofs.LineFirst.{on_broken, on_unbroken, passed}
use Rattle.plan.proofs.LineForms.{there, header}

unbroken : (b : List ℕ) → refusal b ≡ 0 → Unbroken plan_lines b
unfolding refusal
unbroken b e = passed plan_lines b refl e

pub accepted_passed : (b : List ℕ) → refusal b ≡ 0 → Passed6 b × (broken7 b ≡ false)
accepted_passed b e =
    let u = unbroken b e in (
      (
        (
          (u _ (Memᴰ.head refl), u _ (Memᴰ.tail (Memᴰ.head refl))),
          u _ (Memᴰ.tail (Memᴰ.tail (Memᴰ.head refl))),
          u _ (Memᴰ.tail (Memᴰ.tail (Memᴰ.tail (Memᴰ.head refl)))),
        ),
        u _ (Memᴰ.tail (Memᴰ.tail (Memᴰ.tail (Memᴰ.tail (Memᴰ.head refl))))),
        u _ (Memᴰ.tail (Memᴰ.tail (Memᴰ.tail (Memᴰ.tail (Memᴰ.tail (Memᴰ.head refl)))))),
      ),
      u _ (Memᴰ.tail (Memᴰ.tail (Memᴰ.tail (Memᴰ.tail (Memᴰ.tail (Memᴰ.tail (Memᴰ.head refl))))))),
    )

-- ---- the number, where a line is the first to be broken

module _ (b : List ℕ) where
  -- the number of the first broken line behind the first n
  abbrev from : ℕ → ℕ
  from n = first_broken (drop n plan_lines) b

  -- the next line, of the number n + 1, is broken or not
  hit : (n : ℕ) (t : List ℕ → Bool) → t b ≡ true → first_broken (record { number = suc n; broken = t } ∷ drop (suc n) plan_lines) b ≡ suc n
  hit n t = on_broken (record { number = suc n; broken = t }) (drop (suc n) plan_lines) b

  over : (n : ℕ) (t : List ℕ → Bool) → t b ≡ false → first_broken (record { number = suc n; broken = t } ∷ drop (suc n) plan_lines) b ≡ from (suc n)
  over n t = on_unbroken (record { number = suc n; broken = t }) (drop (suc n) plan_lines) b

  past_2 : Passed2 b → refusal b ≡ from 2
  unfolding refusal
  past_2 h = over 0 broken1 h.0 ∙ over 1 broken2 h.1

  past_4 : Passed4 b → refusal b ≡ from 4
  past_4 h = past_2 h.0 ∙ over 2 broken3 h.1 ∙ over 3 broken4 h.2

  past_6 : Passed6 b → refusal b ≡ from 6
  past_6 h = past_4 h.0 ∙ over 4 broken5 h.1 ∙ over 5 broken6 h.2

  pub refused_1 : broken1 b ≡ true → refusal b ≡ 1
  unfolding refusal
  refused_1 k = hit 0 broken1 k

  pub refused_2 : broken1 b ≡ false → broken2 b ≡ true → refusal b ≡ 2
  unfolding refusal
  refused_2 h k = over 0 broken1 h ∙ hit 1 broken2 k

  pub refused_3 : Passed2 b → broken3 b ≡ true → refusal b ≡ 3
  refused_3 h k = past_2 h ∙ hit 2 broken3 k

  pub refused_4 : Passed2 b → broken3 b ≡ false → broken4 b ≡ true → refusal b ≡ 4
  refused_4 h h3 k = past_2 h ∙ over 2 broken3 h3 ∙ hit 3 broken4 k

  pub refused_5 : Passed4 b → broken5 b ≡ true → refusal b ≡ 5
  refused_5 h k = past_4 h ∙ hit 4 broken5 k

  pub refused_6 : Passed4 b → broken5 b ≡ false → broken6 b ≡ true → refusal b ≡ 6
  refused_6 h h5 k = past_4 h ∙ over 4 broken5 h5 ∙ hit 5 broken6 k

  pub refused_7 : Passed6 b → broken7 b ≡ true → refusal b ≡ 7
  refused_7 h k = past_6 h ∙ hit 6 broken7 k

  pub passed_accepted : Passed6 b → broken7 b ≡ false → refusal b ≡ 0
  passed_accepted h k = past_6 h ∙ over 6 broken7 k

-- ---- what readers need

-- there are records beyond the junctions
pub accepted_room : {b : List ℕ} → Accepted b → junctions b < records b
accepted_room {b} ok = (header b (accepted_passed b ok.unrefused).0.0.0.1).junctions_fit

-- record 0 is one of them
pub accepted_begins : {b : List ℕ} → Accepted b → 0 < records b
accepted_begins ok = omega (arith, accepted_room ok)

-- so is that of a junction
pub accepted_junction : {b : List ℕ} → Accepted b → (j : ℕ) → j ≤ (plan_of b).junctions → j < records b
unfolding plan_of
accepted_junction ok j h = omega (arith, accepted_room ok)

-- a record below N is there
pub accepted_there : {b : List ℕ} → Accepted b → (i : ℕ) → i < records b → 12 * i + 12 ≤ length b
accepted_there {b} ok = there b (accepted_passed b ok.unrefused).0.0.0.0
