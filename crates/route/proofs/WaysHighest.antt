-- The highest place of a mask, and the mask without it.
--
--   high_none    a low number has no high place; top_low: the highest place of a mask of n bits is below n
--   top_set      k is a place of the mask m, where 2^k ≤ m < 2^(k + 1); top_last: none is higher
--   rest_in      each place of m - 2^k is a lower place of m; in_rest: each place of m is k, or one of m - 2^k
--   rest_not     k is none of them
--
-- Assumes nothing.
use mathlib.Core.Path.{◌≡◌, sym, ◌∙◌, ap}
use mathlib.Core.Logic.{◌⊎◌, inl, inr}
use mathlib.Core.Bool.{true, false}
use Prim.Native.Nat.{ℕ, suc, ◌+◌, ◌*◌, ◌-◌, ◌%◌, ◌^◌, ◌≤◌, ◌<◌}
use native.Mathlib.Omega.{arith}
use native.Mathlib.Nat.{div-eq_of_lt, eq-or-lt_of_le, two-pow-succ}
use lib.Pow.{pow_mono}
use lib.Dec.{eqb}
use Rattle.plan.proofs.Lists.{lt_or_le, never}
use Rattle.route.proofs.MaskBits.{low_bits, high_bits}
use Rattle.route.specs.Ways.{bit}

pub high_none : (m j : ℕ) → m < 2 ^ j → bit m j ≡ false
high_none m j h = ap (λ (n : ℕ). eqb (n % 2) 1) (div-eq_of_lt h)

pub top_low : (m k n : ℕ) → 2 ^ k ≤ m → m < 2 ^ n → k < n
top_low m k n low high = go (lt_or_le k n)
  where
    go : (k < n) ⊎ (n ≤ k) → k < n
    go (inl l) = l
    go (inr l) = let more : 2 ^ n ≤ 2 ^ k = pow_mono l in absurd (omega arith)

module _ (m k : ℕ) (low : 2 ^ k ≤ m) (high : m < 2 ^ suc k) where
  left : m - 2 ^ k < 2 ^ k
  left = omega (arith, two-pow-succ k)

  whole : m ≡ (m - 2 ^ k) + 1 * 2 ^ k
  whole = omega arith

  pub top_set : bit m k ≡ true
  top_set =
      let at : k + 0 ≡ k = omega arith in
      ap (λ (n : ℕ). bit n k) whole ∙ ap (bit ((m - 2 ^ k) + 1 * 2 ^ k)) (sym at) ∙ high_bits (m - 2 ^ k) 1 k 0 left

  pub top_last : (j : ℕ) → bit m j ≡ true → j ≤ k
  top_last j h = go (lt_or_le k j)
    where
      go : (k < j) ⊎ (j ≤ k) → j ≤ k
      go (inl l) = let more : 2 ^ suc k ≤ 2 ^ j = pow_mono (omega arith) in absurd (never h (high_none m j (omega arith)))
      go (inr l) = l

  pub rest_not : (j : ℕ) → k ≤ j → bit (m - 2 ^ k) j ≡ false
  rest_not j l = let more : 2 ^ k ≤ 2 ^ j = pow_mono l in let under = left in high_none (m - 2 ^ k) j (omega arith)

  pub rest_in : (j : ℕ) → bit (m - 2 ^ k) j ≡ true → (bit m j ≡ true) × (j < k)
  rest_in j h = go (lt_or_le j k)
    where
      go : (j < k) ⊎ (k ≤ j) → (bit m j ≡ true) × (j < k)
      go (inl l) = (ap (λ (n : ℕ). bit n j) whole ∙ low_bits (m - 2 ^ k) 1 k j l ∙ h, l)
      go (inr l) = absurd (never h (rest_not j l))

  pub in_rest : (j : ℕ) → bit m j ≡ true → (j ≡ k) ⊎ (bit (m - 2 ^ k) j ≡ true)
  in_rest j h = go (eq-or-lt_of_le (top_last j h))
    where
      go : (j ≡ k) ⊎ (j < k) → (j ≡ k) ⊎ (bit (m - 2 ^ k) j ≡ true)
      go (inl q) = inl q
      go (inr l) = inr (sym (low_bits (m - 2 ^ k) 1 k j l) ∙ sym (ap (λ (n : ℕ). bit n j) whole) ∙ h)
