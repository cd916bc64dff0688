-- A mask of named belts by their places, put in the order of tails.
--
--   Ordered numbers mask n v   of the first n named belts in the order of tails v has those that the mask has, and no others
--   ordered_next     the next one goes above those that are there; ordered_shifted: its bit shifted within 64 bits, as the code has it
--   ordered_low      what is so has no more than n bits
--
-- Assumes nothing.
use mathlib.Core.Path.{◌≡◌, sym, ◌∙◌, ap, subst₂}
use mathlib.Core.Logic.{◌⊎◌, inl, inr}
use mathlib.Core.Bool.{Bool, true, false, ◌&&◌}
use Prim.Native.Nat.{ℕ, zero, suc, ◌+◌, ◌*◌, ◌/◌, ◌%◌, ◌^◌, ◌≤◌, ◌<◌}
use mathlib.Core.List.{List}
use native.Mathlib.Omega.{arith}
use native.Mathlib.Nat.{eq-or-lt_of_le, two-pow-succ}
use native.Mathlib.Numerals.{add-one}
use lib.Pow.{pow_mono, shl_exact}
use lib.Dec.{eqb, ltb}
use borrow.Author.Tests.{ltb-true, ltb-false, lt-ltb, le-ltb}
use Rattle.plan.specs.Words.{tail_place_at}
use Rattle.plan.proofs.Lists.{test}
use Rattle.route.specs.Ways.{bit}
use Rattle.route.proofs.MaskBits.{low_bits, high_bits}
use Rattle.route.proofs.WaysHighest.{high_none}

pub record Ordered (numbers : List ℕ) (mask n v : ℕ) : Type 0 where
  pub low : v < 2 ^ n
  pub has : (k : ℕ) → bit v k ≡ (ltb k n && bit mask (tail_place_at numbers k))

pub ordered_low : {numbers : List ℕ} {mask n v : ℕ} → Ordered numbers mask n v → (m : ℕ) → n ≤ m → v < 2 ^ m
ordered_low {numbers} {mask} {n} {v} o m h = let more : 2 ^ n ≤ 2 ^ m = pow_mono h in let low = o.low in omega arith

-- the bit of the place that the mask is asked for
abbrev asked : List ℕ → ℕ → ℕ → ℕ
asked numbers mask k = mask / 2 ^ tail_place_at numbers k % 2

above_low : (v d n : ℕ) → v < 2 ^ n → d < 2 → v + d * 2 ^ n < 2 ^ suc n
above_low v zero n h l = omega (arith, two-pow-succ n)
above_low v (suc zero) n h l = omega (arith, two-pow-succ n)
above_low v (suc (suc d)) n h l = absurd (omega arith)

module _ {numbers : List ℕ} {mask n v : ℕ} (o : Ordered numbers mask n v) where
  abbrev d : ℕ
  d = asked numbers mask n

  next_low : v + d * 2 ^ n < 2 ^ suc n
  next_low = above_low v d n o.low (omega arith)

  next_has : (k : ℕ) → (ltb k n ≡ true) ⊎ (ltb k n ≡ false) → bit (v + d * 2 ^ n) k ≡ (ltb k (suc n) && bit mask (tail_place_at numbers k))
  next_has k (inl t) =
      let under = ltb-true k n t in
      low_bits v d n k under
      ∙ o.has k
      ∙ ap (λ (s : Bool). s && bit mask (tail_place_at numbers k)) (t ∙ sym (lt-ltb k (suc n) (omega arith)))
  next_has k (inr t) = go (eq-or-lt_of_le (ltb-false k n t))
    where
      go : (n ≡ k) ⊎ (n < k) → bit (v + d * 2 ^ n) k ≡ (ltb k (suc n) && bit mask (tail_place_at numbers k))
      go (inl q) =
          let at : k ≡ n + 0 = omega arith in
          let same : d / 2 ^ 0 % 2 ≡ d = omega arith in
          ap (bit (v + d * 2 ^ n)) at
          ∙ high_bits v d n 0 o.low
          ∙ ap (λ (x : ℕ). eqb x 1) same
          ∙ ap (λ (j : ℕ). bit mask (tail_place_at numbers j)) q
          ∙ sym (ap (λ (s : Bool). s && bit mask (tail_place_at numbers k)) (lt-ltb k (suc n) (omega arith)))
      go (inr l) =
          let more : 2 ^ suc n ≤ 2 ^ k = pow_mono l in
          let low = next_low in
          high_none (v + d * 2 ^ n) k (omega arith)
          ∙ sym (ap (λ (s : Bool). s && bit mask (tail_place_at numbers k)) (le-ltb k (suc n) l))

  pub ordered_next : Ordered numbers mask (suc n) (v + d * 2 ^ n)
  ordered_next = record { low = next_low; has = λ k. next_has k (test (ltb k n)) }

  pub ordered_shifted : (p : ℕ) → p ≡ tail_place_at numbers n → n < 64 → Ordered numbers mask (n + 1) (v + (mask / 2 ^ p % 2 * 2 ^ n) % 2 ^ 64)
  ordered_shifted p at small =
      let bit_is : (d * 2 ^ n) % 2 ^ 64 ≡ d * 2 ^ n = shl_exact 1 n 64 (omega arith) (omega arith) in
      subst₂ (Ordered numbers mask) (sym (add-one n))
      (sym (ap (λ (q : ℕ). v + (mask / 2 ^ q % 2 * 2 ^ n) % 2 ^ 64) at ∙ ap (λ (x : ℕ). v + x) bit_is)) ordered_next
