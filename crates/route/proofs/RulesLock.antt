-- Locks: line 15 of the refusal table in words, and the settings that agree with a lock.
--
--   lock_fine, fine_lock    line 15 is unbroken exactly where the mask is below 2^M and the values are within it
--   OfPlan p k, lock_limits in words: exactly where each locked mode is one of the plan's, and each mode in the values is locked
--   no_lock_lem                 no lock is not wrong
--   agrees_bits             then a setting agrees with the lock exactly where it differs from the values in no bit of the mask
--   agrees_at_lem, at_agrees    a setting agrees with a lock exactly where each locked mode is on in it as in the values
--   unlocked_claim          UnlockedClaim: every setting agrees with a lock that has no mode in its mask
--
-- Assumes nothing.
use mathlib.Core.Path.{◌≡◌, refl, sym, ◌∙◌, ap}
use mathlib.Core.Logic.{◌⊎◌, inl, inr, ◌↔◌}
use mathlib.Core.Bool.{Bool, true, false, not, ◌&&◌, ◌||◌, beq}
use Prim.Native.Nat.{ℕ, suc, ◌-◌, ◌/◌, ◌%◌, ◌^◌, ◌≤◌, ◌<◌}
use mathlib.Core.List.{Memᴰ}
use native.Mathlib.Omega.{arith}
use lib.Pow.{pow_pos}
use lib.Bits.{bit_and, bit_xor, and_le_l, and_le_r}
use lib.Dec.{eqb, ltb}
use borrow.Author.Tests.{eqb-true, eq-eqb, ltb-true, lt-ltb, not-true, not-false}
use Rattle.plan.specs.Plan.{Plan}
use Rattle.plan.proofs.Lists.{both, and_is, never, untrue, alike, beq_true, beq_refl, lt_or_le, all_in, all_is, in_upto}
use Rattle.route.specs.declared.path.Lock.{Lock}
use Rattle.route.specs.Permission.{is_on, all_met, modes_of, agrees_at, agrees, no_lock, wrong_lock}
use Rattle.route.specs.Claims.{UnlockedClaim}
use Rattle.route.proofs.MaskBits.{and_set, xor_set, zero_set, bits_equal, low_self, over_set, set_over}

-- mode j + 1 is bit j
abbrev is_set : ℕ → ℕ → Bool
is_set n j = eqb (n / 2 ^ j % 2) 1

on_set : (n j : ℕ) → is_on n (suc j) ≡ is_set n j
on_set n j = let e : suc j - 1 ≡ j = omega arith in ap (is_set n) e

-- ---- line 15

module _ (p : Plan) (k : Lock) where
  abbrev low_mask : Bool
  low_mask = ltb k.mask (2 ^ p.modes)

  abbrev in_mask : Bool
  in_mask = eqb (bit_and k.values k.mask) k.values

  pub lock_fine : wrong_lock p k ≡ false → (k.mask < 2 ^ p.modes) × (bit_and k.values k.mask ≡ k.values)
  lock_fine e =
      let (low, within) = both low_mask in_mask (not-false (low_mask && in_mask) e) in
      (ltb-true k.mask (2 ^ p.modes) low, eqb-true (bit_and k.values k.mask) k.values within)

  fine_lock : k.mask < 2 ^ p.modes → bit_and k.values k.mask ≡ k.values → wrong_lock p k ≡ false
  fine_lock low within =
      ap not (and_is low_mask in_mask (lt-ltb k.mask (2 ^ p.modes) low) (eq-eqb (bit_and k.values k.mask) k.values within))

  abbrev pub OfPlan : Type 0
  OfPlan =
      ((n : ℕ) → 1 ≤ n → is_on k.mask n ≡ true → n ≤ p.modes)
      × ((n : ℕ) → 1 ≤ n → is_on k.values n ≡ true → is_on k.mask n ≡ true)

  -- a bit of the mask at or above M is none, and the bits of values and mask in common are those of the values
  fine_modes : k.mask < 2 ^ p.modes → (n : ℕ) → 1 ≤ n → is_on k.mask n ≡ true → n ≤ p.modes
  fine_modes low n from t = go (lt_or_le p.modes n)
    where
      go : (p.modes < n) ⊎ (n ≤ p.modes) → n ≤ p.modes
      go (inl over) = absurd (never t (over_set p.modes k.mask (n - 1) low (omega arith)))
      go (inr l) = l

  fine_values : bit_and k.values k.mask ≡ k.values → (n : ℕ) → is_on k.values n ≡ true → is_on k.mask n ≡ true
  fine_values within n t =
      (both (is_on k.values n) (is_on k.mask n)
      (sym (and_set k.values k.mask (n - 1)) ∙ ap (λ (m : ℕ). is_on m n) within ∙ t)).1

  modes_fine : OfPlan → (j : ℕ) → p.modes ≤ j → is_set k.mask j ≡ false
  modes_fine h j l = untrue (is_set k.mask j) (λ t. let n : suc j ≤ p.modes = h.0 (suc j) (omega arith) (on_set k.mask j ∙ t) in omega arith)

  values_fine : OfPlan → (j : ℕ) → is_set (bit_and k.values k.mask) j ≡ is_set k.values j
  values_fine h j =
      let value = is_set k.values j in
      let locked = is_set k.mask j in
      and_set k.values k.mask j
      ∙ alike (value && locked) value (λ t. (both value locked t).0) (λ t.
      and_is value locked t (sym (on_set k.mask j) ∙ h.1 (suc j) (omega arith) (on_set k.values j ∙ t)))

  pub lock_limits : (wrong_lock p k ≡ false) ↔ OfPlan
  lock_limits = (to, from)
    where
      to : wrong_lock p k ≡ false → OfPlan
      to e = let (low, within) = lock_fine e in (fine_modes low, λ n l. fine_values within n)

      from : OfPlan → wrong_lock p k ≡ false
      from h =
          let v = k.values in
          let top = low_self v in
          fine_lock (set_over p.modes k.mask (modes_fine h))
          (bits_equal v (bit_and v k.mask) v (omega (arith, top, and_le_l v k.mask)) top (λ j l. values_fine h j))

pub no_lock_lem : (p : Plan) → wrong_lock p no_lock ≡ false
no_lock_lem p = fine_lock p no_lock (pow_pos p.modes) refl

-- ---- settings that agree

unlike : (locked same : Bool) → (not locked || same) ≡ not (not same && locked)
unlike true true = refl
unlike true false = refl
unlike false true = refl
unlike false false = refl

module _ (k : Lock) (σ : ℕ) where
  -- the locked modes in which setting and values differ, as bits
  abbrev differs : ℕ
  differs = bit_and (bit_xor σ k.values) k.mask

  at_bit : (n : ℕ) → agrees_at k σ n ≡ not (is_set differs (n - 1))
  at_bit n =
      unlike (is_on k.mask n) (beq (is_on σ n) (is_on k.values n))
      ∙ ap not (sym (and_set (bit_xor σ k.values) k.mask (n - 1) ∙ ap (λ (t : Bool). t && is_on k.mask n) (xor_set σ k.values (n - 1))))

  pub agrees_bits : (p : Plan) → wrong_lock p k ≡ false → eqb differs 0 ≡ agrees p.modes k σ
  agrees_bits p e = alike (eqb differs 0) (agrees p.modes k σ) to from
    where
      to : eqb differs 0 ≡ true → agrees p.modes k σ ≡ true
      to t =
          let none = eqb-true differs 0 t in
          all_is (agrees_at k σ) (modes_of p.modes) (λ n m. at_bit n ∙ ap not (ap (λ (d : ℕ). is_set d (n - 1)) none ∙ zero_set (n - 1)))

      from : agrees p.modes k σ ≡ true → eqb differs 0 ≡ true
      from t =
          let low : differs < 2 ^ p.modes = omega (arith, and_le_r (bit_xor σ k.values) k.mask, (lock_fine p k e).0) in
          eq-eqb differs 0 (bits_equal p.modes differs 0 low (pow_pos p.modes) (λ j l. bit j l ∙ sym (zero_set j)))
        where
          bit : (j : ℕ) → j < p.modes → is_set differs j ≡ false
          bit j l =
              let agreed = all_in (agrees_at k σ) (modes_of p.modes) t (in_upto 1 (suc p.modes) (suc j) (omega arith) (omega arith)) in
              sym (on_set differs j) ∙ not-true (is_on differs (suc j)) (sym (at_bit (suc j)) ∙ agreed)

  pub agrees_at_lem : (m : ℕ) → agrees m k σ ≡ true → (n : ℕ) → Memᴰ n (modes_of m) → is_on k.mask n ≡ true → is_on σ n ≡ is_on k.values n
  agrees_at_lem m h n i t =
      let same = beq (is_on σ n) (is_on k.values n) in
      beq_true (is_on σ n) (is_on k.values n) (ap (λ (locked : Bool). not locked || same) (sym t) ∙ all_in (agrees_at k σ) (modes_of m) h i)

  pub at_agrees : (m : ℕ) → ((n : ℕ) → Memᴰ n (modes_of m) → is_on k.mask n ≡ true → is_on σ n ≡ is_on k.values n) → agrees m k σ ≡ true
  at_agrees m h = all_is (agrees_at k σ) (modes_of m) one
    where
      by : (locked a b : Bool) → (locked ≡ true → a ≡ b) → (not locked || beq a b) ≡ true
      by true a b e = ap (λ (c : Bool). beq c b) (e refl) ∙ beq_refl b
      by false a b e = refl

      one : (n : ℕ) → Memᴰ n (modes_of m) → agrees_at k σ n ≡ true
      one n i = by (is_on k.mask n) (is_on σ n) (is_on k.values n) (h n i)

-- ---- no lock

pub unlocked_claim : UnlockedClaim
unlocked_claim p trip e on σ =
    ap (λ (t : Bool). t && all_met p.rules on σ)
    (at_agrees trip.lock σ p.modes (λ n i t. absurd (never t (ap (λ (m : ℕ). is_on m n) e ∙ zero_set (n - 1)))))
