-- Numbers by their bits: settings of modes, and masks.
--
--   is_set n k      bit k of n is 1; half_set: bit k + 1 of a number is bit k of its half
--   power_set      of 2^i only bit i is 1
--   or_set         the bits of either of two numbers; or_power: setting bit i sets it and leaves the others
--   and_set        the bits that two numbers have in common
--   without_set    the bits of a number that another does not have
--   xor_set        the bits in which two numbers differ
--   ones_set       the first w bits of 2^w - 1 are all 1
--   lowest_none, lowest_set
--                  the trailing zeros of a number: below so many none is 1, and the next is; lowest_low: a number of m bits that is not 0 has
--                  fewer of them than bits
--   bits_equal     numbers of n bits with the same bits are equal
--   zero_set       no bit of 0 is 1
--   over_set       from place n on no bit of a number of n bits is 1; set_over: where that is so of a number, it is one of n bits
--   low_self       a number n has at most n bits
--   shifted        w bits do not cut the bit of a lower place
--   low_bits, high_bits
--                  a number above the n low bits of another: the bits of the one below place n, and those of the other from there on
--   setting        for any choice of modes among 1 to M there is a setting below 2^M in which exactly the chosen ones are on
--
-- Everything goes bit by bit. Assumes nothing.
use mathlib.Core.Path.{◌≡◌, refl, sym, ◌∙◌, ap, subst}
use mathlib.Core.Logic.{◌⊎◌, inl, inr}
use mathlib.Core.Bool.{Bool, true, false, not, ◌&&◌, ◌||◌, beq}
use Prim.Native.Nat.{ℕ, zero, suc, ◌+◌, ◌-◌, ◌*◌, ◌/◌, ◌%◌, ◌^◌, ◌≤◌, ◌<◌}
use native.Mathlib.Omega.{arith}
use native.Mathlib.Nat.{div-lt_iff_lt-mul, zero-div, one-mul, mul_assoc, div-eq_of_lt, add-mul-div_right, add-mul-mod_self_right, two-pow-succ}
use native.Mathlib.Numerals.{one-add, sub-one}
use lib.Pow.{pow_pos, pow_mono, pow-add, shl_exact, shr-shr}
use lib.Bits.{bit_and, bit_or, bit_xor, and_shr, and_mod, or_shr, or_mod, xor_shr, xor_mod}
use lib.Count.{under, count_trailing_zeros}
use lib.Dec.{eqb, ltb, lit<, eqb-zero-suc, eqb-suc-zero, eqb-suc-suc}
use borrow.Author.Tests.{ltb-true, ltb-false}
use Rattle.plan.proofs.Lists.{test}
use Rattle.route.specs.Permission.{is_on}

abbrev is_set : ℕ → ℕ → Bool
is_set n k = eqb (n / 2 ^ k % 2) 1

pub half_set : (n j : ℕ) → is_set n (suc j) ≡ is_set (n / 2) j
half_set n j = ap (λ (m : ℕ). eqb (m % 2) 1) (ap (λ (k : ℕ). n / 2 ^ k) (sym (one-add j)) ∙ sym (shr-shr n 1 j))

-- ---- setting a bit

pub power_set : (i j : ℕ) → is_set (2 ^ i) j ≡ eqb j i
power_set zero zero = refl
power_set (suc i) zero =
    let even : 2 ^ suc i / 2 ^ 0 % 2 ≡ 0 = omega (arith, two-pow-succ i) in
    ap (λ (n : ℕ). eqb n 1) even ∙ sym (eqb-zero-suc i)
power_set zero (suc j) =
    let past : 2 ^ 0 / 2 ^ suc j ≡ 0 = div-eq_of_lt (omega (arith, pow_pos j, two-pow-succ j)) in
    ap (λ (n : ℕ). eqb (n % 2) 1) past ∙ sym (eqb-suc-zero j)
power_set (suc i) (suc j) =
    let half : 2 ^ suc i / 2 ≡ 2 ^ i = omega (arith, two-pow-succ i) in
    half_set (2 ^ suc i) j ∙ ap (λ (n : ℕ). is_set n j) half ∙ power_set i j ∙ sym (eqb-suc-suc j i)

or_one : (x y : ℕ) → x < 2 → y < 2 → eqb (bit_or x y) 1 ≡ (eqb x 1 || eqb y 1)
or_one zero zero h k = refl
or_one zero (suc zero) h k = refl
or_one zero (suc (suc y)) h k = absurd (omega arith)
or_one (suc zero) zero h k = refl
or_one (suc zero) (suc zero) h k = refl
or_one (suc zero) (suc (suc y)) h k = absurd (omega arith)
or_one (suc (suc x)) y h k = absurd (omega arith)

or_at : (n m j : ℕ) → bit_or n m / 2 ^ j % 2 ≡ bit_or (n / 2 ^ j % 2) (m / 2 ^ j % 2)
or_at n m j = ap (λ (x : ℕ). x % 2) (or_shr n m j) ∙ or_mod (n / 2 ^ j) (m / 2 ^ j) 1

pub or_set : (n m j : ℕ) → is_set (bit_or n m) j ≡ (is_set n j || is_set m j)
or_set n m j = ap (λ (x : ℕ). eqb x 1) (or_at n m j) ∙ or_one (n / 2 ^ j % 2) (m / 2 ^ j % 2) (omega arith) (omega arith)

pub or_power : (n i j : ℕ) → is_set (bit_or n (2 ^ i)) j ≡ (is_set n j || eqb j i)
or_power n i j = or_set n (2 ^ i) j ∙ ap (λ (t : Bool). is_set n j || t) (power_set i j)

pub shifted : (k w : ℕ) → k < w → (1 * 2 ^ k) % 2 ^ w ≡ 2 ^ k
shifted k w h = shl_exact 1 k w (lit< tt) (omega arith) ∙ one-mul (2 ^ k)

-- ---- one number above the low bits of another

pub low_bits : (x y n k : ℕ) → k < n → is_set (x + y * 2 ^ n) k ≡ is_set x k
low_bits x y n k h =
    let d = n - suc k in
    let e : n ≡ (d + 1) + k = omega arith in
    let parts : y * 2 ^ n ≡ y * 2 ^ d * 2 * 2 ^ k =
    ap (λ (m : ℕ). y * 2 ^ m) e
    ∙ ap (λ (m : ℕ). y * m) (pow-add 2 (d + 1) k)
    ∙ sym (mul_assoc y (2 ^ (d + 1)) (2 ^ k))
    ∙ ap (λ (m : ℕ). m * 2 ^ k) (ap (λ (m : ℕ). y * m) (pow-add 2 d 1) ∙ sym (mul_assoc y (2 ^ d) 2)) in
    let cut : (x + y * 2 ^ n) / 2 ^ k ≡ x / 2 ^ k + y * 2 ^ d * 2 =
    ap (λ (m : ℕ). (x + m) / 2 ^ k) parts ∙ add-mul-div_right x (y * 2 ^ d * 2) (pow_pos k) in
    ap (λ (m : ℕ). eqb m 1) (ap (λ (m : ℕ). m % 2) cut ∙ add-mul-mod_self_right (x / 2 ^ k) (y * 2 ^ d) 2)

pub high_bits : (x y n k : ℕ) → x < 2 ^ n → is_set (x + y * 2 ^ n) (n + k) ≡ is_set y k
high_bits x y n k h =
    let past : x / 2 ^ n ≡ 0 = div-eq_of_lt h in
    let cut : (x + y * 2 ^ n) / 2 ^ n ≡ y = add-mul-div_right x y (pow_pos n) ∙ omega arith in
    ap (λ (m : ℕ). eqb (m % 2) 1) (sym (shr-shr (x + y * 2 ^ n) n k) ∙ ap (λ (m : ℕ). m / 2 ^ k) cut)

-- ---- bits in common

and_one : (x y : ℕ) → x < 2 → y < 2 → eqb (bit_and x y) 1 ≡ (eqb x 1 && eqb y 1)
and_one zero y h k = refl
and_one (suc zero) zero h k = refl
and_one (suc zero) (suc zero) h k = refl
and_one (suc zero) (suc (suc y)) h k = absurd (omega arith)
and_one (suc (suc x)) y h k = absurd (omega arith)

pub and_set : (a c j : ℕ) → is_set (bit_and a c) j ≡ (is_set a j && is_set c j)
and_set a c j =
    ap (λ (m : ℕ). eqb m 1) (ap (λ (m : ℕ). m % 2) (and_shr a c j) ∙ and_mod (a / 2 ^ j) (c / 2 ^ j) 1)
    ∙ and_one (a / 2 ^ j % 2) (c / 2 ^ j % 2) (omega arith) (omega arith)

-- ---- taking bits away

without_one : (x y : ℕ) → x < 2 → y < 2 → eqb (bit_xor (bit_or x y) y) 1 ≡ (eqb x 1 && not (eqb y 1))
without_one zero zero h k = refl
without_one zero (suc zero) h k = refl
without_one zero (suc (suc y)) h k = absurd (omega arith)
without_one (suc zero) zero h k = refl
without_one (suc zero) (suc zero) h k = refl
without_one (suc zero) (suc (suc y)) h k = absurd (omega arith)
without_one (suc (suc x)) y h k = absurd (omega arith)

pub without_set : (n m j : ℕ) → is_set (bit_xor (bit_or n m) m) j ≡ (is_set n j && not (is_set m j))
without_set n m j =
    let split = ap (λ (x : ℕ). x % 2) (xor_shr (bit_or n m) m j) ∙ xor_mod (bit_or n m / 2 ^ j) (m / 2 ^ j) 1 in
    ap (λ (x : ℕ). eqb x 1) (split ∙ ap (λ (x : ℕ). bit_xor x (m / 2 ^ j % 2)) (or_at n m j))
    ∙ without_one (n / 2 ^ j % 2) (m / 2 ^ j % 2) (omega arith) (omega arith)

-- ---- bits that differ

xor_one : (x y : ℕ) → x < 2 → y < 2 → eqb (bit_xor x y) 1 ≡ not (beq (eqb x 1) (eqb y 1))
xor_one zero zero h k = refl
xor_one zero (suc zero) h k = refl
xor_one zero (suc (suc y)) h k = absurd (omega arith)
xor_one (suc zero) zero h k = refl
xor_one (suc zero) (suc zero) h k = refl
xor_one (suc zero) (suc (suc y)) h k = absurd (omega arith)
xor_one (suc (suc x)) y h k = absurd (omega arith)

pub xor_set : (a c j : ℕ) → is_set (bit_xor a c) j ≡ not (beq (is_set a j) (is_set c j))
xor_set a c j =
    ap (λ (m : ℕ). eqb m 1) (ap (λ (m : ℕ). m % 2) (xor_shr a c j) ∙ xor_mod (a / 2 ^ j) (c / 2 ^ j) 1)
    ∙ xor_one (a / 2 ^ j % 2) (c / 2 ^ j % 2) (omega arith) (omega arith)

-- ---- the lowest bit that is set

pub ones_set : (w j : ℕ) → j < w → is_set (2 ^ w - 1) j ≡ true
ones_set zero j h = absurd (omega arith)
ones_set (suc w) zero h =
    let odd : (2 ^ suc w - 1) / 2 ^ 0 % 2 ≡ 1 = omega (arith, two-pow-succ w, pow_pos w) in
    ap (λ (n : ℕ). eqb n 1) odd
ones_set (suc w) (suc j) h =
    let half : (2 ^ suc w - 1) / 2 ≡ 2 ^ w - 1 = omega (arith, two-pow-succ w, pow_pos w) in
    half_set (2 ^ suc w - 1) j ∙ ap (λ (n : ℕ). is_set n j) half ∙ ones_set w j (omega arith)

pub lowest_none : (w n j : ℕ) → j < count_trailing_zeros w n → is_set n j ≡ false
unfolding count_trailing_zeros
lowest_none zero n j h = absurd (omega arith)
lowest_none (suc w) n j h = go (n % 2) refl j (lowest_none w (n / 2)) h
  where
    go : (d : ℕ) → n % 2 ≡ d → (i : ℕ) → ((k : ℕ) → k < count_trailing_zeros w (n / 2) → is_set (n / 2) k ≡ false)
        → i < under d (count_trailing_zeros w (n / 2)) → is_set n i ≡ false
    go zero e zero below l = let even : n / 2 ^ 0 % 2 ≡ 0 = omega arith in ap (λ (x : ℕ). eqb x 1) even
    go zero e (suc i) below l = half_set n i ∙ below i (omega arith)
    go (suc d) e i below l = absurd (omega arith)

pub lowest_set : (w n : ℕ) → count_trailing_zeros w n < w → is_set n (count_trailing_zeros w n) ≡ true
unfolding count_trailing_zeros
lowest_set zero n h = absurd (omega arith)
lowest_set (suc w) n h = go (n % 2) refl (lowest_set w (n / 2)) h
  where
    t : ℕ
    t = count_trailing_zeros w (n / 2)

    go : (d : ℕ) → n % 2 ≡ d → (t < w → is_set (n / 2) t ≡ true) → under d t < suc w → is_set n (under d t) ≡ true
    go zero e rest l = half_set n t ∙ rest (omega arith)
    go (suc zero) e rest l = let odd : n / 2 ^ 0 % 2 ≡ 1 = omega arith in ap (λ (x : ℕ). eqb x 1) odd
    go (suc (suc d)) e rest l = absurd (omega arith)

-- ---- a bit as a number

bit : Bool → ℕ
bit true = 1
bit false = 0

bit_small : (c : Bool) → bit c ≤ 1
unfolding bit
bit_small true = omega arith
bit_small false = omega arith

bit_eq : (c : Bool) → eqb (bit c) 1 ≡ c
unfolding bit
bit_eq true = refl
bit_eq false = refl

bit_back : (x : ℕ) → x < 2 → x ≡ bit (eqb x 1)
unfolding bit
bit_back zero h = refl
bit_back (suc zero) h = refl
bit_back (suc (suc x)) h = absurd (omega arith)

-- ---- numbers of n bits

-- their halves are equal, and their last bits
pub bits_equal : (n a c : ℕ) → a < 2 ^ n → c < 2 ^ n → ((k : ℕ) → k < n → is_set a k ≡ is_set c k) → a ≡ c
bits_equal zero a c h k same = omega arith
bits_equal (suc n) a c h k same =
    let halves : a / 2 ≡ c / 2 =
    bits_equal n (a / 2) (c / 2) (omega (arith, two-pow-succ n)) (omega (arith, two-pow-succ n)) (λ j l.
    sym (half_set a j) ∙ same (suc j) (omega arith) ∙ half_set c j) in
    let last : a / 2 ^ 0 % 2 ≡ c / 2 ^ 0 % 2 =
    bit_back (a / 2 ^ 0 % 2) (omega arith) ∙ ap bit (same 0 (omega arith)) ∙ sym (bit_back (c / 2 ^ 0 % 2) (omega arith)) in
    omega arith

pub zero_set : (j : ℕ) → is_set 0 j ≡ false
zero_set j = ap (λ (n : ℕ). eqb (n % 2) 1) (zero-div (2 ^ j))

pub lowest_low : (w n m : ℕ) → n < 2 ^ m → (n ≡ 0 → ⊥) → count_trailing_zeros w n < m
lowest_low w n m h some = go (test (ltb (count_trailing_zeros w n) m))
  where
    go : (ltb (count_trailing_zeros w n) m ≡ true) ⊎ (ltb (count_trailing_zeros w n) m ≡ false) → count_trailing_zeros w n < m
    go (inl t) = ltb-true (count_trailing_zeros w n) m t
    go (inr t) =
        let far = ltb-false (count_trailing_zeros w n) m t in
        absurd (some (bits_equal m n 0 h (pow_pos m) (λ j l. lowest_none w n j (omega arith) ∙ sym (zero_set j))))

-- ---- how many bits a number has

pub low_self : (n : ℕ) → n < 2 ^ n
low_self zero = omega arith
low_self (suc n) = omega (arith, low_self n, two-pow-succ n)

pub over_set : (n a j : ℕ) → a < 2 ^ n → n ≤ j → is_set a j ≡ false
over_set n a j h l =
    let past : a / 2 ^ j ≡ 0 = div-eq_of_lt (omega (arith, pow_mono {i = n} {j = j} l)) in
    ap (λ (m : ℕ). eqb (m % 2) 1) past

-- what is left of the number behind its n low bits has no bit, so it is 0
pub set_over : (n a : ℕ) → ((j : ℕ) → n ≤ j → is_set a j ≡ false) → a < 2 ^ n
set_over n a h =
    let rest = a / 2 ^ n in
    let none : rest ≡ 0 =
    bits_equal rest rest 0 (low_self rest) (pow_pos rest) (λ k l.
    ap (λ (m : ℕ). eqb (m % 2) 1) (shr-shr a n k) ∙ h (n + k) (omega arith) ∙ sym (zero_set k)) in
    let low : rest < 1 = omega (arith, none) in
    subst (λ (m : ℕ). a < m) (one-mul (2 ^ n)) ((div-lt_iff_lt-mul (pow_pos n)).0 low)

-- ---- settings

-- `bit c + 2 * σ` has mode 1 on as c says, and its higher modes are those of σ
low_mode : (c : Bool) (σ : ℕ) → is_on (bit c + 2 * σ) 1 ≡ c
low_mode c σ =
    let e : (bit c + 2 * σ) / 1 % 2 ≡ bit c = omega (arith, bit_small c) in
    ap (λ (n : ℕ). eqb n 1) e ∙ bit_eq c

high_mode : (c : Bool) (σ m : ℕ) → is_on (bit c + 2 * σ) (suc (suc m)) ≡ is_on σ (suc m)
high_mode c σ m =
    let half : (bit c + 2 * σ) / 2 ≡ σ = omega (arith, bit_small c) in
    ap (is_set (bit c + 2 * σ)) (sub-one (suc (suc m)))
    ∙ half_set (bit c + 2 * σ) m
    ∙ (λ i. is_set (half i) (sym (sub-one (suc m)) i))

pub setting : (g : ℕ → Bool) (M : ℕ) → (σ : ℕ) × (σ < 2 ^ M) × ((m : ℕ) → 1 ≤ m → m ≤ M → is_on σ m ≡ g m)
setting g zero = (0, omega arith, λ m l u. absurd (omega arith))
setting g (suc M) =
    let (σ, low, higher) = setting (λ (m : ℕ). g (suc m)) M in
    (bit (g 1) + 2 * σ, omega (arith, bit_small (g 1), low, two-pow-succ M), at σ higher)
  where
    at : (σ : ℕ) → ((m : ℕ) → 1 ≤ m → m ≤ M → is_on σ m ≡ g (suc m)) → (m : ℕ) → 1 ≤ m → m ≤ suc M → is_on (bit (g 1) + 2 * σ) m ≡ g m
    at σ higher zero l u = absurd (omega arith)
    at σ higher (suc zero) l u = low_mode (g 1) σ
    at σ higher (suc (suc m)) l u = high_mode (g 1) σ m ∙ higher (suc m) (omega arith) (omega arith)
