-- The trial of the modes from the highest down, where a locked one is left as it is.
--
-- Bits of a setting σ, where mode m counts 2^(m-1):
--   off_even, on_odd     what lies from mode m on is even where m is off in σ, and odd where it is on
--   with_low, with_high  turning a mode on that is off leaves the others as they are
-- The settings that have the modes above m as σ has them (settings_at):
--   base_off, base_on    where those for the modes above m - 1 begin, by whether m is on in σ; base_with: and where m is turned on
--   low_half, high_half  mode m is off in the lower half of them, and on in the upper half
-- The trial:
--   leaf                 with no mode left the rules decide
--   next_same            where a mode is left as the values have it, the next lower one may be settled; next_on: and where it is turned on
--   tried_locked         where m is locked, the half that does not agree with the lock has none that works
--   tried_both           else the lower half is tried first, then the upper one
--
-- Assumes nothing.
use mathlib.Core.Path.{◌≡◌, refl, sym, ◌∙◌, ap}
use mathlib.Core.Logic.{◌⊎◌, inl, inr}
use mathlib.Core.Bool.{Bool, true, false, not, ◌&&◌, ◌||◌, beq, true≢false}
use mathlib.Core.Option.{Option, none, some}
use Prim.Native.Nat.{ℕ, suc, ◌+◌, ◌-◌, ◌*◌, ◌/◌, ◌%◌, ◌^◌, ◌≤◌, ◌<◌}
use native.Mathlib.Omega.{arith}
use native.Mathlib.Nat.{eq-or-lt_of_le, add-mul, mul-add, one-mul, mod-lt, add-mul-div_right}
use lib.Pow.{pow_pos, shr-shr, split}
use lib.Dec.{eqb}
use borrow.Author.Tests.{eqb-true, eqb-false}
use Rattle.plan.specs.Lists.{iota}
use Rattle.plan.specs.Plan.{Plan}
use Rattle.plan.proofs.Lists.{test, never, untrue, beq_refl, all_is, in_upto, upto_in}
use Rattle.route.specs.declared.path.Lock.{Lock}
use Rattle.route.specs.Permission.{is_on, all_met, modes_of, agrees_at, agrees, locked_terms, works, or_else, otherwise, find}
use Rattle.route.specs.Inner.{Settled, settings_at}
use Rattle.route.proofs.MaskBits.{half_set, low_bits, high_bits}
use Rattle.route.proofs.RulesLock.{lock_limits, agrees_at_lem}
use Rattle.route.proofs.RulesLowest.{halves, settle_both, find_none}

abbrev is_set : ℕ → ℕ → Bool
is_set n j = eqb (n / 2 ^ j % 2) 1

-- what mode m counts
abbrev half : ℕ → ℕ
half m = 2 ^ (m - 1)

-- where the settings begin that have the modes above m as σ has them
abbrev base : ℕ → ℕ → ℕ
base m σ = σ / 2 ^ m * 2 ^ m

-- ---- bits

off_even : (σ m : ℕ) → is_on σ m ≡ false → σ / half m % 2 ≡ 0
off_even σ m e = let odd = eqb-false (σ / half m % 2) 1 e in let low = mod-lt (σ / half m) {m = 2} (omega arith) in omega arith

on_odd : (σ m : ℕ) → is_on σ m ≡ true → σ / half m % 2 ≡ 1
on_odd σ m e = eqb-true (σ / half m % 2) 1 e

-- a number below 2^(m-1), and what lies from mode m on
parts : (σ m : ℕ) → σ ≡ σ % half m + σ / half m * half m
parts σ m = let e = split σ (m - 1) in omega arith

one_more : (σ m : ℕ) → σ + half m ≡ σ % half m + (σ / half m + 1) * half m
one_more σ m =
    let e = split σ (m - 1) in
    let d : (σ / half m + 1) * half m ≡ σ / half m * half m + half m = add-mul (σ / half m) 1 (half m) ∙ ap (λ (x : ℕ). σ / half m * half m + x) (one-mul (half m)) in
    omega arith

with_low : (σ m n : ℕ) → 1 ≤ n → n < m → is_on (σ + half m) n ≡ is_on σ n
with_low σ m n l u = ap (λ (x : ℕ). is_on (σ + x) n) (sym (one-mul (half m))) ∙ low_bits σ 1 (m - 1) (n - 1) (omega arith)

with_high : (σ m n : ℕ) → 1 ≤ m → is_on σ m ≡ false → m < n → is_on (σ + half m) n ≡ is_on σ n
with_high σ m n l e u =
    let y = σ / half m in
    let r = σ % half m in
    let j = n - 1 - m in
    let low : r < half m = mod-lt σ (pow_pos (m - 1)) in
    let place : n - 1 ≡ (m - 1) + suc j = omega arith in
    let even = off_even σ m e in
    let same : (y + 1) / 2 ≡ y / 2 = omega arith in
    ap (λ (x : ℕ). is_on x n) (one_more σ m)
    ∙ ap (is_set (r + (y + 1) * half m)) place
    ∙ high_bits r (y + 1) (m - 1) (suc j) low
    ∙ half_set (y + 1) j
    ∙ ap (λ (x : ℕ). is_set x j) same
    ∙ sym (ap (λ (x : ℕ). is_on x n) (parts σ m) ∙ ap (is_set (r + y * half m)) place ∙ high_bits r y (m - 1) (suc j) low ∙ half_set y j)

-- ---- ranges of settings

doubled : (q h : ℕ) → (q + q) * h ≡ q * (h + h)
doubled q h = add-mul q q h ∙ sym (mul-add q h h)

-- what lies above mode m is half of what lies from it on
above : (σ m : ℕ) → 1 ≤ m → σ / half m / 2 ≡ σ / 2 ^ m
above σ m l = let e : (m - 1) + 1 ≡ m = omega arith in shr-shr σ (m - 1) 1 ∙ ap (λ (n : ℕ). σ / 2 ^ n) e

-- twice what lies above mode m, times what m counts, is where the settings begin
begins : (σ m : ℕ) → 1 ≤ m → (σ / 2 ^ m + σ / 2 ^ m) * half m ≡ base m σ
begins σ m l = doubled (σ / 2 ^ m) (half m) ∙ ap (λ (x : ℕ). σ / 2 ^ m * x) (halves m l)

base_off : (σ m : ℕ) → 1 ≤ m → is_on σ m ≡ false → base (m - 1) σ ≡ base m σ
base_off σ m l e =
    let y = σ / half m in
    let even = off_even σ m e in
    let up = above σ m l in
    let twice : y ≡ σ / 2 ^ m + σ / 2 ^ m = omega arith in
    ap (λ (x : ℕ). x * half m) twice ∙ begins σ m l

plus_one : (q h : ℕ) → (q + 1) * h ≡ q * h + h
plus_one q h = add-mul q 1 h ∙ ap (λ (x : ℕ). q * h + x) (one-mul h)

base_on : (σ m : ℕ) → 1 ≤ m → is_on σ m ≡ true → base (m - 1) σ ≡ base m σ + half m
base_on σ m l e =
    let y = σ / half m in
    let q = σ / 2 ^ m in
    let odd = on_odd σ m e in
    let up = above σ m l in
    let twice : y ≡ q + q + 1 = omega arith in
    ap (λ (x : ℕ). x * half m) twice ∙ plus_one (q + q) (half m) ∙ ap (λ (x : ℕ). x + half m) (begins σ m l)

base_with : (σ m : ℕ) → 1 ≤ m → is_on σ m ≡ false → base (m - 1) (σ + half m) ≡ base m σ + half m
base_with σ m l e =
    let next : (σ + half m) / half m ≡ σ / half m + 1 =
    ap (λ (x : ℕ). (σ + x) / half m) (sym (one-mul (half m))) ∙ add-mul-div_right σ 1 (pow_pos (m - 1)) in
    ap (λ (x : ℕ). x * half m) next ∙ plus_one (σ / half m) (half m) ∙ ap (λ (x : ℕ). x + half m) (base_off σ m l e)

-- a setting r behind the beginning of a half
bit_at : (r y m : ℕ) → r < half m → is_on (r + y * half m) m ≡ is_set y 0
bit_at r y m low = let e : m - 1 ≡ (m - 1) + 0 = omega arith in ap (is_set (r + y * half m)) e ∙ high_bits r y (m - 1) 0 low

low_half : (σ m τ : ℕ) → 1 ≤ m → base m σ ≤ τ → τ < base m σ + half m → is_on τ m ≡ false
low_half σ m τ l from to =
    let q = σ / 2 ^ m in
    let b = begins σ m l in
    let e : τ ≡ (τ - base m σ) + (q + q) * half m = omega arith in
    let even : (q + q) / 2 ^ 0 % 2 ≡ 0 = omega arith in
    ap (λ (x : ℕ). is_on x m) e ∙ bit_at (τ - base m σ) (q + q) m (omega arith) ∙ ap (λ (x : ℕ). eqb x 1) even

high_half : (σ m τ : ℕ) → 1 ≤ m → base m σ + half m ≤ τ → τ < base m σ + half m + half m → is_on τ m ≡ true
high_half σ m τ l from to =
    let q = σ / 2 ^ m in
    let r = τ - (base m σ + half m) in
    let b = begins σ m l in
    let s = plus_one (q + q) (half m) in
    let e : τ ≡ r + (q + q + 1) * half m = omega arith in
    let odd : (q + q + 1) / 2 ^ 0 % 2 ≡ 1 = omega arith in
    ap (λ (x : ℕ). is_on x m) e ∙ bit_at r (q + q + 1) m (omega arith) ∙ ap (λ (x : ℕ). eqb x 1) odd

-- ---- the trial

same_agrees : (k : Lock) (σ n : ℕ) → is_on σ n ≡ is_on k.values n → agrees_at k σ n ≡ true
same_agrees k σ n e =
    ap (λ (t : Bool). not (is_on k.mask n) || beq t (is_on k.values n)) e ∙ go (is_on k.mask n) (is_on k.values n)
  where
    go : (locked a : Bool) → (not locked || beq a a) ≡ true
    go true a = beq_refl a
    go false a = refl

free_agrees : (k : Lock) (σ n : ℕ) → is_on k.mask n ≡ false → agrees_at k σ n ≡ true
free_agrees k σ n e = ap (λ (t : Bool). not t || beq (is_on σ n) (is_on k.values n)) e

otherwise_none : (o : Option ℕ) → otherwise o none ≡ o
otherwise_none none = refl
otherwise_none (some x) = refl

module _ {p : Plan} {k : Lock} {m σ : ℕ} (h : Settled p k m σ) where
  -- mode m is as the values have it
  as_values : 1 ≤ m → is_on σ m ≡ is_on k.values m
  as_values l = h.rest m l (omega arith)

  -- the modes above m, and m, agree in a setting that has those above m as σ has them
  above_next : (τ : ℕ) → ((n : ℕ) → m < n → is_on τ n ≡ is_on σ n) → agrees_at k τ m ≡ true
      → (n : ℕ) → m - 1 < n → n ≤ p.modes → agrees_at k τ n ≡ true
  above_next τ same at n u v = let from : m ≤ n = omega arith in go (eq-or-lt_of_le from)
    where
      go : (m ≡ n) ⊎ (m < n) → agrees_at k τ n ≡ true
      go (inl e) = ap (agrees_at k τ) (sym e) ∙ at
      go (inr over) = ap (λ (t : Bool). not (is_on k.mask n) || beq t (is_on k.values n)) (same n over) ∙ h.above n over v

  pub next_same : 1 ≤ m → Settled p k (m - 1) σ
  next_same l = record {
    fine = h.fine;
    few = omega (arith, h.few);
    above = above_next σ (λ n u. refl) (same_agrees k σ m (as_values l));
    rest = λ n a b. h.rest n a (omega arith);
  }

  module _ (l : 1 ≤ m) (free : is_on k.mask m ≡ false) where
    -- a mode that is not locked is off in the values
    is_off : is_on σ m ≡ false
    is_off = as_values l ∙ untrue (is_on k.values m) (λ t. never (((lock_limits p k).0 h.fine).1 m l t) free)

    pub next_on : Settled p k (m - 1) (σ + half m)
    next_on = record {
      fine = h.fine;
      few = omega (arith, h.few);
      above = above_next (σ + half m) (λ n u. with_high σ m n l is_off u) (free_agrees k (σ + half m) m free);
      rest = λ n a b. with_low σ m n a (omega arith) ∙ h.rest n a (omega arith);
    }

  module _ (on : ℕ → Bool) where
    abbrev test_of : ℕ → Bool
    test_of = works (locked_terms p k) on

    pub leaf : m ≡ 0 → (t : Bool) → all_met p.rules on σ ≡ t → find test_of (settings_at m σ) ≡ or_else t σ none
    leaf e t met =
        let here : σ / 2 ^ 0 * 2 ^ 0 ≡ σ = omega arith in
        let agreed : agrees p.modes k σ ≡ true = all_is (agrees_at k σ) (modes_of p.modes) (λ n i. each_agrees n (upto_in 1 (suc p.modes) n i)) in
        ap (λ (n : ℕ). find test_of (settings_at n σ)) e
        ∙ ap (λ (s : ℕ). find test_of (iota s 1)) here
        ∙ (λ i. or_else (agreed i && met i) σ none)
      where
        each_agrees : (n : ℕ) → (1 ≤ n) × (n < suc p.modes) → agrees_at k σ n ≡ true
        each_agrees n (from, to) = h.above n (omega arith) (omega arith)

    -- a setting in which mode m is not as the lock says does not work
    against : is_on k.mask m ≡ true → 1 ≤ m → (τ : ℕ) → (is_on τ m ≡ is_on σ m → ⊥) → test_of τ ≡ false
    against locked l τ other =
        let i = in_upto 1 (suc p.modes) m l (omega (arith, h.few)) in
        let broken = untrue (agrees p.modes k τ) (λ t. other (agrees_at_lem k τ p.modes t m i locked ∙ sym (as_values l))) in
        ap (λ (t : Bool). t && all_met p.rules on τ) broken

    pub tried_locked : 1 ≤ m → is_on k.mask m ≡ true → find test_of (settings_at (m - 1) σ) ≡ find test_of (settings_at m σ)
    tried_locked l locked = go (test (is_on σ m))
      where
        lower : Option ℕ
        lower = find test_of (iota (base m σ) (half m))

        upper : Option ℕ
        upper = find test_of (iota (base m σ + half m) (half m))

        unlike : (τ : ℕ) (a b : Bool) → is_on τ m ≡ a → is_on σ m ≡ b → (a ≡ b → ⊥) → test_of τ ≡ false
        unlike τ a b x y apart = against locked l τ (λ e. apart (sym x ∙ e ∙ y))

        go : (is_on σ m ≡ true) ⊎ (is_on σ m ≡ false) → find test_of (settings_at (m - 1) σ) ≡ find test_of (settings_at m σ)
        go (inl e) =
            let empty : lower ≡ none =
            find_none test_of (base m σ) (half m) (λ τ a b. unlike τ false true (low_half σ m τ l a b) e (λ z. true≢false (sym z))) in
            ap (λ (s : ℕ). find test_of (iota s (half m))) (base_on σ m l e)
            ∙ sym (settle_both test_of m (base m σ) l ∙ ap (λ (o : Option ℕ). otherwise o upper) empty)
        go (inr e) =
            let empty : upper ≡ none =
            find_none test_of (base m σ + half m) (half m) (λ τ a b. unlike τ true false (high_half σ m τ l a b) e true≢false) in
            ap (λ (s : ℕ). find test_of (iota s (half m))) (base_off σ m l e)
            ∙ sym (settle_both test_of m (base m σ) l ∙ ap (otherwise lower) empty ∙ otherwise_none lower)

    pub tried_both : (l : 1 ≤ m) → is_on k.mask m ≡ false
        → find test_of (settings_at m σ) ≡ otherwise (find test_of (settings_at (m - 1) σ)) (find test_of (settings_at (m - 1) (σ + half m)))
    tried_both l free =
        let off = is_off l free in
        settle_both test_of m (base m σ) l
        ∙ (λ i. otherwise (find test_of (iota (sym (base_off σ m l off) i) (half m))) (find test_of (iota (sym (base_with σ m l off) i) (half m))))
