-- A number below 10 is written by one digit, any other by the digits of its tenth and one more. Assumes nothing.
use mathlib.Core.Path.{◌≡◌, sym, ap}
use mathlib.Core.Bool.{Bool, cond}
use mathlib.Core.List.{List, [], ◌∷◌, ◌++◌}
use lib.ListN.{length}
use Prim.Native.Nat.{ℕ, zero, suc, ◌+◌, ◌-◌, ◌/◌, ◌%◌, ◌^◌, ◌≤◌, ◌<◌}
use native.Mathlib.Omega.{arith}
use native.Mathlib.Nat.{pow-zero, pow-suc, mod-lt, div-add-mod'}
use native.Mathlib.Numerals.{sub-one}
use borrow.Author.Tests.{lt-ltb}
use Rattle.output.specs.Digits.{hex_digit_ascii}
use Rattle.output.specs.Gathering.{InDecimal, Gathers, Failed, GathersNumber}
use Rattle.output.proofs.Gathering.{gathers_both, failed_both}

digit : (d : ℕ) → d < 10 → 48 + d ≡ hex_digit_ascii d
digit d h = sym (ap (λ (t : Bool). cond t (48 + d) (87 + d)) (lt-ltb d 10 h))

last_digit : (n : ℕ) → 48 + n % 10 ≡ hex_digit_ascii (n % 10)
last_digit n = digit (n % 10) (mod-lt n (omega arith))

pub one_digit : (n : ℕ) → n < 10 → InDecimal n ((48 + n % 10) ∷ [])
one_digit n h = record {
  count = 1;
  fewest = (omega arith, omega (arith, pow-suc 10 0, pow-zero 10), λ k. absurd (omega arith));
  spelled = ap (λ (d : ℕ). d ∷ []) (last_digit n);
}

-- where k digits are the fewest of its tenth, no k digits hold a number
fewest_more : (k n : ℕ) → 1 ≤ k → 10 ≤ n → (1 < k → 10 ^ (k - 1) ≤ n / 10) → 10 ^ k ≤ n
fewest_more zero n some ten fewest = absurd (omega arith)
fewest_more (suc zero) n some ten fewest = omega (arith, pow-suc 10 0, pow-zero 10)
fewest_more (suc (suc j)) n some ten fewest =
    let tenth : 10 ^ (suc (suc j) - 1) ≤ n / 10 = fewest (omega arith) in
    omega (arith, tenth, ap (λ (k : ℕ). 10 ^ k) (sub-one (suc (suc j))), pow-suc 10 (suc j), div-add-mod' n 10)

pub digit_more : (n : ℕ) (ds : List ℕ) → 10 ≤ n → InDecimal (n / 10) ds → InDecimal n (ds ++ ((48 + n % 10) ∷ []))
digit_more n ds h tenth =
    let k = tenth.count in
    let (some, below, fewest) = tenth.fewest in
    let enough : 10 ^ k ≤ n = fewest_more k n some h fewest in
    record {
      count = suc k;
      fewest = (
        omega arith,
        omega (arith, below, pow-suc 10 k, div-add-mod' n 10),
        λ _. omega (arith, enough, ap (λ (j : ℕ). 10 ^ j) (sub-one (suc k))),
      );
      spelled = λ i. tenth.spelled i ++ (last_digit n i ∷ []);
    }

pub one_gathered : (room room' : List ℕ) (filled filled' : ℕ) (t t' : Bool) (n : ℕ) → n < 10 → Gathers room filled ((48 + n % 10) ∷ []) room' filled'
    → Failed (filled + 1) t t' → GathersNumber room filled t [] n room' filled' t'
one_gathered room room' filled filled' t t' n h gathers fails = record { number = _; decimal = one_digit n h; gathered = gathers; failing = fails }

module _ (room room' room'' : List ℕ) (filled filled' filled'' : ℕ) (t t' t'' : Bool) (n : ℕ) where
  -- a number behind what was gathered before it
  pub behind : (cs : List ℕ) → Gathers room filled cs room' filled' → Failed (filled + length cs) t t'
      → GathersNumber room' filled' t' [] n room'' filled'' t'' → GathersNumber room filled t cs n room'' filled'' t''
  behind cs gathers fails number = record {
    number = number.number;
    decimal = number.decimal;
    gathered = gathers_both room room' room'' filled filled' filled'' cs number.number gathers number.gathered;
    failing = failed_both filled filled' cs number.number t t' t'' gathers.1 fails number.failing;
  }

  -- the last digit behind those of the tenth
  pub more_gathered : 10 ≤ n → GathersNumber room filled t [] (n / 10) room' filled' t' → Gathers room' filled' ((48 + n % 10) ∷ []) room'' filled''
      → Failed (filled' + 1) t' t'' → GathersNumber room filled t [] n room'' filled'' t''
  more_gathered h tenth gathers fails = record {
    number = _;
    decimal = digit_more n tenth.number h tenth.decimal;
    gathered = gathers_both room room' room'' filled filled' filled'' tenth.number ((48 + n % 10) ∷ []) tenth.gathered gathers;
    failing = failed_both filled filled' tenth.number ((48 + n % 10) ∷ []) t t' t'' tenth.gathered.1 tenth.failing fails;
  }
