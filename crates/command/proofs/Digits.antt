-- How a number is read digit by digit: what is known of the first bytes of a text, and what follows for the whole.
--
--   value_next      the value of one byte more
--   value_part      the first bytes have no larger value than all
--   digits_next     one digit more; below_digits, above_digits: a byte that is none
--   written_empty, written_stops, written_large
--                   an empty text writes no number, nor one with a byte that is no digit, nor one whose first bytes are too large
--   written_whole   digits below 2^64 write their value
--
-- Assumes nothing.
use mathlib.Core.Path.{◌≡◌, refl, sym, ◌∙◌, ap}
use mathlib.Core.Bool.{Bool, true, false, ◌&&◌}
use mathlib.Core.Option.{none, some}
use mathlib.Core.List.{List, [], ◌∷◌, ◌++◌}
use Prim.Native.Nat.{ℕ, suc, ◌+◌, ◌-◌, ◌*◌, ◌^◌, ◌≤◌, ◌<◌}
use native.Mathlib.Omega.{arith}
use native.Mathlib.Nat.{zero-mul, zero-add, add-mul, add_assoc, mul_assoc, zero-lt-suc, one-le-pow, le-mul_of_pos_right}
use native.Mathlib.Numerals.{add-one}
use lib.ListN.{length, get_or, take, drop, length-append, take-append-drop}
use lib.Seq.{take-suc, split_at}
use lib.Dec.{leb, ltb}
use lib.Pow.{pow-add}
use borrow.Author.Tests.{le-leb, lt-leb, lt-ltb, le-ltb}
use Rattle.plan.specs.Lists.{all}
use Rattle.command.specs.Decimal.{is_digit, value, only_if, written}

-- ---- the value

value_append : (xs ys : List ℕ) → value (xs ++ ys) ≡ value xs * 10 ^ length ys + value ys
value_append [] ys = sym (ap (λ (n : ℕ). n + value ys) (zero-mul (10 ^ length ys)) ∙ zero-add (value ys))
value_append (c ∷ xs) ys =
    let p = 10 ^ length ys in
    let d = c - 48 in
    (λ i. d * ((ap (λ (n : ℕ). 10 ^ n) (length-append xs ys) ∙ pow-add 10 (length xs) (length ys)) i) + value_append xs ys i)
    ∙ (λ i. sym (mul_assoc d (10 ^ length xs) p) i + (value xs * p + value ys))
    ∙ sym (add_assoc (d * 10 ^ length xs * p) (value xs * p) (value ys))
    ∙ ap (λ (n : ℕ). n + value ys) (sym (add-mul (d * 10 ^ length xs) (value xs) p))

-- the first bytes, and one more
part_next : (t : List ℕ) (i : ℕ) → i < length t → take (i + 1) t ≡ take i t ++ (get_or t i 0 ∷ [])
part_next t i h = ap (λ (k : ℕ). take k t) (add-one i) ∙ take-suc t i 0 h

pub value_next : (t : List ℕ) (i : ℕ) → i < length t → value (take (i + 1) t) ≡ 10 * value (take i t) + (get_or t i 0 - 48)
value_next t i h =
    let e : value (take (i + 1) t) ≡ value (take i t) * 10 + ((get_or t i 0 - 48) * 1 + 0) =
    ap value (part_next t i h) ∙ value_append (take i t) (get_or t i 0 ∷ []) in
    omega arith

pub value_part : (t : List ℕ) (i : ℕ) → value (take i t) ≤ value t
value_part t i =
    let e : value t ≡ value (take i t) * 10 ^ length (drop i t) + value (drop i t) =
    ap value (sym (take-append-drop i t)) ∙ value_append (take i t) (drop i t) in
    let l : value (take i t) ≤ value (take i t) * 10 ^ length (drop i t) = le-mul_of_pos_right (value (take i t)) (one-le-pow (length (drop i t)) 10 (zero-lt-suc 9)) in
    omega arith

-- ---- the digits

and_false : (a : Bool) → (a && false) ≡ false
and_false true = refl
and_false false = refl

and_assoc : (a b c : Bool) → (a && (b && c)) ≡ ((a && b) && c)
and_assoc true b c = refl
and_assoc false b c = refl

all_append : (f : ℕ → Bool) (xs ys : List ℕ) → all f (xs ++ ys) ≡ (all f xs && all f ys)
all_append f [] ys = refl
all_append f (x ∷ xs) ys = ap (λ (b : Bool). f x && b) (all_append f xs ys) ∙ and_assoc (f x) (all f xs) (all f ys)

pub digits_next : (t : List ℕ) (i : ℕ) → i < length t → all is_digit (take i t) ≡ true → is_digit (get_or t i 0) ≡ true → all is_digit (take (i + 1) t) ≡ true
digits_next t i h before this =
    ap (all is_digit) (part_next t i h) ∙ all_append is_digit (take i t) (get_or t i 0 ∷ []) ∙ (λ k. before k && (this k && true))

-- a byte below or above the digits is none of them
pub below_digits : (b : ℕ) → b < 48 → is_digit b ≡ false
below_digits b h = ap (λ (t : Bool). t && leb b 57) (lt-leb 48 b h)

pub above_digits : (b : ℕ) → 57 < b → is_digit b ≡ false
above_digits b h = ap (λ (t : Bool). leb 48 b && t) (lt-leb b 57 h) ∙ and_false (leb 48 b)

digits_stop : (t : List ℕ) (i : ℕ) → i < length t → is_digit (get_or t i 0) ≡ false → all is_digit t ≡ false
digits_stop t i h e =
    ap (all is_digit) (split_at t i 0 h)
    ∙ all_append is_digit (take i t) (get_or t i 0 ∷ drop (suc i) t)
    ∙ ap (λ (b : Bool). all is_digit (take i t) && (b && all is_digit (drop (suc i) t))) e
    ∙ and_false (all is_digit (take i t))

-- ---- what is written

-- no number, where one of the three tests fails
no_first : {a : Bool} (b c : Bool) (n : ℕ) → a ≡ false → only_if (a && b && c) n ≡ none
no_first b c n e = ap (λ (a : Bool). only_if (a && b && c) n) e

no_second : (a : Bool) {b : Bool} (c : Bool) (n : ℕ) → b ≡ false → only_if (a && b && c) n ≡ none
no_second true c n e = ap (λ (b : Bool). only_if (b && c) n) e
no_second false c n e = refl

no_third : (a b : Bool) {c : Bool} (n : ℕ) → c ≡ false → only_if (a && b && c) n ≡ none
no_third true true n e = ap (λ (c : Bool). only_if c n) e
no_third true false n e = refl
no_third false b n e = refl

module _ (t : List ℕ) where
  pub written_empty : length t ≡ 0 → written t ≡ none
  written_empty e = no_first (all is_digit t) (ltb (value t) (2 ^ 64)) (value t) (lt-leb 1 (length t) (omega arith))

  pub written_stops : (i : ℕ) → i < length t → is_digit (get_or t i 0) ≡ false → written t ≡ none
  written_stops i h e = no_second (leb 1 (length t)) (ltb (value t) (2 ^ 64)) (value t) (digits_stop t i h e)

  pub written_large : (i : ℕ) → 18446744073709551616 ≤ value (take i t) → written t ≡ none
  written_large i h =
      no_third (leb 1 (length t)) (all is_digit t) (value t) (le-ltb (value t) (2 ^ 64) (omega (arith, value_part t i)))

  pub written_whole : 0 < length t → all is_digit t ≡ true → value t < 18446744073709551616 → written t ≡ some (value t)
  written_whole h d l =
      λ i. only_if (le-leb 1 (length t) (omega arith) i && d i && lt-ltb (value t) (2 ^ 64) (omega arith) i) (value t)
