-- What std says of iterators, in the words of specs/Lists.antt.
--
--   any_upto    `any` over a range of numbers
--   any_fold    `any` as a fold that does not stop early
--   any_map     a test of what a function gives
--   count_sum   a count as a sum of ones; count_map: of what a function gives
--   read_upto   the elements of a list from one place on and before another; read_first: those before a place
--
-- Assumes nothing.
use mathlib.Core.Path.{◌≡◌, refl, sym, ◌∙◌, ap}
use mathlib.Core.Bool.{Bool, true, false, ◌||◌, or-false, or_assoc}
use mathlib.Core.List.{List, [], ◌∷◌, map}
use Prim.Native.Nat.{ℕ, zero, suc, ◌+◌, ◌-◌, ◌≤◌}
use native.Mathlib.Omega.{arith}
use lib.ListN.{length, get_or, take, drop}
use lib.Seq.{drop-cons}
use native.Mathlib.Numerals.{add-one}
use Rattle.std.specs.List.{range_with_len, list_any, fold, sum_by}
use Rattle.plan.specs.Lists.{any, count_by, count, iota, upto}

any_iota : (f : ℕ → Bool) (a n : ℕ) → list_any f (range_with_len a n) ≡ any f (iota a n)
any_iota f a zero = refl
any_iota f a (suc n) = ap (λ (k : ℕ). f a || list_any f (range_with_len k n)) (add-one a) ∙ ap (λ (t : Bool). f a || t) (any_iota f (suc a) n)

pub any_upto : (f : ℕ → Bool) (a b : ℕ) → list_any f (range_with_len a (b - a)) ≡ any f (upto a b)
any_upto f a b = any_iota f a (b - a)

pub any_fold : (f : ℕ → Bool) (a : Bool) (xs : List ℕ) → fold (λ a x. a || f x) a xs ≡ (a || any f xs)
any_fold f a [] = sym (or-false a)
any_fold f a (x ∷ xs) = any_fold f (a || f x) xs ∙ or_assoc a (f x) (any f xs)

pub any_map : (f : ℕ → Bool) (g : ℕ → ℕ) (xs : List ℕ) → any f (map g xs) ≡ any (λ x. f (g x)) xs
any_map f g [] = refl
any_map f g (x ∷ xs) = ap (λ t. f (g x) || t) (any_map f g xs)

sum_more : (f : ℕ → Bool) (n : ℕ) (xs : List ℕ) → fold (λ a x. a + count_by (f x) 0) n xs ≡ n + count f xs
sum_more f n [] = omega arith
sum_more f n (x ∷ xs) = sum_more f (n + count_by (f x) 0) xs ∙ added (f x)
  where
    added : (t : Bool) → n + count_by t 0 + count f xs ≡ n + count_by t (count f xs)
    added true = omega arith
    added false = omega arith

pub count_sum : (f : ℕ → Bool) (xs : List ℕ) → sum_by (λ x. count_by (f x) 0) xs ≡ count f xs
count_sum f xs = let e = sum_more f 0 xs in omega arith

pub count_map : (f : ℕ → Bool) (g : ℕ → ℕ) (xs : List ℕ) → count f (map g xs) ≡ count (λ x. f (g x)) xs
count_map f g [] = refl
count_map f g (x ∷ xs) = ap (count_by (f (g x))) (count_map f g xs)

read_iota : (xs : List ℕ) (lo k : ℕ) → lo + k ≤ length xs → take k (drop lo xs) ≡ map (λ r. get_or xs r 0) (iota lo k)
read_iota xs lo zero h = refl
read_iota xs lo (suc k) h =
    ap (take (suc k)) (drop-cons xs lo 0 (omega arith)) ∙ ap (λ (l : List ℕ). get_or xs lo 0 ∷ l) (read_iota xs (suc lo) k (omega arith))

pub read_upto : (xs : List ℕ) (lo n : ℕ) → lo ≤ n → n ≤ length xs → take (n - lo) (drop lo xs) ≡ map (λ r. get_or xs r 0) (upto lo n)
read_upto xs lo n h l = read_iota xs lo (n - lo) (omega arith)

pub read_first : (xs : List ℕ) (n : ℕ) → n ≤ length xs → take n xs ≡ map (λ r. get_or xs r 0) (upto 0 n)
read_first xs n h = let e : n - 0 ≡ n = omega arith in read_iota xs 0 n (omega arith) ∙ ap (λ (k : ℕ). map (λ r. get_or xs r 0) (iota 0 k)) (sym e)
