-- How many elements of a list pass a test, which they are, and loops that count.
--
--   length_keep            as many are kept as pass
--   count_few              no more pass than there are; count_none: none is counted where none passes
--   keep_first, keep_rest  a loop that counts r up to hi: what r adds
--   keep_done              it is over
--
-- Assumes nothing.
use mathlib.Core.Path.{◌≡◌, refl, ap, ◌∙◌}
use mathlib.Core.Bool.{Bool, true, false}
use Prim.Native.Nat.{ℕ, suc, ◌+◌, ◌≤◌, ◌<◌}
use mathlib.Core.List.{List, [], ◌∷◌, Memᴰ}
use native.Mathlib.Omega.{arith}
use lib.ListN.{length}
use Rattle.plan.specs.Lists.{keep_by, keep, count_by, count, upto}
use Rattle.plan.proofs.Lists.{upto_step, upto_end}

pub length_keep : {A : Type 0} (f : A → Bool) (xs : List A) → length (keep f xs) ≡ count f xs
length_keep f [] = refl
length_keep {A} f (x ∷ xs) = go (f x) (length_keep f xs)
  where
    go : (t : Bool) → length (keep f xs) ≡ count f xs → length (keep_by t x (keep f xs)) ≡ count_by t (count f xs)
    go true e = ap suc e
    go false e = e

-- no more pass than there are
pub count_few : {A : Type 0} (f : A → Bool) (xs : List A) → count f xs ≤ length xs
count_few f [] = omega arith
count_few f (x ∷ xs) = go (f x) (count_few f xs)
  where
    go : (t : Bool) → count f xs ≤ length xs → count_by t (count f xs) ≤ suc (length xs)
    go true h = omega arith
    go false h = omega arith

pub count_none : {A : Type 0} (f : A → Bool) (xs : List A) → ((a : A) → Memᴰ a xs → f a ≡ false) → count f xs ≡ 0
count_none f [] h = refl
count_none f (x ∷ xs) h =
    ap (λ (t : Bool). count_by t (count f xs)) (h x (Memᴰ.head refl)) ∙ count_none f xs (λ a m. h a (Memᴰ.tail m))

-- ---- a loop that counts r up to hi

module _ (f : ℕ → Bool) (r hi : ℕ) where
  pub keep_first : r < hi → f r ≡ true → keep f (upto r hi) ≡ r ∷ keep f (upto (r + 1) hi)
  keep_first h t = ap (keep f) (upto_step r hi h) ∙ ap (λ (s : Bool). keep_by s r (keep f (upto (r + 1) hi))) t

  pub keep_rest : r < hi → f r ≡ false → keep f (upto r hi) ≡ keep f (upto (r + 1) hi)
  keep_rest h t = ap (keep f) (upto_step r hi h) ∙ ap (λ (s : Bool). keep_by s r (keep f (upto (r + 1) hi))) t

  pub keep_done : hi ≤ r → keep f (upto r hi) ≡ []
  keep_done h = ap (keep f) (upto_end r hi h)
