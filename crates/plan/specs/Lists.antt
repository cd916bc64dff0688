-- Lists and Boolean tests over them, in the form in which they compute.
--
--   any f xs      some element of xs passes the test f
--   all f xs      every element passes
--   keep f xs     the elements that pass, in their order
--   count f xs    how many pass (kept and counted: one step of each, by the test's answer)
--   mem n xs      the number n is among xs
--   joined f xs   the lists f x, for x in xs, one after the other
--   upto lo hi    the numbers lo, lo + 1, .. below hi; iota i n: n numbers from i on
--   within a n z  a ≤ n ≤ z
--
-- Not here: laws about them (proofs/Lists.antt). Assumes nothing.
use Rattle.std.specs.Prelude.{ℕ, zero, suc, ◌-◌, Bool, true, false, ◌&&◌, ◌||◌, List, [], ◌∷◌, ◌++◌, eqb, leb}

abbrev pub any : {A : Type 0} → (A → Bool) → List A → Bool
any f [] = false
any f (x ∷ xs) = f x || any f xs

abbrev pub all : {A : Type 0} → (A → Bool) → List A → Bool
all f [] = true
all f (x ∷ xs) = f x && all f xs

abbrev pub keep_by : {A : Type 0} → Bool → A → List A → List A
keep_by true x xs = x ∷ xs
keep_by false x xs = xs

abbrev pub keep : {A : Type 0} → (A → Bool) → List A → List A
keep f [] = []
keep f (x ∷ xs) = keep_by (f x) x (keep f xs)

abbrev pub count_by : Bool → ℕ → ℕ
count_by true n = suc n
count_by false n = n

abbrev pub count : {A : Type 0} → (A → Bool) → List A → ℕ
count f [] = 0
count f (x ∷ xs) = count_by (f x) (count f xs)

abbrev pub mem : ℕ → List ℕ → Bool
mem n xs = any (eqb n) xs

abbrev pub joined : {A B : Type 0} → (A → List B) → List A → List B
joined f [] = []
joined f (x ∷ xs) = f x ++ joined f xs

abbrev pub iota : ℕ → ℕ → List ℕ
iota i zero = []
iota i (suc n) = i ∷ iota (suc i) n

abbrev pub upto : ℕ → ℕ → List ℕ
upto lo hi = iota lo (hi - lo)

abbrev pub within : ℕ → ℕ → ℕ → Bool
within a n z = leb a n && leb n z
