-- Laws of the lists and tests of specs/Lists.antt, grouped by what they are about: Booleans, tests of numbers, elements, `any` and `all`,
-- `keep`, `map` and `joined`, `iota` and `upto`, `mem`, `count`, loops that count up. Rising lists are in ListRising.antt.
-- Assumes nothing.
use mathlib.Core.Path.{◌≡◌, refl, sym, ◌∙◌, ap, subst}
use mathlib.Core.Logic.{◌⊎◌, inl, inr}
use mathlib.Core.Bool.{Bool, true, false, not, ◌&&◌, ◌||◌, beq, true≢false}
use Prim.Native.Nat.{ℕ, zero, suc, ◌+◌, ◌-◌, ◌≤◌, ◌<◌}
use mathlib.Core.List.Memᴰ
use mathlib.Core.List.{List, [], ◌∷◌, ◌++◌, map, Memᴰ, append_assoc}
use native.Mathlib.Omega.{arith}
use native.Mathlib.Nat.{eq-or-lt_of_le}
use native.Mathlib.Numerals.{add-one}
use lib.ListN.{length, get_or, length-map}
use lib.Seq.{ext_get_or}
use lib.Dec.{eqb, leb, ltb}
use borrow.Author.Tests.{eqb-true, eq-eqb, ltb-true, ltb-false, leb-true, le-leb, lt-leb}
use Rattle.std.specs.List.{list_any}
use Rattle.plan.specs.Lists.{any, all, keep_by, keep, count_by, count, mem, joined, iota, upto, within}

-- ---- Booleans

pub test : (b : Bool) → (b ≡ true) ⊎ (b ≡ false)
test true = inl refl
test false = inr refl

pub both : (a b : Bool) → (a && b) ≡ true → (a ≡ true) × (b ≡ true)
both true b h = (refl, h)
both false b h = absurd (true≢false (sym h))

pub and_is : (a b : Bool) → a ≡ true → b ≡ true → (a && b) ≡ true
and_is a b p q = λ i. p i && q i

pub neither : (a b : Bool) → (a || b) ≡ false → (a ≡ false) × (b ≡ false)
neither true b h = absurd (true≢false h)
neither false b h = (refl, h)

pub or_is : (a b : Bool) → a ≡ false → b ≡ false → (a || b) ≡ false
or_is a b p q = λ i. p i || q i

pub either : (a b : Bool) → (a || b) ≡ true → (a ≡ true) ⊎ (b ≡ true)
either true b h = inl refl
either false b h = inr h

pub never : {b : Bool} → b ≡ true → b ≡ false → ⊥
never p q = true≢false (sym p ∙ q)

-- what is not true is false
pub untrue : (b : Bool) → (b ≡ true → ⊥) → b ≡ false
untrue true h = absurd (h refl)
untrue false h = refl

-- two of which each is true where the other is are equal
pub alike : (a b : Bool) → (a ≡ true → b ≡ true) → (b ≡ true → a ≡ true) → a ≡ b
alike true b to from = sym (to refl)
alike false true to from = from refl
alike false false to from = refl

-- the equality test of Booleans
pub beq_true : (a b : Bool) → beq a b ≡ true → a ≡ b
beq_true true true h = refl
beq_true true false h = absurd (true≢false (sym h))
beq_true false true h = absurd (true≢false (sym h))
beq_true false false h = refl

pub beq_refl : (a : Bool) → beq a a ≡ true
beq_refl true = refl
beq_refl false = refl

-- ---- tests of numbers

-- the test for equality, either way round
pub eqb_sym : (a b : ℕ) → eqb a b ≡ eqb b a
eqb_sym a b = alike (eqb a b) (eqb b a) (λ t. eq-eqb b a (sym (eqb-true a b t))) (λ t. eq-eqb a b (sym (eqb-true b a t)))

pub leb_not : (a b : ℕ) → leb a b ≡ not (ltb b a)
leb_not a b = go (test (ltb b a))
  where
    go : (ltb b a ≡ true) ⊎ (ltb b a ≡ false) → leb a b ≡ not (ltb b a)
    go (inl t) = lt-leb a b (ltb-true b a t) ∙ sym (ap not t)
    go (inr t) = le-leb a b (ltb-false b a t) ∙ sym (ap not t)

pub lt_or_le : (m n : ℕ) → (m < n) ⊎ (n ≤ m)
lt_or_le m n = go (ltb m n) refl
  where
    go : (t : Bool) → ltb m n ≡ t → (m < n) ⊎ (n ≤ m)
    go true q = inl (ltb-true m n q)
    go false q = inr (ltb-false m n q)

pub within_is : (a n z : ℕ) → within a n z ≡ true → (a ≤ n) × (n ≤ z)
within_is a n z h = let k = both (leb a n) (leb n z) h in (leb-true a n k.0, leb-true n z k.1)

pub is_within : (a n z : ℕ) → a ≤ n → n ≤ z → within a n z ≡ true
is_within a n z l u = and_is (leb a n) (leb n z) (le-leb a n l) (le-leb n z u)

-- ---- elements

-- what stands at a place is an element
pub at_member : (l : List ℕ) (i : ℕ) → i < length l → Memᴰ (get_or l i 0) l
at_member [] i h = absurd (omega arith)
at_member (x ∷ l) zero h = Memᴰ.head refl
at_member (x ∷ l) (suc i) h = Memᴰ.tail (at_member l i (omega arith))

-- what holds of the first and of all others holds of all
pub each : {A : Type 0} (P : A → Type 0) {x : A} {xs : List A} → P x → ((a : A) → Memᴰ a xs → P a) → (a : A) → Memᴰ a (x ∷ xs) → P a
each P first rest a (Memᴰ.head e) = subst P (sym e) first
each P first rest a (Memᴰ.tail m) = rest a m

-- ---- any and all

-- the library's `any`, which iterators are said by
pub any_is : {A : Type 0} (f : A → Bool) (xs : List A) → list_any f xs ≡ any f xs
any_is f [] = refl
any_is f (x ∷ xs) = ap (λ (t : Bool). f x || t) (any_is f xs)

module _ {A : Type 0} (f : A → Bool) where
  pub all_in : {a : A} (xs : List A) → all f xs ≡ true → Memᴰ a xs → f a ≡ true
  all_in [] h m = absurd (Memᴰ.not-nil m)
  all_in {a} (x ∷ xs) h m =
      let (first, rest) = both (f x) (all f xs) h in
      each (λ (b : A). f b ≡ true) first (λ b k. all_in {a = b} xs rest k) a m

  pub all_is : (xs : List A) → ((a : A) → Memᴰ a xs → f a ≡ true) → all f xs ≡ true
  all_is [] h = refl
  all_is (x ∷ xs) h = and_is (f x) (all f xs) (h x (Memᴰ.head refl)) (all_is xs (λ a m. h a (Memᴰ.tail m)))

  pub any_none : {a : A} (xs : List A) → any f xs ≡ false → Memᴰ a xs → f a ≡ false
  any_none [] h m = absurd (Memᴰ.not-nil m)
  any_none {a} (x ∷ xs) h m =
      let (first, rest) = neither (f x) (any f xs) h in
      each (λ (b : A). f b ≡ false) first (λ b k. any_none {a = b} xs rest k) a m

  pub none_any : (xs : List A) → ((a : A) → Memᴰ a xs → f a ≡ false) → any f xs ≡ false
  none_any [] h = refl
  none_any (x ∷ xs) h = or_is (f x) (any f xs) (h x (Memᴰ.head refl)) (none_any xs (λ a m. h a (Memᴰ.tail m)))

  pub in_any : {a : A} (xs : List A) → Memᴰ a xs → f a ≡ true → any f xs ≡ true
  in_any xs m h = go (test (any f xs))
    where
      go : (any f xs ≡ true) ⊎ (any f xs ≡ false) → any f xs ≡ true
      go (inl t) = t
      go (inr t) = absurd (never h (any_none xs t m))

  pub any_some : (xs : List A) → any f xs ≡ true → (a : A) × Memᴰ a xs × (f a ≡ true)
  any_some [] h = absurd (true≢false (sym h))
  any_some (x ∷ xs) h = go (test (f x)) (either (f x) (any f xs) h) (any_some xs)
    where
      Out : List A → Type 0
      Out ys = (a : A) × Memᴰ a ys × (f a ≡ true)

      go : (f x ≡ true) ⊎ (f x ≡ false) → (f x ≡ true) ⊎ (any f xs ≡ true) → (any f xs ≡ true → Out xs) → Out (x ∷ xs)
      go (inl t) k below = (x, Memᴰ.head refl, t)
      go (inr t) (inl k) below = absurd (never k t)
      go (inr t) (inr k) below = let r = below k in (r.0, Memᴰ.tail r.1, r.2)

  pub any_append : (xs ys : List A) → any f (xs ++ ys) ≡ (any f xs || any f ys)
  any_append [] ys = refl
  any_append (x ∷ xs) ys = go (f x) (any_append xs ys)
    where
      go : (t : Bool) → any f (xs ++ ys) ≡ (any f xs || any f ys) → (t || any f (xs ++ ys)) ≡ ((t || any f xs) || any f ys)
      go true e = refl
      go false e = e

-- two tests that agree on the elements
pub any_cong : {A : Type 0} (f g : A → Bool) (xs : List A) → ((a : A) → Memᴰ a xs → f a ≡ g a) → any f xs ≡ any g xs
any_cong f g [] h = refl
any_cong f g (x ∷ xs) h = λ i. h x (Memᴰ.head refl) i || any_cong f g xs (λ a m. h a (Memᴰ.tail m)) i

pub keep_cong : {A : Type 0} (f g : A → Bool) (xs : List A) → ((a : A) → Memᴰ a xs → f a ≡ g a) → keep f xs ≡ keep g xs
keep_cong f g [] h = refl
keep_cong f g (x ∷ xs) h = λ i. keep_by (h x (Memᴰ.head refl) i) x (keep_cong f g xs (λ a m. h a (Memᴰ.tail m)) i)

-- what is kept of a map is a map of what is kept
pub keep_map : {A B : Type 0} (f : B → Bool) (g : A → B) (xs : List A) → keep f (map g xs) ≡ map g (keep (λ (a : A). f (g a)) xs)
keep_map f g [] = refl
keep_map {A} f g (x ∷ xs) = go (f (g x)) (keep_map f g xs)
  where
    go : (t : Bool) → keep f (map g xs) ≡ map g (keep (λ (a : A). f (g a)) xs) → keep_by t (g x) (keep f (map g xs)) ≡ map g (keep_by t x (keep (λ (a : A). f (g a)) xs))
    go true e = λ i. g x ∷ e i
    go false e = e

pub all_cong : {A : Type 0} (f g : A → Bool) (xs : List A) → ((a : A) → Memᴰ a xs → f a ≡ g a) → all f xs ≡ all g xs
all_cong f g [] h = refl
all_cong f g (x ∷ xs) h = λ i. h x (Memᴰ.head refl) i && all_cong f g xs (λ a m. h a (Memᴰ.tail m)) i

-- ---- keep

pub in_keep : {A : Type 0} (f : A → Bool) {a : A} (xs : List A) → Memᴰ a xs → f a ≡ true → Memᴰ a (keep f xs)
in_keep f [] m h = absurd (Memᴰ.not-nil m)
in_keep f {a} (x ∷ xs) m h = go (f x) refl (Memᴰ.cases_cons m) (λ k. in_keep f xs k h)
  where
    go : (t : Bool) → f x ≡ t → (a ≡ x) ⊎ Memᴰ a xs → (Memᴰ a xs → Memᴰ a (keep f xs)) → Memᴰ a (keep_by t x (keep f xs))
    go true e (inl q) below = Memᴰ.head q
    go true e (inr k) below = Memᴰ.tail (below k)
    go false e (inl q) below = absurd (never (ap f (sym q) ∙ h) e)
    go false e (inr k) below = below k

pub keep_in : {A : Type 0} (f : A → Bool) {a : A} (xs : List A) → Memᴰ a (keep f xs) → Memᴰ a xs × (f a ≡ true)
keep_in f [] m = absurd (Memᴰ.not-nil m)
keep_in f {a} (x ∷ xs) m = go (f x) refl m (keep_in f xs)
  where
    later : Memᴰ a xs × (f a ≡ true) → Memᴰ a (x ∷ xs) × (f a ≡ true)
    later k = (Memᴰ.tail k.0, k.1)

    first : f x ≡ true → (a ≡ x) ⊎ Memᴰ a (keep f xs) → (Memᴰ a (keep f xs) → Memᴰ a xs × (f a ≡ true)) → Memᴰ a (x ∷ xs) × (f a ≡ true)
    first e (inl q) below = (Memᴰ.head q, ap f q ∙ e)
    first e (inr k) below = later (below k)

    go : (t : Bool) → f x ≡ t → Memᴰ a (keep_by t x (keep f xs)) → (Memᴰ a (keep f xs) → Memᴰ a xs × (f a ≡ true)) → Memᴰ a (x ∷ xs) × (f a ≡ true)
    go true e k below = first e (Memᴰ.cases_cons k) below
    go false e k below = later (below k)

-- nothing is kept of a list of which nothing passes
pub keep_none : {A : Type 0} (f : A → Bool) (xs : List A) → ((a : A) → Memᴰ a xs → f a ≡ false) → keep f xs ≡ []
keep_none f [] h = refl
keep_none f (x ∷ xs) h = ap (λ (t : Bool). keep_by t x (keep f xs)) (h x (Memᴰ.head refl)) ∙ keep_none f xs (λ a m. h a (Memᴰ.tail m))

-- ---- map and joined

pub in_map : {A B : Type 0} (f : A → B) {a : A} {xs : List A} → Memᴰ a xs → Memᴰ (f a) (map f xs)
in_map f (Memᴰ.head e) = Memᴰ.head (ap f e)
in_map f (Memᴰ.tail m) = Memᴰ.tail (in_map f m)

pub map_in : {A B : Type 0} (f : A → B) {b : B} (xs : List A) → Memᴰ b (map f xs) → (a : A) × Memᴰ a xs × (b ≡ f a)
map_in f [] m = absurd (Memᴰ.not-nil m)
map_in {A} f {b} (x ∷ xs) m = go (Memᴰ.cases_cons m) (map_in f xs)
  where
    go : (b ≡ f x) ⊎ Memᴰ b (map f xs) → (Memᴰ b (map f xs) → (a : A) × Memᴰ a xs × (b ≡ f a)) → (a : A) × Memᴰ a (x ∷ xs) × (b ≡ f a)
    go (inl e) below = (x, Memᴰ.head refl, e)
    go (inr k) below = let r = below k in (r.0, Memᴰ.tail r.1, r.2)

pub joined_append : {A B : Type 0} (f : A → List B) (xs ys : List A) → joined f (xs ++ ys) ≡ joined f xs ++ joined f ys
joined_append f [] ys = refl
joined_append f (x ∷ xs) ys = ap (λ (l : List _). f x ++ l) (joined_append f xs ys) ∙ sym (append_assoc (f x) (joined f xs) (joined f ys))

pub in_joined : {A B : Type 0} (f : A → List B) {a : A} {b : B} {xs : List A} → Memᴰ a xs → Memᴰ b (f a) → Memᴰ b (joined f xs)
in_joined f {b = b} (Memᴰ.head {x} {xs} e) m = Memᴰ.append_left (joined f xs) (subst (λ c. Memᴰ b (f c)) e m)
in_joined f (Memᴰ.tail {x} {xs} k) m = Memᴰ.append_right (f x) (in_joined f k m)

pub joined_in : {A B : Type 0} (f : A → List B) {b : B} (xs : List A) → Memᴰ b (joined f xs) → (a : A) × Memᴰ a xs × Memᴰ b (f a)
joined_in f [] m = absurd (Memᴰ.not-nil m)
joined_in {A} f {b} (x ∷ xs) m = go (Memᴰ.append_cases (f x) m) (joined_in f xs)
  where
    go : Memᴰ b (f x) ⊎ Memᴰ b (joined f xs) → (Memᴰ b (joined f xs) → (a : A) × Memᴰ a xs × Memᴰ b (f a)) → (a : A) × Memᴰ a (x ∷ xs) × Memᴰ b (f a)
    go (inl k) below = (x, Memᴰ.head refl, k)
    go (inr k) below = let r = below k in (r.0, Memᴰ.tail r.1, r.2)

-- ---- run and upto

pub length_iota : (lo n : ℕ) → length (iota lo n) ≡ n
length_iota lo zero = refl
length_iota lo (suc n) = ap suc (length_iota (suc lo) n)

-- a run is cut into two runs
pub iota_split : (i m n : ℕ) → iota i (m + n) ≡ iota i m ++ iota (i + m) n
iota_split i zero n =
    let e : 0 + n ≡ n = omega arith in
    let k : i ≡ i + 0 = omega arith in
    λ j. iota (k j) (e j)
iota_split i (suc m) n =
    let e : suc m + n ≡ suc (m + n) = omega arith in
    let k : suc i + m ≡ i + suc m = omega arith in
    ap (iota i) e ∙ ap (λ (l : List ℕ). i ∷ l) (iota_split (suc i) m n) ∙ ap (λ (j : ℕ). iota i (suc m) ++ iota j n) k

-- what a function makes of a run
module _ {A : Type 0} (f : ℕ → A) where
  pub get_d_iota : (lo n i : ℕ) (d : A) → i < n → get_or (map f (iota lo n)) i d ≡ f (lo + i)
  get_d_iota lo zero i d h = absurd (omega arith)
  get_d_iota lo (suc n) zero d h = let e : lo ≡ lo + 0 = omega arith in ap f e
  get_d_iota lo (suc n) (suc i) d h = let e : suc lo + i ≡ lo + suc i = omega arith in get_d_iota (suc lo) n i d (omega arith) ∙ ap f e

  -- a list is made so where it has the function's values at its places
  pub map_iota : (lo n : ℕ) (d : A) (l : List A) → length l ≡ n → ((i : ℕ) → i < n → get_or l i d ≡ f (lo + i)) → l ≡ map f (iota lo n)
  map_iota lo n d l s h =
      ext_get_or d l (map f (iota lo n)) (s ∙ sym (length-map (iota lo n) f ∙ length_iota lo n)) (λ i u.
      let k : i < n = omega arith in h i k ∙ sym (get_d_iota lo n i d k))

  -- the same of a run from 0
  pub get_d_first : (n i : ℕ) (d : A) → i < n → get_or (map f (iota 0 n)) i d ≡ f i
  get_d_first n i d h = let e : 0 + i ≡ i = omega arith in get_d_iota 0 n i d h ∙ ap f e

  pub map_first : (n : ℕ) (d : A) (l : List A) → length l ≡ n → ((i : ℕ) → i < n → get_or l i d ≡ f i) → l ≡ map f (iota 0 n)
  map_first n d l s h = map_iota 0 n d l s (λ i k. let e : i ≡ 0 + i = omega arith in h i k ∙ ap f e)

pub upto_step : (lo hi : ℕ) → lo < hi → upto lo hi ≡ lo ∷ upto (lo + 1) hi
upto_step lo hi h =
    let e : hi - lo ≡ suc (hi - (lo + 1)) = omega arith in
    ap (iota lo) e ∙ ap (λ (k : ℕ). lo ∷ iota k (hi - (lo + 1))) (sym (add-one lo))

pub upto_end : (lo hi : ℕ) → hi ≤ lo → upto lo hi ≡ []
upto_end lo hi h = let e : hi - lo ≡ 0 = omega arith in ap (iota lo) e

in_iota : (i n r : ℕ) → i ≤ r → r < i + n → Memᴰ r (iota i n)
in_iota i zero r l u = absurd (omega arith)
in_iota i (suc n) r l u = go (eq-or-lt_of_le l) (λ k. in_iota (suc i) n r k (omega arith))
  where
    go : (i ≡ r) ⊎ (i < r) → (i < r → Memᴰ r (iota (suc i) n)) → Memᴰ r (iota i (suc n))
    go (inl e) below = Memᴰ.head (sym e)
    go (inr k) below = Memᴰ.tail (below k)

iota_in : (i n r : ℕ) → Memᴰ r (iota i n) → (i ≤ r) × (r < i + n)
iota_in i zero r m = absurd (Memᴰ.not-nil m)
iota_in i (suc n) r m = go (Memᴰ.cases_cons m) (iota_in (suc i) n r)
  where
    go : (r ≡ i) ⊎ Memᴰ r (iota (suc i) n) → (Memᴰ r (iota (suc i) n) → (suc i ≤ r) × (r < suc i + n)) → (i ≤ r) × (r < i + suc n)
    go (inl e) below = (omega arith, omega arith)
    go (inr k) below = let h = below k in (omega (arith, h.0), omega (arith, h.1))

pub in_upto : (lo hi r : ℕ) → lo ≤ r → r < hi → Memᴰ r (upto lo hi)
in_upto lo hi r l u = in_iota lo (hi - lo) r l (omega arith)

pub upto_in : (lo hi r : ℕ) → Memᴰ r (upto lo hi) → (lo ≤ r) × (r < hi)
upto_in lo hi r m = let h = iota_in lo (hi - lo) r m in (h.0, omega (arith, h.0, h.1))

-- ---- mem

pub in_mem : {n : ℕ} (xs : List ℕ) → Memᴰ n xs → mem n xs ≡ true
in_mem {n} xs m = in_any (eqb n) xs m (eq-eqb n n refl)

pub mem_in : {n : ℕ} (xs : List ℕ) → mem n xs ≡ true → Memᴰ n xs
mem_in {n} xs h = let r = any_some (eqb n) xs h in Memᴰ.cast (eqb-true n r.0 r.2) r.1

-- ---- count

module _ {A : Type 0} (f : A → Bool) where
  pub count_append : (xs ys : List A) → count f (xs ++ ys) ≡ count f xs + count f ys
  count_append [] ys = omega arith
  count_append (x ∷ xs) ys = go (f x) (count_append xs ys)
    where
      go : (t : Bool) → count f (xs ++ ys) ≡ count f xs + count f ys → count_by t (count f (xs ++ ys)) ≡ count_by t (count f xs) + count f ys
      go true e = omega arith
      go false e = e

  count_pos : {a : A} (xs : List A) → Memᴰ a xs → f a ≡ true → 1 ≤ count f xs
  count_pos [] m h = absurd (Memᴰ.not-nil m)
  count_pos {a} (x ∷ xs) m h = go (f x) refl (Memᴰ.cases_cons m) (λ k. count_pos xs k h)
    where
      go : (t : Bool) → f x ≡ t → (a ≡ x) ⊎ Memᴰ a xs → (Memᴰ a xs → 1 ≤ count f xs) → 1 ≤ count_by t (count f xs)
      go true e k below = omega arith
      go false e (inl q) below = absurd (never (ap f (sym q) ∙ h) e)
      go false e (inr k) below = below k

  pub count_some : (xs : List A) → 1 ≤ count f xs → (a : A) × Memᴰ a xs × (f a ≡ true)
  count_some [] c = absurd (omega arith)
  count_some (x ∷ xs) c = go (f x) refl c (count_some xs)
    where
      Out : List A → Type 0
      Out ys = (a : A) × Memᴰ a ys × (f a ≡ true)

      go : (t : Bool) → f x ≡ t → 1 ≤ count_by t (count f xs) → (1 ≤ count f xs → Out xs) → Out (x ∷ xs)
      go true e c below = (x, Memᴰ.head refl, e)
      go false e c below = let k = below c in (k.0, Memᴰ.tail k.1, k.2)

  -- where one passes, any two that pass are equal
  pub count_one : {a b : A} (xs : List A) → count f xs ≡ 1 → Memᴰ a xs → f a ≡ true → Memᴰ b xs → f b ≡ true → a ≡ b
  count_one [] c m h n k = absurd (Memᴰ.not-nil m)
  count_one {a} {b} (x ∷ xs) c m h n k = go (f x) refl c (Memᴰ.cases_cons m) (Memᴰ.cases_cons n) (λ e y z. count_one xs e y h z k)
    where
      none_left : suc (count f xs) ≡ 1 → {y : A} → Memᴰ y xs → f y ≡ true → ⊥
      none_left e l g = omega (arith, count_pos xs l g)

      go : (t : Bool) → f x ≡ t → count_by t (count f xs) ≡ 1 → (a ≡ x) ⊎ Memᴰ a xs → (b ≡ x) ⊎ Memᴰ b xs
          → (count f xs ≡ 1 → Memᴰ a xs → Memᴰ b xs → a ≡ b) → a ≡ b
      go t e c (inl y) (inl z) below = y ∙ sym z
      go true e c (inr y) z below = absurd (none_left c y h)
      go true e c (inl y) (inr z) below = absurd (none_left c z k)
      go false e c (inr y) (inr z) below = below c y z
      go false e c (inl y) (inr z) below = absurd (never (ap f (sym y) ∙ h) e)
      go false e c (inr y) (inl z) below = absurd (never (ap f (sym z) ∙ k) e)

-- ---- a loop that counts r up to hi, with a test at each turn

module _ (f : ℕ → Bool) (r hi : ℕ) where
  pub all_stop : r < hi → f r ≡ false → all f (upto r hi) ≡ false
  all_stop h t = ap (all f) (upto_step r hi h) ∙ ap (λ (b : Bool). b && all f (upto (r + 1) hi)) t

  pub all_next : r < hi → f r ≡ true → all f (upto (r + 1) hi) ≡ all f (upto r hi)
  all_next h t = sym (ap (all f) (upto_step r hi h) ∙ ap (λ (b : Bool). b && all f (upto (r + 1) hi)) t)

  pub all_done : hi ≤ r → all f (upto r hi) ≡ true
  all_done h = ap (all f) (upto_end r hi h)
