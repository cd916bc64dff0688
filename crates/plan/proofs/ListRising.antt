-- Rising lists of numbers, and chains that rise, for any `next`.
--
--   Rises xs             each element of xs is larger than those before it
--   upto_rises, keep_rises
--                        numbers in a row rise, and so does what is kept of a rising list
--   rises_equal          rising lists with the same elements are equal
--   From next Ok i xs    xs is the chain from i on, whole: every element is Ok, not zero, and below the next one
--   from                 where the next of an Ok number is zero or larger and Ok, `chain_of` gives the whole chain, by any fuel that is enough
--   from_in, from_rises, from_head, from_next, from_cases, from_once
--                        the members of a chain; it rises; its head and the next of each member are on it, and nothing else is; it is one
--
-- Assumes nothing.
use mathlib.Core.Path.{◌≡◌, refl, sym, ◌∙◌, ap, subst}
use mathlib.Core.Logic.{◌⊎◌, inl, inr}
use mathlib.Core.Bool.{Bool, true, false}
use Prim.Native.Nat.{ℕ, zero, suc, ◌+◌, ◌-◌, ◌≤◌, ◌<◌}
use mathlib.Core.List.Memᴰ
use mathlib.Core.List.{List, [], ◌∷◌, Memᴰ}
use native.Mathlib.Omega.{arith}
use Rattle.plan.specs.Lists.{keep_by, keep, iota, upto}
use Rattle.plan.specs.Records.{chain_of}
use Rattle.plan.proofs.Lists.{keep_in, upto_in}

-- ---- rising lists

-- each element is larger than those before it
pub data Rises : List ℕ → Type 0 where
  none : Rises []
  more : {x : ℕ} {xs : List ℕ} → ((n : ℕ) → Memᴰ n xs → x < n) → Rises xs → Rises (x ∷ xs)

-- numbers in a row rise
iota_rises : (i n : ℕ) → Rises (iota i n)
iota_rises i zero = none
iota_rises i (suc n) =
    let e : n ≡ (suc i + n) - suc i = omega arith in
    more (λ r m. (upto_in (suc i) (suc i + n) r (subst (λ (k : ℕ). Memᴰ r (iota (suc i) k)) e m)).0) (iota_rises (suc i) n)

pub upto_rises : (lo hi : ℕ) → Rises (upto lo hi)
upto_rises lo hi = iota_rises lo (hi - lo)

-- what is kept of a rising list rises
pub keep_rises : (f : ℕ → Bool) {xs : List ℕ} → Rises xs → Rises (keep f xs)
keep_rises f none = none
keep_rises f (more {x} {xs} h r) = go (f x) (keep_rises f r)
  where
    go : (t : Bool) → Rises (keep f xs) → Rises (keep_by t x (keep f xs))
    go true k = more (λ n m. h n (keep_in f xs m).0) k
    go false k = k

-- the head of a rising list is its least element
least : {x y : ℕ} {ys : List ℕ} → ((n : ℕ) → Memᴰ n ys → y < n) → Memᴰ x (y ∷ ys) → y ≤ x
least h (Memᴰ.head e) = omega arith
least h (Memᴰ.tail m) = omega (arith, h _ m)

-- what is not the head is in the tail
not_head : {n y : ℕ} {ys : List ℕ} → y < n → Memᴰ n (y ∷ ys) → Memᴰ n ys
not_head h (Memᴰ.head e) = absurd (omega arith)
not_head h (Memᴰ.tail m) = m

-- rising lists with the same elements are equal
pub rises_equal : (xs ys : List ℕ) → Rises xs → Rises ys → ((n : ℕ) → Memᴰ n xs → Memᴰ n ys) → ((n : ℕ) → Memᴰ n ys → Memᴰ n xs) → xs ≡ ys
rises_equal [] [] r s f g = refl
rises_equal [] (y ∷ ys) r s f g = absurd (Memᴰ.not-nil (g y (Memᴰ.head refl)))
rises_equal (x ∷ xs) [] r s f g = absurd (Memᴰ.not-nil (f x (Memᴰ.head refl)))
rises_equal (x ∷ xs) (y ∷ ys) (more h r) (more k s) f g =
    let e : x ≡ y = omega (arith, least k (f x (Memᴰ.head refl)), least h (g y (Memᴰ.head refl))) in
    let t : xs ≡ ys = rises_equal xs ys r s
    (λ n m. not_head (omega (arith, h n m)) (f n (Memᴰ.tail m)))
    (λ n m. not_head (omega (arith, k n m)) (g n (Memᴰ.tail m))) in
    λ i. e i ∷ t i

-- ---- chains that rise

-- a whole chain: from i on by `next`, to zero; each element is Ok, not zero, and below the next one
pub data From (next : ℕ → ℕ) (Ok : ℕ → Type 0) : ℕ → List ℕ → Type 0 where
  done : From next Ok 0 []
  on : {i : ℕ} {xs : List ℕ} → 1 ≤ i → Ok i → ((next i ≡ 0 → ⊥) → i < next i) → From next Ok (next i) xs → From next Ok i (i ∷ xs)

-- where the next of an Ok number is zero or larger and Ok, any fuel that is enough gives the whole chain
pub from : (next : ℕ → ℕ) (n : ℕ) (Ok : ℕ → Type 0) → ((i : ℕ) → Ok i → i < n) → ((i : ℕ) → Ok i → (next i ≡ 0 → ⊥) → (i < next i) × Ok (next i))
    → (f i : ℕ) → ((i ≡ 0 → ⊥) → (n ≤ f + i) × Ok i) → From next Ok i (chain_of next f i)
from next n Ok small up zero zero h = done
from next n Ok small up (suc f) zero h = done
from next n Ok small up zero (suc i) h = let k = h (λ z. omega arith) in absurd (omega (arith, k.0, small (suc i) k.1))
from next n Ok small up (suc f) (suc i) h =
    let k = h (λ z. omega arith) in
    on {i = suc i} (omega arith) k.1 (λ d. (up (suc i) k.1 d).0)
    (from next n Ok small up f (next (suc i)) (λ d. let r = up (suc i) k.1 d in (omega (arith, r.0, k.0), r.1)))

module _ {next : ℕ → ℕ} {Ok : ℕ → Type 0} where
  -- a chain with a member does not start at zero
  not_zero : {i e : ℕ} {xs : List ℕ} → From next Ok i xs → Memᴰ e xs → i ≡ 0 → ⊥
  not_zero (on p o u r) m z = omega arith
  not_zero {e = e} done m z = elim m [ ]

  -- a member is Ok, and not below the head
  pub from_in : {i e : ℕ} {xs : List ℕ} → From next Ok i xs → Memᴰ e xs → (i ≤ e) × Ok e
  from_in (on p o u r) (Memᴰ.head q) = (omega arith, subst Ok (sym q) o)
  from_in (on p o u r) (Memᴰ.tail m) = let k = from_in r m in (omega (arith, k.0, u (not_zero r m)), k.1)
  from_in {e = e} done x4 = elim x4 [ ]

  -- a whole chain rises
  pub from_rises : {i : ℕ} {xs : List ℕ} → From next Ok i xs → Rises xs
  from_rises done = none
  from_rises (on {i} {xs} p o u r) = more {x = i} {xs = xs} (λ n m. omega (arith, (from_in r m).0, u (not_zero r m))) (from_rises r)

  -- its head is on it, unless it is zero
  pub from_head : {i : ℕ} {xs : List ℕ} → From next Ok i xs → (i ≡ 0 → ⊥) → Memᴰ i xs
  from_head done d = absurd (d refl)
  from_head (on p o u r) d = Memᴰ.head refl

  -- so is the next of each member
  pub from_next : {i e : ℕ} {xs : List ℕ} → From next Ok i xs → Memᴰ e xs → (next e ≡ 0 → ⊥) → Memᴰ (next e) xs
  from_next (on {xs = xs} p o u r) (Memᴰ.head q) d =
      Memᴰ.tail (subst (λ (k : ℕ). Memᴰ k xs) (ap next (sym q)) (from_head r (λ z. d (ap next q ∙ z))))
  from_next (on p o u r) (Memᴰ.tail m) d = Memᴰ.tail (from_next r m d)
  from_next {e = e} done x7 d = elim x7 [ ]

  -- what stands on a chain is its head or comes next after something on it
  pub from_cases : {i e : ℕ} {xs : List ℕ} → From next Ok i xs → Memᴰ e xs → (i ≡ e) ⊎ ((x : ℕ) × Memᴰ x xs × (next x ≡ e))
  from_cases (on p o u r) (Memᴰ.head q) = inl (sym q)
  from_cases {e = e} (on {i} {xs} p o u r) (Memᴰ.tail m) = go (from_cases r m)
    where
      go : (next i ≡ e) ⊎ ((x : ℕ) × Memᴰ x xs × (next x ≡ e)) → (i ≡ e) ⊎ ((x : ℕ) × Memᴰ x (i ∷ xs) × (next x ≡ e))
      go (inl q) = inr (i, Memᴰ.head refl, q)
      go (inr x) = inr (x.0, Memᴰ.tail x.1, x.2)
  from_cases {e = e} done x4 = elim x4 [ ]

  -- there is one whole chain from i on
  pub from_once : {i : ℕ} {xs ys : List ℕ} → From next Ok i xs → From next Ok i ys → xs ≡ ys
  from_once done done = refl
  from_once done (on p o u r) = absurd (omega arith)
  from_once (on p o u r) done = absurd (omega arith)
  from_once (on {i} p o u r) (on q v w s) = ap (λ (l : List ℕ). i ∷ l) (from_once r s)
