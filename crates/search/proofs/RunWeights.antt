-- What a search can open at most: each subproblem is the root of a tree of those that branching makes of it, and every branching leaves
-- fewer unfixed belts, so a full tree of 2^(n+1) - 1 subproblems bounds what is opened from one with n unfixed belts, itself included.
--
--   tree n           2^(n+1) - 1; tree_pow: that it is
--   size p x         the most that can be opened from the subproblem x
--   weight p xs      the same from the subproblems xs: their sizes' sum
--   weight_some      where one waits, the weight is not 0
--   weight_free      the subproblem that fixes nothing weighs no more than the tree of all named belts
--   weight_taken     the one that is taken and the others weigh as much as all
--   weight_children  both children together weigh less than the subproblem
--
-- Assumes nothing.
use mathlib.Core.Path.{◌≡◌, refl}
use Prim.Native.Nat.{ℕ, zero, suc, ◌+◌, ◌^◌, ◌≤◌, ◌<◌}
use mathlib.Core.List.{List, [], ◌∷◌, ◌++◌, Memᴰ}
use native.Mathlib.Omega.{arith}
use native.Mathlib.Nat.{pow-suc}
use lib.ListN.{length}
use Rattle.plan.specs.Plan.{Plan, named}
use Rattle.route.specs.Subproblems.{Subproblem}
use Rattle.search.specs.Branching.{unfixed, requiring, forbidding, children}
use Rattle.search.specs.Search.{free, take_at}
use Rattle.search.proofs.BranchChildren.{fixed_unfixed, unfixed_less}

-- ---- full trees

-- 2^(n+1) - 1
abbrev pub tree : ℕ → ℕ
tree zero = 1
tree (suc n) = suc (tree n + tree n)

pub tree_pow : (n : ℕ) → suc (tree n) ≡ 2 ^ suc n
tree_pow zero = refl
tree_pow (suc n) = let e : suc (tree n) ≡ 2 ^ suc n = tree_pow n in rw pow-suc (omega arith)

pub tree_some : (n : ℕ) → 1 ≤ tree n
tree_some zero = omega arith
tree_some (suc n) = omega arith

tree_mono : (m n : ℕ) → m ≤ n → tree m ≤ tree n
tree_mono zero n h = tree_some n
tree_mono (suc m) zero h = absurd (omega arith)
tree_mono (suc m) (suc n) h = let k : tree m ≤ tree n = tree_mono m n (omega arith) in omega arith

-- the root, and under it two trees that are less deep
two_trees : (l m n : ℕ) → l < n → m < n → suc (tree l + tree m) ≤ tree n
two_trees l m zero h k = absurd (omega arith)
two_trees l m (suc n) h k =
    let a : tree l ≤ tree n = tree_mono l n (omega arith) in
    let c : tree m ≤ tree n = tree_mono m n (omega arith) in
    omega arith

-- ---- what can be opened from the subproblems that wait

module _ (p : Plan) where
  abbrev pub size : Subproblem → ℕ
  size x = tree (length (unfixed p x))

  abbrev pub weight : List Subproblem → ℕ
  weight [] = 0
  weight (x ∷ xs) = size x + weight xs

  pub weight_some : (xs : List Subproblem) → (xs ≡ [] → ⊥) → 1 ≤ weight xs
  weight_some [] h = absurd (h refl)
  weight_some (x ∷ xs) h = let k : 1 ≤ size x = tree_some (length (unfixed p x)) in omega arith

  -- it has no more unfixed belts than there are named ones
  pub weight_free : weight (free ∷ []) ≤ tree (length (named p))
  weight_free =
      let k : length (unfixed p free) ≤ length (named p) = omega (arith, fixed_unfixed p free) in
      omega (arith, tree_mono (length (unfixed p free)) (length (named p)) k)

  -- the one that is taken and the others weigh as much as all
  pub weight_taken : (n : ℕ) (x : Subproblem) (xs : List Subproblem)
      → weight (x ∷ xs) ≡ size (take_at n x xs).0 + weight (take_at n x xs).1
  weight_taken zero x xs = refl
  weight_taken (suc n) x [] = refl
  weight_taken (suc n) x (y ∷ ys) =
      let e : weight (y ∷ ys) ≡ size (take_at n y ys).0 + weight (take_at n y ys).1 = weight_taken n y ys in
      omega arith

  -- two with fewer unfixed belts than x weigh less
  weight_two : (x y z : Subproblem) (xs : List Subproblem)
      → ((w : Subproblem) → Memᴰ w (y ∷ z ∷ []) → length (unfixed p w) < length (unfixed p x))
      → suc (weight (y ∷ z ∷ xs)) ≤ size x + weight xs
  weight_two x y z xs less =
      let h : length (unfixed p y) < length (unfixed p x) = less y (Memᴰ.head refl) in
      let k : length (unfixed p z) < length (unfixed p x) = less z (Memᴰ.tail (Memᴰ.head refl)) in
      omega (arith, two_trees (length (unfixed p y)) (length (unfixed p z)) (length (unfixed p x)) h k)

  pub weight_children : (o : ℕ) (x : Subproblem) (e : ℕ) (xs : List Subproblem) → Memᴰ e (unfixed p x)
      → suc (weight (children o p x e ++ xs)) ≤ size x + weight xs
  weight_children zero x e xs u = weight_two x (forbidding p x e) (requiring p x e) xs (λ y m. unfixed_less 0 p x e y m u)
  weight_children (suc o) x e xs u = weight_two x (requiring p x e) (forbidding p x e) xs (λ y m. unfixed_less (suc o) p x e y m u)
