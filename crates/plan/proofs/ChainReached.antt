-- Counting the links that lead to a record, and walking the links from records 0 to J, give the same verdict "reached once".
--
-- One idea: a record is met as often as the records that point at it are met. A walk meets r once for each link to r
-- that starts where the walk starts, and once for each such link of each record that it meets (`flow`). So the two
-- counts differ only in how often the records that hold links to r are counted: once each in `pointers`, as often as
-- they are met in `reached`. Where every record is met once, that is the same; and because links rise, whether r is
-- met once depends only on records below r (`once_reached`, by induction).
--
--   sum f xs           f x, added up for x in xs
--   links_at_holder     a link among those of record r is held by r
--   once_reached       every record above J is pointed at once: then every one is met once
--   reached_once       and the other way round
--
-- Assumes nothing.
use mathlib.Core.Path.{◌≡◌, refl, sym, ◌∙◌, ap}
use mathlib.Core.Logic.{◌⊎◌, inl, inr}
use mathlib.Core.Bool.{Bool, true, false}
use Prim.Native.Nat.{ℕ, zero, suc, ◌+◌, ◌*◌, ◌-◌, ◌≤◌, ◌<◌}
use mathlib.Core.List.Memᴰ
use mathlib.Core.List.{List, [], ◌∷◌, ◌++◌, Memᴰ, map}
use native.Mathlib.Omega.{arith}
use native.Mathlib.Nat.{mul-zero, zero-mul, suc-mul, eq-zero-or-pos}
use lib.Dec.{eqb, ltb}
use borrow.Author.Tests.{eqb-true, eq-eqb, ne_eqb, ltb-true, ltb-false}
use Rattle.plan.specs.Lists.{count_by, count, joined, iota, upto}
use Rattle.plan.specs.Records.{field, junctions, records, Use, Any, Unused, Between, Chain, row_at, use_at, fields, Link, link_by, links_at, links}
use Rattle.plan.specs.Refusals.{pointers}
use Rattle.plan.specs.Limits.{walk, reached}
use Rattle.plan.proofs.Lists.{test, eqb_sym, joined_in, iota_split, upto_step, upto_in, count_append, count_some}
use Rattle.plan.proofs.ChainLinks.{target, held_links, Upward, link_to_in, in_links}

-- ---- sums over lists

-- f x, added up for x in xs
abbrev sum : {A : Type 0} → (A → ℕ) → List A → ℕ
sum f [] = 0
sum f (x ∷ xs) = f x + sum f xs

module _ {A : Type 0} (f : A → ℕ) where
  -- the sum over two lists in a row
  sum_append : (xs ys : List A) → sum f (xs ++ ys) ≡ sum f xs + sum f ys
  sum_append [] ys = omega arith
  sum_append (x ∷ xs) ys = omega (arith, sum_append xs ys)

  -- two functions that agree on the elements
  sum_cong : (g : A → ℕ) (xs : List A) → ((x : A) → Memᴰ x xs → f x ≡ g x) → sum f xs ≡ sum g xs
  sum_cong g [] h = refl
  sum_cong g (x ∷ xs) h = λ i. h x (Memᴰ.head refl) i + sum_cong g xs (λ y m. h y (Memᴰ.tail m)) i

  -- two sums over one list
  sum_plus : (g : A → ℕ) (xs : List A) → sum (λ (x : A). f x + g x) xs ≡ sum f xs + sum g xs
  sum_plus g [] = refl
  sum_plus g (x ∷ xs) = omega (arith, sum_plus g xs)

  -- nothing to add
  sum_none : (xs : List A) → ((x : A) → Memᴰ x xs → f x ≡ 0) → sum f xs ≡ 0
  sum_none [] h = refl
  sum_none (x ∷ xs) h = omega (arith, h x (Memᴰ.head refl), sum_none xs (λ y m. h y (Memᴰ.tail m)))

-- the sum over joined lists is that of their sums
sum_joined : {A B : Type 0} (f : B → ℕ) (g : A → List B) (xs : List A) → sum f (joined g xs) ≡ sum (λ (x : A). sum f (g x)) xs
sum_joined f g [] = refl
sum_joined f g (x ∷ xs) = omega (arith, sum_append f (g x) (joined g xs), sum_joined f g xs)

-- and so what passes in joined lists
count_joined : {A B : Type 0} (f : B → Bool) (g : A → List B) (xs : List A) → count f (joined g xs) ≡ sum (λ (x : A). count f (g x)) xs
count_joined f g [] = refl
count_joined f g (x ∷ xs) = omega (arith, count_append f (g x) (joined g xs), count_joined f g xs)

-- ---- the numbers of a range

-- a range is cut in two at any number in it
upto_split : (lo mid hi : ℕ) → lo ≤ mid → mid ≤ hi → upto lo hi ≡ upto lo mid ++ upto mid hi
upto_split lo mid hi a z =
    let e : hi - lo ≡ (mid - lo) + (hi - mid) = omega arith in
    let k : lo + (mid - lo) ≡ mid = omega arith in
    ap (iota lo) e ∙ iota_split lo (mid - lo) (hi - mid) ∙ ap (λ (j : ℕ). upto lo mid ++ iota j (hi - mid)) k

-- f x where x is the number y, and zero elsewhere
abbrev only : (ℕ → ℕ) → ℕ → ℕ → ℕ
only f y x = count_by (eqb x y) 0 * f x

-- at y
only_same : (f : ℕ → ℕ) (y x : ℕ) → x ≡ y → only f y x ≡ f y
only_same f y x e = ap (λ (t : Bool). count_by t 0 * f x) (eq-eqb x y e) ∙ omega (arith, ap f e)

-- elsewhere
only_other : (f : ℕ → ℕ) (y x : ℕ) → (x ≡ y → ⊥) → only f y x ≡ 0
only_other f y x d = ap (λ (t : Bool). count_by t 0 * f x) (ne_eqb x y d) ∙ zero-mul (f x)

-- of a range that has y, only f y is left
sum_only : (f : ℕ → ℕ) (y lo hi : ℕ) → lo ≤ y → y < hi → sum (only f y) (upto lo hi) ≡ f y
sum_only f y lo hi a z =
    ap (sum (only f y)) (upto_split lo y hi a (omega arith) ∙ ap (λ (l : List ℕ). upto lo y ++ l) (upto_step y hi z))
    ∙ sum_append (only f y) (upto lo y) (y ∷ upto (y + 1) hi)
    ∙ omega (arith, only_same f y y refl, below, above)
  where
    below : sum (only f y) (upto lo y) ≡ 0
    below = sum_none (only f y) (upto lo y) (λ x m. only_other f y x (λ e. omega (arith, (upto_in lo y x m).1)))

    above : sum (only f y) (upto (y + 1) hi) ≡ 0
    above = sum_none (only f y) (upto (y + 1) hi) (λ x m. only_other f y x (λ e. omega (arith, (upto_in (y + 1) hi x m).0)))

-- one more occurrence counts v once more
counted_times : (t : Bool) (n v : ℕ) → count_by t n * v ≡ count_by t 0 * v + n * v
counted_times true n v = omega (arith, suc-mul n v)
counted_times false n v = omega arith

-- a sum over numbers of a range, each as often as it stands in the list
sum_counts : (f : ℕ → ℕ) (lo hi : ℕ) (xs : List ℕ) → ((x : ℕ) → Memᴰ x xs → (lo ≤ x) × (x < hi))
    → sum f xs ≡ sum (λ (x : ℕ). count (eqb x) xs * f x) (upto lo hi)
sum_counts f lo hi [] h = sym (sum_none (λ (x : ℕ). 0 * f x) (upto lo hi) (λ x m. zero-mul (f x)))
sum_counts f lo hi (y ∷ ys) h =
    let w = h y (Memᴰ.head refl) in
    omega (arith, apart, sum_only f y lo hi w.0 w.1, sum_counts f lo hi ys (λ x m. h x (Memᴰ.tail m)))
  where
    later : ℕ → ℕ
    later x = count (eqb x) ys * f x

    apart : sum (λ (x : ℕ). count (eqb x) (y ∷ ys) * f x) (upto lo hi) ≡ sum (only f y) (upto lo hi) + sum later (upto lo hi)
    apart =
        sum_cong (λ (x : ℕ). count (eqb x) (y ∷ ys) * f x) (λ (x : ℕ). only f y x + later x) (upto lo hi) (λ x m. counted_times (eqb x y) (count (eqb x) ys) (f x))
        ∙ sum_plus (only f y) later (upto lo hi)

-- ---- links

-- a link of one field of record r is held by r
link_by_holder : (u : Use) (r v : ℕ) (l : Link) → Memᴰ l (link_by u r v) → l.holder ≡ r
link_by_holder Any r v l m = absurd (Memᴰ.not-nil m)
link_by_holder Unused r v l m = absurd (Memᴰ.not-nil m)
link_by_holder (Between a z) r v l m = absurd (Memᴰ.not-nil m)
link_by_holder (Chain k) r v l m = ap (λ (x : Link). x.holder) (link_to_in r v k l m).0

-- and of all fields: the links of record r are held by r
links_at_holder : (b : List ℕ) (r : ℕ) (l : Link) → Memᴰ l (links_at b r) → l.holder ≡ r
unfolding links_at
links_at_holder b r l m =
    let x = joined_in (λ (f : ℕ). link_by (use_at (row_at b r) f) r (field b r f)) fields m in
    link_by_holder (use_at (row_at b r) x.0) r (field b r x.0) l x.2

-- a walk along the links ls, where the equation holds beyond each of them
flow_along : (r : ℕ) (to : ℕ → ℕ) (walk : ℕ → List ℕ) (ls : List Link)
    → ((l : Link) → Memᴰ l ls → count (eqb r) (walk l.index) ≡ to l.index + sum to (walk l.index))
    → count (eqb r) (joined (λ (l : Link). l.index ∷ walk l.index) ls) ≡ pointers ls r + sum to (joined (λ (l : Link). l.index ∷ walk l.index) ls)
flow_along r to walk [] h = refl
flow_along r to walk (l ∷ ls) h =
    ap (λ (t : Bool). count_by t (count (eqb r) (from ++ rest))) (eqb_sym r l.index)
    ∙ go (eqb l.index r) (h l (Memᴰ.head refl)) (flow_along r to walk ls (λ k m. h k (Memᴰ.tail m)))
  where
    from : List ℕ
    from = walk l.index

    rest : List ℕ
    rest = joined (λ (k : Link). k.index ∷ walk k.index) ls

    go : (t : Bool) → count (eqb r) from ≡ to l.index + sum to from → count (eqb r) rest ≡ pointers ls r + sum to rest
        → count_by t (count (eqb r) (from ++ rest)) ≡ count_by t (pointers ls r) + (to l.index + sum to (from ++ rest))
    go true p q = omega (arith, count_append (eqb r) from rest, sum_append to from rest)
    go false p q = omega (arith, count_append (eqb r) from rest, sum_append to from rest)

-- ---- the two counts

-- records 0 to J, from which the walk starts; those above J; and being one of them
abbrev firsts : List ℕ → List ℕ
firsts b = upto 0 (suc (junctions b))

abbrev others : List ℕ → List ℕ
others b = upto (suc (junctions b)) (records b)

abbrev Other : List ℕ → ℕ → Type 0
Other b r = (suc (junctions b) ≤ r) × (r < records b)

-- the records met from record i on, in at most n links, and those met from records 0 to J on
abbrev met : List ℕ → ℕ → ℕ → List ℕ
met b zero i = []
met b (suc n) i = joined (λ (l : Link). l.index ∷ met b n l.index) (links_at b i)

met_all : List ℕ → List ℕ
met_all b = joined (met b (records b)) (firsts b)

-- a link of record i leads above i, above J and below N
abbrev LeadsUp : List ℕ → ℕ → Link → Type 0
LeadsUp b i l = (i < l.index) × (l.index < records b) × (junctions b < l.index)

-- how many links of record x lead to record r
abbrev links_to : List ℕ → ℕ → ℕ → ℕ
links_to b r x = pointers (links_at b x) r

-- the limits walk along chain fields, which hold the same indices
joined_map : (f : ℕ → List ℕ) (ls : List Link) → joined f (map target ls) ≡ joined (λ (l : Link). f l.index) ls
joined_map f [] = refl
joined_map f (l ∷ ls) = ap (λ (xs : List ℕ). f l.index ++ xs) (joined_map f ls)

joined_same : {A : Type 0} (f g : A → List ℕ) → ((a : A) → f a ≡ g a) → (xs : List A) → joined f xs ≡ joined g xs
joined_same f g h [] = refl
joined_same f g h (x ∷ xs) = λ i. h x i ++ joined_same f g h xs i

walk_met : (b : List ℕ) (n i : ℕ) → walk b n i ≡ met b n i
walk_met b zero i = refl
walk_met b (suc n) i =
    ap (joined (λ (x : ℕ). x ∷ walk b n x)) (held_links b i)
    ∙ joined_map (λ (x : ℕ). x ∷ walk b n x) (links_at b i)
    ∙ joined_same (λ (l : Link). l.index ∷ walk b n l.index) (λ (l : Link). l.index ∷ met b n l.index) (λ l. ap (λ (xs : List ℕ). l.index ∷ xs) (walk_met b n l.index)) (links_at b i)

reached_met : (b : List ℕ) → reached b ≡ met_all b
unfolding reached met_all
reached_met b = joined_same (walk b (records b)) (met b (records b)) (walk_met b (records b)) (firsts b)

module _ (b : List ℕ) (room : junctions b < records b) (well : Upward b) where
  -- the links of one record, by its own index
  well_at : (i : ℕ) → i < records b → (l : Link) → Memᴰ l (links_at b i) → LeadsUp b i l
  well_at i h l m =
      let w = well l (in_links b i l h m) in
      let lower : l.holder < l.index = w.0 in
      let e : l.holder ≡ i = links_at_holder b i l m in
      (omega arith, w.1, w.2)

  -- a record that has a link to r stands before r
  none_to : (r x : ℕ) → x < records b → r ≤ x → links_to b r x ≡ 0
  none_to r x h k = go (eq-zero-or-pos (links_to b r x))
    where
      go : (links_to b r x ≡ 0) ⊎ (0 < links_to b r x) → links_to b r x ≡ 0
      go (inl e) = e
      go (inr p) =
          let s = count_some (λ (l : Link). eqb l.index r) (links_at b x) p in
          absurd (omega (arith, eqb-true s.0.index r s.2, (well_at x h s.0 s.1).0))

  -- what is met lies above J and below N
  met_within : (n i r : ℕ) → i < records b → Memᴰ r (met b n i) → Other b r
  met_within zero i r h m = absurd (Memᴰ.not-nil m)
  met_within (suc n) i r h m =
      let s = joined_in (λ (l : Link). l.index ∷ met b n l.index) (links_at b i) m in
      go s.0 (well_at i h s.0 s.1) (Memᴰ.cases_cons s.2) (met_within n s.0.index r)
    where
      go : (l : Link) → LeadsUp b i l → (r ≡ l.index) ⊎ Memᴰ r (met b n l.index)
          → (l.index < records b → Memᴰ r (met b n l.index) → Other b r) → Other b r
      go l w (inl e) below = (omega (arith, w.2), omega (arith, w.1))
      go l w (inr k) below = below w.1 k

  -- and so what is reached
  met_all_within : (r : ℕ) → Memᴰ r (met_all b) → Other b r
  unfolding met_all
  met_all_within r m =
      let s = joined_in (met b (records b)) (firsts b) m in
      let low : s.0 < suc (junctions b) = (upto_in 0 (suc (junctions b)) s.0 s.1).1 in
      met_within (records b) s.0 r (omega arith) s.2

  -- r is met from i on as often as i, and what is met from i on, has links to it
  flow : (r n i : ℕ) → i < records b → records b ≤ n + i → count (eqb r) (met b n i) ≡ links_to b r i + sum (links_to b r) (met b n i)
  flow r zero i h k = absurd (omega arith)
  flow r (suc n) i h k =
      flow_along r (links_to b r) (met b n) (links_at b i) (λ l m. let w = well_at i h l m in flow r n l.index w.1 (omega (arith, w.0)))

  -- the same of all that is met from records 0 to J on
  flow_all : (r : ℕ) → count (eqb r) (met_all b) ≡ sum (links_to b r) (firsts b) + sum (links_to b r) (met_all b)
  unfolding met_all
  flow_all r =
      count_joined (eqb r) (met b (records b)) (firsts b)
      ∙ sum_cong (λ (i : ℕ). count (eqb r) (met b (records b) i)) (λ (i : ℕ). links_to b r i + sum (links_to b r) (met b (records b) i)) (firsts b) one
      ∙ sum_plus (links_to b r) (λ (i : ℕ). sum (links_to b r) (met b (records b) i)) (firsts b)
      ∙ ap (λ (n : ℕ). sum (links_to b r) (firsts b) + n) (sym (sum_joined (links_to b r) (met b (records b)) (firsts b)))
    where
      one : (i : ℕ) → Memᴰ i (firsts b) → count (eqb r) (met b (records b) i) ≡ links_to b r i + sum (links_to b r) (met b (records b) i)
      one i m = let low : i < suc (junctions b) = (upto_in 0 (suc (junctions b)) i m).1 in flow r (records b) i (omega arith) (omega arith)

  -- the links to r, by the records that hold them
  pointers_sum : (r : ℕ) → pointers (links b) r ≡ sum (links_to b r) (firsts b) + sum (links_to b r) (others b)
  unfolding links
  pointers_sum r =
      count_joined (λ (l : Link). eqb l.index r) (links_at b) (upto 0 (records b))
      ∙ ap (sum (links_to b r)) (upto_split 0 (suc (junctions b)) (records b) (omega arith) room)
      ∙ sum_append (links_to b r) (firsts b) (others b)

  -- the two counts agree where every record before r is met once
  agree : (r : ℕ) → ((x : ℕ) → junctions b < x → x < records b → x < r → count (eqb x) (met_all b) ≡ 1) → count (eqb r) (met_all b) ≡ pointers (links b) r
  agree r once = omega (arith, flow_all r, pointers_sum r, same)
    where
      once_or_none : (x : ℕ) → junctions b < x → x < records b → (ltb x r ≡ true) ⊎ (ltb x r ≡ false) → count (eqb x) (met_all b) * links_to b r x ≡ links_to b r x
      once_or_none x a z (inl t) = ap (λ (n : ℕ). n * links_to b r x) (once x a z (ltb-true x r t)) ∙ omega arith
      once_or_none x a z (inr t) =
          let e : links_to b r x ≡ 0 = none_to r x z (ltb-false x r t) in
          ap (λ (n : ℕ). count (eqb x) (met_all b) * n) e ∙ mul-zero (count (eqb x) (met_all b)) ∙ sym e

      each : (x : ℕ) → Memᴰ x (others b) → count (eqb x) (met_all b) * links_to b r x ≡ links_to b r x
      each x m = let w = upto_in (suc (junctions b)) (records b) x m in once_or_none x w.0 w.1 (test (ltb x r))

      same : sum (links_to b r) (met_all b) ≡ sum (links_to b r) (others b)
      same =
          sum_counts (links_to b r) (suc (junctions b)) (records b) (met_all b) met_all_within
          ∙ sum_cong (λ (x : ℕ). count (eqb x) (met_all b) * links_to b r x) (links_to b r) (others b) each

  -- by induction on what r lies below
  below : ((r : ℕ) → junctions b < r → r < records b → pointers (links b) r ≡ 1)
      → (top r : ℕ) → r < top → junctions b < r → r < records b → count (eqb r) (met_all b) ≡ 1
  below once zero r k l u = absurd (omega arith)
  below once (suc top) r k l u = agree r (λ x a z j. below once top x (omega arith) a z) ∙ once r l u

  -- every record above J is pointed at once: then every one is reached once
  pub once_reached : ((r : ℕ) → junctions b < r → r < records b → pointers (links b) r ≡ 1)
      → (r : ℕ) → junctions b < r → r < records b → count (eqb r) (reached b) ≡ 1
  once_reached once r l u = ap (count (eqb r)) (reached_met b) ∙ below once (records b) r u l u

  -- and the other way round
  pub reached_once : ((r : ℕ) → junctions b < r → r < records b → count (eqb r) (reached b) ≡ 1)
      → (r : ℕ) → junctions b < r → r < records b → pointers (links b) r ≡ 1
  reached_once once r l u =
      let all : (x : ℕ) → junctions b < x → x < records b → count (eqb x) (met_all b) ≡ 1 = λ x a z. ap (count (eqb x)) (sym (reached_met b)) ∙ once x a z in
      sym (agree r (λ x a z k. all x a z)) ∙ all r l u
