-- The list and the places of the named belts: the arrays that the code makes, and what they say.
--
--   drop_replicate    what is left of a fresh array is fresh
--   length_listed, listed_at
--                     the array has 48 places, and the first of them hold the named belts
--   ids_sets          belts stored from the front of a fresh array stand there, and the rest of it is fresh
--   listed_sets       stored in an array of 48 they are `listed`
--   numbered          the elements of a list numbered in an array
--   numbered_places   numbered in an array of 2,048 they are `places_of`
--   place_is          the place that this array has for a belt is its place
--   place_in_lem          a named belt has the place that the belts before it leave it
--   at_place          at its place in the list stands the belt; place_at: every number below their count is the place of one
--
-- Assumes nothing.
use mathlib.Core.Path.{◌≡◌, refl, sym, ◌∙◌, ap}
use mathlib.Core.Logic.{◌⊎◌, inl, inr}
use mathlib.Core.Bool.{Bool, true, false, ◌||◌}
use Prim.Native.Nat.{ℕ, zero, suc, ◌+◌, ◌-◌, ◌≤◌, ◌<◌}
use mathlib.Core.List.{List, [], ◌∷◌, ◌++◌, map, Memᴰ}
use native.Mathlib.Omega.{arith}
use lib.ListN.{length, get_or, drop, set, replicate, length-set, length-map, length-replicate, get_or-replicate, length-append, get_or-append, get_or-map}
use lib.Seq.{get_or-set_same, get_or-set_other, sets, sets-eq}
use lib.Dec.{eqb, ltb}
use borrow.Author.Tests.{eqb-true, eqb-false, ne_eqb, lt-ltb, le-ltb}
use Rattle.plan.specs.Bounds.{max_named, max_records}
use Rattle.plan.specs.Plan.{Place}
use Rattle.std.specs.Prelude.{Some, None}
use Rattle.plan.specs.Lists.{count_by, count, mem, iota}
use Rattle.plan.specs.Plan.{belt_id, listed, place_by, place_of, place_code, places_of, code_place, place_in}
use Rattle.plan.proofs.Lists.{test, none_any, get_d_iota, map_iota, in_mem, mem_in}
use Rattle.plan.proofs.ListCounts.{count_none}
use Rattle.plan.proofs.ListRising.{Rises, none, more}

-- ---- the list

pub drop_replicate : {A : Type 0} (k n : ℕ) (a : A) → drop k (replicate n a) ≡ replicate (n - k) a
drop_replicate zero n a = let e : n ≡ n - 0 = omega arith in ap (λ (m : ℕ). replicate m a) e
drop_replicate (suc k) zero a = let e : 0 ≡ 0 - suc k = omega arith in ap (λ (m : ℕ). replicate m a) e
drop_replicate (suc k) (suc n) a =
    let e : n - k ≡ suc n - suc k = omega arith in
    drop_replicate k n a ∙ ap (λ (m : ℕ). replicate m a) e

-- what is stored from the front of a fresh array stands there, and the rest of it is fresh
stored : {A : Type 0} (n : ℕ) (a : A) (vs : List A) → length vs ≤ n → sets (replicate n a) 0 vs ≡ vs ++ replicate (n - length vs) a
stored n a vs h =
    let size = length-replicate n a in
    let e : n - (0 + length vs) ≡ n - length vs = omega arith in
    sets-eq vs (replicate n a) 0 (omega arith) ∙ ap (λ (l : List _). vs ++ l) (drop_replicate (0 + length vs) n a ∙ ap (λ (m : ℕ). replicate m a) e)

-- the array has 48 places, and the first of them hold the named belts
pub length_listed : (ns : List ℕ) → length ns ≤ max_named → length (listed ns) ≡ max_named
length_listed ns h =
    omega (arith, length-append (map belt_id ns) (replicate (max_named - length ns) (belt_id 0)), length-map ns belt_id, length-replicate (max_named - length ns) (belt_id 0))

pub listed_at : (ns : List ℕ) (k : ℕ) → k < length ns → get_or (listed ns) k (belt_id 0) ≡ belt_id (get_or ns k 0)
listed_at ns k h =
    get_or-append (map belt_id ns) (replicate (max_named - length ns) (belt_id 0)) (belt_id 0) k (omega (arith, length-map ns belt_id)) ∙ get_or-map belt_id ns k 0

pub ids_sets : (n : ℕ) (es : List ℕ) → length es ≤ n
    → sets (replicate n (belt_id 0)) 0 (map belt_id es) ≡ map belt_id es ++ replicate (n - length es) (belt_id 0)
ids_sets n es h =
    let size = length-map es belt_id in
    stored n (belt_id 0) (map belt_id es) (omega arith) ∙ ap (λ (m : ℕ). map belt_id es ++ replicate (n - m) (belt_id 0)) size

pub listed_sets : (ns : List ℕ) → length ns ≤ max_named → sets (replicate max_named (belt_id 0)) 0 (map belt_id ns) ≡ listed ns
listed_sets = ids_sets max_named

-- ---- lists that rise

-- none that are past e are below it
none_below : (e : ℕ) (xs : List ℕ) → ((n : ℕ) → Memᴰ n xs → e < n) → count (λ (n : ℕ). ltb n e) xs ≡ 0
none_below e xs h = count_none (λ (n : ℕ). ltb n e) xs (λ n m. le-ltb n e (omega (arith, h n m)))

-- at its place stands the belt
pub at_place : (e : ℕ) {ns : List ℕ} → Rises ns → Memᴰ e ns → (get_or ns (count (λ (n : ℕ). ltb n e) ns) 0 ≡ e) × (count (λ (n : ℕ). ltb n e) ns < length ns)
at_place e (more {x} {xs} h r) (Memᴰ.head q) =
    let zero-lower = none_below e xs (λ n m. omega (arith, h n m)) in
    let k : count_by (ltb x e) (count (λ (n : ℕ). ltb n e) xs) ≡ 0 = ap (λ (t : Bool). count_by t (count (λ (n : ℕ). ltb n e) xs)) (le-ltb x e (omega arith)) ∙ zero-lower in
    (ap (λ (i : ℕ). get_or (x ∷ xs) i 0) k ∙ sym q, omega arith)
at_place e (more {x} {xs} h r) (Memᴰ.tail m) =
    let k : count_by (ltb x e) (count (λ (n : ℕ). ltb n e) xs) ≡ suc (count (λ (n : ℕ). ltb n e) xs) = ap (λ (t : Bool). count_by t (count (λ (n : ℕ). ltb n e) xs)) (lt-ltb x e (h e m)) in
    let below = at_place e r m in
    (ap (λ (i : ℕ). get_or (x ∷ xs) i 0) k ∙ below.0, omega (arith, below.1))
at_place e none x3 = elim x3 [ ]

-- every number below their count is the place of one of them
pub place_at : {ns : List ℕ} → Rises ns → (k : ℕ) → k < length ns → (e : ℕ) × Memᴰ e ns × (count (λ (n : ℕ). ltb n e) ns ≡ k)
place_at none k l = absurd (omega arith)
place_at (more {x} {xs} h r) zero l =
    (x, Memᴰ.head refl, ap (λ (t : Bool). count_by t (count (λ (n : ℕ). ltb n x) xs)) (le-ltb x x (omega arith)) ∙ none_below x xs h)
place_at (more {x} {xs} h r) (suc k) l =
    let (e, m, q) = place_at r k (omega arith) in
    (e, Memᴰ.tail m, ap (λ (t : Bool). count_by t (count (λ (n : ℕ). ltb n e) xs)) (lt-ltb x e (h e m)) ∙ ap suc q)

pub place_in_lem : (e : ℕ) (ns : List ℕ) → Memᴰ e ns → place_of ns e ≡ Some (count (λ (n : ℕ). ltb n e) ns)
place_in_lem e ns m = ap (λ (t : Bool). place_by t (count (λ (n : ℕ). ltb n e) ns)) (in_mem ns m)

-- ---- the array of places

-- the elements of es numbered in an array, from k + 1 on
abbrev pub numbered : List ℕ → ℕ → List ℕ → List ℕ
numbered places k [] = places
numbered places k (e ∷ es) = numbered (set places e (suc k)) (suc k) es

length_numbered : (places : List ℕ) (k : ℕ) (es : List ℕ) → length (numbered places k es) ≡ length places
length_numbered places k [] = refl
length_numbered places k (e ∷ es) = length_numbered (set places e (suc k)) (suc k) es ∙ length-set places e (suc k)

-- the code of a place, or what was there
abbrev code_by : Bool → ℕ → ℕ → ℕ
code_by true k m = suc k
code_by false k m = m

numbered_at : (places : List ℕ) (k e : ℕ) {es : List ℕ} → Rises es → e < length places
    → get_or (numbered places k es) e 0 ≡ code_by (mem e es) (k + count (λ (n : ℕ). ltb n e) es) (get_or places e 0)
numbered_at places k e none l = refl
numbered_at places k e (more {x} {xs} h r) l =
    let size = length-set places x (suc k) in
    numbered_at (set places x (suc k)) (suc k) e r (omega arith) ∙ go (test (eqb e x))
  where
    lower : ℕ
    lower = count (λ (n : ℕ). ltb n e) xs

    -- e is not the first
    later : (t : Bool) → mem e xs ≡ t → code_by t (suc k + lower) (get_or places e 0) ≡ code_by t (k + count_by (ltb x e) lower) (get_or places e 0)
    later true m =
        let c : suc lower ≡ count_by (ltb x e) lower = sym (ap (λ (s : Bool). count_by s lower) (lt-ltb x e (h e (mem_in xs m)))) in
        let s : suc k + lower ≡ k + count_by (ltb x e) lower = omega arith in
        ap suc s
    later false m = refl

    go : (eqb e x ≡ true) ⊎ (eqb e x ≡ false)
        → code_by (mem e xs) (suc k + lower) (get_or (set places x (suc k)) e 0) ≡ code_by (eqb e x || mem e xs) (k + count_by (ltb x e) lower) (get_or places e 0)
    go (inl t) =
        let q = eqb-true e x t in
        let out : mem e xs ≡ false = none_any (eqb e) xs (λ n m. ne_eqb e n (λ s. omega (arith, h n m))) in
        let zero-lower : lower ≡ 0 = none_below e xs (λ n m. omega (arith, h n m)) in
        let c : count_by (ltb x e) lower ≡ lower = ap (λ (s : Bool). count_by s lower) (le-ltb x e (omega arith)) in
        let s : suc k ≡ suc (k + count_by (ltb x e) lower) = omega arith in
        ap (λ (s : Bool). code_by s (suc k + lower) (get_or (set places x (suc k)) e 0)) out
        ∙ ap (λ (i : ℕ). get_or (set places i (suc k)) e 0) (sym q)
        ∙ get_or-set_same places e (suc k) 0 l
        ∙ s
        ∙ sym (ap (λ (s : Bool). code_by (s || mem e xs) (k + count_by (ltb x e) lower) (get_or places e 0)) t)
    go (inr t) =
        ap (code_by (mem e xs) (suc k + lower)) (get_or-set_other places x e (suc k) 0 (eqb-false e x t))
        ∙ later (mem e xs) refl
        ∙ sym (ap (λ (s : Bool). code_by (s || mem e xs) (k + count_by (ltb x e) lower) (get_or places e 0)) t)

abbrev code_of : List ℕ → ℕ → ℕ
code_of ns e = place_code (place_of ns e)

code_by_lem : (t : Bool) (k : ℕ) → code_by t k 0 ≡ place_code (place_by t k)
code_by_lem true k = refl
code_by_lem false k = refl

-- for an array of any length
numbered_codes : (size : ℕ) (ns : List ℕ) → Rises ns → numbered (replicate size 0) 0 ns ≡ map (code_of ns) (iota 0 size)
numbered_codes size ns r =
    let full = length-replicate {A = ℕ} size 0 in
    map_iota (code_of ns) 0 size 0 (numbered (replicate size 0) 0 ns) (length_numbered (replicate size 0) 0 ns ∙ full) (λ e fits.
    let lower = count (λ (n : ℕ). ltb n e) ns in
    let z : 0 + lower ≡ lower = omega arith in
    let same : e ≡ 0 + e = omega arith in
    numbered_at (replicate size 0) 0 e r (omega arith)
    ∙ (λ i. code_by (mem e ns) (z i) (get_or-replicate {A = ℕ} size e 0 0 fits i))
    ∙ code_by_lem (mem e ns) lower
    ∙ ap (code_of ns) same)

pub numbered_places : (ns : List ℕ) → Rises ns → numbered (replicate max_records 0) 0 ns ≡ places_of ns
unfolding places_of
numbered_places ns r = numbered_codes max_records ns r

-- ---- reading it

code_back : (p : Place) → code_place (place_code p) ≡ p
code_back (Some k) = refl
code_back None = refl

pub place_is : (ns : List ℕ) (e : ℕ) → e < max_records → place_in (places_of ns) e ≡ place_of ns e
unfolding places_of
place_is ns e h =
    let same : 0 + e ≡ e = omega arith in
    ap code_place (get_d_iota (code_of ns) 0 max_records e 0 h ∙ ap (code_of ns) same) ∙ code_back (place_of ns e)
