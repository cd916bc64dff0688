-- The picks: the code tells belts by their places among the named belts, and picks as the definition does.
--
--   lowest_at         the first place that is kept and passes, by the trailing zeros of a mask of such places
--   free_bits         the mask of the places that are unfixed and in a mask
--   find_all          where every place passes, the first of all
--   busiest_from xs m k n
--                     the busiest, by the counts xs, of the places from k on, of n, that the mask m does not have
--   busiest_none, busiest_fixed, busiest_kept, busiest_taken, busiest_all
--                     there is none past the last place; after one more place it is the same, since the place is fixed or has a lower count, or it is
--                     that place; from the first place on it is the busiest of all
--   else_at, else_none
--                     a place that was looked for, or else another
--   picks_lowest, picks_busiest, picks_on
--                     what each pick gives by places is the place of what it gives by belts
--   mask_at           a mask has the named belt at a place exactly where it has the place
--   pick_cong         tests that agree on the named belts pick the same
--
-- The unfixed belts are those at the unfixed places, in the same order. So whatever is chosen among the ones by their order and their counts
-- is chosen among the others at the same position: Matched says of two choices that they are none and none, or a belt and its place.
-- Assumes nothing.
use mathlib.Core.Path.{◌≡◌, refl, sym, ◌∙◌, ap, subst}
use mathlib.Core.Bool.{Bool, true, false, not, ◌&&◌, ◌||◌, and-true}
use mathlib.Core.Option.{Option, none, some}
use Prim.Native.Nat.{ℕ, zero, suc, ◌+◌, ◌-◌, ◌≤◌, ◌<◌}
use mathlib.Core.List.{List, [], ◌∷◌, map, head?, Memᴰ}
use native.Mathlib.Omega.{arith}
use native.Mathlib.Numerals.{add-one}
use lib.Bits.{bit_or, bit_xor}
use lib.Count.{count_trailing_zeros}
use lib.ListN.{length, get_or}
use lib.Dec.{ltb}
use borrow.Author.Tests.{lt-ltb, le-ltb, ltb-true, ltb-false}
use Rattle.std.specs.Prelude as code
use Rattle.std.specs.Bool.{then_some}
use Rattle.std.specs.Prelude.{Some, None}
use Rattle.plan.specs.Lists.{keep, mem, iota, upto}
use Rattle.plan.specs.Plan.{Plan, plan_of, named}
use Rattle.plan.specs.Reading.{Accepted}
use Rattle.plan.proofs.Lists.{both, keep_in, map_iota, upto_in, keep_cong, keep_map}
use Rattle.plan.proofs.ListCounts.{keep_first, keep_rest, keep_done}
use Rattle.plan.proofs.ListRising.{Rises}
use Rattle.plan.proofs.NamedBelts.{named_rises}
use Rattle.route.specs.declared.relax.Fixings.{Fixings}
use Rattle.route.specs.Permission.{find, or_else, otherwise}
use Rattle.route.specs.Subproblems.{Subproblem}
use Rattle.route.specs.Values.{in_mask, fixed_in, subproblem_in, has_belt}
use Rattle.route.proofs.MaskBits.{or_set, without_set, lowest_none, lowest_set}
use Rattle.route.proofs.RulesLowest.{find_cong}
use Rattle.route.proofs.MaskFixings.{fixed_mem}
use Rattle.search.specs.Branching.{is_fixed, unfixed, rule_count, higher, highest, pick_of}
use Rattle.search.specs.Values.{numbers_of, count_at, picked_place}
use Rattle.search.specs.Inner.{unfixed_at, unfixed_places, at_place}
use Rattle.search.proofs.BranchCounts.{stands}
use Rattle.search.proofs.PrepareNumbers.{numbers_count}

-- ---- the first place that is kept and passes

module _ (f g : ℕ → Bool) (n : ℕ) where
  -- the places from k on
  abbrev found_from : ℕ → Option ℕ
  found_from k = find g (keep f (upto k n))

  -- where k is kept
  at_kept : (k : ℕ) → k < n → f k ≡ true → (t : Bool) → g k ≡ t → found_from k ≡ or_else t k (found_from (k + 1))
  at_kept k l h t q = ap (find g) (keep_first f k n l h) ∙ ap (λ (s : Bool). or_else s k (found_from (k + 1))) q

  -- one that is not kept, or does not pass, is passed over
  passed_over : (k : ℕ) → k < n → (g k && f k) ≡ false → found_from k ≡ found_from (suc k)
  passed_over k l h = go (f k) refl ∙ ap found_from (add-one k)
    where
      go : (t : Bool) → f k ≡ t → found_from k ≡ found_from (k + 1)
      go false e = ap (find g) (keep_rest f k n l e)
      go true e = at_kept k l e false (sym (and-true (g k)) ∙ sym (ap (λ (t : Bool). g k && t) e) ∙ h)

  all_over : (k : ℕ) → k ≤ n → ((j : ℕ) → j < k → (g j && f j) ≡ false) → found_from 0 ≡ found_from k
  all_over zero l h = refl
  all_over (suc k) l h = all_over k (omega arith) (λ j m. h j (omega arith)) ∙ passed_over k (omega arith) (h k (omega arith))

  module _ (w x : ℕ) (few : n ≤ w) (bits : (k : ℕ) → in_mask x (Some k) ≡ (g k && f k)) where
    pub lowest_here : count_trailing_zeros w x < n → found_from 0 ≡ some (count_trailing_zeros w x)
    lowest_here l =
        let k = count_trailing_zeros w x in
        let (passes-k, kept-k) = both (g k) (f k) (sym (bits k) ∙ lowest_set w x (omega arith)) in
        all_over k (omega arith) (λ j m. sym (bits j) ∙ lowest_none w x j m) ∙ at_kept k l kept-k true passes-k

    pub lowest_over : n ≤ count_trailing_zeros w x → found_from 0 ≡ none
    lowest_over l =
        all_over n (omega arith) (λ j m. sym (bits j) ∙ lowest_none w x j (omega arith)) ∙ ap (find g) (keep_done f n n (omega arith))

    pub lowest_at : then_some (ltb (count_trailing_zeros w x) n) (count_trailing_zeros w x) ≡ at_place (found_from 0)
    lowest_at = go (ltb (count_trailing_zeros w x) n) refl
      where
        go : (t : Bool) → ltb (count_trailing_zeros w x) n ≡ t → then_some t (count_trailing_zeros w x) ≡ at_place (found_from 0)
        go true e = sym (ap at_place (lowest_here (ltb-true (count_trailing_zeros w x) n e)))
        go false e = sym (ap at_place (lowest_over (ltb-false (count_trailing_zeros w x) n e)))

pub free_bits : (f : Fixings) (m k : ℕ) → let fixed = bit_or f.required f.forbidden in
    in_mask (bit_xor (bit_or m fixed) fixed) (Some k) ≡ (in_mask m (Some k) && unfixed_at f k)
free_bits f m k =
    without_set m (bit_or f.required f.forbidden) k
    ∙ ap (λ (t : Bool). in_mask m (Some k) && not t) (or_set f.required f.forbidden k)

pub find_all : (g : ℕ → Bool) (ks : List ℕ) → ((k : ℕ) → Memᴰ k ks → g k ≡ true) → find g ks ≡ head? ks
find_all g [] h = refl
find_all g (k ∷ ks) h = ap (λ (t : Bool). or_else t k (find g ks)) (h k (Memᴰ.head refl))

-- ---- the busiest, place by place

-- the busiest of the places from k on, of n, that the mask m does not have
abbrev pub busiest_from : List ℕ → ℕ → ℕ → ℕ → Option ℕ
busiest_from xs m k n = highest (count_at xs) (keep (λ (j : ℕ). not (in_mask m (Some j))) (upto k n))

module _ (xs : List ℕ) (m n : ℕ) where
  pub busiest_none : None ≡ at_place (busiest_from xs m n n)
  busiest_none = sym (ap (λ (ks : List ℕ). at_place (highest (count_at xs) ks)) (keep_done (λ (j : ℕ). not (in_mask m (Some j))) n n (omega arith)))

  -- the place k is the next below the place i
  module _ (i k : ℕ) (e : k + 1 ≡ i) (l : k < n) where
    pub busiest_fixed : in_mask m (Some k) ≡ true → busiest_from xs m i n ≡ busiest_from xs m k n
    busiest_fixed h =
        sym (ap (highest (count_at xs)) (keep_rest (λ (j : ℕ). not (in_mask m (Some j))) k n l (ap not h)) ∙ ap (λ (j : ℕ). busiest_from xs m j n) e)

    busiest_first : in_mask m (Some k) ≡ false → busiest_from xs m k n ≡ higher (count_at xs) k (busiest_from xs m i n)
    busiest_first h =
        ap (highest (count_at xs)) (keep_first (λ (j : ℕ). not (in_mask m (Some j))) k n l (ap not h))
        ∙ ap (λ (j : ℕ). higher (count_at xs) k (busiest_from xs m j n)) e

    module _ (free : in_mask m (Some k) ≡ false) (best : code.Option ℕ) (is : best ≡ at_place (busiest_from xs m i n)) where
      pub busiest_kept : (j : ℕ) → best ≡ Some j → count_at xs k < count_at xs j → best ≡ at_place (busiest_from xs m k n)
      busiest_kept j found less = subst (λ (o : Option ℕ). best ≡ at_place o) (sym (busiest_first free)) (go (busiest_from xs m i n) is)
        where
          go : (o : Option ℕ) → best ≡ at_place o → best ≡ at_place (higher (count_at xs) k o)
          go none q = let z : None ≡ Some j = sym q ∙ found in cc
          go (some h) q =
              let same : Some h ≡ Some j = sym q ∙ found in
              let at : h ≡ j = cc in
              subst (λ (t : Bool). best ≡ at_place (elim t [ true ↦ some h | false ↦ some k ]))
              (sym (lt-ltb (count_at xs k) (count_at xs h) (subst (λ (g : ℕ). count_at xs k < count_at xs g) (sym at) less))) q

      pub busiest_taken : ((j : ℕ) → best ≡ Some j → count_at xs j ≤ count_at xs k) → Some k ≡ at_place (busiest_from xs m k n)
      busiest_taken more = subst (λ (o : Option ℕ). Some k ≡ at_place o) (sym (busiest_first free)) (go (busiest_from xs m i n) is)
        where
          go : (o : Option ℕ) → best ≡ at_place o → Some k ≡ at_place (higher (count_at xs) k o)
          go none q = refl
          go (some h) q =
              subst (λ (t : Bool). Some k ≡ at_place (elim t [ true ↦ some h | false ↦ some k ]))
              (sym (le-ltb (count_at xs k) (count_at xs h) (more h q))) refl

  pub busiest_all : (f : Fixings) → m ≡ bit_or f.required f.forbidden → busiest_from xs m 0 n ≡ highest (count_at xs) (unfixed_places f n)
  busiest_all f e i = highest (count_at xs) (keep (λ (j : ℕ). not ((ap (λ (h : ℕ). in_mask h (Some j)) e ∙ or_set f.required f.forbidden j) i)) (upto 0 n))

-- ---- a place that was looked for, or else another

pub else_at : (o q : Option ℕ) (k : ℕ) → at_place o ≡ Some k → Some k ≡ at_place (otherwise o q)
else_at none q k h = let z : ◌≡◌ {A = ℕ} 0 1 = cc in absurd (omega arith)
else_at (some j) q k h = sym h

pub else_none : (o q : Option ℕ) → at_place o ≡ None → at_place q ≡ at_place (otherwise o q)
else_none none q h = refl
else_none (some j) q h = let z : ◌≡◌ {A = ℕ} 0 1 = cc in absurd (omega arith)

-- ---- choices by belts and by places

abbrev belt : List ℕ → ℕ → ℕ
belt ns k = get_or ns k 0

data Matched (ns : List ℕ) : Option ℕ → Option ℕ → Type 0 where
  neither : Matched ns none none
  one : (k : ℕ) → k < length ns → Matched ns (some (belt ns k)) (some k)

-- places of belts of ns
abbrev Inside : List ℕ → List ℕ → Type 0
Inside ns ks = (k : ℕ) → Memᴰ k ks → k < length ns

module _ {ns : List ℕ} where
  matched_place : Rises ns → {o q : Option ℕ} → Matched ns o q → at_place q ≡ picked_place ns o
  matched_place rises neither = refl
  matched_place rises (one k l) = sym (stands rises k l).1

  matched_else : {o q u v : Option ℕ} → Matched ns o q → Matched ns u v → Matched ns (otherwise o u) (otherwise q v)
  matched_else neither h = h
  matched_else (one k l) h = one k l

  matched_head : (ks : List ℕ) → Inside ns ks → Matched ns (head? (map (belt ns) ks)) (head? ks)
  matched_head [] h = neither
  matched_head (k ∷ ks) h = one k (h k (Memᴰ.head refl))

  matched_find : (f g : ℕ → Bool) (ks : List ℕ) → Inside ns ks → ((k : ℕ) → k < length ns → f (belt ns k) ≡ g k)
      → Matched ns (find f (map (belt ns) ks)) (find g ks)
  matched_find f g [] h same = neither
  matched_find f g (k ∷ ks) h same =
      let here = h k (Memᴰ.head refl) in
      let rest = matched_find f g ks (λ j m. h j (Memᴰ.tail m)) same in
      subst (λ (t : Bool). Matched ns (or_else t (belt ns k) (find f (map (belt ns) ks))) (or_else (g k) k (find g ks)))
      (sym (same k here)) (go (g k) here rest)
    where
      go : (t : Bool) → k < length ns → {o q : Option ℕ} → Matched ns o q → Matched ns (or_else t (belt ns k) o) (or_else t k q)
      go true l rest = one k l
      go false l rest = rest

  matched_busiest : (p : Plan) (xs : List ℕ) (ks : List ℕ) → Inside ns ks → ((k : ℕ) → k < length ns → count_at xs k ≡ rule_count p (belt ns k))
      → Matched ns (highest (rule_count p) (map (belt ns) ks)) (highest (count_at xs) ks)
  matched_busiest p xs [] h same = neither
  matched_busiest p xs (k ∷ ks) h same = go (h k (Memᴰ.head refl)) (matched_busiest p xs ks (λ j m. h j (Memᴰ.tail m)) same)
    where
      of_two : (t : Bool) (j : ℕ) → k < length ns → j < length ns
          → Matched ns (elim t [ true ↦ some (belt ns j) | false ↦ some (belt ns k) ]) (elim t [ true ↦ some j | false ↦ some k ])
      of_two true j l u = one j u
      of_two false j l u = one k l

      go : k < length ns → {o q : Option ℕ} → Matched ns o q → Matched ns (higher (rule_count p) (belt ns k) o) (higher (count_at xs) k q)
      go l neither = one k l
      go l (one j u) =
          subst (λ (t : Bool). Matched ns (higher (rule_count p) (belt ns k) (some (belt ns j))) (elim t [ true ↦ some j | false ↦ some k ]))
          (λ i. ltb (sym (same k l) i) (sym (same j u) i)) (of_two (ltb (rule_count p (belt ns k)) (rule_count p (belt ns j))) j l u)

-- ---- the unfixed belts are those at the unfixed places

module _ (ns : List ℕ) where
  by_place : ns ≡ map (belt ns) (upto 0 (length ns))
  by_place =
      let e : length ns ≡ length ns - 0 = omega arith in
      map_iota (belt ns) 0 (length ns) 0 ns refl (λ i l. let z : i ≡ 0 + i = omega arith in ap (belt ns) z) ∙ ap (λ (n : ℕ). map (belt ns) (iota 0 n)) e

  keep_belts : (f g : ℕ → Bool) (ks : List ℕ) → Inside ns ks → ((k : ℕ) → k < length ns → f (belt ns k) ≡ g k)
      → keep f (map (belt ns) ks) ≡ map (belt ns) (keep g ks)
  keep_belts f g ks h same =
      keep_map f (belt ns) ks ∙ ap (map (belt ns)) (keep_cong (λ (k : ℕ). f (belt ns k)) g ks (λ k m. same k (h k m)))

  all_inside : Inside ns (upto 0 (length ns))
  all_inside k m = (upto_in 0 (length ns) k m).1

  free_inside : (f : Fixings) → Inside ns (unfixed_places f (length ns))
  free_inside f k m = all_inside k (keep_in (unfixed_at f) (upto 0 (length ns)) m).0

  fixed_at : Rises ns → (m k : ℕ) → k < length ns → mem (belt ns k) (fixed_in ns m) ≡ in_mask m (Some k)
  fixed_at rises m k l = fixed_mem ns m (belt ns k) ∙ ap (in_mask m) (stands rises k l).1

module _ (b : List ℕ) (f : Fixings) where
  abbrev ns : List ℕ
  ns = named (plan_of b)

  abbrev free : List ℕ
  free = unfixed_places f (length ns)

  rises : Rises ns
  rises = named_rises b

  free_belts : unfixed (plan_of b) (subproblem_in b f) ≡ map (belt ns) free
  free_belts =
      let loose : ℕ → Bool = λ e. not (is_fixed (subproblem_in b f) e) in
      ap (keep loose) (by_place ns)
      ∙ keep_belts ns loose (unfixed_at f) (upto 0 (length ns)) (all_inside ns)
      (λ k l i. not (fixed_at ns rises f.required k l i || fixed_at ns rises f.forbidden k l i))

  matched_lowest : Matched ns (head? (unfixed (plan_of b) (subproblem_in b f))) (head? free)
  matched_lowest = subst (λ (es : List ℕ). Matched ns (head? es) (head? free)) (sym free_belts) (matched_head free (free_inside ns f))

  module _ (on : ℕ → Bool) where
    pub picks_lowest : (k : ℕ) → k ≡ 0 → at_place (head? free) ≡ picked_place ns (pick_of k (plan_of b) (subproblem_in b f) on)
    picks_lowest zero h = matched_place rises matched_lowest
    picks_lowest (suc k) h = absurd (omega arith)

    pub picks_busiest : Accepted b → (k : ℕ) → k ≡ 1 → at_place (highest (count_at (numbers_of (plan_of b))) free) ≡ picked_place ns (pick_of k (plan_of b) (subproblem_in b f) on)
    picks_busiest ok zero h = absurd (omega arith)
    picks_busiest ok (suc zero) h =
        let xs = numbers_of (plan_of b) in
        matched_place rises
        (subst (λ (es : List ℕ). Matched ns (highest (rule_count (plan_of b)) es) (highest (count_at xs) free)) (sym free_belts)
        (matched_busiest (plan_of b) xs free (free_inside ns f) (numbers_count ok)))
    picks_busiest ok (suc (suc k)) h = absurd (omega arith)

    -- `has` tells by places what `on` tells of the named belts
    pub picks_on : (k : ℕ) → (k ≡ 0 → ⊥) → (k ≡ 1 → ⊥) → (has : ℕ → Bool) → ((j : ℕ) → j < length ns → on (get_or ns j 0) ≡ has j)
        → at_place (otherwise (find has free) (head? free)) ≡ picked_place ns (pick_of k (plan_of b) (subproblem_in b f) on)
    picks_on zero d u has same = absurd (d refl)
    picks_on (suc zero) d u has same = absurd (u refl)
    picks_on (suc (suc k)) d u has same =
        matched_place rises
        (matched_else
        (subst (λ (es : List ℕ). Matched ns (find on es) (find has free)) (sym free_belts) (matched_find on has free (free_inside ns f) same))
        matched_lowest)

  -- the mask m has the belt at a place where it has the place
  pub mask_at : (m j : ℕ) → j < length ns → has_belt b m (get_or ns j 0) ≡ in_mask m (Some j)
  mask_at m j l = ap (in_mask m) (stands rises j l).1

-- ---- tests that agree on the named belts pick the same

pub pick_cong : (k : ℕ) (p : Plan) (x : Subproblem) (f g : ℕ → Bool) → ((e : ℕ) → Memᴰ e (named p) → f e ≡ g e)
    → pick_of k p x f ≡ pick_of k p x g
pick_cong zero p x f g h = refl
pick_cong (suc zero) p x f g h = refl
pick_cong (suc (suc k)) p x f g h =
    ap (λ (o : Option ℕ). otherwise o (head? (unfixed p x)))
    (find_cong f g (unfixed p x) (λ e m. h e (keep_in (λ (n : ℕ). not (is_fixed x n)) (named p) m).0))
