-- The chain indices of a content's records, on lists of records alone: how often each record is pointed at, and where each index leads.
--
--   tally r xs             how often the number r stands in xs
--   tally_one, tally_none  once among numbers in a row that have it, and never among higher ones
--   held_in x               the chain indices of the record x, zeros too
--   legs_tally, literals_tally, rules_tally
--                          the indices that legs hold, with those of the junctions, that literals hold, with that of their first, and that rules
--                          and their literals hold, with that of the first rule, are the indices of these records, each once; zeros do not count
--   held_tally             all chain indices of a content's records are the indices of the records behind the junctions, each once; held_once: so
--                          each of these is pointed at once
--   Stand P i xs           P holds of each record of xs and its index, where these are i, i + 1, ..; stand_at: of one of them
--   KindIn rs v w          record v of rs is there and is of kind w
--   Lead rs i v w          the chain index v of record i is 0 or leads to a later record of kind w
--   JunctionIs, LegIs, RuleIs, LiteralIs
--                          what is to be said of a record of that kind
--   RecordIs rs c i x      the record x, at index i, is one of them, and a junction exactly up to index J
--   each_is                so it is with every record behind record 0 of a content that fits; first_leads: where record 0 leads
--
-- Assumes nothing.
use mathlib.Core.Path.{◌≡◌, refl, sym, ◌∙◌, ap, subst}
use mathlib.Core.Logic.{◌⊎◌, inl, inr}
use mathlib.Core.Bool.{Bool, true, false}
use Prim.Native.Nat.{ℕ, zero, suc, ◌+◌, ◌-◌, ◌≤◌, ◌<◌}
use mathlib.Core.List.{List, [], ◌∷◌, ◌++◌, map, Memᴰ}
use native.Mathlib.Omega.{arith}
use lib.ListN.{length, get_or, length-append}
use lib.Dec.{eqb}
use borrow.Author.Tests.{eqb-true, eqb-false, eq-eqb, ne_eqb}
use Rattle.plan.specs.declared.read.Literal.{Literal}
use Rattle.plan.specs.declared.read.Literal.TheVariants.{OfBelt, OfMode}
use Rattle.plan.specs.Lists.{count_by, count, joined, iota, upto}
use Rattle.plan.specs.Limits.{chain_fields}
use Rattle.plan.proofs.Lists.{test, count_append, joined_append, iota_split}
use Rattle.archive.specs.Content.{Leg, Content}
use Rattle.archive.specs.Form.{Fields, fields, chain_start, first_leaving, legs_start, rules_start, junction_record, junction_records, leg_record, leg_records, flag, literal_record, literal_records, behind, rule_records, items_of, records_of}
use Rattle.archive.proofs.ContentFits.{LegFits, LiteralFits, Fits}
use Rattle.archive.proofs.RecordBytes.{blank, field_at}
use Rattle.archive.proofs.FormRecords.{length_junctions, length_legs, length_literals, leg_part, rule_part, length_records, leg_at_lem}

-- ---- how often a number stands in a list

abbrev pub tally : ℕ → List ℕ → ℕ
tally r xs = count (eqb r) xs

-- 1 where the two are equal, else 0
abbrev one : ℕ → ℕ → ℕ
one r x = count_by (eqb r x) 0

tally_more : (r x : ℕ) (xs : List ℕ) → tally r (x ∷ xs) ≡ one r x + tally r xs
tally_more r x xs = go (eqb r x)
  where
    go : (t : Bool) → count_by t (tally r xs) ≡ count_by t 0 + tally r xs
    go true = omega arith
    go false = omega arith

one_other : (r x : ℕ) → (r ≡ x → ⊥) → one r x ≡ 0
one_other r x d = ap (λ (t : Bool). count_by t 0) (ne_eqb r x d)

one_same : (r x : ℕ) → r ≡ x → one r x ≡ 1
one_same r x e = ap (λ (t : Bool). count_by t 0) (eq-eqb r x e)

pub tally_none : (r i n : ℕ) → r < i → tally r (iota i n) ≡ 0
tally_none r i zero h = refl
tally_none r i (suc n) h = omega (arith, tally_more r i (iota (suc i) n), one_other r i (λ e. omega arith), tally_none r (suc i) n (omega arith))

pub tally_one : (r i n : ℕ) → i ≤ r → r < i + n → tally r (iota i n) ≡ 1
tally_one r i zero l u = absurd (omega arith)
tally_one r i (suc n) l u = go (test (eqb r i)) (λ k. tally_one r (suc i) n k (omega arith))
  where
    go : (eqb r i ≡ true) ⊎ (eqb r i ≡ false) → (suc i ≤ r → tally r (iota (suc i) n) ≡ 1) → tally r (iota i (suc n)) ≡ 1
    go (inl t) later =
        let e : r ≡ i = eqb-true r i t in
        omega (arith, tally_more r i (iota (suc i) n), one_same r i e, tally_none r (suc i) n (omega arith))
    go (inr t) later =
        let k : suc i ≤ r = omega (arith, eqb-false r i t) in
        omega (arith, tally_more r i (iota (suc i) n), ap (λ (x : Bool). count_by x 0) t, later k)

-- a list of zeros
tally_zeros : {A : Type 0} (r : ℕ) (xs : List A) → 1 ≤ r → tally r (map (λ (x : A). 0) xs) ≡ 0
tally_zeros r [] h = refl
tally_zeros {A} r (x ∷ xs) h = omega (arith, tally_more r 0 (map (λ (y : A). 0) xs), one_other r 0 (λ e. omega arith), tally_zeros r xs h)

-- ---- chain indices

abbrev pub held_in : Fields → List ℕ
held_in x = map (λ (f : ℕ). field_at f x) (chain_fields x.f0)

-- ---- legs

-- the number i instead of g j for j = a
abbrev instead : ℕ → ℕ → (ℕ → ℕ) → ℕ → ℕ
instead a i g j = elim (eqb a j) [ true ↦ i | false ↦ g j ]

module _ (r a i : ℕ) (g : ℕ → ℕ) where
  -- where a does not occur, nothing changes
  instead_none : (js : List ℕ) → tally a js ≡ 0 → tally r (map (instead a i g) js) ≡ tally r (map g js)
  instead_none [] h = refl
  instead_none (j ∷ js) h = go (test (eqb a j)) (instead_none js)
    where
      go : (eqb a j ≡ true) ⊎ (eqb a j ≡ false) → (tally a js ≡ 0 → tally r (map (instead a i g) js) ≡ tally r (map g js))
          → tally r (map (instead a i g) (j ∷ js)) ≡ tally r (map g (j ∷ js))
      go (inl t) later = absurd (omega (arith, tally_more a j js, one_same a j (eqb-true a j t)))
      go (inr t) later =
          let same : instead a i g j ≡ g j = ap (λ (x : Bool). elim x [ true ↦ i | false ↦ g j ]) t in
          let rest = later (omega (arith, tally_more a j js)) in
          ap (λ (x : ℕ). tally r (x ∷ map (instead a i g) js)) same ∙ ap (λ (n : ℕ). count_by (eqb r (g j)) n) rest

  -- where it occurs once, i comes for g a
  instead_once : (js : List ℕ) → tally a js ≡ 1 → tally r (map (instead a i g) js) + one r (g a) ≡ tally r (map g js) + one r i
  instead_once [] h = absurd (omega arith)
  instead_once (j ∷ js) h = go (test (eqb a j)) (instead_once js)
    where
      go : (eqb a j ≡ true) ⊎ (eqb a j ≡ false) → (tally a js ≡ 1 → tally r (map (instead a i g) js) + one r (g a) ≡ tally r (map g js) + one r i)
          → tally r (map (instead a i g) (j ∷ js)) + one r (g a) ≡ tally r (map g (j ∷ js)) + one r i
      go (inl t) later =
          let e : a ≡ j = eqb-true a j t in
          let same : instead a i g j ≡ i = ap (λ (x : Bool). elim x [ true ↦ i | false ↦ g j ]) t in
          let rest = instead_none js (omega (arith, tally_more a j js, one_same a j e)) in
          let now : tally r (map (instead a i g) (j ∷ js)) ≡ tally r (i ∷ map (instead a i g) js) =
          ap (λ (x : ℕ). tally r (x ∷ map (instead a i g) js)) same in
          let w : one r (g a) ≡ one r (g j) = ap (λ (x : ℕ). one r (g x)) e in
          omega (arith, now, rest, w, tally_more r i (map (instead a i g) js), tally_more r (g j) (map g js))
      go (inr t) later =
          let same : instead a i g j ≡ g j = ap (λ (x : Bool). elim x [ true ↦ i | false ↦ g j ]) t in
          let rest = later (omega (arith, tally_more a j js, ap (λ (x : Bool). count_by x 0) t)) in
          let now : tally r (map (instead a i g) (j ∷ js)) ≡ tally r (g j ∷ map (instead a i g) js) =
          ap (λ (x : ℕ). tally r (x ∷ map (instead a i g) js)) same in
          omega (arith, now, rest, tally_more r (g j) (map (instead a i g) js), tally_more r (g j) (map g js))

pub legs_tally : (r : ℕ) (js : List ℕ) → 1 ≤ r → (i : ℕ) (es : List Leg) → ((e : Leg) → Memᴰ e es → tally e.leaves js ≡ 1)
    → tally r (map (λ (j : ℕ). first_leaving j i es) js) + tally r (joined held_in (leg_records i es)) ≡ tally r (iota i (length es))
legs_tally r js h i [] k = omega (arith, tally_zeros r js h)
legs_tally r js h i (e ∷ es) k =
    let next : ℕ → ℕ = λ j. first_leaving j (suc i) es in
    let later = legs_tally r js h (suc i) es (λ x m. k x (Memᴰ.tail m)) in
    let here : tally r (map (λ (j : ℕ). first_leaving j i (e ∷ es)) js) + one r (next e.leaves) ≡ tally r (map next js) + one r i =
    instead_once r e.leaves i next js (k e (Memᴰ.head refl)) in
    let held : tally r (joined held_in (leg_records i (e ∷ es))) ≡ one r (next e.leaves) + tally r (joined held_in (leg_records (suc i) es)) =
    tally_more r (next e.leaves) (joined held_in (leg_records (suc i) es)) in
    omega (arith, later, here, held, tally_more r i (iota (suc i) (length es)))

-- ---- literals and rules

literal_held : (n : ℕ) (l : Literal) (v : ℕ) → held_in (literal_record n l v) ≡ v ∷ []
literal_held n (OfBelt e wanted) v = refl
literal_held n (OfMode m wanted) v = refl

pub literals_tally : (r n : ℕ) → 1 ≤ r → (i : ℕ) (ls : List Literal)
    → tally r (chain_start i ls ∷ joined held_in (literal_records n i ls)) ≡ tally r (iota i (length ls))
literals_tally r n h i [] = one_other r 0 (λ e. omega arith)
literals_tally r n h i (l ∷ ls) =
    ap (λ (x : List ℕ). tally r (i ∷ (x ++ joined held_in (literal_records n (suc i) ls)))) (literal_held n l (chain_start (suc i) ls))
    ∙ ap (λ (x : ℕ). count_by (eqb r i) x) (literals_tally r n h (suc i) ls)

pub rules_tally : (r n : ℕ) → 1 ≤ r → (i : ℕ) (rules : List (List Literal))
    → tally r (chain_start i rules ∷ joined held_in (rule_records n i rules)) ≡ tally r (iota i (length (rule_records n i rules)))
rules_tally r n h i [] = one_other r 0 (λ e. omega arith)
rules_tally r n h i (rule ∷ rules) =
    let k = behind i rule in
    let lits = literal_records n (suc i) rule in
    let rest = rule_records n k rules in
    let next = chain_start k rules in
    let first = chain_start (suc i) rule in
    let split : joined held_in (lits ++ rest) ≡ joined held_in lits ++ joined held_in rest = joined_append held_in lits rest in
    let both : tally r (joined held_in (lits ++ rest)) ≡ tally r (joined held_in lits) + tally r (joined held_in rest) =
    ap (tally r) split ∙ count_append (eqb r) (joined held_in lits) (joined held_in rest) in
    let size : length (lits ++ rest) ≡ length rule + length rest = length-append lits rest ∙ ap (λ (x : ℕ). x + length rest) (length_literals n (suc i) rule) in
    let rows : tally r (iota (suc i) (length (lits ++ rest))) ≡ tally r (iota (suc i) (length rule)) + tally r (iota k (length rest)) =
    ap (λ (x : ℕ). tally r (iota (suc i) x)) size
    ∙ ap (tally r) (iota_split (suc i) (length rule) (length rest))
    ∙ count_append (eqb r) (iota (suc i) (length rule)) (iota k (length rest)) in
    let p : one r first + tally r (joined held_in lits) ≡ tally r (iota (suc i) (length rule)) =
    sym (tally_more r first (joined held_in lits)) ∙ literals_tally r n h (suc i) rule in
    let q : one r next + tally r (joined held_in rest) ≡ tally r (iota k (length rest)) =
    sym (tally_more r next (joined held_in rest)) ∙ rules_tally r n h k rules in
    let inner : tally r (next ∷ first ∷ joined held_in (lits ++ rest)) ≡ tally r (iota (suc i) (length (lits ++ rest))) =
    omega (arith, tally_more r next (first ∷ joined held_in (lits ++ rest)), tally_more r first (joined held_in (lits ++ rest)), both, rows, p, q) in
    ap (λ (x : ℕ). count_by (eqb r i) x) inner

-- ---- the chain indices of all records of a content

module _ (c : Content) where
  junctions_held : (js : List ℕ) → joined held_in (map (junction_record c) js) ≡ map (λ (j : ℕ). first_leaving j (legs_start c) c.legs) js
  junctions_held [] = refl
  junctions_held (j ∷ js) = ap (λ (l : List ℕ). first_leaving j (legs_start c) c.legs ∷ l) (junctions_held js)

  pub held_tally : ((e : Leg) → Memᴰ e c.legs → (1 ≤ e.leaves) × (e.leaves ≤ c.junctions)) → (r : ℕ) → 1 ≤ r
      → tally r (joined held_in (records_of c)) ≡ tally r (iota (legs_start c) (length c.legs + length (rule_part c)))
  unfolding records_of
  held_tally low r h =
      let js = upto 1 (suc c.junctions) in
      let xs = junction_records c in
      let ys = leg_part c in
      let zs = rule_part c in
      let first = chain_start (rules_start c) c.rules in
      let belts : List ℕ = map (λ (j : ℕ). first_leaving j (legs_start c) c.legs) js in
      let s : tally r (joined held_in (xs ++ ys ++ zs)) ≡ tally r (joined held_in (xs ++ ys)) + tally r (joined held_in zs) =
      ap (tally r) (joined_append held_in (xs ++ ys) zs) ∙ count_append (eqb r) (joined held_in (xs ++ ys)) (joined held_in zs) in
      let t : tally r (joined held_in (xs ++ ys)) ≡ tally r (joined held_in xs) + tally r (joined held_in ys) =
      ap (tally r) (joined_append held_in xs ys) ∙ count_append (eqb r) (joined held_in xs) (joined held_in ys) in
      let u : tally r (joined held_in xs) ≡ tally r belts = ap (tally r) (junctions_held js) in
      let v : tally r belts + tally r (joined held_in ys) ≡ tally r (iota (legs_start c) (length c.legs)) =
      legs_tally r js h (legs_start c) c.legs (λ e m. let k = low e m in tally_one e.leaves 1 (suc c.junctions - 1) k.0 (omega (arith, k.1))) in
      let w : one r first + tally r (joined held_in zs) ≡ tally r (iota (rules_start c) (length zs)) =
      sym (tally_more r first (joined held_in zs)) ∙ rules_tally r (legs_start c) h (rules_start c) c.rules in
      let rows : tally r (iota (legs_start c) (length c.legs + length zs))
      ≡ tally r (iota (legs_start c) (length c.legs)) + tally r (iota (rules_start c) (length zs)) =
      ap (tally r) (iota_split (legs_start c) (length c.legs) (length zs))
      ∙ count_append (eqb r) (iota (legs_start c) (length c.legs)) (iota (rules_start c) (length zs)) in
      let all : tally r (first ∷ joined held_in (xs ++ ys ++ zs)) ≡ one r first + tally r (joined held_in (xs ++ ys ++ zs)) =
      tally_more r first (joined held_in (xs ++ ys ++ zs)) in
      all ∙ omega (arith, s, t, u, v, w, rows)

  pub held_once : ((e : Leg) → Memᴰ e c.legs → (1 ≤ e.leaves) × (e.leaves ≤ c.junctions)) → (r : ℕ) → legs_start c ≤ r → r < length (records_of c)
      → tally r (joined held_in (records_of c)) ≡ 1
  held_once low r l u =
      held_tally low r (omega arith)
      ∙ tally_one r (legs_start c) (length c.legs + length (rule_part c)) l (omega (arith, length_records c))

-- ---- records and their indices

pub data Stand (P : ℕ → Fields → Type 0) : ℕ → List Fields → Type 0 where
  none : {i : ℕ} → Stand P i []
  more : {i : ℕ} {x : Fields} {xs : List Fields} → P i x → Stand P (suc i) xs → Stand P i (x ∷ xs)

module _ {P : ℕ → Fields → Type 0} where
  pub stand_at : {i : ℕ} {xs : List Fields} → Stand P i xs → (k : ℕ) → k < length xs → P (i + k) (get_or xs k blank)
  stand_at none k h = absurd (omega arith)
  stand_at (more {i} {x} p ps) zero h = let e : i ≡ i + 0 = omega arith in subst (λ (n : ℕ). P n x) e p
  stand_at (more {i} {x} {xs} p ps) (suc k) h =
      let e : suc i + k ≡ i + suc k = omega arith in
      subst (λ (n : ℕ). P n (get_or xs k blank)) e (stand_at ps k (omega arith))

  at_stand : (i : ℕ) (xs : List Fields) → ((k : ℕ) → k < length xs → P (i + k) (get_or xs k blank)) → Stand P i xs
  at_stand i [] h = none
  at_stand i (x ∷ xs) h =
      let e : i + 0 ≡ i = omega arith in
      more (subst (λ (n : ℕ). P n x) e (h 0 (omega arith)))
      (at_stand (suc i) xs (λ k l. let q : i + suc k ≡ suc i + k = omega arith in subst (λ (n : ℕ). P n (get_or xs k blank)) q (h (suc k) (omega arith))))

  stand_tail : {i : ℕ} {x : Fields} {xs : List Fields} → Stand P i (x ∷ xs) → Stand P (suc i) xs
  stand_tail (more p ps) = ps

  -- two lists in a row
  stand_append : (i j : ℕ) (xs ys : List Fields) → j ≡ i + length xs → Stand P i xs → Stand P j ys → Stand P i (xs ++ ys)
  stand_append i j [] ys e none qs = let k : j ≡ i = omega arith in subst (λ (n : ℕ). Stand P n ys) k qs
  stand_append i j (x ∷ xs) ys e (more p ps) qs = more p (stand_append (suc i) j xs ys (omega arith) ps qs)

  stand_left : (i : ℕ) (xs ys : List Fields) → Stand P i (xs ++ ys) → Stand P i xs
  stand_left i [] ys ps = none
  stand_left i (x ∷ xs) ys (more p ps) = more p (stand_left (suc i) xs ys ps)

  stand_right : (i j : ℕ) (xs ys : List Fields) → j ≡ i + length xs → Stand P i (xs ++ ys) → Stand P j ys
  stand_right i j [] ys e ps = let k : i ≡ j = omega arith in subst (λ (n : ℕ). Stand P n ys) k ps
  stand_right i j (x ∷ xs) ys e (more p ps) = stand_right (suc i) j xs ys (omega arith) ps

-- ---- what a record is

abbrev pub KindIn : List Fields → ℕ → ℕ → Type 0
KindIn rs v w = (v < length rs) × ((get_or rs v blank).f0 ≡ w)

abbrev pub Lead : List Fields → ℕ → ℕ → ℕ → Type 0
Lead rs i v w = (v ≡ 0 → ⊥) → (i < v) × KindIn rs v w

pub record JunctionIs (rs : List Fields) (c : Content) (i : ℕ) (x : Fields) : Type 0 where
  pub low : i ≤ c.junctions
  pub kind : x.f0 ≡ 1
  pub first : Lead rs i x.f1 2
  pub zero2 : x.f2 ≡ 0
  pub zero3 : x.f3 ≡ 0
  pub zero4 : x.f4 ≡ 0
  pub zero5 : x.f5 ≡ 0

pub record LegIs (rs : List Fields) (c : Content) (i : ℕ) (x : Fields) : Type 0 where
  pub high : c.junctions < i
  pub kind : x.f0 ≡ 2
  pub next : Lead rs i x.f1 2
  pub from : 1 ≤ x.f2
  pub to : x.f2 ≤ c.junctions
  pub zero5 : x.f5 ≡ 0

pub record RuleIs (rs : List Fields) (c : Content) (i : ℕ) (x : Fields) : Type 0 where
  pub high : c.junctions < i
  pub kind : x.f0 ≡ 3
  pub next : Lead rs i x.f1 3
  pub first : Lead rs i x.f2 4
  pub zero3 : x.f3 ≡ 0
  pub zero4 : x.f4 ≡ 0
  pub zero5 : x.f5 ≡ 0

pub record LiteralIs (rs : List Fields) (c : Content) (i : ℕ) (x : Fields) : Type 0 where
  pub high : c.junctions < i
  pub kind : x.f0 ≡ 4
  pub next : Lead rs i x.f1 4
  pub wanted : x.f2 ≤ 1
  pub sort : x.f3 ≤ 1
  pub belt : x.f3 ≡ 0 → KindIn rs x.f4 2
  pub mode : x.f3 ≡ 1 → (1 ≤ x.f4) × (x.f4 ≤ c.modes)
  pub zero5 : x.f5 ≡ 0

pub data RecordIs (rs : List Fields) (c : Content) (i : ℕ) (x : Fields) : Type 0 where
  is_junction : JunctionIs rs c i x → RecordIs rs c i x
  is_leg : LegIs rs c i x → RecordIs rs c i x
  is_rule : RuleIs rs c i x → RecordIs rs c i x
  is_literal : LiteralIs rs c i x → RecordIs rs c i x

-- ---- each sort of records, where they are the records of rs

module _ (rs : List Fields) (c : Content) where
  -- records are those that stand in rs at their indices, by their kinds
  abbrev Placed : ℕ → List Fields → Type 0
  Placed i xs = Stand (λ (v : ℕ) (x : Fields). KindIn rs v x.f0) i xs

  -- the first leg that leaves a junction is a leg
  leaving_leads : (j i : ℕ) (es : List Leg) → Placed i (leg_records i es) → (first_leaving j i es ≡ 0 → ⊥)
      → (i ≤ first_leaving j i es) × KindIn rs (first_leaving j i es) 2
  leaving_leads j i [] ps d = absurd (d refl)
  leaving_leads j i (e ∷ es) (more p ps) d = go (eqb e.leaves j) d (leaving_leads j (suc i) es ps)
    where
      Out : ℕ → ℕ → Type 0
      Out s v = (s ≤ v) × KindIn rs v 2

      go : (t : Bool) → (◌≡◌ {A = ℕ} (elim t [ true ↦ i | false ↦ first_leaving j (suc i) es ]) 0 → ⊥)
          → ((first_leaving j (suc i) es ≡ 0 → ⊥) → Out (suc i) (first_leaving j (suc i) es))
          → Out i (elim t [ true ↦ i | false ↦ first_leaving j (suc i) es ])
      go true d below = (omega arith, p)
      go false d below = let k = below d in (omega (arith, k.0), k.1)

  junction_is : Placed (legs_start c) (leg_records (legs_start c) c.legs) → (i : ℕ) → i ≤ c.junctions → RecordIs rs c i (junction_record c i)
  junction_is ps i h =
      is_junction (record {
        low = h;
        kind = refl;
        first = λ d. let k = leaving_leads i (legs_start c) c.legs ps d in (omega (arith, k.0), k.1);
        zero2 = refl;
        zero3 = refl;
        zero4 = refl;
        zero5 = refl;
      })

  junctions_are : Placed (legs_start c) (leg_records (legs_start c) c.legs) → (i n : ℕ) → i + n ≤ legs_start c
      → Stand (RecordIs rs c) i (map (junction_record c) (iota i n))
  junctions_are ps i zero h = none
  junctions_are ps i (suc n) h = more (junction_is ps i (omega arith)) (junctions_are ps (suc i) n (omega arith))

  leg_is : (i : ℕ) (e : Leg) (es : List Leg) → c.junctions < i → LegFits c e → Placed (suc i) (leg_records (suc i) es)
      → RecordIs rs c i (leg_record e (first_leaving e.leaves (suc i) es))
  leg_is i e es u f ps =
      is_leg (record {
        high = u;
        kind = refl;
        next = leaving_leads e.leaves (suc i) es ps;
        from = omega arith;
        to = f.to;
        zero5 = refl;
      })

  legs_are : (i : ℕ) (es : List Leg) → c.junctions < i → ((e : Leg) → Memᴰ e es → LegFits c e) → Placed i (leg_records i es)
      → Stand (RecordIs rs c) i (leg_records i es)
  legs_are i [] u fit ps = none
  legs_are i (e ∷ es) u fit (more p ps) =
      more (leg_is i e es u (fit e (Memᴰ.head refl)) ps) (legs_are (suc i) es (omega arith) (λ x m. fit x (Memᴰ.tail m)) ps)

  flag_low : (t : Bool) → flag t ≤ 1
  flag_low true = omega arith
  flag_low false = omega arith

  -- where the legs stand, and what a literal that fits names
  abbrev LegsAt : ℕ → Type 0
  LegsAt n = (k : ℕ) → k < length c.legs → KindIn rs (n + k) 2

  literal_is : (n i : ℕ) (l : Literal) (v : ℕ) → c.junctions < i → LegsAt n → LiteralFits c l → Lead rs i v 4 → RecordIs rs c i (literal_record n l v)
  literal_is n i (OfBelt e wanted) v u legs f next =
      is_literal (record {
        high = u;
        kind = refl;
        next = next;
        wanted = flag_low wanted;
        sort = omega arith;
        belt = λ z. legs e.0 f;
        mode = λ z. absurd (omega arith);
        zero5 = refl;
      })
  literal_is n i (OfMode m wanted) v u legs f next =
      is_literal (record {
        high = u;
        kind = refl;
        next = next;
        wanted = flag_low wanted;
        sort = omega arith;
        belt = λ z. absurd (omega arith);
        mode = λ z. f;
        zero5 = refl;
      })

  -- the next literal
  literal_leads : (n i : ℕ) (ls : List Literal) → Placed (suc i) (literal_records n (suc i) ls) → Lead rs i (chain_start (suc i) ls) 4
  literal_leads n i [] ps d = absurd (d refl)
  literal_leads n i (OfBelt e wanted ∷ ls) (more p ps) d = (omega arith, p)
  literal_leads n i (OfMode m wanted ∷ ls) (more p ps) d = (omega arith, p)

  literals_are : (n i : ℕ) (ls : List Literal) → c.junctions < i → LegsAt n → ((l : Literal) → Memᴰ l ls → LiteralFits c l)
      → Placed i (literal_records n i ls) → Stand (RecordIs rs c) i (literal_records n i ls)
  literals_are n i [] u legs fit ps = none
  literals_are n i (l ∷ ls) u legs fit (more p ps) =
      more (literal_is n i l (chain_start (suc i) ls) u legs (fit l (Memᴰ.head refl)) (literal_leads n i ls ps))
      (literals_are n (suc i) ls (omega arith) legs (λ x m. fit x (Memᴰ.tail m)) ps)

  -- the next rule
  rule_leads : (n i j : ℕ) (rules : List (List Literal)) → i < j → Placed j (rule_records n j rules) → Lead rs i (chain_start j rules) 3
  rule_leads n i j [] h ps d = absurd (d refl)
  rule_leads n i j (rule ∷ rules) h (more p ps) d = (h, p)

  rule_is : (i next first : ℕ) → c.junctions < i → Lead rs i next 3 → Lead rs i first 4 → RecordIs rs c i (fields 3 next first 0 0 0)
  rule_is i next first u p q = is_rule (record { high = u; kind = refl; next = p; first = q; zero3 = refl; zero4 = refl; zero5 = refl })

  rules_are : (n i : ℕ) (rules : List (List Literal)) → c.junctions < i → LegsAt n
      → ((rule : List Literal) → Memᴰ rule rules → (l : Literal) → Memᴰ l rule → LiteralFits c l)
      → Placed i (rule_records n i rules) → Stand (RecordIs rs c) i (rule_records n i rules)
  rules_are n i [] u legs fit ps = none
  rules_are n i (rule ∷ rules) u legs fit (more p ps) =
      let k = behind i rule in
      let lits = literal_records n (suc i) rule in
      let rest = rule_records n k rules in
      let e : k ≡ suc i + length lits = ap (λ (x : ℕ). suc i + x) (sym (length_literals n (suc i) rule)) in
      let ls = stand_left (suc i) lits rest ps in
      let qs = stand_right (suc i) k lits rest e ps in
      more (rule_is i (chain_start k rules) (chain_start (suc i) rule) u (rule_leads n i k rules (omega arith) qs) (literal_leads n i rule ls))
      (stand_append (suc i) k lits rest e (literals_are n (suc i) rule (omega arith) legs (fit rule (Memᴰ.head refl)) ls)
      (rules_are n k rules (omega arith) legs (λ x m. fit x (Memᴰ.tail m)) qs))

-- ---- all records of a content

module _ (c : Content) where
  -- every record stands at its index
  placed : Stand (λ (v : ℕ) (x : Fields). KindIn (records_of c) v x.f0) 0 (records_of c)
  placed =
      at_stand 0 (records_of c) (λ k l.
      let e : k ≡ 0 + k = omega arith in
      subst (λ (n : ℕ). KindIn (records_of c) n (get_or (records_of c) k blank).f0) e (l, refl))

  items_placed : Placed (records_of c) c 1 (items_of c)
  unfolding records_of
  items_placed = stand_tail placed

  before_legs : legs_start c ≡ 1 + length (junction_records c)
  before_legs = omega (arith, length_junctions c)

  before_rules : rules_start c ≡ 1 + length (junction_records c ++ leg_part c)
  before_rules = omega (arith, length-append (junction_records c) (leg_part c), length_junctions c, length_legs (legs_start c) c.legs)

  legs_placed : Placed (records_of c) c (legs_start c) (leg_part c)
  legs_placed =
      stand_right 1 (legs_start c) (junction_records c) (leg_part c) before_legs (stand_left 1 (junction_records c ++ leg_part c) (rule_part c) items_placed)

  rules_placed : Placed (records_of c) c (rules_start c) (rule_part c)
  rules_placed = stand_right 1 (rules_start c) (junction_records c ++ leg_part c) (rule_part c) before_rules items_placed

  legs_at : LegsAt (records_of c) c (legs_start c)
  legs_at k h =
      let x = stand_at legs_placed k (omega (arith, length_legs (legs_start c) c.legs)) in
      (x.0, x.1 ∙ ap (λ (r : Fields). r.f0) (leg_at_lem (legs_start c) c.legs k h))

  pub first_leads : Lead (records_of c) 0 (chain_start (rules_start c) c.rules) 3
  first_leads = rule_leads (records_of c) c (legs_start c) 0 (rules_start c) c.rules (omega arith) rules_placed

  items_are : Fits c → Stand (RecordIs (records_of c) c) 1 (items_of c)
  items_are f =
      stand_append 1 (rules_start c) (junction_records c ++ leg_part c) (rule_part c) before_rules
      (stand_append 1 (legs_start c) (junction_records c) (leg_part c) before_legs
      (junctions_are (records_of c) c legs_placed 1 (suc c.junctions - 1) (omega arith))
      (legs_are (records_of c) c (legs_start c) c.legs (omega arith) f.legs legs_placed))
      (rules_are (records_of c) c (legs_start c) (rules_start c) c.rules (omega arith) legs_at f.literals rules_placed)

  pub each_is : Fits c → (r : ℕ) → 1 ≤ r → r < length (records_of c) → RecordIs (records_of c) c r (get_or (records_of c) r blank)
  unfolding records_of
  each_is f zero l u = absurd (omega arith)
  each_is f (suc r) l u =
      let e : 1 + r ≡ suc r = omega arith in
      subst (λ (i : ℕ). RecordIs (records_of c) c i (get_or (items_of c) r blank)) e (stand_at (items_are f) r (omega arith))
