-- The bytes of a content's records mean the content: what is read from them is the plan whose belts have the indices from that of the first record
-- behind the junctions on.
--
--   leaving_at j i es     the indices of the legs es that leave junction j, where these have the indices from i on
--   in_leaving, leaving_in
--                        its elements (Leaving)
--   junction_chain       the chain of a junction is that list
--   leaves_back          a leg's record reads as leaving its junction; belts_back: the belts read as the legs
--   belts_are            the records that are belts are those of the legs
--   literals_back        literals read as they are, up to the indices of belts; rules_back: and so do rules
--   read-back            so the plan is read back
--
-- Assumes nothing.
use mathlib.Core.Path.{◌≡◌, refl, sym, ◌∙◌, ap, subst}
use mathlib.Core.Logic.{◌⊎◌, inl, inr}
use mathlib.Core.Bool.{Bool, true, false}
use Prim.Native.Nat.{ℕ, zero, suc, ◌+◌, ◌*◌, ◌-◌, ◌/◌, ◌%◌, ◌≤◌, ◌<◌}
use mathlib.Core.List.{List, [], ◌∷◌, map, Memᴰ}
use native.Mathlib.Omega.{arith}
use lib.ListN.{length, get_or, length-append}
use lib.Dec.{eqb}
use borrow.Author.Tests.{eqb-true, eq-eqb}
use Rattle.plan.specs.declared.read.Literal.{Literal}
use Rattle.plan.specs.declared.read.Literal.TheVariants.{OfBelt, OfMode}
use Rattle.plan.specs.Bounds.{field_limit}
use Rattle.plan.specs.Lists.{keep_by, mem, upto}
use Rattle.plan.specs.Records.{field, kind, junctions, records, chain_of, chain}
use Rattle.plan.specs.Plan.{Belt, first_in, leaves, belt_at, belt_records, literal_by, literal_at, rule_at, plan_of}
use Rattle.plan.proofs.Lists.{test, never, lt_or_le, in_keep, keep_in, in_mem, mem_in, in_upto, upto_in, map_iota}
use Rattle.plan.proofs.ListRising.{upto_rises, rises_equal}
use Rattle.plan.proofs.ChainLaws.{records_rise}
use Rattle.archive.specs.Renaming.{renamed_literal, renamed_rules}
use Rattle.archive.specs.Content.{Leg, Content}
use Rattle.archive.specs.Form.{chain_start, first_leaving, legs_start, rules_start, leg_record, leg_records, flag, literal_record, literal_records, behind, records_of_rule, rule_records, records_of}
use Rattle.archive.proofs.ContentFits.{belts_numbered, plan_numbered, LegFits, Fits}
use Rattle.archive.proofs.RecordBytes.{Holds, holds_is, Stands}
use Rattle.archive.proofs.FormRecords.{length_records, record_leg, no_leg, leg_at, next_leg, leg_at_lem, form_of, parts, records_is, junctions_is, modes_is, kind_leg, kind_rule, length_rule, literal_next, rule_stands}

-- ---- chains

chain_none : (next : ℕ → ℕ) (n : ℕ) → chain_of next n 0 ≡ []
chain_none next zero = refl
chain_none next (suc n) = refl

chain_more : (next : ℕ → ℕ) (n i : ℕ) → 1 ≤ n → 1 ≤ i → chain_of next n i ≡ i ∷ chain_of next (n - 1) (next i)
chain_more next zero i p q = absurd (omega arith)
chain_more next (suc n) zero p q = absurd (omega arith)
chain_more next (suc n) (suc i) p q = let e : n ≡ suc n - 1 = omega arith in ap (λ (m : ℕ). suc i ∷ chain_of next m (next (suc i))) e

-- ---- the legs that leave a junction

abbrev pub leaving_at : ℕ → ℕ → List Leg → List ℕ
leaving_at j i [] = []
leaving_at j i (e ∷ es) = keep_by (eqb e.leaves j) i (leaving_at j (suc i) es)

pub in_leaving : (j i : ℕ) (es : List Leg) (k : ℕ) → k < length es → (leg_at es k).leaves ≡ j → Memᴰ (i + k) (leaving_at j i es)
in_leaving j i [] k h e = absurd (omega arith)
in_leaving j i (x ∷ es) zero h e =
    let q : i + 0 ≡ i = omega arith in
    subst (λ (t : Bool). Memᴰ (i + 0) (keep_by t i (leaving_at j (suc i) es))) (sym (eq-eqb x.leaves j e)) (mathlib.Core.List.Memᴰ.head q)
in_leaving j i (x ∷ es) (suc k) h e = go (eqb x.leaves j) (in_leaving j (suc i) es k (omega arith) e)
  where
    go : (t : Bool) → Memᴰ (suc i + k) (leaving_at j (suc i) es) → Memᴰ (i + suc k) (keep_by t i (leaving_at j (suc i) es))
    go true m = let q : i + suc k ≡ suc i + k = omega arith in mathlib.Core.List.Memᴰ.tail (mathlib.Core.List.Memᴰ.cast q m)
    go false m = let q : i + suc k ≡ suc i + k = omega arith in mathlib.Core.List.Memᴰ.cast q m

-- e is the index of a leg of es that leaves j
pub record Leaving (j i : ℕ) (es : List Leg) (e : ℕ) : Type 0 where
  pub place : ℕ
  pub few : place < length es
  pub is : e ≡ i + place
  pub leaves : (leg_at es place).leaves ≡ j

pub leaving_in : (j i : ℕ) (es : List Leg) (e : ℕ) → Memᴰ e (leaving_at j i es) → Leaving j i es e
leaving_in j i [] e m = absurd (mathlib.Core.List.Memᴰ.not-nil m)
leaving_in j i (x ∷ es) e m = go (eqb x.leaves j) refl m (leaving_in j (suc i) es e)
  where
    later : Leaving j (suc i) es e → Leaving j i (x ∷ es) e
    later l = record { place = suc l.place; few = omega (arith, l.few); is = omega (arith, l.is); leaves = l.leaves }

    first : x.leaves ≡ j → (e ≡ i) ⊎ Memᴰ e (leaving_at j (suc i) es) → (Memᴰ e (leaving_at j (suc i) es) → Leaving j (suc i) es e)
        → Leaving j i (x ∷ es) e
    first q (inl s) below = record { place = 0; few = omega arith; is = omega arith; leaves = q }
    first q (inr k) below = later (below k)

    go : (t : Bool) → eqb x.leaves j ≡ t → Memᴰ e (keep_by t i (leaving_at j (suc i) es))
        → (Memᴰ e (leaving_at j (suc i) es) → Leaving j (suc i) es e) → Leaving j i (x ∷ es) e
    go true q k below = first (eqb-true x.leaves j q) (mathlib.Core.List.Memᴰ.cases_cons k) below
    go false q k below = later (below k)

-- ---- chains in bytes

module _ (b : List ℕ) where
  abbrev next : ℕ → ℕ
  next r = field b r 1

  chain_legs : (j i : ℕ) (es : List Leg) (n : ℕ) → 1 ≤ i → length es ≤ n → Stands b i (leg_records i es)
      → chain_of next n (first_leaving j i es) ≡ leaving_at j i es
  chain_legs j i [] n p few s = chain_none next n
  chain_legs j i (e ∷ es) n p few s = go (test (eqb e.leaves j)) (λ m h. chain_legs j (suc i) es m (omega arith) h s.1)
    where
      go : (eqb e.leaves j ≡ true) ⊎ (eqb e.leaves j ≡ false)
          → ((m : ℕ) → length es ≤ m → chain_of next m (first_leaving j (suc i) es) ≡ leaving_at j (suc i) es)
          → chain_of next n (elim (eqb e.leaves j) [ true ↦ i | false ↦ first_leaving j (suc i) es ]) ≡ keep_by (eqb e.leaves j) i (leaving_at j (suc i) es)
      go (inl t) below =
          let q : next i ≡ first_leaving j (suc i) es = s.0.at1 ∙ ap (λ (a : ℕ). first_leaving a (suc i) es) (eqb-true e.leaves j t) in
          ap (λ (x : Bool). chain_of next n (elim x [ true ↦ i | false ↦ first_leaving j (suc i) es ])) t
          ∙ chain_more next n i (omega arith) p
          ∙ ap (λ (a : ℕ). i ∷ chain_of next (n - 1) a) q
          ∙ ap (λ (l : List ℕ). i ∷ l) (below (n - 1) (omega arith))
          ∙ sym (ap (λ (x : Bool). keep_by x i (leaving_at j (suc i) es)) t)
      go (inr t) below =
          ap (λ (x : Bool). chain_of next n (elim x [ true ↦ i | false ↦ first_leaving j (suc i) es ])) t
          ∙ below n (omega arith)
          ∙ sym (ap (λ (x : Bool). keep_by x i (leaving_at j (suc i) es)) t)

  -- ---- literals and rules in bytes

  -- whether a literal is wanted, out of its flag
  flag_back : (t : Bool) → eqb (flag t) 1 ≡ t
  flag_back true = refl
  flag_back false = refl

  literal_back : (n i : ℕ) (l : Literal) (then : ℕ) → Holds b i (literal_record n l then) → literal_at b i ≡ renamed_literal (λ (k : ℕ). n + k) l
  literal_back n i (OfBelt e wanted) then h =
      (λ k. literal_by (eqb (h.at3 k) 0) (eqb (h.at2 k) 1) (h.at4 k)) ∙ ap (λ (t : Bool). literal_by true t (n + e.0)) (flag_back wanted)
  literal_back n i (OfMode m wanted) then h =
      (λ k. literal_by (eqb (h.at3 k) 0) (eqb (h.at2 k) 1) (h.at4 k)) ∙ ap (λ (t : Bool). literal_by false t m.0) (flag_back wanted)

  literals_back : (n i : ℕ) (ls : List Literal) (f : ℕ) → 1 ≤ i → length ls ≤ f → Stands b i (literal_records n i ls)
      → map (literal_at b) (chain_of next f (chain_start i ls)) ≡ map (renamed_literal (λ (k : ℕ). n + k)) ls
  literals_back n i [] f p few s = ap (map (literal_at b)) (chain_none next f)
  literals_back n i (l ∷ ls) f p few s =
      let below = literals_back n (suc i) ls (f - 1) (omega arith) (omega arith) s.1 in
      let first = literal_back n i l (chain_start (suc i) ls) s.0 in
      let on : next i ≡ chain_start (suc i) ls = s.0.at1 ∙ literal_next n l (chain_start (suc i) ls) in
      ap (map (literal_at b)) (chain_more next f i (omega arith) p ∙ ap (λ (a : ℕ). i ∷ chain_of next (f - 1) a) on)
      ∙ (λ k. first k ∷ below k)

  rules_back : (n i : ℕ) (rules : List (List Literal)) (f : ℕ) → 1 ≤ i → length rules ≤ f → i + length (rule_records n i rules) ≤ records b
      → Stands b i (rule_records n i rules) → map (rule_at b) (chain_of next f (chain_start i rules)) ≡ renamed_rules (λ (k : ℕ). n + k) rules
  rules_back n i [] f p few room s = ap (map (rule_at b)) (chain_none next f)
  rules_back n i (rule ∷ rules) f p few room s =
      let then : ℕ = chain_start (behind i rule) rules in
      let size = length-append (records_of_rule n i rule then) (rule_records n (behind i rule) rules) in
      let own = length_rule n i rule then in
      let t = rule_stands b n i rule rules s in
      let below = rules_back n (behind i rule) rules (f - 1) (omega arith) (omega arith) (omega arith) t.later in
      let first : rule_at b i ≡ map (renamed_literal (λ (k : ℕ). n + k)) rule =
      ap (λ (a : ℕ). map (literal_at b) (chain b a)) t.head.at2
      ∙ literals_back n (suc i) rule (records b) (omega arith) (omega arith) t.literals in
      ap (map (rule_at b)) (chain_more next f i (omega arith) p ∙ ap (λ (a : ℕ). i ∷ chain_of next (f - 1) a) t.head.at1)
      ∙ (λ k. first k ∷ below k)

-- there are no more rules than records of them
rules_few : (n i : ℕ) (rules : List (List Literal)) → length rules ≤ length (rule_records n i rules)
rules_few n i [] = omega arith
rules_few n i (rule ∷ rules) =
    let then : ℕ = chain_start (behind i rule) rules in
    omega (arith, length-append (records_of_rule n i rule then) (rule_records n (behind i rule) rules), length_rule n i rule then, rules_few n (behind i rule) rules)

-- ---- the belts

-- the first that passes, where it is the only one
first_in_is : (f : ℕ → Bool) (xs : List ℕ) (j : ℕ) → Memᴰ j xs → f j ≡ true → ((i : ℕ) → Memᴰ i xs → f i ≡ true → i ≡ j) → first_in f xs ≡ j
first_in_is f [] j m t only = absurd (mathlib.Core.List.Memᴰ.not-nil m)
first_in_is f (x ∷ xs) j m t only = go (f x) refl (mathlib.Core.List.Memᴰ.cases_cons m) (λ k. first_in_is f xs j k t (λ i n. only i (mathlib.Core.List.Memᴰ.tail n)))
  where
    go : (c : Bool) → f x ≡ c → (j ≡ x) ⊎ Memᴰ j xs → (Memᴰ j xs → first_in f xs ≡ j) → elim c [ true ↦ x | false ↦ first_in f xs ] ≡ j
    go true e k later = only x (mathlib.Core.List.Memᴰ.head refl) e
    go false e (inl q) later = absurd (never (ap f (sym q) ∙ t) e)
    go false e (inr k) later = later k

-- a cost, out of its two fields
cost_back : (n : ℕ) → n / field_limit * field_limit + n % field_limit ≡ n
cost_back n = omega arith

abbrev belt_of : ℕ → Leg → Belt
belt_of i e = record { index = i; leaves = e.leaves; leads = e.leads; cost = e.cost }

length_belts_from : (i : ℕ) (es : List Leg) → length (belts_numbered i es) ≡ length es
length_belts_from i [] = refl
length_belts_from i (e ∷ es) = ap suc (length_belts_from (suc i) es)

belts_from_at : (i : ℕ) (es : List Leg) (k : ℕ) (d : Belt) → k < length es → get_or (belts_numbered i es) k d ≡ belt_of (i + k) (leg_at es k)
belts_from_at i [] k d h = absurd (omega arith)
belts_from_at i (e ∷ es) zero d h = let q : i ≡ i + 0 = omega arith in ap (λ (n : ℕ). belt_of n e) q
belts_from_at i (e ∷ es) (suc k) d h =
    let q : suc i + k ≡ i + suc k = omega arith in
    belts_from_at (suc i) es k d (omega arith) ∙ ap (λ (n : ℕ). belt_of n (leg_at es k)) q

-- a leg at a place is one of the legs
leg_in : (es : List Leg) (k : ℕ) → k < length es → Memᴰ (leg_at es k) es
leg_in [] k h = absurd (omega arith)
leg_in (e ∷ es) zero h = mathlib.Core.List.Memᴰ.head refl
leg_in (e ∷ es) (suc k) h = mathlib.Core.List.Memᴰ.tail (leg_in es k (omega arith))

module _ (c : Content) where
  abbrev b : List ℕ
  b = form_of c

  pub junction_chain : (j : ℕ) → 1 ≤ j → j ≤ c.junctions → chain (form_of c) (field (form_of c) j 1) ≡ leaving_at j (legs_start c) c.legs
  junction_chain j l h =
      ap (chain b) ((parts c).junctions j l h).at1
      ∙ chain_legs b j (legs_start c) c.legs (records b) (omega arith) (omega (arith, records_is c, length_records c)) (parts c).legs

  -- the record of a leg
  leg_holds : (k : ℕ) → k < length c.legs → Holds b (legs_start c + k) (leg_record (leg_at c.legs k) (next_leg (legs_start c) c.legs k))
  leg_holds k h =
      holds_is (records_of c) (legs_start c + k) (leg_record (leg_at c.legs k) (next_leg (legs_start c) c.legs k))
      (record_leg c k h ∙ leg_at_lem (legs_start c) c.legs k h)

  pub leaves_back : Fits c → (k : ℕ) → k < length c.legs → leaves (form_of c) (legs_start c + k) ≡ (leg_at c.legs k).leaves
  leaves_back f k h =
      let e : ℕ = legs_start c + k in
      let j : ℕ = (leg_at c.legs k).leaves in
      let fit : LegFits c (leg_at c.legs k) = f.legs (leg_at c.legs k) (leg_in c.legs k h) in
      let low : 1 ≤ j = fit.from in
      let high : j ≤ c.junctions = omega (arith, fit.up, fit.to) in
      let has : Memᴰ e (chain b (field b j 1)) =
      subst (Memᴰ e) (sym (junction_chain j low high)) (in_leaving j (legs_start c) c.legs k h refl) in
      first_in_is (λ (i : ℕ). mem e (chain b (field b i 1))) (upto 1 (suc (junctions b))) j
      (in_upto 1 (suc (junctions b)) j low (omega (arith, junctions_is c))) (in_mem (chain b (field b j 1)) has) only
    where
      only : (i : ℕ) → Memᴰ i (upto 1 (suc (junctions b))) → mem (legs_start c + k) (chain b (field b i 1)) ≡ true → i ≡ (leg_at c.legs k).leaves
      only i m t =
          let (l, u) = upto_in 1 (suc (junctions b)) i m in
          let on : Memᴰ (legs_start c + k) (leaving_at i (legs_start c) c.legs) =
          subst (Memᴰ (legs_start c + k)) (junction_chain i l (omega (arith, junctions_is c))) (mem_in (chain b (field b i 1)) t) in
          let x = leaving_in i (legs_start c) c.legs (legs_start c + k) on in
          let same : k ≡ x.place = omega (arith, x.is) in
          sym x.leaves ∙ ap (λ (n : ℕ). (leg_at c.legs n).leaves) (sym same)

  -- the records that are belts are those of the legs
  pub belts_are : belt_records (form_of c) ≡ upto (legs_start c) (rules_start c)
  belts_are = rises_equal (belt_records b) (upto (legs_start c) (rules_start c)) (records_rise b) (upto_rises (legs_start c) (rules_start c)) onto into
    where
      onto : (e : ℕ) → Memᴰ e (belt_records b) → Memᴰ e (upto (legs_start c) (rules_start c))
      onto e m =
          let (n, t) = keep_in (λ (r : ℕ). eqb (kind b r) 2) (upto (suc (junctions b)) (records b)) m in
          let (l, u) = upto_in (suc (junctions b)) (records b) e n in
          go (omega (arith, junctions_is c)) (omega (arith, records_is c)) (eqb-true (kind b e) 2 t) (lt_or_le e (rules_start c))
        where
          go : legs_start c ≤ e → e < length (records_of c) → kind b e ≡ 2 → (e < rules_start c) ⊎ (rules_start c ≤ e) → Memᴰ e (upto (legs_start c) (rules_start c))
          go l u two (inl h) = in_upto (legs_start c) (rules_start c) e l h
          go l u two (inr h) = by (kind_rule c e h u)
            where
              by : (kind b e ≡ 3) ⊎ (kind b e ≡ 4) → Memᴰ e (upto (legs_start c) (rules_start c))
              by (inl q) = absurd (omega arith)
              by (inr q) = absurd (omega arith)

      into : (e : ℕ) → Memᴰ e (upto (legs_start c) (rules_start c)) → Memᴰ e (belt_records b)
      into e m =
          let (l, u) = upto_in (legs_start c) (rules_start c) e m in
          in_keep (λ (r : ℕ). eqb (kind b r) 2) (upto (suc (junctions b)) (records b))
          (in_upto (suc (junctions b)) (records b) e (omega (arith, junctions_is c)) (omega (arith, records_is c, length_records c)))
          (eq-eqb (kind b e) 2 (kind_leg c e l u))

  pub belts_back : Fits c → map (belt_at (form_of c)) (belt_records (form_of c)) ≡ belts_numbered (legs_start c) c.legs
  belts_back f =
      let n : ℕ = rules_start c - legs_start c in
      let es : List Belt = belts_numbered (legs_start c) c.legs in
      ap (map (belt_at b)) belts_are
      ∙ sym (map_iota (belt_at b) (legs_start c) n (belt_of 0 no_leg) es (omega (arith, length_belts_from (legs_start c) c.legs)) (λ k h.
      belts_from_at (legs_start c) c.legs k (belt_of 0 no_leg) (omega arith) ∙ sym (belt_back k (omega arith))))
    where
      belt_back : (k : ℕ) → k < length c.legs → belt_at b (legs_start c + k) ≡ belt_of (legs_start c + k) (leg_at c.legs k)
      belt_back k h =
          let x = leg_holds k h in
          let cost = (λ i. x.at4 i * field_limit + x.at3 i) ∙ cost_back (leg_at c.legs k).cost in
          λ i. record { index = legs_start c + k; leaves = leaves_back f k h i; leads = x.at2 i; cost = cost i }

  pub read_back : Fits c → plan_of (form_of c) ≡ plan_numbered (legs_start c) c
  unfolding plan_of
  read_back f =
      let few = rules_few (legs_start c) (rules_start c) c.rules in
      let rules = ap (λ (a : ℕ). map (rule_at b) (chain b a)) (parts c).header.at3
      ∙ rules_back b (legs_start c) (rules_start c) c.rules (records b) (omega arith) (omega (arith, records_is c, length_records c))
      (omega (arith, records_is c, length_records c)) (parts c).rules in
      λ i. record { junctions = junctions_is c i; modes = modes_is c i; belts = belts_back f i; rules = rules i }
