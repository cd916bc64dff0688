-- The named belts of a plan whose lines 1 to 6 are unbroken, and the marks by which the code finds them.
--
--   names_record     a literal of a belt names a belt record (line 6)
--   noted_step, length_note, length_noted, length_notes
--                    for the loop that marks
--   noted_at         the mark of e is 1 where some literal names it, else 0
--   few_named        line 7 as a number
--   in_named, named_of
--                    what is in `named p`, for any plan p
--   indices_back     the indices of the belts at records are the records
--   named_in, named_rises
--                    the named belts are belt records, and rise
--   named_marks, named_count, kept_named
--                    they are the records that are marked, and as many
--
-- Assumes nothing.
use mathlib.Core.Path.{◌≡◌, refl, sym, ◌∙◌, ap, subst}
use mathlib.Core.Logic.{◌⊎◌, inl, inr}
use mathlib.Core.Bool.{Bool, true, false, ◌&&◌, ◌||◌}
use Prim.Native.Nat.{ℕ, suc, ◌+◌, ◌≤◌, ◌<◌}
use mathlib.Core.List.{List, [], ◌∷◌, map, Memᴰ}
use native.Mathlib.Omega.{arith}
use lib.ListN.{length, get_or, set, replicate, length-set, length-replicate, get_or-replicate}
use lib.Seq.{get_or-set_same, get_or-set_other}
use lib.Dec.{eqb}
use borrow.Author.Tests.{eqb-true, eqb-false, eq-eqb, ltb-false}
use Rattle.plan.specs.Bounds.{max_named, max_records}
use Rattle.plan.specs.Lists.{any, keep, count_by, count, upto}
use Rattle.plan.specs.Records.{IsKind, field, kind, junctions, records, chain}
use Rattle.plan.specs.Plan.{Belt, Plan, belt_at, belt_records, literal_by, literal_at, rule_at, plan_of, names, in_rule, named}
use Rattle.plan.specs.Refusals.{broken6, broken7}
use Rattle.plan.specs.Inner.{Passed6}
use Rattle.plan.specs.Inner.{marked_once, names_belt, note, noted, notes}
use Rattle.plan.proofs.Lists.{test, both, and_is, in_any, any_some, in_keep, keep_in, in_map, map_in, in_upto, upto_in, upto_step}
use Rattle.plan.proofs.ListCounts.{length_keep}
use Rattle.plan.proofs.ListRising.{Rises, upto_rises, keep_rises, rises_equal}
use Rattle.plan.proofs.LineForms.{few, literals}
use Rattle.plan.proofs.LineLiterals.{unbroken_fits, fits_names}
use Rattle.plan.proofs.ChainLaws.{above, rule_chain_in, literal_chain_in, rule_reached, literal_reached, record_belt, belt_record, records_rise}
use Rattle.plan.proofs.LinePassed.{linked}

-- ---- line 6

-- a literal of a belt names a belt record
pub names_record : (b : List ℕ) → broken6 b ≡ false → (l : ℕ) → junctions b < l → l < records b → names_belt b l ≡ true → IsKind b 2 (field b l 4)
names_record b h l lo hi t =
    let k = both (eqb (kind b l) 4) (eqb (field b l 3) 0) t in
    (fits_names b l (unbroken_fits b h l lo hi (eqb-true (kind b l) 4 k.0))).belt (eqb-true (field b l 3) 0 k.1)

-- ---- marking

pub noted_step : (b marks : List ℕ) (l hi : ℕ) → l < hi → noted b marks (upto l hi) ≡ noted b (note (names_belt b l) marks (field b l 4)) (upto (l + 1) hi)
noted_step b marks l hi h = ap (noted b marks) (upto_step l hi h)

pub length_note : (t : Bool) (marks : List ℕ) (e : ℕ) → length (note t marks e) ≡ length marks
length_note true marks e = length-set marks e 1
length_note false marks e = refl

length_noted : (b marks ls : List ℕ) → length (noted b marks ls) ≡ length marks
length_noted b marks [] = refl
length_noted b marks (l ∷ ls) = length_noted b (note (names_belt b l) marks (field b l 4)) ls ∙ length_note (names_belt b l) marks (field b l 4)

pub length_notes : (b : List ℕ) → length (notes b) ≡ max_records
unfolding notes
length_notes b = length_noted b (replicate max_records 0) (upto (suc (junctions b)) (records b)) ∙ length-replicate {A = ℕ} max_records 0

-- record l is a literal of belt e
abbrev pub names_at : List ℕ → ℕ → ℕ → Bool
names_at b e l = names_belt b l && eqb e (field b l 4)

-- a mark after the ways t on which it is set to 1
abbrev set_by : Bool → ℕ → ℕ
set_by true m = 1
set_by false m = m

set_twice : (s t : Bool) (m : ℕ) → set_by t (set_by s m) ≡ set_by (s || t) m
set_twice true true m = refl
set_twice true false m = refl
set_twice false t m = refl

note_at : (t : Bool) (marks : List ℕ) (k e : ℕ) → e < length marks → get_or (note t marks k) e 0 ≡ set_by (t && eqb e k) (get_or marks e 0)
note_at false marks k e h = refl
note_at true marks k e h = go (test (eqb e k))
  where
    go : (eqb e k ≡ true) ⊎ (eqb e k ≡ false) → get_or (set marks k 1) e 0 ≡ set_by (eqb e k) (get_or marks e 0)
    go (inl t) = ap (λ (i : ℕ). get_or (set marks i 1) e 0) (sym (eqb-true e k t)) ∙ get_or-set_same marks e 1 0 h ∙ sym (ap (λ (s : Bool). set_by s (get_or marks e 0)) t)
    go (inr t) = get_or-set_other marks k e 1 0 (eqb-false e k t) ∙ sym (ap (λ (s : Bool). set_by s (get_or marks e 0)) t)

marks_at : (b marks : List ℕ) (e : ℕ) (ls : List ℕ) → e < length marks → get_or (noted b marks ls) e 0 ≡ set_by (any (names_at b e) ls) (get_or marks e 0)
marks_at b marks e [] h = refl
marks_at b marks e (l ∷ ls) h =
    let k = field b l 4 in
    let size = length_note (names_belt b l) marks k in
    marks_at b (note (names_belt b l) marks k) e ls (omega arith)
    ∙ ap (set_by (any (names_at b e) ls)) (note_at (names_belt b l) marks k e h)
    ∙ set_twice (names_at b e l) (any (names_at b e) ls) (get_or marks e 0)

-- some literal names e
abbrev pub some_names : List ℕ → ℕ → Bool
some_names b e = any (names_at b e) (upto (suc (junctions b)) (records b))

noted_at : (b : List ℕ) (e : ℕ) → e < max_records → get_or (notes b) e 0 ≡ count_by (some_names b e) 0
unfolding notes
noted_at b e h =
    marks_at b (replicate max_records 0) e (upto (suc (junctions b)) (records b)) (omega (arith, length-replicate {A = ℕ} max_records 0))
    ∙ ap (set_by (some_names b e)) (get_or-replicate {A = ℕ} max_records e 0 0 h)
    ∙ same (some_names b e)
  where
    same : (t : Bool) → set_by t 0 ≡ count_by t 0
    same true = refl
    same false = refl

once_at : (b : List ℕ) (e : ℕ) → e < max_records → marked_once (notes b) e ≡ some_names b e
once_at b e h = ap (λ (m : ℕ). eqb m 1) (noted_at b e h) ∙ same (some_names b e)
  where
    same : (t : Bool) → eqb (count_by t 0) 1 ≡ t
    same true = refl
    same false = refl

-- ---- line 7

pub few_named : (b : List ℕ) → broken7 b ≡ false → length (named (plan_of b)) ≤ max_named
unfolding broken7
few_named b h = ltb-false max_named (length (named (plan_of b))) h

-- ---- the named belts of any plan

-- e is in some rule
abbrev in_some : Plan → ℕ → Bool
in_some p e = any (in_rule e) p.rules

abbrev belt_indices : Plan → List ℕ
belt_indices p = map (λ (x : Belt). x.index) p.belts

pub in_named : (p : Plan) (x : Belt) → Memᴰ x p.belts → any (in_rule x.index) p.rules ≡ true → Memᴰ x.index (named p)
unfolding named
in_named p x m t = in_keep (in_some p) (belt_indices p) (in_map (λ (x : Belt). x.index) m) t

pub named_of : (p : Plan) (e : ℕ) → Memᴰ e (named p) → ((x : Belt) × Memᴰ x p.belts × (e ≡ x.index)) × (any (in_rule e) p.rules ≡ true)
unfolding named
named_of p e m = let k = keep_in (in_some p) (belt_indices p) m in (map_in (λ (x : Belt). x.index) p.belts k.0, k.1)

-- ---- those of the plan that bytes describe

names_at_lem : (b : List ℕ) (e l : ℕ) → names e (literal_at b l) ≡ (eqb (field b l 3) 0 && eqb e (field b l 4))
names_at_lem b e l = go (eqb (field b l 3) 0)
  where
    go : (t : Bool) → names e (literal_by t (eqb (field b l 2) 1) (field b l 4)) ≡ (t && eqb e (field b l 4))
    go true = refl
    go false = refl

pub indices_back : (b : List ℕ) (xs : List ℕ) → map (λ (x : Belt). x.index) (map (belt_at b) xs) ≡ xs
indices_back b [] = refl
indices_back b (x ∷ xs) = ap (λ (l : List ℕ). x ∷ l) (indices_back b xs)

-- the belt records that are in some rule
named_records : (b : List ℕ) → named (plan_of b) ≡ keep (in_some (plan_of b)) (belt_records b)
unfolding named plan_of
named_records b = ap (keep (in_some (plan_of b))) (indices_back b (belt_records b))

pub named_rises : (b : List ℕ) → Rises (named (plan_of b))
named_rises b =
    subst Rises (sym (named_records b))
    (keep_rises (in_some (plan_of b)) (records_rise b))

pub named_in : (b : List ℕ) (e : ℕ) → Memᴰ e (named (plan_of b)) → IsKind b 2 e
named_in b e m = record_belt b e (keep_in (in_some (plan_of b)) (belt_records b) (subst (Memᴰ e) (named_records b) m)).0

-- a literal of a rule that is about e names it
literal_names : (b : List ℕ) (e l : ℕ) → junctions b < l → IsKind b 4 l → names e (literal_at b l) ≡ true → some_names b e ≡ true
literal_names b e l u o t =
    let k = both (eqb (field b l 3) 0) (eqb e (field b l 4)) (sym (names_at_lem b e l) ∙ t) in
    in_any (names_at b e) (upto (suc (junctions b)) (records b)) (in_upto (suc (junctions b)) (records b) l u o.0)
    (and_is (names_belt b l) (eqb e (field b l 4)) (and_is (eqb (kind b l) 4) (eqb (field b l 3) 0) (eq-eqb (kind b l) 4 o.1) k.0) k.1)

module _ (b : List ℕ) (h : Passed6 b) where
  -- a belt in some rule of the plan is named by a literal record
  rule_names : (e : ℕ) → any (in_rule e) (plan_of b).rules ≡ true → some_names b e ≡ true
  unfolding plan_of
  rule_names e t =
      let w = linked b h.0 in
      let (rule, m, t1) = any_some (in_rule e) (map (rule_at b) (chain b (field b 0 3))) t in
      let (r, n, q) = map_in (rule_at b) (chain b (field b 0 3)) m in
      let (lit, i, t2) = any_some (names e) (rule_at b r) (ap (in_rule e) (sym q) ∙ t1) in
      let (l, j, q2) = map_in (literal_at b) (chain b (field b r 2)) i in
      let o = literal_chain_in w r l (rule_chain_in w r n) j in
      literal_names b e l (above w literals l o) o (ap (names e) (sym q2) ∙ t2)

  -- a belt that a literal record names is a belt record in some rule of the plan
  names_rule : (e : ℕ) → some_names b e ≡ true → IsKind b 2 e × (any (in_rule e) (plan_of b).rules ≡ true)
  unfolding plan_of
  names_rule e t =
      let w = linked b h.0 in
      let (l, m, s) = any_some (names_at b e) (upto (suc (junctions b)) (records b)) t in
      let u = upto_in (suc (junctions b)) (records b) l m in
      let k = both (names_belt b l) (eqb e (field b l 4)) s in
      let f = both (eqb (kind b l) 4) (eqb (field b l 3) 0) k.0 in
      let (r, o, i) = literal_reached w l (u.1, eqb-true (kind b l) 4 f.0) in
      let is = names_at_lem b e l ∙ and_is (eqb (field b l 3) 0) (eqb e (field b l 4)) f.1 k.1 in
      let rule = in_any (names e) (rule_at b r) (in_map (literal_at b) i) is in (
        subst (IsKind b 2) (sym (eqb-true e (field b l 4) k.1)) (names_record b h.2 l u.0 u.1 k.0),
        in_any (in_rule e) (map (rule_at b) (chain b (field b 0 3))) (in_map (rule_at b) (rule_reached w r o)) rule,
      )

  pub named_marks : named (plan_of b) ≡ keep (marked_once (notes b)) (upto 0 (records b))
  named_marks = rises_equal (named (plan_of b)) (keep once (upto 0 (records b))) (named_rises b) (keep_rises once (upto_rises 0 (records b))) onto into
    where
      once : ℕ → Bool
      once = marked_once (notes b)

      onto : (e : ℕ) → Memᴰ e (named (plan_of b)) → Memᴰ e (keep once (upto 0 (records b)))
      onto e m =
          let o = named_in b e m in
          in_keep once (upto 0 (records b)) (in_upto 0 (records b) e (omega arith) o.0)
          (once_at b e (omega (arith, o.0, few b h.0.0.0)) ∙ rule_names e (named_of (plan_of b) e m).1)

      into : (e : ℕ) → Memᴰ e (keep once (upto 0 (records b))) → Memᴰ e (named (plan_of b))
      into e m =
          let k = keep_in once (upto 0 (records b)) m in
          let u = upto_in 0 (records b) e k.0 in
          let (o, t) = names_rule e (sym (once_at b e (omega (arith, u.1, few b h.0.0.0))) ∙ k.1) in
          subst (Memᴰ e) (sym (named_records b)) (in_keep (in_some (plan_of b)) (belt_records b) (belt_record (linked b h.0) e o) t)

  pub named_count : length (named (plan_of b)) ≡ count (marked_once (notes b)) (upto 0 (records b))
  named_count = ap length named_marks ∙ length_keep (marked_once (notes b)) (upto 0 (records b))

  -- what the code has marked below n
  pub kept_named : (marks : List ℕ) (n : ℕ) → marks ≡ noted b (replicate max_records 0) (upto (suc (junctions b)) (records b)) → n ≡ records b
      → keep (marked_once marks) (upto 0 n) ≡ named (plan_of b)
  unfolding notes
  kept_named marks n p q = (λ i. keep (marked_once (p i)) (upto 0 (q i))) ∙ sym named_marks
