-- Which record stands at which index of a content's records, and what the bytes of these records say of themselves.
--
--   length_junctions, length_legs, length_literals, length_rule
--                          how many records there are of each sort; length_records: and in all
--   leg_part c, rule_part c  the records of the legs, and of the rules
--   record_header, record_junction, record_leg, record_rule
--                          the record at an index, by parts
--   leg_at_lem                 the record at a place among those of the legs: leg_at is the leg, and next_leg what its record says is the next
--   Sort c i r             r is of one of the sorts of record that stand at index i in the records of c; RuleSort n rules r: one of those of rules
--   sort_at                every index of a content's records has one; rule_sort: the same among the records of rules
--   first_low, head_low    chain indices lie no higher than the records that they lead to
--   low_records            all fields of the records of a content that fits have room in two bytes
--   form_of c               the bytes of the records of c
--   Parts b c              the records of c stand in the bytes b, part by part; parts: so they do in form_of c
--   records_is, junctions_is, modes_is
--                          what record 0 says
--   kind_leg, kind_rule
--                          the kinds of the records, by their indices
--   rule_stands            where rules stand, there stand the first of them, its literals, and the others (RuleStands)
--   literal_kinds          where literals stand, there stand records of kind 4; literal_kind, literal_next: what each of them says
--
-- Assumes nothing.
use mathlib.Core.Path.{◌≡◌, refl, sym, ◌∙◌, ap, subst}
use mathlib.Core.Logic.{◌⊎◌, inl, inr}
use mathlib.Core.Bool.{Bool, true, false}
use Prim.Native.Nat.{ℕ, zero, suc, ◌+◌, ◌-◌, ◌≤◌, ◌<◌}
use mathlib.Core.List.Memᴰ
use mathlib.Core.List.{List, [], ◌∷◌, ◌++◌, map, Memᴰ}
use native.Mathlib.Omega.{arith}
use lib.ListN.{length, get_or, drop, length-append, length-map, get_or-append}
use lib.Seq.{get_or-append-add}
use lib.Dec.{eqb}
use Rattle.plan.specs.declared.read.Literal.{Literal}
use Rattle.plan.specs.declared.read.Literal.TheVariants.{OfBelt, OfMode}
use Rattle.plan.specs.Bounds.{field_limit, max_junctions, max_modes}
use Rattle.plan.specs.Lists.{upto}
use Rattle.plan.specs.Records.{kind, junctions, modes, records}
use Rattle.plan.proofs.Lists.{each, lt_or_le, length_iota, get_d_iota}
use Rattle.archive.specs.Content.{Leg, Content}
use Rattle.archive.specs.Form.{Fields, fields, bytes_of, chain_start, first_leaving, legs_start, rules_start, junction_record, junction_records, leg_record, leg_records, flag, literal_record, literal_records, behind, records_of_rule, rule_records, items_of, header_of, records_of}
use Rattle.archive.proofs.ContentFits.{LegFits, LiteralFits, Fits}
use Rattle.archive.proofs.RecordBytes.{blank, LowFields, AllLow, low_append, Holds, holds_is, Stands, stands_all, stands_append}

-- ---- how many there are

pub length_junctions : (c : Content) → length (junction_records c) ≡ c.junctions
length_junctions c =
    let js : List ℕ = upto 1 (suc c.junctions) in
    omega (arith, length-map js (junction_record c), length_iota 1 (suc c.junctions - 1))

pub length_legs : (i : ℕ) (es : List Leg) → length (leg_records i es) ≡ length es
length_legs i [] = refl
length_legs i (e ∷ es) = ap suc (length_legs (suc i) es)

pub length_literals : (n i : ℕ) (ls : List Literal) → length (literal_records n i ls) ≡ length ls
length_literals n i [] = refl
length_literals n i (l ∷ ls) = ap suc (length_literals n (suc i) ls)

pub length_rule : (n i : ℕ) (rule : List Literal) (next : ℕ) → length (records_of_rule n i rule next) ≡ suc (length rule)
length_rule n i rule next = ap suc (length_literals n (suc i) rule)

-- the records of the rules, and those of the legs
abbrev pub rule_part : Content → List Fields
rule_part c = rule_records (legs_start c) (rules_start c) c.rules

abbrev pub leg_part : Content → List Fields
leg_part c = leg_records (legs_start c) c.legs

pub length_records : (c : Content) → length (records_of c) ≡ rules_start c + length (rule_part c)
unfolding records_of
length_records c =
    omega (
      arith,
      length-append (junction_records c ++ leg_part c) (rule_part c),
      length-append (junction_records c) (leg_part c),
      length_junctions c,
      length_legs (legs_start c) c.legs,
    )

-- ---- the record at an index, by parts

pub record_header : (c : Content) → get_or (records_of c) 0 blank ≡ header_of c
unfolding records_of
record_header c = refl

-- the records before the rules
length_before : (c : Content) → length (junction_records c ++ leg_part c) ≡ c.junctions + length c.legs
length_before c = omega (arith, length-append (junction_records c) (leg_part c), length_junctions c, length_legs (legs_start c) c.legs)

pub record_junction : (c : Content) (j : ℕ) → 1 ≤ j → j ≤ c.junctions → get_or (records_of c) j blank ≡ junction_record c j
unfolding records_of
record_junction c zero l h = absurd (omega arith)
record_junction c (suc j) l h =
    let q : 1 + j ≡ suc j = omega arith in
    get_or-append (junction_records c ++ leg_part c) (rule_part c) blank j (omega (arith, length_before c))
    ∙ get_or-append (junction_records c) (leg_part c) blank j (omega (arith, length_junctions c))
    ∙ get_d_iota (junction_record c) 1 (suc c.junctions - 1) j blank (omega arith)
    ∙ ap (junction_record c) q

pub record_leg : (c : Content) (k : ℕ) → k < length c.legs → get_or (records_of c) (legs_start c + k) blank ≡ get_or (leg_part c) k blank
unfolding records_of
record_leg c k h =
    let q : legs_start c + k ≡ suc (length (junction_records c) + k) = omega (arith, length_junctions c) in
    ap (λ (i : ℕ). get_or (records_of c) i blank) q
    ∙ get_or-append (junction_records c ++ leg_part c) (rule_part c) blank (length (junction_records c) + k) (omega (arith, length_before c, length_junctions c))
    ∙ get_or-append-add (junction_records c) (leg_part c) k blank

pub record_rule : (c : Content) (k : ℕ) → get_or (records_of c) (rules_start c + k) blank ≡ get_or (rule_part c) k blank
unfolding records_of
record_rule c k =
    let q : rules_start c + k ≡ suc (length (junction_records c ++ leg_part c) + k) = omega (arith, length_before c) in
    ap (λ (i : ℕ). get_or (records_of c) i blank) q
    ∙ get_or-append-add (junction_records c ++ leg_part c) (rule_part c) k blank

abbrev pub no_leg : Leg
no_leg = record { leaves = 0; leads = 0; cost = 0 }

-- the leg at place k, and what its record says is the next
abbrev pub leg_at : List Leg → ℕ → Leg
leg_at es k = get_or es k no_leg

abbrev pub next_leg : ℕ → List Leg → ℕ → ℕ
next_leg i es k = first_leaving (leg_at es k).leaves (suc (i + k)) (drop (suc k) es)

pub leg_at_lem : (i : ℕ) (es : List Leg) (k : ℕ) → k < length es → get_or (leg_records i es) k blank ≡ leg_record (leg_at es k) (next_leg i es k)
leg_at_lem i [] k h = absurd (omega arith)
leg_at_lem i (e ∷ es) zero h = let q : i ≡ i + 0 = omega arith in ap (λ (n : ℕ). leg_record e (first_leaving e.leaves (suc n) es)) q
leg_at_lem i (e ∷ es) (suc k) h =
    let q : suc i + k ≡ i + suc k = omega arith in
    leg_at_lem (suc i) es k (omega arith)
    ∙ ap (λ (n : ℕ). leg_record (leg_at es k) (first_leaving (leg_at es k).leaves (suc n) (drop (suc k) es))) q

-- ---- what stands at an index

-- of the rules' part: a rule, or a literal of one
pub data RuleSort (n : ℕ) (rules : List (List Literal)) (r : Fields) : Type 0 where
  a_rule : (next first : ℕ) → r ≡ fields 3 next first 0 0 0 → RuleSort n rules r
  a_literal : (rule : List Literal) (l : Literal) (next : ℕ) → Memᴰ rule rules → Memᴰ l rule → r ≡ literal_record n l next → RuleSort n rules r

literal_sort : (n i : ℕ) (ls : List Literal) (k : ℕ) → k < length ls
    → (l : Literal) × (next : ℕ) × Memᴰ l ls × (get_or (literal_records n i ls) k blank ≡ literal_record n l next)
literal_sort n i [] k h = absurd (omega arith)
literal_sort n i (l ∷ ls) zero h = (l, chain_start (suc i) ls, Memᴰ.head refl, refl)
literal_sort n i (l ∷ ls) (suc k) h =
    let (x, next, m, e) = literal_sort n (suc i) ls k (omega arith) in
    (x, next, Memᴰ.tail m, e)

pub rule_sort : (n i : ℕ) (rules : List (List Literal)) (k : ℕ) → k < length (rule_records n i rules) → RuleSort n rules (get_or (rule_records n i rules) k blank)
rule_sort n i [] k h = absurd (omega arith)
rule_sort n i (rule ∷ rules) k h = go k (lt_or_le k (suc (length rule))) h (rule_sort n (behind i rule) rules)
  where
    next : ℕ
    next = chain_start (behind i rule) rules

    first : List Fields
    first = records_of_rule n i rule next

    later : List Fields
    later = rule_records n (behind i rule) rules

    front : (k : ℕ) → k < suc (length rule) → RuleSort n (rule ∷ rules) (get_or first k blank)
    front zero l = a_rule next (chain_start (suc i) rule) refl
    front (suc k) l =
        let (x, next, m, e) = literal_sort n (suc i) rule k (omega arith) in
        a_literal rule x next (Memᴰ.head refl) m e

    more : (r : Fields) → RuleSort n rules r → RuleSort n (rule ∷ rules) r
    more r (a_rule next head e) = a_rule next head e
    more r (a_literal x l next m k e) = a_literal x l next (Memᴰ.tail m) k e

    go : (k : ℕ) → (k < suc (length rule)) ⊎ (suc (length rule) ≤ k) → k < length (first ++ later)
        → ((m : ℕ) → m < length later → RuleSort n rules (get_or later m blank)) → RuleSort n (rule ∷ rules) (get_or (first ++ later) k blank)
    go k (inl l) h below =
        subst (RuleSort n (rule ∷ rules)) (sym (get_or-append first later blank k (omega (arith, length_rule n i rule next)))) (front k l)
    go k (inr l) h below =
        let m : ℕ = k - suc (length rule) in
        let q : length first + m ≡ k = omega (arith, length_rule n i rule next) in
        let u : m < length later = omega (arith, length-append first later, length_rule n i rule next) in
        subst (RuleSort n (rule ∷ rules)) (sym (get_or-append-add first later m blank) ∙ ap (λ (j : ℕ). get_or (first ++ later) j blank) q)
        (more (get_or later m blank) (below m u))

pub data Sort (c : Content) (i : ℕ) (r : Fields) : Type 0 where
  is_header : i ≡ 0 → r ≡ header_of c → Sort c i r
  is_junction : 1 ≤ i → i ≤ c.junctions → r ≡ junction_record c i → Sort c i r
  is_leg : (k : ℕ) → k < length c.legs → i ≡ legs_start c + k → r ≡ leg_record (leg_at c.legs k) (next_leg (legs_start c) c.legs k) → Sort c i r
  is_rule : rules_start c ≤ i → RuleSort (legs_start c) c.rules r → Sort c i r

pub sort_at : (c : Content) (i : ℕ) → i < length (records_of c) → Sort c i (get_or (records_of c) i blank)
sort_at c zero h = is_header refl (record_header c)
sort_at c (suc i) h = go (lt_or_le i c.junctions) (lt_or_le (suc i) (rules_start c))
  where
    leg : c.junctions ≤ i → suc i < rules_start c → Sort c (suc i) (get_or (records_of c) (suc i) blank)
    leg l u =
        let k : ℕ = i - c.junctions in
        let q : suc i ≡ legs_start c + k = omega arith in
        let few : k < length c.legs = omega arith in
        is_leg k few q (ap (λ (j : ℕ). get_or (records_of c) j blank) q ∙ record_leg c k few ∙ leg_at_lem (legs_start c) c.legs k few)

    rule : rules_start c ≤ suc i → Sort c (suc i) (get_or (records_of c) (suc i) blank)
    rule l =
        let k : ℕ = suc i - rules_start c in
        let q : rules_start c + k ≡ suc i = omega arith in
        let few : k < length (rule_part c) = omega (arith, length_records c) in
        is_rule l (subst (RuleSort (legs_start c) c.rules) (sym (record_rule c k) ∙ ap (λ (j : ℕ). get_or (records_of c) j blank) q)
        (rule_sort (legs_start c) (rules_start c) c.rules k few))

    go : (i < c.junctions) ⊎ (c.junctions ≤ i) → (suc i < rules_start c) ⊎ (rules_start c ≤ suc i) → Sort c (suc i) (get_or (records_of c) (suc i) blank)
    go (inl l) t = is_junction (omega arith) l (record_junction c (suc i) (omega arith) l)
    go (inr l) (inl t) = leg l t
    go (inr l) (inr t) = rule t

-- ---- all fields are low

pub first_low : (j i : ℕ) (es : List Leg) → first_leaving j i es ≤ i + length es
first_low j i [] = omega arith
first_low j i (e ∷ es) = go (eqb e.leaves j) (first_low j (suc i) es)
  where
    go : (t : Bool) → first_leaving j (suc i) es ≤ suc i + length es → elim t [ true ↦ i | false ↦ first_leaving j (suc i) es ] ≤ i + suc (length es)
    go true h = omega arith
    go false h = omega arith

pub head_low : {A : Type 0} (i : ℕ) (xs : List A) → chain_start i xs ≤ i
head_low i [] = omega arith
head_low i (x ∷ xs) = omega arith

low_junctions : (c : Content) → rules_start c < field_limit → (js : List ℕ) → AllLow (map (junction_record c) js)
low_junctions c h [] r m = absurd (Memᴰ.not-nil m)
low_junctions c h (j ∷ js) r m = each LowFields one (low_junctions c h js) r m
  where
    one : LowFields (junction_record c j)
    one = record {
      low0 = omega arith;
      low1 = omega (arith, first_low j (legs_start c) c.legs);
      low2 = omega arith;
      low3 = omega arith;
      low4 = omega arith;
      low5 = omega arith;
    }

low_legs : (c : Content) → c.junctions ≤ max_junctions → (i : ℕ) (es : List Leg) → ((e : Leg) → Memᴰ e es → LegFits c e) → i + length es < field_limit
    → AllLow (leg_records i es)
low_legs c few i [] fit h r m = absurd (Memᴰ.not-nil m)
low_legs c few i (e ∷ es) fit h r m = each LowFields one (low_legs c few (suc i) es (λ x k. fit x (Memᴰ.tail k)) (omega arith)) r m
  where
    f : LegFits c e
    f = fit e (Memᴰ.head refl)

    one : LowFields (leg_record e (first_leaving e.leaves (suc i) es))
    one = record {
      low0 = omega arith;
      low1 = omega (arith, first_low e.leaves (suc i) es);
      low2 = omega (arith, f.to);
      low3 = omega arith;
      low4 = omega (arith, f.price);
      low5 = omega arith;
    }

flag_low : (t : Bool) → flag t < field_limit
flag_low true = omega arith
flag_low false = omega arith

low_literal : (c : Content) (n : ℕ) → n + length c.legs < field_limit → c.modes ≤ max_modes → (l : Literal) → LiteralFits c l → (next : ℕ) → next < field_limit
    → LowFields (literal_record n l next)
low_literal c n legs few (OfBelt e wanted) fit next h = record {
  low0 = omega arith;
  low1 = h;
  low2 = flag_low wanted;
  low3 = omega arith;
  low4 = omega arith;
  low5 = omega arith;
}
low_literal c n legs few (OfMode m wanted) fit next h = record {
  low0 = omega arith;
  low1 = h;
  low2 = flag_low wanted;
  low3 = omega arith;
  low4 = omega (arith, fit.1);
  low5 = omega arith;
}

module _ (c : Content) (n : ℕ) (legs : n + length c.legs < field_limit) (few : c.modes ≤ max_modes) where
  low_literals : (i : ℕ) (ls : List Literal) → ((l : Literal) → Memᴰ l ls → LiteralFits c l) → i + length ls < field_limit → AllLow (literal_records n i ls)
  low_literals i [] fit h r m = absurd (Memᴰ.not-nil m)
  low_literals i (l ∷ ls) fit h r m =
      each LowFields (low_literal c n legs few l (fit l (Memᴰ.head refl)) (chain_start (suc i) ls) (omega (arith, head_low (suc i) ls)))
      (low_literals (suc i) ls (λ x k. fit x (Memᴰ.tail k)) (omega arith)) r m

  low_rules : (i : ℕ) (rules : List (List Literal)) → ((rule : List Literal) → Memᴰ rule rules → (l : Literal) → Memᴰ l rule → LiteralFits c l)
      → i + length (rule_records n i rules) < field_limit → AllLow (rule_records n i rules)
  low_rules i [] fit h = λ r m. absurd (Memᴰ.not-nil m)
  low_rules i (rule ∷ rules) fit h =
      let next : ℕ = chain_start (behind i rule) rules in
      let later : List Fields = rule_records n (behind i rule) rules in
      let size : suc (length rule) + length later ≡ length (records_of_rule n i rule next ++ later) =
      omega (arith, length-append (records_of_rule n i rule next) later, length_rule n i rule next) in
      low_append (records_of_rule n i rule next) later
      (each LowFields (record {
        low0 = omega arith;
        low1 = omega (arith, head_low (behind i rule) rules);
        low2 = omega (arith, head_low (suc i) rule);
        low3 = omega arith;
        low4 = omega arith;
        low5 = omega arith;
      })
      (low_literals (suc i) rule (fit rule (Memᴰ.head refl)) (omega arith)))
      (low_rules (behind i rule) rules (λ x k. fit x (Memᴰ.tail k)) (omega arith))

pub low_records : (c : Content) → Fits c → AllLow (records_of c)
unfolding records_of
low_records c f =
    let size = length_records c in
    let few = f.few_records in
    each LowFields header
    (low_append (junction_records c ++ leg_part c) (rule_part c)
    (low_append (junction_records c) (leg_part c)
    (low_junctions c (omega arith) (upto 1 (suc c.junctions)))
    (low_legs c f.few_junctions (legs_start c) c.legs f.legs (omega arith)))
    (low_rules c (legs_start c) (omega arith) f.few_modes (rules_start c) c.rules f.literals (omega arith)))
  where
    header : LowFields (header_of c)
    header = record {
      low0 = omega arith;
      low1 = omega (arith, f.few_junctions);
      low2 = omega (arith, f.few_modes);
      low3 = omega (arith, head_low (rules_start c) c.rules, length_records c, f.few_records);
      low4 = omega (arith, f.few_records);
      low5 = omega arith;
    }

-- ---- the bytes of the records

-- whatever a literal is about, its record is of kind 4
pub literal_kind : (n : ℕ) (l : Literal) (next : ℕ) → (literal_record n l next).f0 ≡ 4
literal_kind n (OfBelt e wanted) next = refl
literal_kind n (OfMode m wanted) next = refl

-- and field 1 is the next one
pub literal_next : (n : ℕ) (l : Literal) (next : ℕ) → (literal_record n l next).f1 ≡ next
literal_next n (OfBelt e wanted) next = refl
literal_next n (OfMode m wanted) next = refl

pub record Parts (b : List ℕ) (c : Content) : Type 0 where
  pub header : Holds b 0 (header_of c)
  pub junctions : (j : ℕ) → 1 ≤ j → j ≤ c.junctions → Holds b j (junction_record c j)
  pub legs : Stands b (legs_start c) (leg_part c)
  pub rules : Stands b (rules_start c) (rule_part c)

abbrev pub form_of : Content → List ℕ
form_of c = bytes_of (records_of c)

pub parts : (c : Content) → Parts (form_of c) c
unfolding records_of
parts c =
    let b : List ℕ = form_of c in
    let all : Stands b 0 (header_of c ∷ items_of c) = stands_all (records_of c) in
    let (before, rules) = stands_append b 1 (junction_records c ++ leg_part c) (rule_part c) all.1 in
    let legs = (stands_append b 1 (junction_records c) (leg_part c) before).1 in
    let p : 1 + length (junction_records c) ≡ legs_start c = omega (arith, length_junctions c) in
    let q : 1 + length (junction_records c ++ leg_part c) ≡ rules_start c = omega (arith, length_before c) in
    record {
      header = all.0;
      junctions = λ j l h. holds_is (records_of c) j (junction_record c j) (record_junction c j l h);
      legs = subst (λ (i : ℕ). Stands b i (leg_part c)) p legs;
      rules = subst (λ (i : ℕ). Stands b i (rule_part c)) q rules;
    }

module _ (c : Content) where
  pub records_is : records (form_of c) ≡ length (records_of c)
  unfolding records_of
  records_is = (parts c).header.at4

  pub junctions_is : junctions (form_of c) ≡ c.junctions
  junctions_is = (parts c).header.at1

  pub modes_is : modes (form_of c) ≡ c.modes
  modes_is = (parts c).header.at2

  -- ---- the kinds of the records

  pub kind_leg : (i : ℕ) → legs_start c ≤ i → i < rules_start c → kind (form_of c) i ≡ 2
  kind_leg i l h = go (sort_at c i (omega (arith, length_records c)))
    where
      go : Sort c i (get_or (records_of c) i blank) → kind (form_of c) i ≡ 2
      go (is_header e r) = absurd (omega arith)
      go (is_junction p q r) = absurd (omega arith)
      go (is_leg k p q r) = (holds_is (records_of c) i (leg_record (leg_at c.legs k) (next_leg (legs_start c) c.legs k)) r).at0
      go (is_rule p r) = absurd (omega arith)

  pub kind_rule : (i : ℕ) → rules_start c ≤ i → i < length (records_of c) → (kind (form_of c) i ≡ 3) ⊎ (kind (form_of c) i ≡ 4)
  kind_rule i l h = go (sort_at c i h)
    where
      by : RuleSort (legs_start c) c.rules (get_or (records_of c) i blank) → (kind (form_of c) i ≡ 3) ⊎ (kind (form_of c) i ≡ 4)
      by (a_rule next first e) = inl (holds_is (records_of c) i (fields 3 next first 0 0 0) e).at0
      by (a_literal rule x next m n e) = inr ((holds_is (records_of c) i (literal_record (legs_start c) x next) e).at0 ∙ literal_kind (legs_start c) x next)

      go : Sort c i (get_or (records_of c) i blank) → (kind (form_of c) i ≡ 3) ⊎ (kind (form_of c) i ≡ 4)
      go (is_header e r) = absurd (omega arith)
      go (is_junction p q r) = absurd (omega arith)
      go (is_leg k p q r) = absurd (omega arith)
      go (is_rule p r) = by r

-- ---- rules and literals that stand somewhere

-- a rule at index i, its literals, and the later rules
pub record RuleStands (b : List ℕ) (n i : ℕ) (rule : List Literal) (rules : List (List Literal)) : Type 0 where
  pub head : Holds b i (fields 3 (chain_start (behind i rule) rules) (chain_start (suc i) rule) 0 0 0)
  pub literals : Stands b (suc i) (literal_records n (suc i) rule)
  pub later : Stands b (behind i rule) (rule_records n (behind i rule) rules)

pub rule_stands : (b : List ℕ) (n i : ℕ) (rule : List Literal) (rules : List (List Literal))
    → Stands b i (rule_records n i (rule ∷ rules)) → RuleStands b n i rule rules
rule_stands b n i rule rules s =
    let next : ℕ = chain_start (behind i rule) rules in
    let q : i + length (records_of_rule n i rule next) ≡ behind i rule = omega (arith, length_rule n i rule next) in
    let (first, later) = stands_append b i (records_of_rule n i rule next) (rule_records n (behind i rule) rules) s in
    record { head = first.0; literals = first.1; later = subst (λ (j : ℕ). Stands b j (rule_records n (behind i rule) rules)) q later }

pub literal_kinds : (b : List ℕ) (n i : ℕ) (ls : List Literal) → Stands b i (literal_records n i ls) → (k : ℕ) → k < length ls → kind b (i + k) ≡ 4
literal_kinds b n i [] s k h = absurd (omega arith)
literal_kinds b n i (l ∷ ls) s zero h = let q : i + 0 ≡ i = omega arith in ap (kind b) q ∙ s.0.at0 ∙ literal_kind n l (chain_start (suc i) ls)
literal_kinds b n i (l ∷ ls) s (suc k) h = let q : i + suc k ≡ suc i + k = omega arith in ap (kind b) q ∙ literal_kinds b n (suc i) ls s.1 k (omega arith)
