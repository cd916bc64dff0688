-- Lines 1 to 3 as facts: what an unbroken line says in numbers, and what numbers leave it unbroken.
--
--   Allowed u v       a field of use u may hold v, as a fact; allowed, allow: the same as `allows`
--   fits_fields       a record fits exactly when each of its five fields is allowed
--   suits_as b r k     the tests of record r by the row of kind k in the table `rows`; fits_as: a record of that kind fits by them
--   no_row            nothing is asked of a kind that is not in the table
--   sized, few, there what line 1 says; size_fits, size_wrong: what leaves it unbroken, and what breaks it
--   header            what line 2 says
--   kind_low, kind_high
--                     the kinds that line 3 lets stand at a place
--   Item k            k is a kind of record that may stand above the junctions; item_mem, mem_item: the same as the test
--   item_range        no such kind is a junction's or that of record 0
--
-- Assumes nothing.
use mathlib.Core.Path.{◌≡◌, refl, sym, ap, subst, ◌∙◌}
use mathlib.Core.Bool.{Bool, true, false, not, ◌&&◌}
use mathlib.Core.Logic.{◌⊎◌, inl, inr}
use Prim.Native.Nat.{ℕ, ◌+◌, ◌*◌, ◌≤◌, ◌<◌}
use mathlib.Core.List.Memᴰ
use mathlib.Core.List.{List, [], ◌∷◌}
use native.Mathlib.Omega.{arith}
use lib.ListN.{length}
use lib.Dec.{eqb, ltb}
use borrow.Author.Tests.{eqb-true, eq-eqb, ltb-true, lt-ltb, le-leb, lt-leb, not-false}
use Rattle.plan.specs.Bounds.{max_plan_bytes, max_records, min_plan_bytes}
use Rattle.plan.specs.Lists.{any, all, within, mem}
use Rattle.plan.specs.Records.{field, kind, junctions, records, Use, Any, Unused, Between, Chain, Row, Entry, chosen, row_in, row_of, row_at, use_at, fields, allows, fits}
pub use Rattle.plan.specs.Records.{Item, belts, rules, literals}
use Rattle.plan.specs.Refusals.{broken1, broken2, kinds_by, right_kind}
use Rattle.plan.specs.Limits.{Header}
use Rattle.plan.proofs.Lists.{test, both, and_is, neither, within_is, is_within, each, mem_in}

-- ---- one field

abbrev pub Allowed : Use → ℕ → Type 0
Allowed Any v = Unit {0}
Allowed Unused v = v ≡ 0
Allowed (Between a z) v = (a ≤ v) × (v ≤ z)
Allowed (Chain k) v = Unit {0}

allowed : (u : Use) (v : ℕ) → allows u v ≡ true → Allowed u v
allowed Any v h = tt
allowed Unused v h = eqb-true v 0 h
allowed (Between a z) v h = within_is a v z h
allowed (Chain k) v h = tt

allow : (u : Use) (v : ℕ) → Allowed u v → allows u v ≡ true
allow Any v h = refl
allow Unused v h = eq-eqb v 0 h
allow (Between a z) v h = is_within a v z h.0 h.1
allow (Chain k) v h = refl

-- ---- a record

abbrev pub Fields : List ℕ → ℕ → Row → Type 0
Fields b r row =
    Allowed row.f1 (field b r 1) × Allowed row.f2 (field b r 2) × Allowed row.f3 (field b r 3) × Allowed row.f4 (field b r 4) × Allowed row.f5 (field b r 5)

pub fits_fields : (b : List ℕ) (r k : ℕ) → kind b r ≡ k → fits b r ≡ true → Fields b r (row_of (junctions b) k)
unfolding fits
fits_fields b r k e h =
    let row = row_at b r in
    let suits : ℕ → Bool = λ (f : ℕ). allows (use_at row f) (field b r f) in
    let s1 = both (suits 1) (suits 2 && (suits 3 && (suits 4 && (suits 5 && true)))) h in
    let s2 = both (suits 2) (suits 3 && (suits 4 && (suits 5 && true))) s1.1 in
    let s3 = both (suits 3) (suits 4 && (suits 5 && true)) s2.1 in
    let s4 = both (suits 4) (suits 5 && true) s3.1 in
    let s5 = both (suits 5) true s4.1 in
    subst (λ (n : ℕ). Fields b r (row_of (junctions b) n)) e
    (allowed row.f1 (field b r 1) s1.0, allowed row.f2 (field b r 2) s2.0, allowed row.f3 (field b r 3) s3.0, allowed row.f4 (field b r 4) s4.0, allowed row.f5 (field b r 5) s5.0)

pub fields_fit : (b : List ℕ) (r k : ℕ) → kind b r ≡ k → Fields b r (row_of (junctions b) k) → fits b r ≡ true
unfolding fits
fields_fit b r k e h =
    let row = row_at b r in
    let g : Fields b r row = subst (λ (n : ℕ). Fields b r (row_of (junctions b) n)) (sym e) h in
    λ i.
    allow row.f1 (field b r 1) g.0 i
    && (allow row.f2 (field b r 2) g.1 i
    && (allow row.f3 (field b r 3) g.2 i && (allow row.f4 (field b r 4) g.3 i && (allow row.f5 (field b r 5) g.4 i && true))))

-- ---- a record, by the row of its kind in the table `rows`

-- whether a record fits, had it the kind k
abbrev pub suits_as : List ℕ → ℕ → ℕ → Bool
suits_as b r k = all (λ (f : ℕ). allows (use_at (row_of (junctions b) k) f) (field b r f)) fields

pub fits_as : (b : List ℕ) (r k : ℕ) → kind b r ≡ k → fits b r ≡ suits_as b r k
unfolding fits
fits_as b r k e = ap (suits_as b r) e

-- a kind that is not in the table has a row that asks for nothing
pub no_row : (k : ℕ) (es : List Entry) → any (λ (e : Entry). eqb k e.of) es ≡ false → row_in k es ≡ row_in k []
no_row k [] h = refl
no_row k (e ∷ es) h =
    let s = neither (eqb k e.of) (any (λ (x : Entry). eqb k x.of) es) h in
    ap (λ (t : Bool). chosen t e.row (row_in k es)) s.0 ∙ no_row k es s.1

-- ---- line 1

pub record Sized (b : List ℕ) : Type 0 where
  pub least : min_plan_bytes ≤ length b
  pub most : length b ≤ max_plan_bytes
  pub whole : length b ≡ 12 * records b

pub sized : (b : List ℕ) → broken1 b ≡ false → Sized b
unfolding broken1
sized b h =
    let k = both (within min_plan_bytes (length b) max_plan_bytes) (eqb (length b) (12 * records b)) (not-false _ h) in
    let w = within_is min_plan_bytes (length b) max_plan_bytes k.0 in
    record { least = w.0; most = w.1; whole = eqb-true (length b) (12 * records b) k.1 }

-- there are at most 2,048 records, and each of them is there
pub few : (b : List ℕ) → broken1 b ≡ false → records b ≤ max_records
few b h = let s = sized b h in omega arith

pub there : (b : List ℕ) → broken1 b ≡ false → (r : ℕ) → r < records b → 12 * r + 12 ≤ length b
there b h r l = let s = sized b h in omega arith

pub size_fits : (b : List ℕ) → Sized b → broken1 b ≡ false
unfolding broken1
size_fits b s = ap not (and_is (within min_plan_bytes (length b) max_plan_bytes) (eqb (length b) (12 * records b)) (is_within min_plan_bytes (length b) max_plan_bytes s.least s.most) (eq-eqb (length b) (12 * records b) s.whole))

pub size_wrong : (b : List ℕ) → (Sized b → ⊥) → broken1 b ≡ true
size_wrong b h = go (test (broken1 b))
  where
    go : (broken1 b ≡ true) ⊎ (broken1 b ≡ false) → broken1 b ≡ true
    go (inl t) = t
    go (inr t) = absurd (h (sized b t))

-- ---- line 2

pub header : (b : List ℕ) → broken2 b ≡ false → Header b
unfolding broken2 row_of
header b h =
    let k = both (eqb (kind b 0) 7 && fits b 0) (ltb (junctions b) (records b)) (not-false _ h) in
    let t = both (eqb (kind b 0) 7) (fits b 0) k.0 in
    let e : kind b 0 ≡ 7 = eqb-true (kind b 0) 7 t.0 in
    let f = fits_fields b 0 7 e t.1 in
    record {
      kind_7 = e;
      some_junctions = f.0.0;
      few_junctions = f.0.1;
      few_modes = f.1.1;
      unused = f.4;
      junctions_fit = ltb-true (junctions b) (records b) k.1;
    }

pub header_fits : (b : List ℕ) → Header b → broken2 b ≡ false
unfolding broken2 row_of
header_fits b h =
    ap not
    (and_is (eqb (kind b 0) 7 && fits b 0) (ltb (junctions b) (records b))
    (and_is (eqb (kind b 0) 7) (fits b 0) (eq-eqb (kind b 0) 7 h.kind_7)
    (fields_fit b 0 7 h.kind_7 ((h.some_junctions, h.few_junctions), (omega arith, h.few_modes), tt, tt, h.unused)))
    (lt-ltb (junctions b) (records b) h.junctions_fit))

-- ---- line 3, kinds

pub kind_low : (b : List ℕ) (r : ℕ) → r ≤ junctions b → right_kind b r ≡ mem (kind b r) (kinds_by true)
kind_low b r h = ap (λ (t : Bool). mem (kind b r) (kinds_by t)) (le-leb r (junctions b) h)

pub kind_high : (b : List ℕ) (r : ℕ) → junctions b < r → right_kind b r ≡ mem (kind b r) (kinds_by false)
kind_high b r h = ap (λ (t : Bool). mem (kind b r) (kinds_by t)) (lt-leb r (junctions b) h)

pub item_mem : {k : ℕ} → Item k → mem k (kinds_by false) ≡ true
item_mem belts = refl
item_mem rules = refl
item_mem literals = refl

pub mem_item : {k : ℕ} → mem k (kinds_by false) ≡ true → Item k
mem_item {k} h = each Item belts (each Item rules (each Item literals (λ a m. absurd (Memᴰ.not-nil m)))) k (mem_in (kinds_by false) h)

pub item_range : {k : ℕ} → Item k → (2 ≤ k) × (k ≡ 7 → ⊥)
item_range belts = (omega arith, λ e. omega arith)
item_range rules = (omega arith, λ e. omega arith)
item_range literals = (omega arith, λ e. omega arith)
