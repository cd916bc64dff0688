-- The bytes of records read back as the records, whatever records they are.
--
--   blank, field_at f r     the record of zeros, and field f of the record r
--   LowFields r, AllLow rs each of the six fields of r, and of all records of rs, has room in two bytes
--   blank_low, low_at      the record of zeros is low, and so is what stands at any place of low records
--   low_append             low records behind low records
--   Holds b i r            record i of the bytes b has the fields of r
--   holds_at               at index i of the bytes of records stands record i; field_at_lem: the same of one field, by its number
--   holds_is               the same along an equation that says which record it is
--   Stands b i rs          the records rs stand in the bytes b one after the other, from index i on
--   stands_all             all records stand in their bytes, from index 0 on
--   stands_at              the record at a place of those that stand; stands_append: those that stand, in two parts
--   length_bytes           there are twelve bytes for each record
--   bytes_are_bytes        the bytes of low records are bytes
--
-- Assumes nothing.
use mathlib.Core.Path.{◌≡◌, refl, ◌∙◌, ap, subst}
use mathlib.Core.Logic.{◌⊎◌, inl, inr}
use Prim.Native.Nat.{ℕ, zero, suc, ◌+◌, ◌*◌, ◌/◌, ◌%◌, ◌<◌}
use mathlib.Core.List.Memᴰ
use mathlib.Core.List.{List, [], ◌∷◌, ◌++◌, Memᴰ}
use native.Mathlib.Omega.{arith}
use lib.ListN.{length, get_or, length-append}
use lib.Seq.{get_or-append-add}
use Rattle.plan.specs.Bounds.{field_limit, record_bytes}
use Rattle.plan.specs.Lists.{joined}
use Rattle.plan.specs.Records.{field, field_bytes}
use Rattle.plan.specs.Reading.{Bytes}
use Rattle.plan.proofs.Lists.{each}
use Rattle.archive.specs.Form.{Fields, fields, record_bytes_of, bytes_of}

-- ---- records

abbrev pub blank : Fields
blank = fields 0 0 0 0 0 0

abbrev pub field_at : ℕ → Fields → ℕ
field_at zero r = r.f0
field_at (suc zero) r = r.f1
field_at (suc (suc zero)) r = r.f2
field_at (suc (suc (suc zero))) r = r.f3
field_at (suc (suc (suc (suc zero)))) r = r.f4
field_at (suc (suc (suc (suc (suc zero))))) r = r.f5
field_at (suc (suc (suc (suc (suc (suc f)))))) r = 0

pub record LowFields (r : Fields) : Type 0 where
  pub low0 : r.f0 < field_limit
  pub low1 : r.f1 < field_limit
  pub low2 : r.f2 < field_limit
  pub low3 : r.f3 < field_limit
  pub low4 : r.f4 < field_limit
  pub low5 : r.f5 < field_limit

abbrev pub AllLow : List Fields → Type 0
AllLow rs = (r : Fields) → Memᴰ r rs → LowFields r

pub blank_low : LowFields blank
blank_low = record { low0 = omega arith; low1 = omega arith; low2 = omega arith; low3 = omega arith; low4 = omega arith; low5 = omega arith }

pub low_at : (rs : List Fields) (i : ℕ) → AllLow rs → LowFields (get_or rs i blank)
low_at [] i low = blank_low
low_at (r ∷ rs) zero low = low r (Memᴰ.head refl)
low_at (r ∷ rs) (suc i) low = low_at rs i (λ x m. low x (Memᴰ.tail m))

pub low_append : (rs ss : List Fields) → AllLow rs → AllLow ss → AllLow (rs ++ ss)
low_append rs ss low high r m = go (Memᴰ.append_cases rs m)
  where
    go : Memᴰ r rs ⊎ Memᴰ r ss → LowFields r
    go (inl k) = low r k
    go (inr k) = high r k

-- ---- fields

pub record Holds (b : List ℕ) (i : ℕ) (r : Fields) : Type 0 where
  pub at0 : field b i 0 ≡ r.f0
  pub at1 : field b i 1 ≡ r.f1
  pub at2 : field b i 2 ≡ r.f2
  pub at3 : field b i 3 ≡ r.f3
  pub at4 : field b i 4 ≡ r.f4
  pub at5 : field b i 5 ≡ r.f5

-- a number, out of its two bytes
bytes_back : (n : ℕ) → n / 256 * 256 + n % 256 ≡ n
bytes_back n = omega arith

-- a record in front moves the others by one
module _ (r : Fields) (rest : List ℕ) where
  field_next : (i f : ℕ) → field (record_bytes_of r ++ rest) (suc i) f ≡ field rest i f
  field_next i f =
      let x : record_bytes * suc i + 2 * f ≡ record_bytes + (record_bytes * i + 2 * f) = omega arith in
      let y : record_bytes * suc i + 2 * f + 1 ≡ record_bytes + (record_bytes * i + 2 * f + 1) = omega arith in
      let at : ℕ → ℕ = λ n. get_or (record_bytes_of r ++ rest) n 0 in
      let p = ap at x ∙ get_or-append-add (record_bytes_of r) rest (record_bytes * i + 2 * f) 0 in
      let q = ap at y ∙ get_or-append-add (record_bytes_of r) rest (record_bytes * i + 2 * f + 1) 0 in
      λ k. p k * 256 + q k

pub holds_at : (rs : List Fields) (i : ℕ) → Holds (bytes_of rs) i (get_or rs i blank)
holds_at [] i = record { at0 = refl; at1 = refl; at2 = refl; at3 = refl; at4 = refl; at5 = refl }
holds_at (r ∷ rs) zero = record {
  at0 = bytes_back r.f0;
  at1 = bytes_back r.f1;
  at2 = bytes_back r.f2;
  at3 = bytes_back r.f3;
  at4 = bytes_back r.f4;
  at5 = bytes_back r.f5;
}
holds_at (r ∷ rs) (suc i) =
    let below = holds_at rs i in
    record {
      at0 = field_next r (bytes_of rs) i 0 ∙ below.at0;
      at1 = field_next r (bytes_of rs) i 1 ∙ below.at1;
      at2 = field_next r (bytes_of rs) i 2 ∙ below.at2;
      at3 = field_next r (bytes_of rs) i 3 ∙ below.at3;
      at4 = field_next r (bytes_of rs) i 4 ∙ below.at4;
      at5 = field_next r (bytes_of rs) i 5 ∙ below.at5;
    }

pub holds_is : (rs : List Fields) (i : ℕ) (r : Fields) → get_or rs i blank ≡ r → Holds (bytes_of rs) i r
holds_is rs i r e = subst (Holds (bytes_of rs) i) e (holds_at rs i)

pub field_at_lem : (rs : List Fields) (i f : ℕ) → f < 6 → field (bytes_of rs) i f ≡ field_at f (get_or rs i blank)
field_at_lem rs i zero l = (holds_at rs i).at0
field_at_lem rs i (suc zero) l = (holds_at rs i).at1
field_at_lem rs i (suc (suc zero)) l = (holds_at rs i).at2
field_at_lem rs i (suc (suc (suc zero))) l = (holds_at rs i).at3
field_at_lem rs i (suc (suc (suc (suc zero)))) l = (holds_at rs i).at4
field_at_lem rs i (suc (suc (suc (suc (suc zero))))) l = (holds_at rs i).at5
field_at_lem rs i (suc (suc (suc (suc (suc (suc f)))))) l = absurd (omega arith)

-- ---- records one after the other

abbrev pub Stands : List ℕ → ℕ → List Fields → Type 0
Stands b i [] = Unit {0}
Stands b i (r ∷ rs) = Holds b i r × Stands b (suc i) rs

-- by their places
stands_by : (b : List ℕ) (i : ℕ) (rs : List Fields) → ((k : ℕ) → k < length rs → Holds b (i + k) (get_or rs k blank)) → Stands b i rs
stands_by b i [] h = tt
stands_by b i (r ∷ rs) h =
    let q : i + 0 ≡ i = omega arith in (
      subst (λ (j : ℕ). Holds b j r) q (h 0 (omega arith)),
      stands_by b (suc i) rs (λ k l.
          let p : i + suc k ≡ suc i + k = omega arith in
          subst (λ (j : ℕ). Holds b j (get_or rs k blank)) p (h (suc k) (omega arith))),
    )

pub stands_all : (rs : List Fields) → Stands (bytes_of rs) 0 rs
stands_all rs =
    stands_by (bytes_of rs) 0 rs (λ k l.
    let q : k ≡ 0 + k = omega arith in
    subst (λ (j : ℕ). Holds (bytes_of rs) j (get_or rs k blank)) q (holds_at rs k))

pub stands_at : (b : List ℕ) (i : ℕ) (rs : List Fields) → Stands b i rs → (k : ℕ) → k < length rs → Holds b (i + k) (get_or rs k blank)
stands_at b i [] s k l = absurd (omega arith)
stands_at b i (r ∷ rs) s zero l = let q : i ≡ i + 0 = omega arith in subst (λ (j : ℕ). Holds b j r) q s.0
stands_at b i (r ∷ rs) s (suc k) l =
    let q : suc i + k ≡ i + suc k = omega arith in
    subst (λ (j : ℕ). Holds b j (get_or rs k blank)) q (stands_at b (suc i) rs s.1 k (omega arith))

pub stands_append : (b : List ℕ) (i : ℕ) (rs ss : List Fields) → Stands b i (rs ++ ss) → Stands b i rs × Stands b (i + length rs) ss
stands_append b i [] ss s = let q : i ≡ i + 0 = omega arith in (tt, subst (λ (j : ℕ). Stands b j ss) q s)
stands_append b i (r ∷ rs) ss s =
    let q : suc i + length rs ≡ i + suc (length rs) = omega arith in
    let (first, later) = stands_append b (suc i) rs ss s.1 in
    ((s.0, first), subst (λ (j : ℕ). Stands b j ss) q later)

-- ---- bytes

pub length_bytes : (rs : List Fields) → length (bytes_of rs) ≡ record_bytes * length rs
length_bytes [] = refl
length_bytes (r ∷ rs) = omega (arith, length-append (record_bytes_of r) (bytes_of rs), length_bytes rs)

-- a byte in front of bytes
one_more : (a : ℕ) (l : List ℕ) → a < 256 → Bytes l → Bytes (a ∷ l)
one_more a l h rest zero = h
one_more a l h rest (suc i) = rest i

-- fields in front of bytes
fields_more : (ns l : List ℕ) → ((n : ℕ) → Memᴰ n ns → n < field_limit) → Bytes l → Bytes (joined field_bytes ns ++ l)
fields_more [] l h rest = rest
fields_more (n ∷ ns) l h rest =
    let low : n < field_limit = h n (Memᴰ.head refl) in
    let later : List ℕ = joined field_bytes ns ++ l in
    let below : Bytes later = fields_more ns l (λ k m. h k (Memᴰ.tail m)) rest in
    one_more (n / 256) (n % 256 ∷ later) (omega arith) (one_more (n % 256) later (omega arith) below)

pub bytes_are_bytes : (rs : List Fields) → AllLow rs → Bytes (bytes_of rs)
bytes_are_bytes [] low = λ i. omega arith
bytes_are_bytes (r ∷ rs) low =
    let h = low r (Memᴰ.head refl) in
    fields_more (r.f0 ∷ r.f1 ∷ r.f2 ∷ r.f3 ∷ r.f4 ∷ r.f5 ∷ []) (bytes_of rs)
    (each Low h.low0
    (each Low h.low1 (each Low h.low2 (each Low h.low3 (each Low h.low4 (each Low h.low5 (λ n m. absurd (Memᴰ.not-nil m))))))))
    (bytes_are_bytes rs (λ x m. low x (Memᴰ.tail m)))
  where
    Low : ℕ → Type 0
    Low n = n < field_limit
