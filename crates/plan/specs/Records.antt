-- Records of a plan (paper 01, "Plan bytes"): their fields, and what each kind of record holds in them.
--
--   field b r f     field f of record r of the bytes b: 16 bits, high byte first
--   kind b r        field 0
--   record_of f0 ..  the twelve bytes of a record, out of its six fields; field_bytes: the two of a field
--   placed l i vs   the bytes l with vs written over them from place i on: how a field, a record or several of them are written
--   junctions b, modes b, records b
--                   J, M and N of record 0
--   IsKind b k i    i is the index of a record of kind k
--   Use             what a field may hold: any value, zero, a range, or a chain index to a kind of record
--   Row             the uses of fields 1 to 5; Entry: the row of a kind
--   rows j          THE TABLE: the row of each kind of record, in a plan with j junctions
--   row_of j k       the row of kind k; row_at b r: that of record r, by its kind; use_at row f: the use of field f
--   allows u v      a field of use u may hold v, as far as that goes without looking at other records
--   fits b r        every unused field of record r is zero and every ranged one is in its range
--   Link            a chain index that is not zero: its holder, the index, and the kind that it wants
--   link_to, link_by  the link, if any, that a value makes as a chain index, and as a field of some use
--   links_at b r     the links that record r holds; links b: those of the whole plan
--   chain b i       the indices of the chain that starts at i: field 1 of each record is the next, zero ends it; chain_of: its first n
--
-- Not here: what a broken plan is refused with (Refusals.antt). Assumes nothing.
use Rattle.std.specs.Prelude.{◌≡◌, ℕ, zero, suc, ◌+◌, ◌*◌, ◌/◌, ◌%◌, ◌<◌, Bool, true, false, List, [], ◌∷◌, ◌++◌, get_or, length, take, drop, eqb}
use Rattle.plan.specs.Lists.{all, joined, upto, within}
use Rattle.plan.specs.Bounds.{record_bytes, max_junctions, max_modes}

abbrev pub field : List ℕ → ℕ → ℕ → ℕ
field b r f = get_or b (record_bytes * r + 2 * f) 0 * 256 + get_or b (record_bytes * r + 2 * f + 1) 0

abbrev pub kind : List ℕ → ℕ → ℕ
kind b r = field b r 0

abbrev pub field_bytes : ℕ → List ℕ
field_bytes n = n / 256 ∷ n % 256 ∷ []

abbrev pub record_of : ℕ → ℕ → ℕ → ℕ → ℕ → ℕ → List ℕ
record_of f0 f1 f2 f3 f4 f5 = joined field_bytes (f0 ∷ f1 ∷ f2 ∷ f3 ∷ f4 ∷ f5 ∷ [])

abbrev pub placed : List ℕ → ℕ → List ℕ → List ℕ
placed l i vs = take i l ++ vs ++ drop (i + length vs) l

abbrev pub junctions : List ℕ → ℕ
junctions b = field b 0 1

abbrev pub modes : List ℕ → ℕ
modes b = field b 0 2

abbrev pub records : List ℕ → ℕ
records b = field b 0 4

abbrev pub IsKind : List ℕ → ℕ → ℕ → Type 0
IsKind b k i = (i < records b) × (kind b i ≡ k)

-- ---- what each kind of record holds

-- any value, zero, from the first number to the second with both included, or a chain index: zero, or the index of a later record of this kind
pub data Use : Type 0 where
  Any : Use
  Unused : Use
  Between : ℕ → ℕ → Use
  Chain : ℕ → Use

pub record Row : Type 0 where
  pub f1 : Use
  pub f2 : Use
  pub f3 : Use
  pub f4 : Use
  pub f5 : Use

-- a row of the table: the kind of record, and the use of each of its fields 1 to 5
pub record Entry : Type 0 where
  pub of : ℕ
  pub row : Row

abbrev pub entry : ℕ → Use → Use → Use → Use → Use → Entry
entry k u1 u2 u3 u4 u5 = record { of = k; row = record { f1 = u1; f2 = u2; f3 = u3; f4 = u4; f5 = u5 } }

-- THE TABLE. Kinds: 7 is record 0, 1 a junction, 2 a belt, 3 a rule, 4 a literal. A literal's field 4 is no chain index.
abbrev pub rows : ℕ → List Entry
rows j =
    entry 7 (Between 1 max_junctions) (Between 0 max_modes) (Chain 3) Any Unused
    ∷ entry 1 (Chain 2) Unused Unused Unused Unused
    ∷ entry 2 (Chain 2) (Between 1 j) Any Any Unused
    ∷ entry 3 (Chain 3) (Chain 4) Unused Unused Unused
    ∷ entry 4 (Chain 4) (Between 0 1) (Between 0 1) Any Unused
    ∷ []

abbrev pub chosen : Bool → Row → Row → Row
chosen true a b = a
chosen false a b = b

-- a kind that is not in the table: any values (line 3 refuses it for its kind)
abbrev pub row_in : ℕ → List Entry → Row
row_in k [] = record { f1 = Any; f2 = Any; f3 = Any; f4 = Any; f5 = Any }
row_in k (e ∷ es) = chosen (eqb k e.of) e.row (row_in k es)

unfoldable pub row_of : ℕ → ℕ → Row
row_of j k = row_in k (rows j)

abbrev pub row_at : List ℕ → ℕ → Row
row_at b r = row_of (junctions b) (kind b r)

-- the use of field f
abbrev pub use_at : Row → ℕ → Use
use_at row zero = Any
use_at row (suc zero) = row.f1
use_at row (suc (suc zero)) = row.f2
use_at row (suc (suc (suc zero))) = row.f3
use_at row (suc (suc (suc (suc zero)))) = row.f4
use_at row (suc (suc (suc (suc (suc zero))))) = row.f5
use_at row (suc (suc (suc (suc (suc (suc f)))))) = Any

-- the fields that a row speaks of
abbrev pub fields : List ℕ
fields = upto 1 6

abbrev pub allows : Use → ℕ → Bool
allows Any v = true
allows Unused v = eqb v 0
allows (Between a z) v = within a v z
allows (Chain k) v = true

unfoldable pub fits : List ℕ → ℕ → Bool
fits b r = all (λ (f : ℕ). allows (use_at (row_at b r) f) (field b r f)) fields

-- ---- chain indices

pub record Link : Type 0 where
  pub holder : ℕ
  pub index : ℕ
  pub want : ℕ

-- zero leads nowhere
abbrev pub link_to : ℕ → ℕ → ℕ → List Link
link_to r zero k = []
link_to r (suc i) k = record { holder = r; index = suc i; want = k } ∷ []

abbrev pub link_by : Use → ℕ → ℕ → List Link
link_by Any r v = []
link_by Unused r v = []
link_by (Between a z) r v = []
link_by (Chain k) r v = link_to r v k

-- the links that record r holds
unfoldable pub links_at : List ℕ → ℕ → List Link
links_at b r = joined (λ (f : ℕ). link_by (use_at (row_at b r) f) r (field b r f)) fields

unfoldable pub links : List ℕ → List Link
unfolding links_at
links b = joined (links_at b) (upto 0 (records b))

-- ---- chains

-- the kinds of records that stand on chains
pub data Item : ℕ → Type 0 where
  belts : Item 2
  rules : Item 3
  literals : Item 4

-- at most n indices of the chain from i on
abbrev pub chain_of : (ℕ → ℕ) → ℕ → ℕ → List ℕ
chain_of next zero i = []
chain_of next (suc n) zero = []
chain_of next (suc n) (suc i) = suc i ∷ chain_of next n (next (suc i))

abbrev pub chain : List ℕ → ℕ → List ℕ
chain b i = chain_of (λ (r : ℕ). field b r 1) (records b) i
