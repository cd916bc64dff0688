-- The archive form of a plan (paper 02, K3): record 0, the junctions, the belts in rising index, and then each rule in its order followed by its literals
-- in theirs.
--
--   Fields                 a record, as its six fields; fields f0 ..: the record with these
--   bytes_of rs             the bytes of the records rs; record_bytes_of r: those of one
--   chain_start i xs            the chain index of a list whose first record would stand at index i: 0 where the list is empty
--   first_leaving j i es    the index of the first of the legs es that leaves junction j, where these have the indices from i on; 0 if none does
--   legs_start c, rules_start c
--                          the index of the first record behind the junctions, and of the first behind the belts
--   junction_records c      the records of the junctions; junction_record c j: that of one
--   leg_records i es        the records of the legs es, from index i on. The next belt of a leg's junction is the first one behind it that leaves there.
--                          leg_record e next: the record of a leg with this next belt
--   literal_records n i ls  the records of the literals ls, from index i on, where the belts have the indices from n on. literal_record n l next: the record
--                          of one, with this next literal. Field 2 says whether it is wanted (flag), field 3 tells a belt (0) from a mode (1)
--   rule_records n i rules  the records of the rules, each followed by its literals, from index i on. records_of_rule n i rule next: those of one rule at index i,
--                          with this next rule; behind i rule: the index behind them
--   items_of c              all records behind record 0; header_of c: record 0
--   records_of c            THE RECORDS OF A CONTENT
--   archive_with p rules    the archive form of the plan p with these rules instead of its own
--   archive_of p            THE ARCHIVE FORM OF A PLAN
--
-- Assumes nothing.
use Rattle.std.specs.Prelude.{ℕ, suc, ◌+◌, ◌/◌, ◌%◌, Bool, true, false, List, [], ◌∷◌, ◌++◌, map, length, eqb}
use Rattle.plan.specs.declared.read.Literal.{Literal}
use Rattle.plan.specs.declared.read.Literal.TheVariants.{OfBelt, OfMode}
use Rattle.plan.specs.Bounds.{field_limit}
use Rattle.plan.specs.Lists.{joined, upto}
use Rattle.plan.specs.Records.{record_of}
use Rattle.plan.specs.Plan.{Plan}
use Rattle.archive.specs.Content.{Leg, Content, content_with}

-- ---- records

pub record Fields : Type 0 where
  pub f0 : ℕ
  pub f1 : ℕ
  pub f2 : ℕ
  pub f3 : ℕ
  pub f4 : ℕ
  pub f5 : ℕ

abbrev pub fields : ℕ → ℕ → ℕ → ℕ → ℕ → ℕ → Fields
fields f0 f1 f2 f3 f4 f5 = record { f0 = f0; f1 = f1; f2 = f2; f3 = f3; f4 = f4; f5 = f5 }

abbrev pub record_bytes_of : Fields → List ℕ
record_bytes_of r = record_of r.f0 r.f1 r.f2 r.f3 r.f4 r.f5

abbrev pub bytes_of : List Fields → List ℕ
bytes_of rs = joined record_bytes_of rs

-- ---- chain indices

abbrev pub chain_start : {A : Type 0} → ℕ → List A → ℕ
chain_start i [] = 0
chain_start i (x ∷ xs) = i

abbrev pub first_leaving : ℕ → ℕ → List Leg → ℕ
first_leaving j i [] = 0
first_leaving j i (e ∷ es) = elim (eqb e.leaves j) [ true ↦ i | false ↦ first_leaving j (suc i) es ]

-- ---- the records of each sort

-- the first record behind the junctions, and the first behind the belts
abbrev pub legs_start : Content → ℕ
legs_start c = suc c.junctions

abbrev pub rules_start : Content → ℕ
rules_start c = legs_start c + length c.legs

abbrev pub junction_record : Content → ℕ → Fields
junction_record c j = fields 1 (first_leaving j (legs_start c) c.legs) 0 0 0 0

abbrev pub junction_records : Content → List Fields
junction_records c = map (junction_record c) (upto 1 (suc c.junctions))

abbrev pub leg_record : Leg → ℕ → Fields
leg_record e next = fields 2 next e.leads (e.cost % field_limit) (e.cost / field_limit) 0

abbrev pub leg_records : ℕ → List Leg → List Fields
leg_records i [] = []
leg_records i (e ∷ es) = leg_record e (first_leaving e.leaves (suc i) es) ∷ leg_records (suc i) es

abbrev pub flag : Bool → ℕ
flag true = 1
flag false = 0

abbrev pub literal_record : ℕ → Literal → ℕ → Fields
literal_record n (OfBelt e wanted) next = fields 4 next (flag wanted) 0 (n + e.0) 0
literal_record n (OfMode m wanted) next = fields 4 next (flag wanted) 1 m.0 0

abbrev pub literal_records : ℕ → ℕ → List Literal → List Fields
literal_records n i [] = []
literal_records n i (l ∷ ls) = literal_record n l (chain_start (suc i) ls) ∷ literal_records n (suc i) ls

-- the index behind a rule at index i and its literals
abbrev pub behind : ℕ → List Literal → ℕ
behind i rule = suc i + length rule

-- a rule at index i, and its literals
abbrev pub records_of_rule : ℕ → ℕ → List Literal → ℕ → List Fields
records_of_rule n i rule next = fields 3 next (chain_start (suc i) rule) 0 0 0 ∷ literal_records n (suc i) rule

abbrev pub rule_records : ℕ → ℕ → List (List Literal) → List Fields
rule_records n i [] = []
rule_records n i (rule ∷ rules) = records_of_rule n i rule (chain_start (behind i rule) rules) ++ rule_records n (behind i rule) rules

-- ---- all of them

abbrev pub items_of : Content → List Fields
items_of c = junction_records c ++ leg_records (legs_start c) c.legs ++ rule_records (legs_start c) (rules_start c) c.rules

abbrev pub header_of : Content → Fields
header_of c = fields 7 c.junctions c.modes (chain_start (rules_start c) c.rules) (suc (length (items_of c))) 0

unfoldable pub records_of : Content → List Fields
records_of c = header_of c ∷ items_of c

abbrev pub archive_with : Plan → List (List Literal) → List ℕ
archive_with p rules = bytes_of (records_of (content_with p rules))

abbrev pub archive_of : Plan → List ℕ
archive_of p = archive_with p p.rules
