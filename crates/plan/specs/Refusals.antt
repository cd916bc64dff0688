-- Lines 1 to 7 of paper 01's table "Causes of refusal", each a sentence of its own that is true where the line is broken,
-- and the first broken one. They are Booleans, so that they compute.
--
--   broken1 b .. broken7 b   the line is broken by the bytes b. What they are made of:
--     right_kind b r          record r is of a kind that may stand at its place (line 3)
--     leads_well, bad_link     a link leads below N, above its holder and to the kind that it wants, or does not (line 4)
--     pointers ls r          how many of the links ls lead to record r (line 4)
--     backward b j           a belt on the chain of junction j does not lead to a higher one (line 5)
--     literal_fits b l        what literal l names is there; misnames b l: l is a literal and it is not (line 6)
--   Line A                   a line about things of type A: its number, and the sentence that it is broken
--   about f l                the line l, said of things that have one of its things: f gives it
--   plan_lines                lines 1 to 7, in the order in which they count
--   first_broken ls a         the number of the first line of ls that a breaks, or 0
--   refusal b                that of plan_lines: "the lower number wins over the whole plan"
--   refusal_number r          the number of the line for each case of the code's refusals, of all 16 lines (src/refusal.rt)
--   number_of v               that of what the code answers where it may refuse, 0 where it does not
--
-- A sentence means what the paper says where the lines before it are unbroken; elsewhere it decides nothing.
-- Not here: the same limits in the paper's positive words (Limits.antt). Assumes nothing.
use Rattle.std.specs.Prelude.{ℕ, suc, ◌*◌, Bool, true, false, not, ◌&&◌, ◌||◌, List, [], ◌∷◌, length, eqb, leb, ltb, Result, Ok, Err}
use Rattle.plan.specs.declared.refusal.Refusal.{Refusal}
use Rattle.plan.specs.declared.refusal.Refusal.TheVariants.{WrongSize, WrongHeader, WrongRecord, WrongChain, BackwardBelt, WrongLiteral, ManyNamed}
use Rattle.plan.specs.declared.refusal.Refusal.TheVariants.{WrongEnds, WrongQuery, ShortBuffer, WrongSheet, NotARoute, WrongCost}
use Rattle.plan.specs.declared.refusal.Refusal.TheVariants.{UnmetRule, WrongLock, ShortPlanBuffer}
use Rattle.plan.specs.Lists.{any, count, mem, upto, within}
use Rattle.plan.specs.Bounds.{record_bytes, min_plan_bytes, max_plan_bytes, max_named}
use Rattle.plan.specs.Records.{field, kind, junctions, modes, records, fits, Link, links, chain}
use Rattle.plan.specs.Plan.{plan_of, named}

-- 1: under 24 or over 24,576 bytes, or not 12 × f4 of record 0
unfoldable pub broken1 : List ℕ → Bool
broken1 b = not (within min_plan_bytes (length b) max_plan_bytes && eqb (length b) (record_bytes * records b))

-- 2: f0, J, M or f5 of record 0 wrong, or N < J + 1
unfoldable pub broken2 : List ℕ → Bool
broken2 b = not (eqb (kind b 0) 7 && fits b 0 && ltb (junctions b) (records b))

-- the kinds that a record may have: a junction's up to J, and above it a belt's, a rule's or a literal's
abbrev pub kinds_by : Bool → List ℕ
kinds_by true = 1 ∷ []
kinds_by false = 2 ∷ 3 ∷ 4 ∷ []

abbrev pub right_kind : List ℕ → ℕ → Bool
right_kind b r = mem (kind b r) (kinds_by (leb r (junctions b)))

-- 3: a record from 1 to J not of kind 1, one above J not of kind 2, 3 or 4, a ranged field or a zero field wrong
unfoldable pub broken3 : List ℕ → Bool
broken3 b = any (λ (r : ℕ). not (right_kind b r && fits b r)) (upto 1 (records b))

-- a link leads to a record below N, above its holder, of the kind that is wanted
abbrev pub leads_well : List ℕ → Link → Bool
leads_well b l = ltb l.index (records b) && ltb l.holder l.index && eqb (kind b l.index) l.want

abbrev pub bad_link : List ℕ → Link → Bool
bad_link b l = not (leads_well b l)

-- how many links lead to record r
abbrev pub pointers : List Link → ℕ → ℕ
pointers ls r = count (λ (l : Link). eqb l.index r) ls

-- 4: a chain index not below N, not larger than its holder, or of another kind; a record above J reached twice or never.
-- Where the indices rise and lead to the right kinds, a record is reached as often as it is pointed at (proofs/ChainReached.antt)
unfoldable pub broken4 : List ℕ → Bool
broken4 b =
    any (bad_link b) (links b)
    || any (λ (r : ℕ). not (eqb (pointers (links b) r) 1)) (upto (suc (junctions b)) (records b))

-- a belt on the chain of junction j does not lead higher
abbrev pub backward : List ℕ → ℕ → Bool
backward b j = any (λ (e : ℕ). leb (field b e 2) j) (chain b (field b j 1))

-- 5: a belt not leading to a higher junction than the one that it leaves
unfoldable pub broken5 : List ℕ → Bool
broken5 b = any (backward b) (upto 1 (suc (junctions b)))

-- a literal's field 4 is the index of a belt record, or a mode from 1 to M
abbrev pub fits_by : Bool → List ℕ → ℕ → Bool
fits_by true b n = ltb n (records b) && eqb (kind b n) 2
fits_by false b n = within 1 n (modes b)

abbrev pub literal_fits : List ℕ → ℕ → Bool
literal_fits b l = fits_by (eqb (field b l 3) 0) b (field b l 4)

abbrev pub misnames : List ℕ → ℕ → Bool
misnames b l = eqb (kind b l) 4 && not (literal_fits b l)

-- 6: a literal naming no belt record, or a mode outside 1 to M
unfoldable pub broken6 : List ℕ → Bool
broken6 b = any (misnames b) (upto (suc (junctions b)) (records b))

-- 7: over 48 named belts
unfoldable pub broken7 : List ℕ → Bool
broken7 b = ltb max_named (length (named (plan_of b)))

-- ---- the first broken line

-- a line about things of type A
pub record Line (A : Type 0) : Type 0 where
  pub number : ℕ
  pub broken : A → Bool

abbrev pub about : {A B : Type 0} → (B → A) → Line A → Line B
about {A} {B} f l = record { number = l.number; broken = λ (b : B). l.broken (f b) }

abbrev pub first_broken : {A : Type 0} → List (Line A) → A → ℕ
first_broken [] a = 0
first_broken (l ∷ ls) a = elim (l.broken a) [ true ↦ l.number | false ↦ first_broken ls a ]

abbrev pub plan_lines : List (Line (List ℕ))
plan_lines =
    record { number = 1; broken = broken1 }
    ∷ record { number = 2; broken = broken2 }
    ∷ record { number = 3; broken = broken3 }
    ∷ record { number = 4; broken = broken4 }
    ∷ record { number = 5; broken = broken5 }
    ∷ record { number = 6; broken = broken6 }
    ∷ record { number = 7; broken = broken7 }
    ∷ []

unfoldable pub refusal : List ℕ → ℕ
refusal b = first_broken plan_lines b

-- ---- what the code answers, in the paper's numbers

abbrev pub refusal_number : Refusal → ℕ
refusal_number WrongSize = 1
refusal_number WrongHeader = 2
refusal_number WrongRecord = 3
refusal_number WrongChain = 4
refusal_number BackwardBelt = 5
refusal_number WrongLiteral = 6
refusal_number ManyNamed = 7
refusal_number WrongEnds = 8
refusal_number WrongQuery = 9
refusal_number ShortBuffer = 10
refusal_number WrongSheet = 11
refusal_number NotARoute = 12
refusal_number WrongCost = 13
refusal_number UnmetRule = 14
refusal_number WrongLock = 15
refusal_number ShortPlanBuffer = 16

abbrev pub number_of : {A : Type 0} → Result A Refusal → ℕ
number_of (Ok a) = 0
number_of (Err r) = refusal_number r
