-- The abstract plan: what accepted bytes mean (paper 01, "Plan bytes"). Everything above the reader is said of it, never of bytes.
--
--   Belt            a belt: the index of its record, where it leaves, where it leads, its cost
--   Literal         a belt or a mode, wanted (true) or unwanted (false); declared by the code (src/read.rt)
--   Plan            counts of junctions and modes, the belts in rising index, the rules as lists of literals in chain order
--   plan_of b        the plan that the bytes b describe, put together from their records:
--     leaves b e    the junction whose chain has belt e
--     belt_at b e, literal_at b l, rule_at b r
--                   the belt, the literal and the rule of a record; belt_records b: the records that are belts
--     cost_at b e    the cost of a belt, in two fields: field 4 is the high one
--   indices_of es    the indices of the belts es
--   leaving p j     the belts of p that leave junction j, in rising index
--   names e l       literal l is about belt e; in_rule e rule: some literal of the rule is
--   named p         the belts in some rule (paper 01's "named belts"), in rising index, each once
--   belt_id e        the belt number e, as the code has it
--   listed ns       the named belts ns as an array of max_named places, the rest of it 0
--   Place            a place among the named belts, counted from 0, or none
--   place_of ns e    the place of belt e among the named belts ns, counted from 0, if it is one of them
--   places_of ns     the places of all belt indices, as an array of max_records bytes: 0 is no place, k + 1 is place k
--   place_in ps e    the place that such an array has for belt e
--
-- Not here: what bytes are refused. Assumes nothing.
use Rattle.std.specs.Prelude.{ℕ, zero, suc, ◌+◌, ◌*◌, ◌-◌, Bool, true, false, List, [], ◌∷◌, ◌++◌, map, length, get_or, replicate, eqb, ltb, Option, Some, None}
use Rattle.plan.specs.declared.read.BeltId.{BeltId}
use Rattle.plan.specs.declared.read.Literal.{Literal}
use Rattle.plan.specs.declared.read.Literal.TheVariants.{OfBelt, OfMode}
use Rattle.plan.specs.Lists.{any, keep, count, mem, upto}
use Rattle.plan.specs.Bounds.{field_limit, max_records, max_named}
use Rattle.plan.specs.Records.{field, kind, junctions, modes, records, chain}

pub record Belt : Type 0 where
  pub index : ℕ
  pub leaves : ℕ
  pub leads : ℕ
  pub cost : ℕ

pub record Plan : Type 0 where
  pub junctions : ℕ
  pub modes : ℕ
  pub belts : List Belt
  pub rules : List (List Literal)

-- ---- reading records

-- the first number that passes, or 0
abbrev pub first_in : (ℕ → Bool) → List ℕ → ℕ
first_in f [] = 0
first_in f (x ∷ xs) = elim (f x) [ true ↦ x | false ↦ first_in f xs ]

abbrev pub leaves : List ℕ → ℕ → ℕ
leaves b e = first_in (λ (j : ℕ). mem e (chain b (field b j 1))) (upto 1 (suc (junctions b)))

abbrev pub cost_at : List ℕ → ℕ → ℕ
cost_at b e = field b e 4 * field_limit + field b e 3

abbrev pub belt_at : List ℕ → ℕ → Belt
belt_at b e = record { index = e; leaves = leaves b e; leads = field b e 2; cost = cost_at b e }

abbrev pub belt_records : List ℕ → List ℕ
belt_records b = keep (λ (r : ℕ). eqb (kind b r) 2) (upto (suc (junctions b)) (records b))

abbrev pub literal_by : Bool → Bool → ℕ → Literal
literal_by true wanted n = OfBelt (record { 0 = n }) wanted
literal_by false wanted n = OfMode (record { 0 = n }) wanted

-- field 3 tells a belt (0) from a mode (1), field 2 is 1 where it is wanted
abbrev pub literal_at : List ℕ → ℕ → Literal
literal_at b l = literal_by (eqb (field b l 3) 0) (eqb (field b l 2) 1) (field b l 4)

abbrev pub rule_at : List ℕ → ℕ → List Literal
rule_at b r = map (literal_at b) (chain b (field b r 2))

unfoldable pub plan_of : List ℕ → Plan
plan_of b = record {
  junctions = junctions b;
  modes = modes b;
  belts = map (belt_at b) (belt_records b);
  rules = map (rule_at b) (chain b (field b 0 3));
}

-- ---- parts of a plan

abbrev pub indices_of : List Belt → List ℕ
indices_of es = map (λ (e : Belt). e.index) es

abbrev pub leaving : Plan → ℕ → List Belt
leaving p j = keep (λ (e : Belt). eqb e.leaves j) p.belts

abbrev pub names : ℕ → Literal → Bool
names e (OfBelt b wanted) = eqb e b.0
names e (OfMode m wanted) = false

abbrev pub in_rule : ℕ → List Literal → Bool
in_rule e rule = any (names e) rule

unfoldable pub named : Plan → List ℕ
named p = keep (λ (e : ℕ). any (in_rule e) p.rules) (indices_of p.belts)

abbrev pub belt_id : ℕ → BeltId
belt_id e = record { 0 = e }

abbrev pub listed : List ℕ → List BeltId
listed ns = map belt_id ns ++ replicate (max_named - length ns) (belt_id 0)

abbrev pub Place : Type 0
Place = Option ℕ

abbrev pub place_by : Bool → ℕ → Place
place_by true k = Some k
place_by false k = None

-- as many named belts stand before it as are lower
abbrev pub place_of : List ℕ → ℕ → Place
place_of ns e = place_by (mem e ns) (count (λ (n : ℕ). ltb n e) ns)

abbrev pub place_code : Place → ℕ
place_code (Some k) = suc k
place_code None = 0

unfoldable pub places_of : List ℕ → List ℕ
places_of ns = map (λ (e : ℕ). place_code (place_of ns e)) (upto 0 max_records)

abbrev pub code_place : ℕ → Place
code_place zero = None
code_place (suc k) = Some k

abbrev pub place_in : List ℕ → ℕ → Place
place_in places e = code_place (get_or places e 0)
