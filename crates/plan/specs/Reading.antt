-- What the readers of an accepted plan give (src/accepted.rt), record by record, and the lists that a chain has from a record on.
--
--   Accepted b                          nothing of the bytes b is refused
--   Bytes b                             every element of b is a byte
--   IsBelt, IsRule, IsLiteral b i       i is the index of such a record
--   is_rule_at, is_literal_at b i           the same of rules and of literals, as tests
--   first_belt b j, next_belt b e         the first belt leaving junction j, and the next one after belt e; 0 ends the chain
--   first_rule b, next_rule b r           the same of rules
--   first_literal b r, next_literal b l   the same of the literals of rule r
--   chain_link number o                  the number by which a field leads to the record o: its index, or 0 for none
--   belt_link, rule_link, literal_link o     the same of a belt, a rule and a literal
--   belt_chain b e                       the indices of a chain's records from belt e on; none from 0 on
--   rule_chain b r, literal_chain b l     the same of rules and of literals
--   belts_from b e                       the belts of a chain from belt e on, as belts of the plan
--   rules_from b r, literals_from b l     the same of rules and of literals
--
-- That `belts_from b (first_belt b j)` is the plan's `leaving j`, and so on, are laws (proofs/Reading.antt). Assumes nothing.
use Rattle.std.specs.Prelude.{◌≡◌, ℕ, ◌<◌, Bool, ◌&&◌, List, map, get_or, eqb, ltb, Option, Some, None}
use Rattle.plan.specs.declared.read.BeltId.{BeltId}
use Rattle.plan.specs.declared.read.RuleId.{RuleId}
use Rattle.plan.specs.declared.read.LiteralId.{LiteralId}
use Rattle.plan.specs.declared.read.Literal.{Literal}
use Rattle.plan.specs.Records.{field, kind, records, IsKind, chain}
use Rattle.plan.specs.Plan.{Belt, belt_at, literal_at, rule_at}
use Rattle.plan.specs.Refusals.{refusal}

pub record Accepted (b : List ℕ) : Type 0 where
  pub unrefused : refusal b ≡ 0

abbrev pub Bytes : List ℕ → Type 0
Bytes b = (i : ℕ) → get_or b i 0 < 256

abbrev pub IsBelt : List ℕ → ℕ → Type 0
IsBelt b e = IsKind b 2 e

abbrev pub IsRule : List ℕ → ℕ → Type 0
IsRule b r = IsKind b 3 r

abbrev pub IsLiteral : List ℕ → ℕ → Type 0
IsLiteral b l = IsKind b 4 l

abbrev pub is_rule_at : List ℕ → ℕ → Bool
is_rule_at b i = ltb i (records b) && eqb (kind b i) 3

abbrev pub is_literal_at : List ℕ → ℕ → Bool
is_literal_at b i = ltb i (records b) && eqb (kind b i) 4

abbrev pub first_belt : List ℕ → ℕ → ℕ
first_belt b j = field b j 1

abbrev pub next_belt : List ℕ → ℕ → ℕ
next_belt b e = field b e 1

abbrev pub first_rule : List ℕ → ℕ
first_rule b = field b 0 3

abbrev pub next_rule : List ℕ → ℕ → ℕ
next_rule b r = field b r 1

abbrev pub first_literal : List ℕ → ℕ → ℕ
first_literal b r = field b r 2

abbrev pub next_literal : List ℕ → ℕ → ℕ
next_literal b l = field b l 1

-- the number by which a field leads to a record: its index, or 0 for none
abbrev pub chain_link : {A : Type 0} → (A → ℕ) → Option A → ℕ
chain_link number (Some x) = number x
chain_link number None = 0

abbrev pub belt_link : Option BeltId → ℕ
belt_link o = chain_link (λ (e : BeltId). e.0) o

abbrev pub rule_link : Option RuleId → ℕ
rule_link o = chain_link (λ (r : RuleId). r.0) o

abbrev pub literal_link : Option LiteralId → ℕ
literal_link o = chain_link (λ (l : LiteralId). l.0) o

abbrev pub belt_chain : List ℕ → ℕ → List ℕ
belt_chain b e = chain b e

abbrev pub rule_chain : List ℕ → ℕ → List ℕ
rule_chain b r = chain b r

abbrev pub literal_chain : List ℕ → ℕ → List ℕ
literal_chain b l = chain b l

abbrev pub belts_from : List ℕ → ℕ → List Belt
belts_from b e = map (belt_at b) (belt_chain b e)

abbrev pub rules_from : List ℕ → ℕ → List (List Literal)
rules_from b r = map (rule_at b) (rule_chain b r)

abbrev pub literals_from : List ℕ → ℕ → List Literal
literals_from b l = map (literal_at b) (literal_chain b l)
