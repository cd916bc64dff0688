-- The published limits, in the positive words of paper 01's "Plan bytes": what a plan has to be.
-- Nothing here goes by the refusal table or by the table of records that its lines go by; that they agree is a theorem (Claims.antt).
--
--   Sizes b             a run of N records, at most max_records (Bounds.antt)
--   Header b            record 0
--   JunctionForm, BeltForm, RuleForm, LiteralForm b r
--                       record r is one of that kind, with what the paper says of its fields
--   ItemForm b r        record r is a belt, a rule or a literal, with what the paper says of it
--   Kinds b             records 1 to J are junctions, those above are belts, rules and literals
--   Leads b r i k       the index i, held by record r, is 0 or that of a later record of kind k
--   Rising b            "an index in a chain or at its head is larger than that of the record holding it", and leads to its kind
--   chain_fields k       the fields of a record of kind k that are chain indices
--   held b r            the chain indices of record r that are not 0
--   walk b n i          the records reached from record i in at most n steps, each as often as it is reached
--   reached b           the records reached from records 0 to J
--   Names b l           literal l names a belt record, or a mode from 1 to M
--   Limits b            all of it
--
-- Assumes nothing.
use Rattle.std.specs.Prelude.{ℕ, zero, suc, ◌*◌, ◌≤◌, ◌<◌, ◌≡◌, Bool, true, false, not, length, eqb}
use mathlib.Core.List.{List, [], ◌∷◌, ◌++◌, map, Memᴰ}
use Rattle.plan.specs.Lists.{keep, count, joined, upto}
use Rattle.plan.specs.Bounds.{record_bytes, max_records, max_junctions, max_modes, max_named}
use Rattle.plan.specs.Records.{field, kind, junctions, modes, records}
use Rattle.plan.specs.Plan.{Belt, plan_of, named}

pub record Sizes (b : List ℕ) : Type 0 where
  pub whole : length b ≡ record_bytes * records b
  pub few : records b ≤ max_records

pub record Header (b : List ℕ) : Type 0 where
  pub kind_7 : kind b 0 ≡ 7
  pub some_junctions : 1 ≤ junctions b
  pub few_junctions : junctions b ≤ max_junctions
  pub few_modes : modes b ≤ max_modes
  pub unused : field b 0 5 ≡ 0
  pub junctions_fit : junctions b < records b

pub record JunctionForm (b : List ℕ) (r : ℕ) : Type 0 where
  pub kind_1 : kind b r ≡ 1
  pub zero_2 : field b r 2 ≡ 0
  pub zero_3 : field b r 3 ≡ 0
  pub zero_4 : field b r 4 ≡ 0
  pub zero_5 : field b r 5 ≡ 0

pub record BeltForm (b : List ℕ) (r : ℕ) : Type 0 where
  pub kind_2 : kind b r ≡ 2
  pub leads_from : 1 ≤ field b r 2
  pub leads_to : field b r 2 ≤ junctions b
  pub zero_5 : field b r 5 ≡ 0

pub record RuleForm (b : List ℕ) (r : ℕ) : Type 0 where
  pub kind_3 : kind b r ≡ 3
  pub zero_3 : field b r 3 ≡ 0
  pub zero_4 : field b r 4 ≡ 0
  pub zero_5 : field b r 5 ≡ 0

pub record LiteralForm (b : List ℕ) (r : ℕ) : Type 0 where
  pub kind_4 : kind b r ≡ 4
  pub wanted : field b r 2 ≤ 1
  pub sort : field b r 3 ≤ 1
  pub zero_5 : field b r 5 ≡ 0

-- a record that may stand above the junctions
pub data ItemForm (b : List ℕ) (r : ℕ) : Type 0 where
  is_belt : BeltForm b r → ItemForm b r
  is_rule : RuleForm b r → ItemForm b r
  is_literal : LiteralForm b r → ItemForm b r

pub record Kinds (b : List ℕ) : Type 0 where
  pub low : (r : ℕ) → 1 ≤ r → r ≤ junctions b → JunctionForm b r
  pub high : (r : ℕ) → junctions b < r → r < records b → ItemForm b r

abbrev pub Leads : List ℕ → ℕ → ℕ → ℕ → Type 0
Leads b r i k = (i ≡ 0 → ⊥) → (r < i) × (i < records b) × (kind b i ≡ k)

pub record Rising (b : List ℕ) : Type 0 where
  pub first_rule : Leads b 0 (field b 0 3) 3
  pub first_belt : (r : ℕ) → r < records b → kind b r ≡ 1 → Leads b r (field b r 1) 2
  pub next_belt : (r : ℕ) → r < records b → kind b r ≡ 2 → Leads b r (field b r 1) 2
  pub next_rule : (r : ℕ) → r < records b → kind b r ≡ 3 → Leads b r (field b r 1) 3
  pub first_literal : (r : ℕ) → r < records b → kind b r ≡ 3 → Leads b r (field b r 2) 4
  pub next_literal : (r : ℕ) → r < records b → kind b r ≡ 4 → Leads b r (field b r 1) 4

abbrev pub picked : Bool → List ℕ → List ℕ
picked true fs = fs
picked false fs = []

-- f3 of record 0 (the first rule), f1 of a junction (its first belt), f1 of a belt (the next one), f1 and f2 of a rule (the next rule
-- and its first literal), f1 of a literal (the next one)
abbrev pub chain_fields : ℕ → List ℕ
chain_fields k =
    picked (eqb k 7) (3 ∷ [])
    ++ picked (eqb k 1) (1 ∷ [])
    ++ picked (eqb k 2) (1 ∷ [])
    ++ picked (eqb k 3) (1 ∷ 2 ∷ [])
    ++ picked (eqb k 4) (1 ∷ [])

abbrev pub held : List ℕ → ℕ → List ℕ
held b r = keep (λ (i : ℕ). not (eqb i 0)) (map (field b r) (chain_fields (kind b r)))

-- each that record i leads to, and then those reached from it
abbrev pub walk : List ℕ → ℕ → ℕ → List ℕ
walk b zero i = []
walk b (suc n) i = joined (λ (x : ℕ). x ∷ walk b n x) (held b i)

unfoldable pub reached : List ℕ → List ℕ
reached b = joined (walk b (records b)) (upto 0 (suc (junctions b)))

pub record Names (b : List ℕ) (l : ℕ) : Type 0 where
  pub belt : field b l 3 ≡ 0 → (field b l 4 < records b) × (kind b (field b l 4) ≡ 2)
  pub mode : field b l 3 ≡ 1 → (1 ≤ field b l 4) × (field b l 4 ≤ modes b)

pub record Limits (b : List ℕ) : Type 0 where
  pub sizes : Sizes b
  pub header : Header b
  pub kinds : Kinds b
  pub rising : Rising b
  pub once : (r : ℕ) → junctions b < r → r < records b → count (eqb r) (reached b) ≡ 1
  pub higher : (e : Belt) → Memᴰ e (plan_of b).belts → e.leaves < e.leads
  pub literals : (l : ℕ) → l < records b → kind b l ≡ 4 → Names b l
  pub few_named : length (named (plan_of b)) ≤ max_named
