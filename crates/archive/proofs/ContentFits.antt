-- The plan of a content, and what a content has to be, so that its records can be read back and are accepted. The content of an accepted plan fits
-- (ContentOfPlan.antt).
--
--   plan_numbered n c    the plan with the content c whose belts have the indices from n on; belts_numbered i es: its belts
--   LegFits c e         the leg e leads from one junction of the content to a higher one, and its cost has room in two fields
--   LiteralFits c l     the literal l names a leg, by its place, or a mode
--   Fits c              all of it
--
-- Assumes nothing.
use Prim.Native.Nat.{ℕ, suc, ◌+◌, ◌≤◌, ◌<◌}
use mathlib.Core.List.{List, [], ◌∷◌, Memᴰ}
use lib.ListN.{length}
use Rattle.plan.specs.declared.read.Literal.{Literal}
use Rattle.plan.specs.declared.read.Literal.TheVariants.{OfBelt, OfMode}
use Rattle.plan.specs.Bounds.{belt_cost_limit, max_records, max_junctions, max_modes, max_named}
use Rattle.plan.specs.Plan.{Belt, Plan, named}
use Rattle.archive.specs.Renaming.{renamed_rules}
use Rattle.archive.specs.Content.{Leg, Content}
use Rattle.archive.specs.Form.{legs_start, records_of}

-- the legs as belts with the indices i, i + 1, ..
abbrev pub belts_numbered : ℕ → List Leg → List Belt
belts_numbered i [] = []
belts_numbered i (e ∷ es) = record { index = i; leaves = e.leaves; leads = e.leads; cost = e.cost } ∷ belts_numbered (suc i) es

abbrev pub plan_numbered : ℕ → Content → Plan
plan_numbered n c = record {
  junctions = c.junctions;
  modes = c.modes;
  belts = belts_numbered n c.legs;
  rules = renamed_rules (λ (k : ℕ). n + k) c.rules;
}

pub record LegFits (c : Content) (e : Leg) : Type 0 where
  pub from : 1 ≤ e.leaves
  pub up : e.leaves < e.leads
  pub to : e.leads ≤ c.junctions
  pub price : e.cost < belt_cost_limit

abbrev pub LiteralFits : Content → Literal → Type 0
LiteralFits c (OfBelt e wanted) = e.0 < length c.legs
LiteralFits c (OfMode m wanted) = (1 ≤ m.0) × (m.0 ≤ c.modes)

pub record Fits (c : Content) : Type 0 where
  pub some_junctions : 1 ≤ c.junctions
  pub few_junctions : c.junctions ≤ max_junctions
  pub few_modes : c.modes ≤ max_modes
  pub few_records : length (records_of c) ≤ max_records
  pub legs : (e : Leg) → Memᴰ e c.legs → LegFits c e
  pub literals : (rule : List Literal) → Memᴰ rule c.rules → (l : Literal) → Memᴰ l rule → LiteralFits c l
  pub few_named : length (named (plan_numbered (legs_start c) c)) ≤ max_named
