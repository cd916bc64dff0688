-- What the archive form of a plan keeps of it (paper 02, K3): everything but the indices of its records. The order of its belts is kept.
--
--   Leg                    a belt without its index: where it leaves, where it leads, its cost; leg_of e: that of the belt e
--   Content                counts of junctions and modes, the legs, and the rules, in whose literals a belt is meant by its place among the legs
--   place es e             the place of e in the list es, counted from 0; the length of es where e is not in it
--   content_with p rules    the content of the plan p with these rules instead of its own
--   content_of p            THE CONTENT OF A PLAN
--   new_index p e           the index that belt e of the plan p has in its archive form: that of the first record behind the junctions, and its place more
--
-- No byte and no record occurs here. Assumes nothing.
use Rattle.std.specs.Prelude.{ℕ, suc, ◌+◌, true, false, List, [], ◌∷◌, map, eqb}
use Rattle.plan.specs.declared.read.Literal.{Literal}
use Rattle.plan.specs.Plan.{Belt, Plan, indices_of}
use Rattle.archive.specs.Renaming.{renamed_rules}

pub record Leg : Type 0 where
  pub leaves : ℕ
  pub leads : ℕ
  pub cost : ℕ

pub record Content : Type 0 where
  pub junctions : ℕ
  pub modes : ℕ
  pub legs : List Leg
  pub rules : List (List Literal)

-- ---- the content of a plan

abbrev pub leg_of : Belt → Leg
leg_of e = record { leaves = e.leaves; leads = e.leads; cost = e.cost }

abbrev pub place : List ℕ → ℕ → ℕ
place [] e = 0
place (x ∷ es) e = elim (eqb x e) [ true ↦ 0 | false ↦ suc (place es e) ]

abbrev pub content_with : Plan → List (List Literal) → Content
content_with p rules = record {
  junctions = p.junctions;
  modes = p.modes;
  legs = map leg_of p.belts;
  rules = renamed_rules (place (indices_of p.belts)) rules;
}

abbrev pub content_of : Plan → Content
content_of p = content_with p p.rules

abbrev pub new_index : Plan → ℕ → ℕ
new_index p e = suc p.junctions + place (indices_of p.belts) e
