-- What only the contracts of private functions cite; nothing that a reader has to believe.
--
--   Numbered b new      the array `new` has the new index of each belt of the plan b at the place of its old one
--   by_place b l        the literal l of the plan b, with its belt by place
--   rule_in b r         the literals of rule r of the plan b, with their belts by place
--   literals_in b l     the literals of the chain from literal l on, with their belts by place; none from 0 on
--   rules_in b r        the rules of the chain from rule r on, with their belts by place; none from 0 on
--
-- Assumes nothing.
use Rattle.std.specs.Prelude.{◌≡◌, ℕ, List, map, length, get_or}
use Rattle.plan.specs.Bounds.{max_records}
use Rattle.plan.specs.declared.read.Literal.{Literal}
use Rattle.plan.specs.Plan.{plan_of, indices_of, rule_at}
use Rattle.plan.specs.Reading.{IsBelt, rules_from, literals_from}
use Rattle.archive.specs.Renaming.{renamed_literal, renamed_rules}
use Rattle.archive.specs.Content.{place, new_index}

pub record Numbered (b new : List ℕ) : Type 0 where
  pub size : length new ≡ max_records
  pub each : (e : ℕ) → IsBelt b e → get_or new e 0 ≡ new_index (plan_of b) e

abbrev pub by_place : List ℕ → Literal → Literal
by_place b l = renamed_literal (place (indices_of (plan_of b).belts)) l

abbrev pub rule_in : List ℕ → ℕ → List Literal
rule_in b r = map (by_place b) (rule_at b r)

abbrev pub literals_in : List ℕ → ℕ → List Literal
literals_in b l = map (by_place b) (literals_from b l)

abbrev pub rules_in : List ℕ → ℕ → List (List Literal)
rules_in b r = renamed_rules (place (indices_of (plan_of b).belts)) (rules_from b r)
