-- Plan P of the paper, worked out by computation: it is accepted, and this is what it means. Then the costs of some belts. Assumes nothing.
--
--   plan_p       the bytes of plan P
use Rattle.std.specs.Prelude.{◌≡◌, refl, false, ℕ, ◌-◌, List, [], ◌∷◌, ◌++◌}
use Rattle.plan.specs.declared.read.Literal.TheVariants.{OfBelt}
use Rattle.plan.specs.Bounds.{belt_cost_limit}
use Rattle.plan.specs.Records.{record_of, row_of, fits, links_at, links}
use Rattle.plan.specs.Plan.{Belt, cost_at, plan_of, named}
use Rattle.plan.specs.Refusals.{broken1, broken2, broken3, broken4, broken5, broken6, broken7, refusal}
use Rattle.plan.specs.Limits.{reached}

unfoldable pub plan_p : List ℕ
plan_p =
    record_of 7 3 1 7 10 0
    ++ record_of 1 4 0 0 0 0
    ++ record_of 1 6 0 0 0 0
    ++ record_of 1 0 0 0 0 0
    ++ record_of 2 5 2 3 0 0
    ++ record_of 2 0 3 9 0 0
    ++ record_of 2 0 3 4 0 0
    ++ record_of 3 0 8 0 0 0
    ++ record_of 4 9 0 0 4 0
    ++ record_of 4 0 0 0 6 0

p_accepted : refusal plan_p ≡ 0
unfolding plan_p refusal broken1 broken2 broken3 broken4 broken5 broken6 broken7 row_of fits links_at links plan_of named
p_accepted = refl

abbrev belt : ℕ → ℕ → ℕ → ℕ → Belt
belt e s t c = record { index = e; leaves = s; leads = t; cost = c }

-- three belts, and the rule: not belt 4, or not belt 6
p_means : plan_of plan_p ≡ record {
  junctions = 3;
  modes = 1;
  belts = belt 4 1 2 3 ∷ belt 5 1 3 9 ∷ belt 6 2 3 4 ∷ [];
  rules = (OfBelt (record { 0 = 4 }) false ∷ OfBelt (record { 0 = 6 }) false ∷ []) ∷ [];
}
unfolding plan_p plan_of
p_means = refl

p_names : named (plan_of plan_p) ≡ 4 ∷ 6 ∷ []
unfolding plan_p plan_of named
p_names = refl

-- every record above the junctions is reached once: the rule and its literals from record 0, the belts from the junctions
p_reaches : reached plan_p ≡ 7 ∷ 8 ∷ 9 ∷ 4 ∷ 5 ∷ 6 ∷ []
unfolding plan_p reached
p_reaches = refl

-- the cost of a belt stands in two fields, of which field 4 is the high one: 65,536 and 9, and the largest cost
cost_two_fields : cost_at (record_of 2 0 3 9 1 0) 0 ≡ 65545
cost_two_fields = refl

cost_largest : cost_at (record_of 2 0 3 65535 65535 0) 0 ≡ belt_cost_limit - 1
cost_largest = refl
