-- The rules of a plan whose belts got other indices ask of the renamed route what they asked of the route. Of the renaming f it is asked that of two
-- indices the lower gets the lower new one (RisesAlways).
--
--   rule_renamed        a renamed rule names a renamed belt where the rule names the belt
--   named_renamed       the named belts are the renamed ones; count_renamed: each is in as many rules
--   works_renamed       under a test of the renamed belts that says what `on` says of the belts, the same settings work; lowest_renamed: so the lowest is
--                       the same
--   setting_renamed     the lowest setting under which a route is permitted stays
--
-- Assumes nothing.
use mathlib.Core.Path.{◌≡◌, refl, ap, ◌∙◌}
use mathlib.Core.Bool.{Bool, ◌&&◌, beq}
use Prim.Native.Nat.{ℕ, ◌^◌}
use mathlib.Core.List.{List, map}
use Rattle.plan.specs.declared.read.Literal.{Literal}
use Rattle.plan.specs.declared.read.Literal.TheVariants.{OfBelt, OfMode}
use Rattle.plan.specs.Lists.{any, keep, iota}
use Rattle.plan.specs.Plan.{Belt, Plan, indices_of, names, in_rule, named}
use Rattle.route.specs.Permission.{passes, holds, met, all_met, Terms, works, lowest}
use Rattle.route.proofs.RulesLowest.{find_cong}
use Rattle.search.specs.Branching.{rule_count}
use Rattle.search.specs.Search.{setting_of}
use Rattle.archive.specs.Renaming.{RisesAlways, renamed_literal, renamed_rules, renamed, renamed_route, renamed_terms}
use Rattle.archive.proofs.RenameRoutes.{any_across, all_across, count_across, keep_across, eqb_renamed, indices_renamed, passes_renamed}

-- ---- the belts that rules name

module _ (f : ℕ → ℕ) (up : RisesAlways f) where
  names_renamed : (e : ℕ) (l : Literal) → names (f e) (renamed_literal f l) ≡ names e l
  names_renamed e (OfBelt b wanted) = eqb_renamed f up e b.0
  names_renamed e (OfMode m wanted) = refl

  pub rule_renamed : (e : ℕ) (rule : List Literal) → in_rule (f e) (map (renamed_literal f) rule) ≡ in_rule e rule
  rule_renamed e rule = any_across (names (f e)) (names e) (renamed_literal f) (names_renamed e) rule

  some_rule : (p : Plan) (e : ℕ) → any (in_rule (f e)) (renamed f p).rules ≡ any (in_rule e) p.rules
  some_rule p e = any_across (in_rule (f e)) (in_rule e) (map (renamed_literal f)) (rule_renamed e) p.rules

  pub named_renamed : (p : Plan) → named (renamed f p) ≡ map f (named p)
  unfolding named
  named_renamed p =
      ap (keep (λ (e : ℕ). any (in_rule e) (renamed f p).rules)) (indices_renamed f p.belts)
      ∙ keep_across (λ (e : ℕ). any (in_rule e) (renamed f p).rules) (λ (e : ℕ). any (in_rule e) p.rules) f (some_rule p) (indices_of p.belts)

  pub count_renamed : (p : Plan) (e : ℕ) → rule_count (renamed f p) (f e) ≡ rule_count p e
  count_renamed p e = count_across (in_rule (f e)) (in_rule e) (map (renamed_literal f)) (rule_renamed e) p.rules

-- ---- permission

-- tests of the renamed belts and of the belts
module _ (f : ℕ → ℕ) (on-new on : ℕ → Bool) (same : (e : ℕ) → on-new (f e) ≡ on e) where
  holds_renamed : (σ : ℕ) (l : Literal) → holds on-new σ (renamed_literal f l) ≡ holds on σ l
  holds_renamed σ (OfBelt e wanted) = ap (λ (t : Bool). beq t wanted) (same e.0)
  holds_renamed σ (OfMode m wanted) = refl

  met_renamed : (σ : ℕ) (rule : List Literal) → met on-new σ (map (renamed_literal f) rule) ≡ met on σ rule
  met_renamed σ rule = any_across (holds on-new σ) (holds on σ) (renamed_literal f) (holds_renamed σ) rule

  all_renamed : (rules : List (List Literal)) (σ : ℕ) → all_met (renamed_rules f rules) on-new σ ≡ all_met rules on σ
  all_renamed rules σ = all_across (met on-new σ) (met on σ) (map (renamed_literal f)) (met_renamed σ) rules

  pub works_renamed : (terms : Terms) (σ : ℕ) → works (renamed_terms f terms) on-new σ ≡ works terms on σ
  works_renamed terms σ = ap (λ (t : Bool). terms.allowed σ && t) (all_renamed terms.rules σ)

  pub lowest_renamed : (terms : Terms) → lowest (renamed_terms f terms) on-new ≡ lowest terms on
  lowest_renamed terms = find_cong (works (renamed_terms f terms) on-new) (works terms on) (iota 0 (2 ^ terms.modes)) (λ σ m. works_renamed terms σ)

pub setting_renamed : (f : ℕ → ℕ) → RisesAlways f → (terms : Terms) (r : List Belt) → setting_of (renamed_terms f terms) (renamed_route f r) ≡ setting_of terms r
setting_renamed f up terms r = lowest_renamed f (passes (renamed_route f r)) (passes r) (passes_renamed f up r) terms
