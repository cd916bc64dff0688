-- Invariants of the loops of the rule test, over the chain of rules and over the chain of a rule's literals.
--
--   rule_shorter, literal_shorter
--                           the measures where the plan is at hand: the chain from the next rule on is shorter, and so for literals
--   above i                 the measure where it is not: how many indices there are from i on, none from 0, which ends a chain
--   rule_rises, literal_rises
--                           there are fewer from the next rule on, and so for literals
--   RulesAhead b on σ r     testing the rules from r on gives the same result as testing all rules of the plan b
--   rules_first, -met, -unmet, -done
--                           it holds at first, and past a rule that is met; a rule that is not met gives the answer, and so does the end
--   LiteralsAhead b on σ first l
--                           testing the literals from l on gives the same result as testing all from `first` on
--   literals_first, -held, -missed, -done
--                           the same of the literals of a rule
--
-- Assumes nothing.
use mathlib.Core.Path.{◌≡◌, refl, sym, ◌∙◌, ap, subst}
use mathlib.Core.Bool.{Bool, true, false, ◌&&◌, ◌||◌}
use Prim.Native.Nat.{ℕ, zero, suc, ◌-◌, ◌%◌, ◌≤◌, ◌<◌}
use mathlib.Core.List.{List}
use native.Mathlib.Omega.{arith}
use lib.ListN.{length}
use Rattle.plan.specs.Bounds.{max_records}
use Rattle.plan.specs.declared.read.Literal.{Literal}
use Rattle.plan.specs.Plan.{plan_of, literal_at}
use Rattle.plan.specs.Reading.{Accepted, IsRule, IsLiteral, first_rule, next_rule, first_literal, next_literal, rules_from, literals_from}
use Rattle.plan.proofs.Reading.{rules_from_lem, rules_end, rules_next, first_rule_is, next_rule_is, literals_end, literals_next, first_literal_is, next_literal_is}
use Rattle.plan.proofs.Reading.{rule_low, literal_low}
use Rattle.route.specs.Permission.{holds, met, all_met}

abbrev pub RulesAhead : List ℕ → (ℕ → Bool) → ℕ → ℕ → Type 0
RulesAhead b on σ r = ((r ≡ 0 → ⊥) → IsRule b r) × (all_met (rules_from b r) on σ ≡ all_met (plan_of b).rules on σ)

abbrev pub LiteralsAhead : List ℕ → (ℕ → Bool) → ℕ → ℕ → ℕ → Type 0
LiteralsAhead b on σ first l = ((l ≡ 0 → ⊥) → IsLiteral b l) × (met on σ (literals_from b l) ≡ met on σ (literals_from b first))

abbrev pub above : ℕ → ℕ
above i = (max_records - i) % max_records

-- from a record of a chain to the next, which stands higher or is none
rises : (i n : ℕ) → 1 ≤ i → i < max_records → ((n ≡ 0 → ⊥) → (i < n) × (n < max_records)) → above n < above i
rises i zero l u h = omega arith
rises i (suc n) l u h = let (higher, low) = h (λ e. omega arith) in omega arith

module _ {b : List ℕ} (ok : Accepted b) where
  pub rule_shorter : (r : ℕ) → IsRule b r → (n : ℕ) → n ≡ next_rule b r → length (rules_from b n) < length (rules_from b r)
  rule_shorter r o n e =
      let s = ap length (rules_next ok r o) in
      let k = ap (λ (i : ℕ). length (rules_from b i)) e in
      omega arith

  pub literal_shorter : (l : ℕ) → IsLiteral b l → (n : ℕ) → n ≡ next_literal b l → length (literals_from b n) < length (literals_from b l)
  literal_shorter l o n e =
      let s = ap length (literals_next ok l o) in
      let k = ap (λ (i : ℕ). length (literals_from b i)) e in
      omega arith

  pub rule_rises : (r : ℕ) → IsRule b r → (n : ℕ) → n ≡ next_rule b r → above n < above r
  rule_rises r o n e =
      let low = rule_low ok r o in
      subst (λ (i : ℕ). above i < above r) (sym e)
      (rises r (next_rule b r) (omega (arith, low.0)) low.2 (λ d. let next = next_rule_is ok r o d in (next.0, (rule_low ok (next_rule b r) next.1).2)))

  pub literal_rises : (l : ℕ) → IsLiteral b l → (n : ℕ) → n ≡ next_literal b l → above n < above l
  literal_rises l o n e =
      let low = literal_low ok l o in
      subst (λ (i : ℕ). above i < above l) (sym e)
      (rises l (next_literal b l) (omega (arith, low.0)) low.2 (λ d. let next = next_literal_is ok l o d in (next.0, (literal_low ok (next_literal b l) next.1).2)))

  module _ (on : ℕ → Bool) (σ : ℕ) where
    -- ---- rules

    pub rules_first : (n : ℕ) → n ≡ first_rule b → RulesAhead b on σ n
    rules_first n e = subst (RulesAhead b on σ) (sym e) (
      first_rule_is ok,
      ap (λ (rules : List (List Literal)). all_met rules on σ) (sym (rules_from_lem ok)),
    )

    pub rules_done : (r : ℕ) → RulesAhead b on σ r → r ≡ 0 → true ≡ all_met (plan_of b).rules on σ
    rules_done r h e =
        sym (ap (λ (n : ℕ). all_met (rules_from b n) on σ) e ∙ ap (λ (rules : List (List Literal)). all_met rules on σ) (rules_end ok)) ∙ h.1

    module _ (r : ℕ) (h : RulesAhead b on σ r) (d : r ≡ 0 → ⊥) where
      step : (t : Bool) → met on σ (literals_from b (first_literal b r)) ≡ t
          → all_met (rules_from b r) on σ ≡ (t && all_met (rules_from b (next_rule b r)) on σ)
      step t q =
          ap (λ (rules : List (List Literal)). all_met rules on σ) (rules_next ok r (h.0 d))
          ∙ ap (λ (t : Bool). t && all_met (rules_from b (next_rule b r)) on σ) q

      pub rules_met : (n : ℕ) → n ≡ next_rule b r → met on σ (literals_from b (first_literal b r)) ≡ true → RulesAhead b on σ n
      rules_met n e q = subst (RulesAhead b on σ) (sym e) (
        (λ z. (next_rule_is ok r (h.0 d) z).1),
        sym (step true q) ∙ h.1,
      )

      pub rules_unmet : met on σ (literals_from b (first_literal b r)) ≡ false → false ≡ all_met (plan_of b).rules on σ
      rules_unmet q = sym (step false q) ∙ h.1

      pub literals_first : (l : ℕ) → l ≡ first_literal b r → LiteralsAhead b on σ l l
      literals_first l e = subst (λ (i : ℕ). LiteralsAhead b on σ i i) (sym e) (first_literal_is ok r (h.0 d), refl)

    -- ---- literals

    pub literals_done : (first l : ℕ) → LiteralsAhead b on σ first l → l ≡ 0 → met on σ (literals_from b first) ≡ false
    literals_done first l h e = sym h.1 ∙ ap (λ (n : ℕ). met on σ (literals_from b n)) e ∙ ap (met on σ) (literals_end ok)

    module _ (first l : ℕ) (h : LiteralsAhead b on σ first l) (d : l ≡ 0 → ⊥) where
      turn : (t : Bool) → holds on σ (literal_at b l) ≡ t → met on σ (literals_from b l) ≡ (t || met on σ (literals_from b (next_literal b l)))
      turn t q = ap (met on σ) (literals_next ok l (h.0 d)) ∙ ap (λ (t : Bool). t || met on σ (literals_from b (next_literal b l))) q

      pub literals_held : holds on σ (literal_at b l) ≡ true → met on σ (literals_from b first) ≡ true
      literals_held q = sym h.1 ∙ turn true q

      pub literals_missed : holds on σ (literal_at b l) ≡ false → (n : ℕ) → n ≡ next_literal b l → LiteralsAhead b on σ first n
      literals_missed q n s = subst (LiteralsAhead b on σ first) (sym s) (
        (λ z. (next_literal_is ok l (h.0 d) z).1),
        sym (turn false q) ∙ h.1,
      )
