-- The codes of literals: what they say of a mask of belts and a setting.
--
--   coded_back         a code says what it was made of: a place or a mode, and whether it is wanted
--   codable_low        the code of a codable literal is below 256
--   coded_low          what it says can be looked up: a place that has a bit in a mask, or a mode from 1 to max_modes
--   literal_named      a belt of a rule is a named belt
--   literal_codable    a literal of an accepted plan has a code
--   literal_true       it holds exactly when what its code says is true
--
-- Assumes nothing.
use mathlib.Core.Path.{◌≡◌, refl, sym, ◌∙◌, ap, subst}
use mathlib.Core.Bool.{Bool, true, false, beq}
use Prim.Native.Nat.{ℕ, zero, suc, ◌+◌, ◌*◌, ◌-◌, ◌/◌, ◌%◌, ◌<◌}
use mathlib.Core.List.{List, Memᴰ}
use native.Mathlib.Omega.{arith}
use lib.ListN.{get_or}
use lib.Dec.{eqb, ltb}
use borrow.Author.Tests.{eq-eqb}
use Rattle.plan.specs.declared.read.BeltId.{BeltId}
use Rattle.plan.specs.declared.read.Literal.{Literal}
use Rattle.plan.specs.declared.read.Literal.TheVariants.{OfBelt, OfMode}
use Rattle.plan.specs.Plan.{Place}
use Rattle.std.specs.Prelude.{Some}
use Rattle.plan.specs.Lists.{count}
use Rattle.plan.specs.Plan.{plan_of, literal_at, belt_at, named, names, in_rule, code_place}
use Rattle.plan.specs.Reading.{Accepted, IsLiteral}
use Rattle.plan.proofs.Lists.{in_any}
use Rattle.plan.proofs.NamedBelts.{in_named, named_rises}
use Rattle.plan.proofs.NamedPlaces.{at_place, place_in_lem, place_is}
use Rattle.plan.proofs.Reading.{literal_belt, literal_mode, belt_in, belt_low, named_few, plan_sizes, literal_in}
use Rattle.route.specs.declared.clauses.Coded.{Coded}
use Rattle.route.specs.Permission.{holds}
use Rattle.route.specs.Values.{in_mask, named_places, has_belt, with_bit, code_in, coded_by, coded_in}
use Rattle.route.specs.Inner.{Codable, LowCoded, is_true}

-- ---- codes

bit_half : (n : ℕ) (t : Bool) → with_bit n t / 2 ≡ n
bit_half n true = omega arith
bit_half n false = omega arith

bit_last : (n : ℕ) (t : Bool) → eqb (with_bit n t % 2) 1 ≡ t
bit_last n true = let e : (2 * n + 1) % 2 ≡ 1 = omega arith in ap (λ (k : ℕ). eqb k 1) e
bit_last n false = let e : (2 * n) % 2 ≡ 0 = omega arith in ap (λ (k : ℕ). eqb k 1) e

bit_low : (n : ℕ) (t : Bool) (k : ℕ) → n < k → with_bit n t < 2 * k
bit_low n true k h = omega arith
bit_low n false k h = omega arith

-- a code says what it was made of
coded_back : (t : Bool) (n : ℕ) (w : Bool) → coded_in (with_bit (with_bit n t) w) ≡ coded_by t n w
coded_back t n w =
    let half = bit_half (with_bit n t) w in
    (λ i. coded_by (eqb (half i % 2) 1) (half i / 2) (bit_last (with_bit n t) w i)) ∙ (λ i. coded_by (bit_last n t i) (bit_half n t i) w)

pub codable_low : (places : List ℕ) (x : Literal) → Codable places x → code_in places x < 256
codable_low places (OfBelt e w) h =
    let n = get_or places e.0 0 - 1 in
    bit_low (with_bit n false) w 128 (bit_low n false 64 (omega (arith, h.2)))
codable_low places (OfMode m w) h = bit_low (with_bit m.0 true) w 128 (bit_low m.0 true 64 (omega (arith, h.1)))

pub coded_low : (places : List ℕ) (x : Literal) → Codable places x → LowCoded (coded_in (code_in places x))
coded_low places (OfBelt e w) h =
    let n = get_or places e.0 0 - 1 in
    let low : n < 64 = omega (arith, h.2) in
    subst LowCoded (sym (coded_back false n w)) low
coded_low places (OfMode m w) h = subst LowCoded (sym (coded_back true m.0 w)) h

-- ---- the literals of a plan

number_of : (n k : ℕ) → code_place n ≡ Some k → n ≡ suc k
number_of zero k h = let z : ◌≡◌ {A = ℕ} 0 1 = cc in absurd (omega arith)
number_of (suc n) k h = let e : n ≡ k = cc in ap suc e

module _ {b : List ℕ} (ok : Accepted b) where
  abbrev ns : List ℕ
  ns = named (plan_of b)

  -- the place of a named belt: as many are lower
  abbrev lower : ℕ → ℕ
  lower e = count (λ (n : ℕ). ltb n e) ns

  module _ {rule : List Literal} (m : Memᴰ rule (plan_of b).rules) where
    pub literal_named : (e : BeltId) (w : Bool) → Memᴰ (OfBelt e w) rule → Memᴰ e.0 ns
    literal_named e w k =
        in_named (plan_of b) (belt_at b e.0) (belt_in ok e.0 (literal_belt ok rule m e w k))
        (in_any (in_rule e.0) (plan_of b).rules m (in_any (names e.0) rule k (eq-eqb e.0 e.0 refl)))

    belt_number : (e : BeltId) (w : Bool) → Memᴰ (OfBelt e w) rule → get_or (named_places b) e.0 0 ≡ suc (lower e.0)
    belt_number e w k =
        let low = (belt_low ok e.0 (literal_belt ok rule m e w k)).2 in
        number_of (get_or (named_places b) e.0 0) (lower e.0) (place_is ns e.0 low ∙ place_in_lem e.0 ns (literal_named e w k))

    codable_in : (x : Literal) → Memᴰ x rule → Codable (named_places b) x
    codable_in (OfBelt e w) k =
        let n = belt_number e w k in
        let below = (at_place e.0 (named_rises b) (literal_named e w k)).1 in
        ((belt_low ok e.0 (literal_belt ok rule m e w k)).2, omega arith, omega (arith, named_few ok))
    codable_in (OfMode n w) k = let mode = literal_mode ok rule m n w k in (mode.0, omega (arith, mode.1, (plan_sizes ok).2))

  pub literal_codable : (l : ℕ) → IsLiteral b l → Codable (named_places b) (literal_at b l)
  literal_codable l o = let (rule, m, k) = literal_in ok l o in codable_in m (literal_at b l) k

  -- ---- what they say

  module _ (belts σ : ℕ) where
    true_in : {rule : List Literal} → Memᴰ rule (plan_of b).rules → (x : Literal) → Memᴰ x rule
        → is_true (coded_in (code_in (named_places b) x)) belts σ ≡ holds (has_belt b belts) σ x
    true_in m (OfBelt e w) k =
        let n = get_or (named_places b) e.0 0 - 1 in
        let v : n ≡ lower e.0 = omega (arith, belt_number m e w k) in
        ap (λ (l : Coded). is_true l belts σ) (coded_back false n w)
        ∙ ap (λ (q : Place). beq (in_mask belts q) w) (ap (λ (j : ℕ). Some j) v ∙ sym (place_in_lem e.0 ns (literal_named m e w k)))
    true_in m (OfMode n w) k = ap (λ (l : Coded). is_true l belts σ) (coded_back true n.0 w)

    pub literal_true : (l : ℕ) → IsLiteral b l → is_true (coded_in (code_in (named_places b) (literal_at b l))) belts σ ≡ holds (has_belt b belts) σ (literal_at b l)
    literal_true l o = let (rule, m, k) = literal_in ok l o in true_in m (literal_at b l) k
