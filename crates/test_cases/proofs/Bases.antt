-- Laws of the plans that cases start from (specs/Plans.antt): of the two loops that write a pair of records at each turn, and of the plan that
-- a line says.
--
--   blank_is       an array of case_bytes zeros is the bytes before anything is written
--   twins_next     a turn of the loop over belts: to write those that are left gives what it gave before the turn
--   links_next     the same for the loop over junctions
--   plan_is        the plan of a line, from what is read of it and written one after the other
--
-- Assumes nothing.
use mathlib.Core.Path.{◌≡◌, refl, sym, ◌∙◌, ap}
use Prim.Native.Nat.{ℕ, ◌+◌, ◌<◌}
use mathlib.Core.List.{List}
use lib.ListN.{get_or, replicate}
use Rattle.plan.specs.Lists.{upto}
use Rattle.plan.proofs.Lists.{upto_step}
use Rattle.test_cases.specs.declared.plans.Base.{Base}
use Rattle.test_cases.specs.declared.plans.Plan.{Plan}
use Rattle.test_cases.specs.Records.{put_record, case_bytes}
use Rattle.test_cases.specs.Lines.{number_in, number_or_zero, numbers_in, changed}
use Rattle.test_cases.specs.Plans.{blank, fields, put_twins, put_links, put_base, base_of, plan_in}

pub blank_is : replicate case_bytes 0 ≡ blank
unfolding blank
blank_is = refl

-- a record that is written over b is written over a, where b ≡ a
pub over : {a b c : List ℕ} (r : ℕ) (fs : List ℕ) → b ≡ a → c ≡ put_record b r fs → c ≡ put_record a r fs
over r fs e h = h ∙ ap (λ (k : List ℕ). put_record k r fs) e

module _ (a b c d : List ℕ) (e : ℕ) where
  pub twins_next :
      e < 51 →
      c ≡ put_record b e (fields 2 (e + 1) 2 1 0 0) →
      d ≡ put_record c (e + 50) (fields 4 (e + 51) 0 0 e 0) →
      put_twins b (upto e 51) ≡ a →
      put_twins d (upto (e + 1) 51) ≡ a
  twins_next l h k left =
      ap (λ (x : List ℕ). put_twins x (upto (e + 1) 51)) (over _ _ h k) ∙ sym (ap (put_twins b) (upto_step e 51 l)) ∙ left

  pub links_next :
      e < 256 →
      c ≡ put_record b e (fields 1 (256 + e) 0 0 0 0) →
      d ≡ put_record c (256 + e) (fields 2 0 (e + 1) 65535 65535 0) →
      put_links b (upto e 256) ≡ a →
      put_links d (upto (e + 1) 256) ≡ a
  links_next l h k left =
      ap (λ (x : List ℕ). put_links x (upto (e + 1) 256)) (over _ _ h k) ∙ sym (ap (put_links b) (upto_step e 256 l)) ∙ left

-- both fields of the plan go along with their equations
pub plan_is :
    (text : List ℕ) {zeros b c rest : List ℕ} {base : Base} {size : ℕ} →
    zeros ≡ blank →
    base ≡ base_of (get_or text 2 10) →
    b ≡ put_base zeros base →
    size ≡ number_or_zero text →
    rest ≡ (number_in text).rest →
    c ≡ changed b (numbers_in rest) →
    ◌≡◌ {A = Plan} (record { bytes = c; size = size }) (plan_in text)
plan_is text {zeros} {b} {c} {rest} {base} {size} z letter start number left changes = λ i. record { bytes = bytes i; size = number i }
  where
    bytes : c ≡ (plan_in text).bytes
    bytes = changes ∙ (λ i. changed ((start ∙ (λ j. put_base (z j) (letter j))) i) (numbers_in (left i)))
