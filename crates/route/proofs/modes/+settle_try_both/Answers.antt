-- `route::modes::settle` and `route::modes::try_both`, which call each other, meet their contracts. Assumes nothing.
use Rattle.std.proofs.Common.{◌≡◌, refl, sym, ap, subst, ◌∙◌, true, false, List, ℕ, ◌+◌, ◌*◌, ◌-◌, ◌^◌, ◌%◌, ◌≤◌, ◌⊎◌, inl, inr, arith, Bool}
use mathlib.Core.Option.{Option, none, some}
use mathlib.Core.Bool.{true≢false}
use Rattle.std.specs.Prelude.{Some, None}
use Rattle.std.specs.Bool.{then_some}
use Rattle.std.specs.Option.{is_some}
use Rattle.std.specs.declared.option.Option as answer
use Rattle.plan.specs.Bounds.{max_modes}
use Rattle.plan.specs.Plan.{plan_of}
use Rattle.plan.proofs.Lists.{test as two_ways}
use Rattle.route.specs.declared.path.Lock.{Lock}
use Rattle.route.specs.Permission.{is_on, locked_terms, works, find, or_else, otherwise}
use Rattle.route.specs.Values.{has_belt, setting_in}
use Rattle.route.specs.Inner.{Settled, settings_at}
use Rattle.route.proofs.RulesLowest.{halves, weight}
use Rattle.route.proofs.RulesSettle.{next_same, next_on, leaf, tried_locked, tried_both}
use Rattle.route.proofs.modes.+settle_try_both.Goals as goal
use Rattle.route.proofs.modes.+settle_try_both.Goals.{try_both-then-is_some-via-then-is_some, try_both-then-is_some-via-else-is_some+then-is_on}

-- the test that the settings are put to
abbrev test : List ℕ → ℕ → Lock → ℕ → Bool
test b belts lock = works (locked_terms (plan_of b) lock) (has_belt b belts)

-- what is found among the settings with the modes above n as τ has them
abbrev found : List ℕ → ℕ → Lock → ℕ → ℕ → Option ℕ
found b belts k n τ = find (test b belts k) (settings_at n τ)

module _ (b : List ℕ) (belts : ℕ) (k : Lock) (locked m σ : ℕ) (from : 1 ≤ m) (mask : k.mask ≡ locked) (settled : Settled (plan_of b) k m σ) where
  -- whether the mode is locked, by the mask of the lock
  in_lock : (w : Bool) → is_on locked m ≡ w → is_on k.mask m ≡ w
  in_lock w e = ap (λ (n : ℕ). is_on n m) mask ∙ e

  -- the setting with the mode turned on, as the code works it out
  turned_on : m ≤ max_modes → is_on locked m ≡ false → Settled (plan_of b) k (m - 1) (σ + (1 * 2 ^ (m - 1)) % 65536)
  turned_on few free = subst (λ (w : ℕ). Settled (plan_of b) k (m - 1) (σ + w)) (sym (weight m few)) (next_on settled from (in_lock false free))

  -- a locked mode is left as it is
  only_first : is_on locked m ≡ true → found b belts k m σ ≡ found b belts k (m - 1) σ
  only_first is_locked = sym (tried_locked settled (has_belt b belts) from (in_lock true is_locked))

  -- of another, what is found with it off comes first, then what is found with it on
  in_order : is_on locked m ≡ false → (o : Option ℕ) → found b belts k (m - 1) σ ≡ o
      → found b belts k m σ ≡ otherwise o (found b belts k (m - 1) (σ + 2 ^ (m - 1)))
  in_order free o first =
      tried_both settled (has_belt b belts) from (in_lock false free)
      ∙ ap (λ (x : Option ℕ). otherwise x (found b belts k (m - 1) (σ + 2 ^ (m - 1)))) first

  -- so what is found first is the lowest either way
  either_way : (low : ℕ) → found b belts k (m - 1) σ ≡ some low → found b belts k m σ ≡ some low
  either_way low first = go (two_ways (is_on locked m))
    where
      go : (is_on locked m ≡ true) ⊎ (is_on locked m ≡ false) → found b belts k m σ ≡ some low
      go (inl is_locked) = only_first is_locked ∙ first
      go (inr free) = in_order free (some low) first

  where_found : (o : answer.Option ℕ) → is_some o ≡ true → found b belts k (m - 1) σ ≡ setting_in o → found b belts k m σ ≡ setting_in o
  where_found (Some low) some_is first = either_way low first
  where_found None some_is first = absurd (true≢false (sym some_is))

where_none : (o : answer.Option ℕ) → is_some o ≡ false → setting_in o ≡ none
where_none (Some low) none_is = absurd (true≢false none_is)
where_none None none_is = refl

-- the setting, where the rules are met
setting_if : (t : Bool) (σ : ℕ) → setting_in (then_some t σ) ≡ or_else t σ none
setting_if true σ = refl
setting_if false σ = refl

pub settle-returns-then-mode-eq0 : goal.settle-returns-then-mode-eq0
settle-returns-then-mode-eq0 t c =
    λ b k ruled mask settled.
    ap setting_in c.then_some.ensures
    ∙ setting_if c.all_met.result c.args.setting
    ∙ sym (leaf settled (has_belt b c.args.belts) c.if-mode-eq0.true c.all_met.result (sym (c.all_met.ensures b ruled)))

pub try_both-settle-off-requires : goal.try_both-settle-off-requires
try_both-settle-off-requires t c =
    let m = c.args.mode.0 in
    let h = c.requires in
    (omega (arith, h.5), (h.0, h.1, h.2, h.3, next_same h.4 h.5, omega (arith, h.6), omega (arith, h.7, halves m h.5)))

pub try_both-settle-requires : goal.try_both-settle-requires
try_both-settle-requires t c =
    let m = c.args.mode.0 in
    let h = c.requires in
    let free = sym c.is_on.ensures ∙ c.if-is_on.false in
    let on = turned_on h.0 c.args.belts h.1 c.args.locked m c.args.setting h.5 h.3 h.4 h.6 free in
    (omega (arith, h.5), (h.0, h.1, h.2, h.3, on, omega (arith, h.6), omega (arith, h.7, halves m h.5, weight m h.6)))

pub try_both-returns-then-is_some : goal.try_both-returns-then-is_some
try_both-returns-then-is_some t c =
    let a = c.args in
    let from = c.requires.5 in
    λ b k ruled mask settled.
    let first = sym (c.settle-off.ensures b k ruled mask (next_same settled from)) in
    elim c.then-is_some.branch [
      | try_both-then-is_some-via-then-is_some w ↦
          sym (where_found b a.belts k a.locked a.mode.0 a.setting from mask settled c.settle-off.result (sym c.is_some.ensures ∙ w.if-is_some.true) first)
      | try_both-then-is_some-via-else-is_some+then-is_on w ↦
          sym (only_first b a.belts k a.locked a.mode.0 a.setting from mask settled (sym w.is_on.ensures ∙ w.if-is_on.true) ∙ first)
    ]

pub try_both-returns : goal.try_both-returns
try_both-returns t c =
    let a = c.args in
    let m = a.mode.0 in
    let h = c.requires in
    let free = sym c.is_on.ensures ∙ c.if-is_on.false in
    λ b k ruled mask settled.
    let first = sym (c.settle-off.ensures b k ruled mask (next_same settled h.5)) in
    let nothing = where_none c.settle-off.result (sym c.is_some.ensures ∙ c.if-is_some.false) in
    c.settle.ensures b k ruled mask (turned_on b a.belts k a.locked m a.setting h.5 mask settled h.6 free)
    ∙ ap (λ (w : ℕ). find (test b a.belts k) (settings_at (m - 1) (a.setting + w))) (weight m h.6)
    ∙ sym (in_order b a.belts k a.locked m a.setting h.5 mask settled free none (first ∙ nothing))
