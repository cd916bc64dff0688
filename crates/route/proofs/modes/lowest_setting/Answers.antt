-- `settle` begins with the highest mode of the plan, and with the modes that are locked on.
use mathlib.Core.Path.{◌≡◌, refl, sym, ◌∙◌, ap, subst}
use mathlib.Core.Bool.{false}
use Prim.Native.Nat.{ℕ, ◌*◌, ◌^◌, ◌≤◌, ◌<◌}
use native.Mathlib.Omega.{arith}
use native.Mathlib.Nat.{zero-mul, div-eq_of_lt}
use lib.Bits.{and_le_r}
use Rattle.plan.specs.Bounds.{max_modes}
use Rattle.plan.specs.Lists.{iota}
use Rattle.plan.specs.Plan.{Plan, plan_of}
use Rattle.plan.proofs.Reading.{plan_sizes}
use Rattle.route.specs.declared.path.Lock.{Lock}
use Rattle.route.specs.Permission.{find, wrong_lock, locked_terms, works}
use Rattle.route.specs.Values.{has_belt}
use Rattle.route.specs.Inner.{Settled, settings_at}
use Rattle.route.proofs.RulesLock.{lock_fine}
use Rattle.route.proofs.RulesLowest.{all_modes}
use Rattle.route.proofs.modes.lowest_setting.Goals as goal
use Rattle.route.proofs.modes.lowest_setting.Goals.{Start}

few : (c : Start) → c.args.modes ≤ max_modes
few c = omega (arith, c.requires.2, (plan_sizes c.requires.1.accepted).2)

-- the values of a lock that is not wrong are a setting
low_values : (p : Plan) (k : Lock) → wrong_lock p k ≡ false → k.values < 2 ^ p.modes
low_values p k fine =
    let (low, within) = lock_fine p k fine in
    let e : k.values ≤ k.mask = subst (λ (v : ℕ). v ≤ k.mask) within (and_le_r k.values k.mask) in
    omega arith

-- all modes are still to be settled
begun : (p : Plan) (k : Lock) (m : ℕ) → wrong_lock p k ≡ false → m ≡ p.modes → Settled p k m k.values
begun p k m fine e = record {
  fine = fine;
  few = omega arith;
  above = λ n u v. absurd (omega arith);
  rest = λ n l u. refl;
}

all_settings : (m σ : ℕ) → σ < 2 ^ m → settings_at m σ ≡ iota 0 (2 ^ m)
all_settings m σ low = ap (λ (q : ℕ). iota (q * 2 ^ m) (2 ^ m)) (div-eq_of_lt low) ∙ ap (λ (s : ℕ). iota s (2 ^ m)) (zero-mul (2 ^ m))

-- the values fit 16 bits
small : (c : Start) → c.args.trip.lock.values < 2 ^ max_modes
small c =
    let w = c.requires in
    let low = low_values (plan_of w.0) c.args.trip.lock w.3 in
    let top = all_modes (plan_of w.0).modes (plan_sizes w.1.accepted).2 in
    omega arith

pub overflow_cast-modes : goal.overflow_cast-modes
overflow_cast-modes c = omega (arith, few (goal.at.overflow_cast-modes c).Start)

pub overflow_cast-values : goal.overflow_cast-values
overflow_cast-values c = omega (arith, small (goal.at.overflow_cast-values c).Start)

pub settle-requires : goal.settle-requires
settle-requires c =
    let start = (goal.at.settle-requires c).Start in
    let w = c.requires in
    let modes = all_modes c.args.modes (few start) in (
      w.0,
      c.args.trip.lock,
      w.1,
      refl,
      begun (plan_of w.0) c.args.trip.lock c.args.modes w.3 w.2,
      few start,
      omega (arith, modes, small start),
    )

pub returns : goal.returns
returns c =
    let a = c.args in
    let k = a.trip.lock in
    λ b ruled modes fine.
    let p = plan_of b in
    let low : k.values < 2 ^ a.modes = subst (λ (m : ℕ). k.values < 2 ^ m) (sym modes) (low_values p k fine) in
    let test = works (locked_terms p k) (has_belt b a.belts) in
    c.settle.ensures b k ruled refl (begun p k a.modes fine modes)
    ∙ ap (find test) (all_settings a.modes k.values low)
    ∙ ap (λ (m : ℕ). find test (iota 0 (2 ^ m))) modes
