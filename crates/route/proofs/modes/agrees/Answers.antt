-- A setting that differs from the values in no bit of the mask agrees with the lock.
use Rattle.std.proofs.Common.{◌∙◌, ap, ℕ, eqb}
use lib.Bits.{bit_and, bit_xor}
use Rattle.route.proofs.RulesLock.{agrees_bits}
use Rattle.route.proofs.modes.agrees.Goals as goal

pub returns : goal.returns
returns c =
    let k = c.args.lock in
    λ p fine. ap (λ (σ : ℕ). eqb (bit_and (bit_xor σ k.values) k.mask) 0) c.from.ensures ∙ agrees_bits k c.args.setting p fine
