-- The tests are those of line 1.
use Rattle.std.proofs.Common.{refl, arith}
use Rattle.plan.proofs.LineForms.{size_fits, size_wrong}
use Rattle.plan.proofs.records.Records.new.Goals as goal

pub returns-then-not-contains : goal.returns-then-not-contains
returns-then-not-contains c = size_wrong _ (λ s. grind (arith, s.least, s.most))

pub returns-then-bytes-count : goal.returns-then-bytes-count
returns-then-bytes-count c = size_wrong _ (λ s. omega (arith, s.whole))

pub returns : goal.returns
returns c = (size_fits _ (record { least = grind arith; most = grind arith; whole = omega arith }), refl)
