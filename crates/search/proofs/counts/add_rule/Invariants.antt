-- The first k places are counted.
use Rattle.std.proofs.Common.{◌≡◌}
use Rattle.search.specs.Inner.{with_rule}
use Rattle.search.proofs.counts.add_rule.Given as goal

abbrev pub invariant-loop-k : goal.invariant-loop-k
invariant-loop-k l = l.counts ≡ with_rule l.fn.counts l.k l.mask
