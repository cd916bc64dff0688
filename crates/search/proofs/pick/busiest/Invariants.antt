-- The best so far is the busiest of the unfixed places from k on.
use Rattle.std.proofs.Common.{◌≡◌, ◌<◌, IfSome}
use Rattle.plan.specs.Bounds.{max_named}
use Rattle.plan.specs.Words.{named_at}
use Rattle.search.specs.Inner.{at_place}
use Rattle.search.proofs.BranchPicks.{busiest_from}
use Rattle.search.proofs.pick.busiest.Given as goal

abbrev pub invariant-loop-k : goal.invariant-loop-k
invariant-loop-k l = record {
  below : IfSome l.best (λ j. j < max_named);
  busiest : l.best ≡ at_place (busiest_from l.prepared.numbers.now l.fixed l.k (named_at l.prepared.numbers.now));
}
