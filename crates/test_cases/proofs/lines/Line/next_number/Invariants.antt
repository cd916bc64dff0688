-- At each turn what is left of the text says the same number as the whole does, and once a number is begun fewer bytes are left.
use Rattle.std.proofs.Common.{◌≡◌, ◌<◌, ◌≤◌, length, IsSome}
use Rattle.test_cases.specs.Lines.{number_from, number_in}
use Rattle.test_cases.proofs.lines.Line.next_number.Given as goal

abbrev pub invariant-loop-c : goal.invariant-loop-c
invariant-loop-c l = record {
  same : number_from l.number l.self.rest.now ≡ number_in l.initial.self.rest.now;
  fewer : length l.self.rest.now ≤ length l.initial.self.rest.now;
  shorter : IsSome l.number → length l.self.rest.now < length l.initial.self.rest.now;
}

abbrev pub decreases-loop-c : goal.decreases-loop-c
decreases-loop-c l = length l.self.rest.now
