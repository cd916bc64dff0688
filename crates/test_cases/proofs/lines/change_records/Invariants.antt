-- What is written, changed by the numbers that are left, is what all numbers make of the bytes at first. Each number that is found leaves fewer bytes.
use Rattle.std.proofs.Common.{◌≡◌, ◌≤◌, length}
use Rattle.test_cases.specs.Lines.{numbers_in, changed, changed_by}
use Rattle.test_cases.proofs.lines.change_records.Given as goal

abbrev pub invariant-loop-index : goal.invariant-loop-index
invariant-loop-index l = changed l.buf (numbers_in l.line.rest.now) ≡ changed l.fn.buf (numbers_in l.fn.line.rest.now)

abbrev pub decreases-loop-index : goal.decreases-loop-index
decreases-loop-index l = length l.line.rest.now

abbrev pub invariant-loop-field : goal.invariant-loop-field
invariant-loop-field l = record {
  same : changed_by l.buf l.index l.field (numbers_in l.line.rest.now) ≡ changed l.fn.buf (numbers_in l.fn.line.rest.now);
  fewer : length l.line.rest.now ≤ length l.initial.line.rest.now;
}
