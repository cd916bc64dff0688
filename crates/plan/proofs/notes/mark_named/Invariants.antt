-- What is still to be marked makes of the marks what the whole makes of those at the start.
use Rattle.std.proofs.Common.{◌≡◌, ◌<◌, suc, length}
use Rattle.plan.specs.Bounds.{max_records}
use Rattle.plan.specs.Lists.{upto}
use Rattle.plan.specs.Records.{junctions, records}
use Rattle.plan.specs.Inner.{noted}
use Rattle.plan.proofs.notes.mark_named.Given as goal

abbrev pub invariant-loop-l : goal.invariant-loop-l
invariant-loop-l l = record {
  above : junctions l.plan.bytes.now < l.l;
  room : length l.marks ≡ max_records;
  rest : noted l.plan.bytes.now l.marks (upto l.l l.plan.count) ≡ noted l.plan.bytes.now l.initial.marks (upto (suc (junctions l.plan.bytes.now)) (records l.plan.bytes.now));
}
