-- The records of the junctions below j are written.
use Rattle.std.proofs.Common.{◌≡◌, ◌*◌}
use Rattle.plan.specs.Records.{placed}
use Rattle.archive.specs.Form.{bytes_of}
use Rattle.archive.proofs.WriteBelts.{junctions_to}
use Rattle.archive.proofs.indices.Renumbered.put_junctions.Given as goal

abbrev pub invariant-loop-j : goal.invariant-loop-j
invariant-loop-j l = l.out ≡ placed l.initial.out (12 * 1) (bytes_of (junctions_to l.self.plan.bytes.now l.j))
