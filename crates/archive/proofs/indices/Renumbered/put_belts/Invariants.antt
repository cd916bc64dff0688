-- The records of the belts below record e are written.
use Rattle.std.proofs.Common.{◌≡◌, suc, ◌*◌}
use Rattle.plan.specs.Records.{placed}
use Rattle.plan.specs.Plan.{plan_of}
use Rattle.archive.specs.Form.{bytes_of}
use Rattle.archive.proofs.WriteBelts.{legs_to}
use Rattle.archive.proofs.indices.Renumbered.put_belts.Given as goal

abbrev pub invariant-loop-e : goal.invariant-loop-e
invariant-loop-e l = l.out ≡ placed l.initial.out (12 * suc (plan_of l.self.plan.bytes.now).junctions) (bytes_of (legs_to l.self.plan.bytes.now l.e))
