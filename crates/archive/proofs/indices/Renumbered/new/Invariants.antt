-- The array has the new indices of the belts below record e, and `next` is the next one.
use Rattle.std.proofs.Common.{◌≡◌, suc, ◌+◌, length}
use Rattle.plan.specs.Plan.{plan_of}
use Rattle.archive.proofs.WriteIndices.{low_belts, NumberedTo}
use Rattle.archive.proofs.indices.Renumbered.new.Given as goal

abbrev pub invariant-loop-e : goal.invariant-loop-e
invariant-loop-e l = record {
  next : l.next ≡ suc (plan_of l.plan.bytes.now).junctions + length (low_belts l.plan.bytes.now l.e);
  numbered : NumberedTo l.plan.bytes.now l.indices l.e;
}
