-- The fields before f are written.
use Rattle.std.proofs.Common.{◌≡◌, ◌*◌, take}
use Rattle.plan.specs.Bounds.{record_bytes}
use Rattle.plan.specs.Lists.{joined}
use Rattle.plan.specs.Records.{field_bytes, placed}
use Rattle.plan.proofs.record.put_record.Given as goal

abbrev pub invariant-loop-f : goal.invariant-loop-f
invariant-loop-f l = l.out ≡ placed l.initial.out (record_bytes * l.i) (joined field_bytes (take l.f l.fn.fields))
