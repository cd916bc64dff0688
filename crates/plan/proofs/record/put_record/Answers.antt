-- The next field is placed behind those before it.
use Rattle.std.proofs.Common.{◌*◌, arith}
use Rattle.plan.proofs.RecordWriting.{next_field}
use Rattle.plan.proofs.record.put_record.Goals as goal

pub loop-f-preserved : goal.loop-f-preserved
loop-f-preserved c =
    next_field c.args.fields c.args.out.now c.loop-f.out _ (12 * c.args.i) c.loop-f.f c.loop-f.invariant c.put_field.ensures (omega arith) (omega arith)
