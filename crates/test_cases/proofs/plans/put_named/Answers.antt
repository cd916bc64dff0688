-- `test_cases::plans::put_named` meets its contract: a turn of the loop writes the pair of records of one belt. Assumes nothing.
use Rattle.test_cases.proofs.Bases.{twins_next}
use Rattle.test_cases.proofs.plans.put_named.Goals as goal

pub loop-e-preserved : goal.loop-e-preserved
loop-e-preserved c =
    twins_next _ _ _ _ _ c.loop-e-test.true (rw c.from.ensures at c.put-in-loop-e.ensures) (rw c.from-in-loop-e.ensures at c.put-in-loop-e-2.ensures) c.loop-e.invariant
