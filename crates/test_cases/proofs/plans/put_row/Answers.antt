-- `test_cases::plans::put_row` meets its contract: a turn of the loop writes the pair of records of one junction. Assumes nothing.
use Rattle.test_cases.proofs.Bases.{links_next}
use Rattle.test_cases.proofs.plans.put_row.Goals as goal

pub loop-j-preserved : goal.loop-j-preserved
loop-j-preserved c =
    links_next _ _ _ _ _ c.loop-j-test.true (rw c.from.ensures at c.put-in-loop-j.ensures) (rw c.from-in-loop-j.ensures at c.put-in-loop-j-2.ensures) c.loop-j.invariant
