-- `ways::row` by the steps of WaysRows.antt. Heads rise, so behind the first head past `nearest` no word is open.
use Rattle.std.proofs.Common.{arith, rules}
use Rattle.route.proofs.WaysRows.{least_taken, least_end}
use Rattle.route.proofs.ways.row.Goals as goal

pub returns-then-nearest-head : goal.returns-then-nearest-head
returns-then-nearest-head c =
    let i = c.loop-i in
    least_end i.invariant.least i.auto.i-end i.invariant.at (λ j l h o. omega (arith, c.requires.3 i.i j i.auto.i l h))

pub loop-i-preserved : goal.loop-i-preserved
loop-i-preserved c = record {
  at = λ l. omega (arith, c.loop-i.invariant.at l);
  least = least_taken c.loop-i.invariant.least c.loop-i.auto.i (omega arith) (search rules);
}

pub returns : goal.returns
returns c = least_end c.loop-i.invariant.least c.loop-i.auto.i-end c.loop-i.invariant.at (λ j l h o. omega arith)
