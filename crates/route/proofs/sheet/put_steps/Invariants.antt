-- The steps of the first k belts are written.
use Rattle.std.proofs.Common.{◌≡◌}
use Rattle.plan.specs.Records.{placed}
use Rattle.route.specs.Sheets.{steps_from}
use Rattle.route.proofs.RouteBelts.{first_ids}
use Rattle.route.proofs.sheet.put_steps.Given as goal

abbrev pub invariant-loop-k : goal.invariant-loop-k
invariant-loop-k l = l.out ≡ placed l.fn.out 12 (steps_from l.fn.route.count 1 (first_ids l.k l.belt-items))
