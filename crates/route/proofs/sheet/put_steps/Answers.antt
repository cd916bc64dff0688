use Rattle.std.proofs.Common.{◌≡◌, arith, length}
use Rattle.std.proofs.lemmas.Grind.{common_steps}
use Rattle.plan.specs.Plan.{belt_id}
use Rattle.route.proofs.SheetWriting.{no_steps, stepped}
use Rattle.route.proofs.sheet.put_steps.Goals as goal

pub loop-k-init : goal.loop-k-init
loop-k-init c = no_steps c.args.out.now (omega arith)

pub loop-k-preserved : goal.loop-k-preserved
loop-k-preserved c =
    let items = c.belts-belt-items.result.now in
    let many : length items ≡ c.args.route.count = grind (arith, common_steps) in
    stepped c.args.out.now c.args.route.count c.loop-k.k items c.loop-k.out c.loop-k.invariant _ _ (belt_id 0)
    c.loop-k-test.true
    (omega arith)
    c.next_of-next.ensures
    c.put_record.ensures
