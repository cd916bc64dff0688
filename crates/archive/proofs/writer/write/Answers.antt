use Rattle.std.proofs.Common.{◌∙◌, ◌≤◌, ◌*◌, ◌++◌, length, drop, ap, arith}
use Rattle.plan.specs.Records.{records}
use Rattle.plan.specs.Plan.{plan_of}
use Rattle.plan.specs.declared.accepted.AcceptedPlan.{AcceptedPlan}
use Rattle.plan.proofs.Reading.{records_few}
use Rattle.archive.specs.Form.{archive_of}
use Rattle.archive.proofs.WriteAnswer.{written}
use Rattle.archive.proofs.writer.write.Goals as goal
use Rattle.archive.proofs.writer.write.Goals.{After-new-renumbered}

-- the buffer has room for all records
room : (c : After-new-renumbered) → 12 * records c.new-renumbered.result.plan.bytes.now ≤ length c.args.out.now
room c =
    omega (arith, c.requires, (records_few c.new-renumbered.result.plan.accepted).1, ap (λ (p : AcceptedPlan). length p.bytes.now) c.new-renumbered.ensures)

pub put_header-requires : goal.put_header-requires
put_header-requires c = room (goal.at.put_header-requires c).After-new-renumbered

pub put_junctions-requires : goal.put_junctions-requires
put_junctions-requires c = omega (arith, room (goal.at.put_junctions-requires c).After-new-renumbered, c.put_header.auto.out)

pub put_belts-requires : goal.put_belts-requires
put_belts-requires c = omega (arith, room (goal.at.put_belts-requires c).After-new-renumbered, c.put_header.auto.out, c.put_junctions.auto.out)

pub put_rules-requires : goal.put_rules-requires
put_rules-requires c =
    omega (arith, room (goal.at.put_rules-requires c).After-new-renumbered, c.put_header.auto.out, c.put_junctions.auto.out, c.put_belts.auto.out)

pub returns : goal.returns
returns c =
    written c.new-renumbered.result.plan.accepted c.args.out.now (room (goal.at.returns c).After-new-renumbered) _ _ _ _
    c.put_header.ensures c.put_junctions.ensures c.put_belts.ensures c.put_rules.ensures
    ∙ ap (λ (p : AcceptedPlan). archive_of (plan_of p.bytes.now) ++ drop (length p.bytes.now) c.args.out.now) c.new-renumbered.ensures
