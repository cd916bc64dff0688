use Rattle.std.proofs.Common.{◌≡◌, ◌≤◌, ◌+◌, ◌*◌, ℕ, suc, ap, ◌∙◌, arith}
use Rattle.plan.specs.Records.{placed}
use Rattle.plan.specs.Plan.{plan_of}
use Rattle.plan.proofs.Reading.{records_more, plan_sizes}
use Rattle.archive.specs.Form.{bytes_of}
use Rattle.archive.proofs.WriteBelts.{junctions_to, junction_put}
use Rattle.archive.proofs.indices.Renumbered.put_junctions.Goals as goal
use Rattle.archive.proofs.indices.Renumbered.put_junctions.Goals.{In-loop-j}

pub put_record-requires : goal.put_record-requires
put_record-requires c = omega (arith, records_more c.args.self.now.plan.accepted, c.loop-j.auto.out, c.junctions-j-end.ensures)

pub loop-j-preserved : goal.loop-j-preserved
loop-j-preserved c =
    let ok = c.args.self.now.plan.accepted in
    let high : c.loop-j.j ≤ (plan_of c.args.self.now.plan.bytes.now).junctions = omega (arith, c.junctions-j-end.ensures) in
    junction_put ok c.args.out.now c.loop-j.out _ c.loop-j.j c.loop-j.auto.j high (omega (arith, records_more ok))
    c.loop-j.invariant c.first_belt.result c.first_belt.ensures.link c.first_belt.ensures.belt _ c.link-first.ensures c.put_record.ensures

pub returns : goal.returns
returns c = absurd (omega (arith, c.junctions-j-end.ensures, plan_sizes c.args.self.now.plan.accepted))

pub returns-2 : goal.returns-2
returns-2 c =
    let ok = c.args.self.now.plan.accepted in
    let b = c.args.self.now.plan.bytes.now in
    let last : c.loop-j.j + 1 ≡ suc (plan_of b).junctions = omega (arith, c.junctions-j-end.ensures) in
    junction_put ok c.args.out.now c.loop-j.out _ c.loop-j.j c.loop-j.auto.j (omega arith) (omega (arith, records_more ok))
    c.loop-j.invariant c.first_belt.result c.first_belt.ensures.link c.first_belt.ensures.belt _ c.link-first.ensures c.put_record.ensures
    ∙ ap (λ (j : ℕ). placed c.args.out.now (12 * 1) (bytes_of (junctions_to b j))) last
