-- `ways::piece`: one place further back by the steps of WaysStanding.antt.
use Rattle.std.proofs.Common.{◌-◌, ◌<◌, arith}
use Rattle.plan.specs.Bounds.{max_junctions}
use Rattle.route.proofs.WaysStanding.{room_entered, spared_entered, stands_next}
use Rattle.route.proofs.ways.piece.Goals as goal

pub loop-u-preserved : goal.loop-u-preserved
loop-u-preserved c =
    let inv = c.loop-u.invariant in
    let ways = c.loop-u.ways in
    let u = c.loop-u.u - 1 in
    let v = c.least_at.result in
    let rows = c.least_at.ensures in
    let under : u < max_junctions = omega arith in
    rw c.of.ensures (record {
      room = room_entered ways u v (omega (arith, rows.of_named.start, rows.of_others.start)) inv.room;
      kept = λ s t h k is. spared_entered ways u v under (omega arith) (omega arith) (inv.kept s t h k is);
      known = λ b x due t p h.
          stands_next p ways c.loop-u.u u v (omega arith) (omega arith) (omega arith) inv.room.size (inv.known b x due t p h) rows;
    })

pub returns : goal.returns
returns c =
    let inv = c.loop-u.invariant in
    (inv.room, inv.kept, λ b x due t p h i from to. inv.known b x due t p h i (omega arith) to)
