-- Past the tests of the belts they are known, and so is what the later tests need.
use Rattle.std.proofs.Common.{sym}
use Rattle.route.specs.Values.{Known}
use Rattle.route.proofs.RouteIndices.{known_belts, ends_junctions}
use Rattle.plan.specs.Plan.{plan_of}
use Rattle.route.proofs.check.check_content.Goals as goal
use Rattle.route.proofs.check.check_content.Goals.{Else-not-are_belts}

known : (c : Else-not-are_belts) → Known c.args.plan.bytes.now c.args.sheet.route
known c = record { belts = known_belts c.args.plan.accepted _ (sym c.if-not-are_belts.ensures) }

pub connects-requires : goal.connects-requires
connects-requires c =
    let ends = ends_junctions (plan_of c.args.plan.bytes.now) c.args.trip.s c.args.trip.t c.requires.0 in
    (known (goal.at.connects-requires c).Else-not-are_belts, ends.0, ends.1)

pub cost-requires : goal.cost-requires
cost-requires c = known (goal.at.cost-requires c).Else-not-are_belts

pub met_by-requires : goal.met_by-requires
met_by-requires c = known (goal.at.met_by-requires c).Else-not-are_belts
