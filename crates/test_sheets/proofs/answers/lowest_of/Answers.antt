-- `lowest_of`: the belts of a known route can be looked up, and the clauses are those of the plan.
use Rattle.std.proofs.Common.{refl}
use Rattle.plan.specs.Bounds.{max_records}
use Rattle.plan.proofs.Reading.{records_few}
use Rattle.route.proofs.RulesNamed.{route_placeable}
use Rattle.route.proofs.RulesEntries.{ruled_lent}
use Rattle.test_sheets.proofs.answers.lowest_of.Goals as goal

pub decode-requires : goal.decode-requires
decode-requires c = (c.named_places-places.ensures, refl, (records_few c.args.plan.accepted).0)

pub on_route-mask-requires : goal.on_route-mask-requires
on_route-mask-requires c = route_placeable c.args.plan.accepted c.args.r c.requires.0 c.named_places-places.ensures

pub lowest_setting-requires : goal.lowest_setting-requires
lowest_setting-requires c =
    (c.args.plan.bytes.now, ruled_lent c.args.plan.accepted max_records (records_few c.args.plan.accepted).0 c.decode.ensures, c.modes.ensures, c.requires.1)
