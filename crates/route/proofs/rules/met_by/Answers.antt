-- The mask of the route meets the rules that the route meets.
use Rattle.std.proofs.Common.{◌∙◌, ap, refl, ℕ, List}
use Rattle.plan.specs.Bounds.{max_records}
use Rattle.plan.specs.Plan.{plan_of}
use Rattle.plan.proofs.Reading.{records_few}
use Rattle.route.specs.Permission.{all_met}
use Rattle.route.specs.Values.{ids_of, gathered_in, has_belt}
use Rattle.route.proofs.RulesEntries.{ruled_lent}
use Rattle.route.proofs.RulesNamed.{route_placeable, met_mask}
use Rattle.route.proofs.rules.met_by.Goals as goal

pub decode-requires : goal.decode-requires
decode-requires c = (c.named_places-places.ensures, refl, (records_few c.args.plan.accepted).0)

pub on_route-requires : goal.on_route-requires
on_route-requires c = route_placeable c.args.plan.accepted c.args.route c.requires c.named_places-places.ensures

pub all_met-requires : goal.all_met-requires
all_met-requires c =
    let ok = c.args.plan.accepted in
    (c.args.plan.bytes.now, ruled_lent ok max_records (records_few ok).0 c.decode.ensures)

pub returns : goal.returns
returns c =
    let p = c.args.plan.bytes.now in
    let ok = c.args.plan.accepted in
    let σ = c.args.setting in
    let masked = c.on_route.ensures ∙ ap (λ (ps : List ℕ). gathered_in ps 0 (ids_of c.args.route)) c.named_places-places.ensures in
    c.all_met.ensures p (ruled_lent ok max_records (records_few ok).0 c.decode.ensures)
    ∙ ap (λ (m : ℕ). all_met (plan_of p).rules (has_belt p m) σ) masked
    ∙ met_mask ok c.args.route c.requires σ
