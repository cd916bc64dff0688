-- `put_lines`: the arrays have room for every plan, and what is prepared is the plan. Assumes nothing.
use mathlib.Core.Path.{refl}
use Prim.Native.Nat.{◌+◌, ◌≤◌}
use native.Mathlib.Omega.{arith}
use Rattle.plan.specs.Bounds.{max_named, max_records}
use Rattle.plan.specs.Records.{records}
use Rattle.plan.proofs.Reading.{records_few}
use Rattle.search.proofs.PrepareNumbers.{prepared}
use Rattle.listing.proofs.put_lines.Goals as goal

pub prepare-requires : goal.prepare-requires
prepare-requires g c =
    let few = (records_few c.args.plan.accepted).0 in record {
      words = refl;
      words_fit = omega arith;
      numbers = refl;
      places = refl;
      clauses = refl;
      clauses_fit = few;
    }

pub put_all-requires : goal.put_all-requires
put_all-requires g c =
    let ok = c.args.plan.accepted in
    let made = c.prepare.ensures in
    let rules = (records_few ok).0 in
    let fits : max_named + records c.args.plan.bytes.now ≤ max_named + max_records = omega (arith, rules) in
    (c.args.plan.bytes.now, prepared ok c.requires (max_named + max_records) max_records fits rules made.words made.numbers made.places made.clauses, c.junctions.ensures)
