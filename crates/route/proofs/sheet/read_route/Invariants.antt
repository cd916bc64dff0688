-- Storing the belts from place k on in the array gives the array of the whole route.
use Rattle.std.proofs.Common.{◌≡◌}
use Rattle.std.proofs.lemmas.List.Edits.{sets}
use Rattle.route.specs.Sheets.{belts_on}
use Rattle.route.specs.Values.{packed}
use Rattle.route.proofs.SheetForm.{belts_from}
use Rattle.route.proofs.sheet.read_route.Given as goal

abbrev pub invariant-loop-k : goal.invariant-loop-k
invariant-loop-k l = sets l.belts l.k (belts_from l.h l.k l.count) ≡ (packed (belts_on l.h)).belts
