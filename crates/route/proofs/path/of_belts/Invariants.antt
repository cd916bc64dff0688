-- Storing the belts from place k on in the array gives the array of the whole route.
use Rattle.std.proofs.Common.{◌≡◌, map, take, drop}
use Rattle.std.proofs.lemmas.List.Edits.{sets}
use Rattle.plan.specs.Plan.{belt_id}
use Rattle.route.specs.Values.{packed}
use Rattle.route.proofs.path.of_belts.Given as goal

abbrev pub invariant-loop-k : goal.invariant-loop-k
invariant-loop-k l = sets l.belts l.k (map belt_id (drop l.k (take l.count l.numbers))) ≡ (packed (take l.count l.numbers)).belts
