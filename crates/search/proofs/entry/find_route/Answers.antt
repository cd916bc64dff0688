-- Each of the two sizes has room for the belts and the records.
use Rattle.std.proofs.Common.{arith}
use Rattle.plan.proofs.Reading.{records_few}
use Rattle.search.proofs.entry.find_route.Goals as goal

pub find_in-requires-2-clause-words_fit : goal.find_in-requires-2-clause-words_fit
find_in-requires-2-clause-words_fit c = omega (arith, records_few c.args.plan.accepted)

pub find_in-requires-2-clause-clauses_fit : goal.find_in-requires-2-clause-clauses_fit
find_in-requires-2-clause-clauses_fit c = omega (arith, records_few c.args.plan.accepted)
