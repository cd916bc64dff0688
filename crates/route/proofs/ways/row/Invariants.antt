-- Before place i, `least` is the least of what the row starts from and its open words. Of a row that ends before it starts there is no turn.
use Rattle.std.proofs.Common.{◌≡◌, ◌<◌}
use Rattle.route.specs.Ways.{Near, Least}
use Rattle.route.proofs.ways.row.Given as goal

abbrev pub invariant-loop-i : goal.invariant-loop-i
invariant-loop-i l = record { at : l.last < l.first → l.i ≡ l.first; least : Least l.words (Near l.words l.nearest) l.first l.i l.ways l.from l.least }
