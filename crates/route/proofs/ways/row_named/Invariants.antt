-- Before place i, `least` is the least of the open words. Of a row that ends before it starts there is no turn.
use Rattle.std.proofs.Common.{◌≡◌, ◌<◌}
use Rattle.plan.specs.Words.{far}
use Rattle.route.specs.Ways.{OpenArc, Least}
use Rattle.route.proofs.ways.row_named.Given as goal

abbrev pub invariant-loop-i : goal.invariant-loop-i
invariant-loop-i l = record {
  at : l.last < l.first → l.i ≡ l.first;
  least : Least l.words (OpenArc l.words l.numbers l.nearest l.forbidden) l.first l.i l.ways far l.least;
}
