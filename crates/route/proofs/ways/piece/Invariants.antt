-- Of whatever plan and subproblem the arrays are: the ways on from place u on are known, if that from the end of the piece was; and only places of the
-- piece are written.
use Rattle.std.proofs.Common.{ℕ, ◌≤◌, List}
use Rattle.route.specs.Subproblems.{Subproblem}
use Rattle.route.specs.Ways.{Spared, Room, Piece, Ready, Stands}
use Rattle.route.proofs.ways.piece.Given as goal

abbrev pub invariant-loop-u : goal.invariant-loop-u
invariant-loop-u l = record {
  room : Room l.ways;
  kept : (s t : ℕ) → s ≤ l.low → l.nearest ≤ t → Spared s t l.fn.ways → Spared s t l.ways;
  known : (b : List ℕ) (x : Subproblem) (due t : ℕ) → Piece b x l.words l.numbers due l.forbidden t l.low l.nearest
      → Ready b x t l.fn.ways l.nearest → Stands b x t l.u l.nearest l.ways;
}
