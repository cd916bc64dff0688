-- `test_cases::lines::Line::next_line` meets its contract: the line ends at its first newline. Assumes nothing.
use Rattle.std.proofs.Common.{◌≡◌, rules, length, ◌+◌, MatchOption}
use Rattle.std.proofs.lemmas.List.{take_rest}
use Rattle.test_cases.specs.Lines.{line_length}
use Rattle.test_cases.proofs.Scan.{line_found}
use Rattle.test_cases.proofs.lines.Line.next_line.Goals as goal

pub returns : goal.returns
returns c =
    let cs = c.args.self.rest.now in
    let next = c.map_or-next.result in
    let m : MatchOption c.find.result (next ≡ length cs) (λ i. next ≡ i + 1) = search rules in
    rw (line_found cs c.find.result next c.find.ensures m) (take_rest cs (line_length cs))
