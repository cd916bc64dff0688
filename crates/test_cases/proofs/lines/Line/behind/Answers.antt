-- `test_cases::lines::Line::behind` meets its contract: the sign is sought before the end of the line. Assumes nothing.
use Rattle.std.proofs.Common.{◌≡◌, ◌∙◌, rules, ap, sym, length, ◌+◌, MatchOption, Option, ℕ, unwrap_or}
use Rattle.std.proofs.lemmas.List.{take_rest}
use Rattle.test_cases.specs.Lines.{behind_length, length_before}
use Rattle.test_cases.proofs.Scan.{before_is, behind_found}
use Rattle.test_cases.proofs.lines.Line.behind.Goals as goal

pub returns : goal.returns
returns c =
    let cs = c.args.self.rest.now in
    let sign = c.args.sign in
    let end = c.unwrap_or-end.result in
    let next = c.map_or-next.result in
    let l : end ≡ length_before 10 cs = c.unwrap_or-end.ensures ∙ ap (λ (o : Option ℕ). unwrap_or o (length cs)) c.find.ensures ∙ sym (before_is 10 cs) in
    let m : MatchOption c.find-2.result (next ≡ end) (λ i. next ≡ i + 1) = search rules in
    rw (behind_found sign end cs c.find-2.result next l c.find-2.ensures m) (take_rest cs (behind_length sign cs))
