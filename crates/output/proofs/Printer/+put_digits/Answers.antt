-- A digit alone is gathered, or one behind those of the tenth. Assumes nothing.
use Rattle.output.proofs.Digits.{one_gathered, more_gathered}
use Rattle.output.proofs.Printer.+put_digits.Goals as goal
use Rattle.output.proofs.Printer.+put_digits.Goals.{then-n-ge10, else-n-ge10}

pub returns : goal.returns
returns g t c =
    elim c.if-n-ge10.branch [
      | then-n-ge10 w ↦ more_gathered _ _ _ _ _ _ _ _ _ _ w.if-n-ge10.true w.put_digits.ensures (rw w.self-is at c.put_byte.ensures.gathers) (rw w.self-is at c.put_byte.ensures.failed)
      | else-n-ge10 w ↦ one_gathered _ _ _ _ _ _ _ w.if-n-ge10.false (rw w.self-is at c.put_byte.ensures.gathers) (rw w.self-is at c.put_byte.ensures.failed)
    ]
