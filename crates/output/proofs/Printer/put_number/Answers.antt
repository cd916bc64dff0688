-- The words are gathered, and then the digits. Assumes nothing.
use Rattle.output.proofs.Digits.{behind}
use Rattle.output.proofs.Printer.put_number.Goals as goal

pub returns : goal.returns
returns g c = behind _ _ _ _ _ _ _ _ _ _ _ c.put.ensures.gathers c.put.ensures.failed c.put_digits.ensures
