-- A tenth of a number has fewer digits.
use Rattle.output.proofs.Printer.+put_digits.Given as goal

abbrev pub decreases-put_digits : goal.decreases-put_digits
decreases-put_digits g l = l.n
