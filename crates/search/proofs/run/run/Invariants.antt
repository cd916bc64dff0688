-- Running on from what the last step handed back gives the result of the whole run.
use Rattle.std.proofs.Common.{List, ℕ}
use Rattle.search.specs.Values.{IsReady}
use Rattle.search.proofs.SearchStep.{Handed, left}
use Rattle.search.proofs.run.run.Given as goal

abbrev pub invariant-loop-stepped : goal.invariant-loop-stepped
invariant-loop-stepped l = (b : List ℕ) → IsReady b l.prepared l.query → Handed b l.query l.stepped l.stepped.ending

abbrev pub decreases-loop-stepped : goal.decreases-loop-stepped
decreases-loop-stepped l = left l.query l.stepped l.stepped.ending
