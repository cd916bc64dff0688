-- Placing the records of the literals that are left gives the buffer with those of all literals of the rule.
use Rattle.archive.proofs.WriteRules.{LiteralsPut}
use Rattle.archive.proofs.indices.Renumbered.put_literals.Given as goal

abbrev pub invariant-loop-literal : goal.invariant-loop-literal
invariant-loop-literal l = LiteralsPut l.self.plan.bytes.now l.initial.out l.at l.fn.rule.0 l.out l.literal-iterator l.i
