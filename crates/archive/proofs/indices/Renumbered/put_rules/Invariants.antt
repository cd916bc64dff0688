-- Placing the records of the rules that are left gives the buffer with those of all rules.
use Rattle.archive.proofs.WriteRules.{RulesPut}
use Rattle.archive.proofs.indices.Renumbered.put_rules.Given as goal

abbrev pub invariant-loop-rule : goal.invariant-loop-rule
invariant-loop-rule l = RulesPut l.self.plan.bytes.now l.initial.out l.out l.rule-iterator l.at
