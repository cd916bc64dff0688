-- Storing the entries of the rules still unread gives the array of all entries.
use Rattle.std.proofs.Common.{length, IfSome}
use Rattle.plan.specs.Reading.{IsRule, rule_link, rule_chain}
use Rattle.route.proofs.RulesEntries.{RulesStored}
use Rattle.route.proofs.clauses.decode.Given as goal

abbrev pub invariant-loop-chain : goal.invariant-loop-chain
invariant-loop-chain l = record {
  is : IfSome l.chain (λ x. IsRule l.plan.bytes.now x.0);
  stored : RulesStored l.plan.bytes.now (length l.fn.clauses) l.clauses (rule_link l.chain);
}

abbrev pub decreases-loop-chain : goal.decreases-loop-chain
decreases-loop-chain l = length (rule_chain l.plan.bytes.now (rule_link l.chain))
