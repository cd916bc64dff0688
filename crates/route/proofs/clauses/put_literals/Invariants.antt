-- Storing the entries of the literals still unread gives the array with those of the whole rule.
use Rattle.std.proofs.Common.{length, IfSome}
use Rattle.plan.specs.Reading.{IsLiteral, literal_link, first_literal, literal_chain}
use Rattle.route.proofs.RulesEntries.{LiteralsStored}
use Rattle.route.proofs.clauses.put_literals.Given as goal

abbrev pub invariant-loop-chain : goal.invariant-loop-chain
invariant-loop-chain l = record {
  is : IfSome l.chain (λ x. IsLiteral l.plan.bytes.now x.0);
  stored : LiteralsStored l.plan.bytes.now l.fn.clauses (first_literal l.plan.bytes.now l.fn.rule.0) l.clauses (literal_link l.chain);
}

abbrev pub decreases-loop-chain : goal.decreases-loop-chain
decreases-loop-chain l = length (literal_chain l.plan.bytes.now (literal_link l.chain))
