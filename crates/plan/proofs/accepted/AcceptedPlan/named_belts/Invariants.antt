use Rattle.std.proofs.Common.{◌≡◌, ◌+◌, map, length}
use lib.Seq.{sets}
use Rattle.plan.specs.Lists.{keep, upto}
use Rattle.plan.specs.Plan.{plan_of, named, belt_id, listed}
use Rattle.plan.specs.Inner.{marked_once}
use Rattle.plan.proofs.accepted.AcceptedPlan.named_belts.Given as goal

-- the belts with those that are still to be stored are the list of all
abbrev pub invariant-loop-e : goal.invariant-loop-e
invariant-loop-e l = record {
  counted : l.count + length (keep (marked_once l.marks) (upto l.e l.n)) ≡ length (named (plan_of l.self.bytes.now));
  listed : sets l.belts l.count (map belt_id (keep (marked_once l.marks) (upto l.e l.n))) ≡ listed (named (plan_of l.self.bytes.now));
}
