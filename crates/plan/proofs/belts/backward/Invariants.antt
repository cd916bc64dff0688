-- The belts from the next one on decide as the whole chain does.
use Rattle.std.proofs.Common.{◌≡◌, length, IfSome}
use Rattle.std.specs.Option.{unwrap_or}
use Rattle.plan.specs.Lists.{any}
use Rattle.plan.specs.Records.{IsKind, chain}
use Rattle.plan.specs.Refusals.{backward}
use Rattle.plan.proofs.LinePassed.{not_above}
use Rattle.plan.proofs.belts.backward.Given as goal

abbrev pub invariant-loop-next : goal.invariant-loop-next
invariant-loop-next l = record {
  belt : IfSome l.next (IsKind l.plan.bytes.now 2);
  decides : any (not_above l.plan.bytes.now l.j) (chain l.plan.bytes.now (unwrap_or l.next 0)) ≡ backward l.plan.bytes.now l.j;
}

abbrev pub decreases-loop-next : goal.decreases-loop-next
decreases-loop-next l = length (chain l.plan.bytes.now (unwrap_or l.next 0))
