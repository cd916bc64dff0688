use Rattle.std.proofs.Common.{◌≡◌, ℕ, List, map, drop}
use Rattle.plan.specs.Plan.{plan_of, named, places_of, belt_id}
use Rattle.plan.specs.Reading.{Accepted}
use Rattle.plan.proofs.NamedPlaces.{numbered}
use Rattle.plan.proofs.named.places_among.Given as goal

-- of each plan whose named belts these are: the places with those that are still to be numbered are the places of all
abbrev pub invariant-loop-k : goal.invariant-loop-k
invariant-loop-k l = (b : List ℕ) → Accepted b → l.belts ≡ map belt_id (named (plan_of b)) → numbered l.places l.k (drop l.k (named (plan_of b))) ≡ places_of (named (plan_of b))
