use Rattle.std.proofs.Common.{◌≡◌, ℕ, ◌<◌, ◌≤◌, Bool, true, false, List, Option, IfSome, length, rules, arith, refl, sym, ap, subst, ◌∙◌}
use Rattle.plan.specs.Bounds.{max_named}
use Rattle.plan.specs.Lists.{mem, count}
use Rattle.plan.specs.Plan.{place_by, place_of, place_in}
use lib.Dec.{ltb}
use Rattle.plan.proofs.Lists.{mem_in}
use Rattle.plan.proofs.ListRising.{Rises}
use Rattle.plan.proofs.Reading.{belt_low, named_few}
use Rattle.plan.proofs.NamedBelts.{named_rises}
use Rattle.plan.proofs.NamedPlaces.{at_place, place_is}
use Rattle.plan.proofs.named.PlacedPlan.place_of.Goals as goal

pub bounds-self-from : goal.bounds-self-from
bounds-self-from c = omega (arith, c.from.ensures, (belt_low c.args.self.plan.accepted c.args.belt.0 c.requires).2)

pub returns-clause-place : goal.returns-clause-place
returns-clause-place c =
    let e = c.args.belt.0 in
    let looked : c.checked_sub.result ≡ place_in c.args.self.places.now e = search rules in
    looked ∙ ap (λ (l : List ℕ). place_in l e) c.args.self.placed ∙ place_is _ e (belt_low c.args.self.plan.accepted e c.requires).2

-- a place is below the count of a list that rises
below : (ns : List ℕ) (e : ℕ) → Rises ns → length ns ≤ max_named → IfSome (place_of ns e) (λ k. k < max_named)
below ns e rises few = go (mem e ns) refl
  where
    go : (t : Bool) → mem e ns ≡ t → IfSome (place_by t (count (λ (n : ℕ). ltb n e) ns)) (λ k. k < max_named)
    go true q = omega (arith, (at_place e rises (mem_in ns q)).1)
    go false q = tt

pub returns-clause-low : goal.returns-clause-low
returns-clause-low c =
    subst (λ (o : Option ℕ). IfSome o (λ k. k < max_named)) (sym (returns-clause-place c)) (below _ c.args.belt.0 (named_rises _) (named_few c.args.self.plan.accepted))
