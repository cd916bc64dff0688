-- The loop's invariant: adding the belts of the route that are left to the mask so far gives the mask of the route.
use Rattle.std.proofs.Common.{◌≡◌, drop}
use Rattle.route.specs.Values.{ids_of, gathered_in}
use Rattle.route.proofs.masks.on_route.Given as goal

abbrev pub invariant-loop-belt : goal.invariant-loop-belt
invariant-loop-belt l = gathered_in l.places l.mask (drop l.belt-index (ids_of l.fn.route)) ≡ gathered_in l.places 0 (ids_of l.fn.route)
