-- The measure of `route::modes::settle` and `route::modes::try_both`, which call each other: the mode.
use Rattle.std.proofs.Common.{◌+◌, ◌*◌}
use Rattle.route.proofs.modes.+settle_try_both.Given as goal

abbrev pub decreases-settle : goal.decreases-settle
decreases-settle l = 2 * l.mode.0 + 1

abbrev pub decreases-try_both : goal.decreases-try_both
decreases-try_both l = 2 * l.mode.0
