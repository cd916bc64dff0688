-- The claims of specs/Claims.antt hold, all of them. Assumes nothing.
use Rattle.plan.specs.Refusals.{plan_lines, refusal}
use Rattle.plan.specs.Claims.{FirstClaim, LimitsClaim, DistinctClaim, NonzeroClaim, Claims}
use Rattle.plan.proofs.LineFirst.{first_exactly}
use Rattle.plan.proofs.LineLimits.{limits_accepted, accepted_limits}
use Rattle.plan.proofs.LineNumbers.{distinct, nonzero}

-- the number is n exactly when n is that of the first broken line, or 0 where none is broken
pub first_claim : FirstClaim
unfolding refusal
first_claim b n = first_exactly plan_lines b n

-- nothing is refused exactly when the published limits hold
pub limits_claim : LimitsClaim
limits_claim b = (limits_accepted b, accepted_limits b)

-- two refusals with the same number are the same
pub distinct_claim : DistinctClaim
distinct_claim r s e = distinct r s e

-- no refusal has the number 0
pub nonzero_claim : NonzeroClaim
nonzero_claim r e = nonzero r e

pub claims : Claims
claims = record {
  first = first_claim;
  limits = limits_claim;
  distinct = distinct_claim;
  nonzero = nonzero_claim;
}
