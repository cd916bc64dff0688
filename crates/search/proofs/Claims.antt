-- The claims of specs/Claims.antt hold, all of them. Assumes nothing.
use Rattle.search.specs.Claims.{Claims}
use Rattle.search.proofs.RunSteps.{within_claim}
use Rattle.search.proofs.RunCoverage.{coverage_claim, bound_claim, best_claim, any_choice_claim}
use Rattle.search.proofs.RunDepth.{depth_claim}
use Rattle.search.proofs.SearchUnique.{valid_claim}
use Rattle.search.proofs.AnswerRefusal.{refused_claim, limits_claim, unchanged_claim}
use Rattle.search.proofs.AnswerOutcome.{ends_claim, right_claim, solves_claim, accepted_claim}
use Rattle.search.proofs.RunSound.{fixes_claim, sound_claim}

pub claims : Claims
claims = record {
  refused = refused_claim;
  limits = limits_claim;
  ends = ends_claim;
  unchanged = unchanged_claim;
  accepted = accepted_claim;
  right = right_claim;
  solves = solves_claim;
  any_choice = any_choice_claim;
  coverage = coverage_claim;
  bound = bound_claim;
  depth = depth_claim;
  fixes = fixes_claim;
  best = best_claim;
  within = within_claim;
  sound = sound_claim;
  valid = valid_claim;
}
