-- The claims of specs/Claims.antt hold, all of them. Assumes nothing.
use Rattle.route.specs.Claims.{Claims}
use Rattle.route.proofs.LcspCondition.{order_free}
use Rattle.route.proofs.LcspInstance.{cost_weight}
use Rattle.route.proofs.LcspFeasible.{met_claim, permitted_claim, paths_claim}
use Rattle.route.proofs.RouteOrder.{order_claim, upward_claim}
use Rattle.route.proofs.RouteEnumeration.{routes_claim}
use Rattle.route.proofs.SubproblemFirst.{relaxed_claim}
use Rattle.route.proofs.SubproblemCut.{cut_claim}
use Rattle.route.proofs.SubproblemEnforced.{enforced_claim}
use Rattle.route.proofs.RulesLowest.{lowest_claim}
use Rattle.route.proofs.RulesLock.{unlocked_claim}
use Rattle.route.proofs.RulesNamed.{mask_claim}
use Rattle.route.proofs.SheetReading.{round_trip, one_reading, reading_claim}
use Rattle.route.proofs.SheetLines.{instance_claim, first_refusal}
use Rattle.route.proofs.SheetSolutions.{check_claim, written_claim, writer_claim}

pub claims : Claims
claims = record {
  order_free = order_free;
  is_instance = instance_claim;
  met = met_claim;
  permitted = permitted_claim;
  paths = paths_claim;
  cost = cost_weight;
  lowest = lowest_claim;
  unlocked = unlocked_claim;
  mask = mask_claim;
  order = order_claim;
  upward = upward_claim;
  routes = routes_claim;
  relaxed = relaxed_claim;
  cut = cut_claim;
  enforced = enforced_claim;
  reading = reading_claim;
  one_reading = one_reading;
  round_trip = round_trip;
  first_refusal = first_refusal;
  check = check_claim;
  written = written_claim;
  writer = writer_claim;
}
