-- `print_setting`: belts that are the plan's make the route known, and a lock that is not wrong is one of the plan's modes.
use Rattle.std.proofs.Common.{◌∙◌, ◌≡◌, true, List, ℕ, sym}
use Rattle.plan.specs.Lists.{all, mem}
use Rattle.plan.specs.Plan.{plan_of, indices_of}
use Rattle.plan.specs.Reading.{Accepted}
use Rattle.plan.proofs.Lists.{all_in}
use Rattle.plan.proofs.Reading.{index_belt}
use Rattle.route.specs.Values.{Known, ids_of}
use Rattle.route.specs.declared.belts.Route.{Route}
use Rattle.test_sheets.proofs.answers.print_setting.Goals as goal

-- a route whose belts are the plan's is known
known : {b : List ℕ} {r : Route} → Accepted b → all (λ (e : ℕ). mem e (indices_of (plan_of b).belts)) (ids_of r) ≡ true → Known b r
known {b} {r} ok ours = record {
  belts = λ e m. index_belt ok e (all_in (λ (e : ℕ). mem e (indices_of (plan_of b).belts)) (ids_of r) ours m);
}

pub lowest_of-requires : goal.lowest_of-requires
lowest_of-requires g c =
    (known c.in-Ok.plan.accepted (sym c.are_belts.ensures ∙ c.if-not-are_belts.false), sym c.wrong_lock.ensures ∙ c.if-wrong_lock.false)

pub cost-cost-requires : goal.cost-cost-requires
cost-cost-requires g c = known c.in-Ok.plan.accepted (sym c.are_belts.ensures ∙ c.if-not-are_belts.false)
