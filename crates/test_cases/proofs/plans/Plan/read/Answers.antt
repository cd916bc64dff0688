-- `test_cases::plans::Plan::read` meets its contract: the plan is put together of what each call gives. Assumes nothing.
use Rattle.test_cases.proofs.Bases.{blank_is, plan_is}
use Rattle.test_cases.proofs.plans.Plan.read.Goals as goal

pub returns : goal.returns
returns c =
    let size = c.number_or_zero-size.ensures in
    plan_is c.args.line.rest.now blank_is c.of.ensures c.put_base.ensures size.number size.rest c.change_records.ensures
