use Rattle.std.proofs.Common.{◌∙◌, arith}
use lib.ListN.{set}
use borrow.Rule.Slice.PartMut.{put_mid}
use Rattle.plan.specs.Bounds.{max_named}
use Rattle.plan.specs.Plan.{plan_of}
use Rattle.plan.proofs.Reading.{plan_sizes}
use Rattle.search.specs.Values.{counts_from, modes_from}
use Rattle.search.proofs.PrepareNumbers.{numbers_made}
use Rattle.search.proofs.prepare.prepare.Goals as goal

pub overflow_cast-numbers : goal.overflow_cast-numbers
overflow_cast-numbers c = record { fits = omega (arith, c.modes.ensures, (plan_sizes c.args.plan.accepted).2) }

-- the counts and the number of modes are stored behind what the words have filled
pub returns-clause-numbers : goal.returns-clause-numbers
returns-clause-numbers c =
    let modes = (plan_of c.args.plan.bytes.now).modes in
    let counts = c.copy_from_slice.ensures.after ∙ c.rule_counts-counts.ensures in
    (λ i. set (put_mid counts_from max_named (c.fill_words.ensures.numbers i) (counts i)) modes_from (c.modes.ensures i)) ∙ numbers_made c.args.plan.accepted
