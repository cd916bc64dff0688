-- Archive forms worked out by computation. Assumes nothing.
--
--   plan_d, archive_d    a plan whose rule stands before its belts, and its archive form
--   plan_r              plan P of the paper, shuffled
use Rattle.std.specs.Prelude.{◌≡◌, refl, ℕ, List, ◌++◌}
use Rattle.plan.specs.Records.{record_of}
use Rattle.plan.specs.Plan.{plan_of}
use Rattle.plan.specs.Examples.{plan_p}
use Rattle.archive.specs.Form.{records_of}
use Rattle.archive.specs.Answers.{archive_in}

unfoldable pub plan_d : List ℕ
plan_d =
    record_of 7 2 0 3 7 0
    ++ record_of 1 5 0 0 0 0
    ++ record_of 1 0 0 0 0 0
    ++ record_of 3 0 4 0 0 0
    ++ record_of 4 0 1 0 6 0
    ++ record_of 2 6 2 3 0 0
    ++ record_of 2 0 2 1 0 0

unfoldable pub archive_d : List ℕ
archive_d =
    record_of 7 2 0 5 7 0
    ++ record_of 1 3 0 0 0 0
    ++ record_of 1 0 0 0 0 0
    ++ record_of 2 4 2 3 0 0
    ++ record_of 2 0 2 1 0 0
    ++ record_of 3 0 6 0 0 0
    ++ record_of 4 0 1 0 4 0

d_archived : archive_in plan_d ≡ archive_d
unfolding plan_d archive_d plan_of records_of
d_archived = refl

-- twice
d_again : archive_in archive_d ≡ archive_d
unfolding archive_d plan_of records_of
d_again = refl

unfoldable pub plan_r : List ℕ
plan_r =
    record_of 7 3 1 4 10 0
    ++ record_of 1 7 0 0 0 0
    ++ record_of 1 9 0 0 0 0
    ++ record_of 1 0 0 0 0 0
    ++ record_of 3 0 5 0 0 0
    ++ record_of 4 6 0 0 7 0
    ++ record_of 4 0 0 0 9 0
    ++ record_of 2 8 2 3 0 0
    ++ record_of 2 0 3 9 0 0
    ++ record_of 2 0 3 4 0 0

r_archived : archive_in plan_r ≡ plan_p
unfolding plan_r plan_p plan_of records_of
r_archived = refl

p_archived : archive_in plan_p ≡ plan_p
unfolding plan_p plan_of records_of
p_archived = refl
