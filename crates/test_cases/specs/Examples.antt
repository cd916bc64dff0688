-- Worked out by computation: what the definitions say of plan P and of a few lines. Assumes nothing.
use Rattle.std.specs.Prelude.{◌≡◌, refl, ℕ, List, [], ◌∷◌, drop, replicate, Some, None}
use Rattle.plan.specs.Examples.{plan_p}
use Rattle.test_cases.specs.Records.{put_field, put_record}
use Rattle.test_cases.specs.Lines.{number_in, numbers_in, line_length, behind_length, name_length}
use Rattle.test_cases.specs.Plans.{put_p}

-- written into zeros, P is the plan of the paper as crates/plan has it
p_written : put_p (replicate 120 0) ≡ plan_p
unfolding put_p put_record put_field plan_p
p_written = refl

-- "P+4 1 3 + 40", and the end of the line
abbrev line : List ℕ
line = 80 ∷ 43 ∷ 52 ∷ 32 ∷ 49 ∷ 32 ∷ 51 ∷ 32 ∷ 43 ∷ 32 ∷ 52 ∷ 48 ∷ 10 ∷ []

-- the name is P+4; behind it come 1 and 3, up to the plus; behind the plus of the fixings comes 40
name : name_length line ≡ 3
name = refl

numbers : numbers_in (32 ∷ 49 ∷ 32 ∷ 51 ∷ 32 ∷ 43 ∷ 32 ∷ 52 ∷ 48 ∷ 10 ∷ []) ≡ 1 ∷ 3 ∷ []
numbers = refl

first : number_in (drop 3 line) ≡ record { number = Some 1; rest = drop 5 line }
first = refl

none_before_a_sign : number_in (drop 7 line) ≡ record { number = None; rest = drop 8 line }
none_before_a_sign = refl

behind_the_plus : behind_length 43 (32 ∷ 43 ∷ 32 ∷ 52 ∷ 48 ∷ 10 ∷ []) ≡ 2
behind_the_plus = refl

whole : line_length line ≡ 13
whole = refl
