-- What is picked by places is picked by belts.
use Rattle.std.proofs.Common.{◌≡◌, ◌≤◌, ℕ, Bool, List, Some, length, ◌∙◌, ap, arith}
use mathlib.Core.List.{head?}
use Rattle.plan.specs.Bounds.{max_named}
use Rattle.plan.specs.Plan.{plan_of, named}
use Rattle.plan.specs.Reading.{Accepted}
use Rattle.plan.specs.Words.{named_at}
use Rattle.plan.proofs.Reading.{named_few}
use Rattle.route.specs.Permission.{find, otherwise}
use Rattle.route.specs.Values.{in_mask, has_belt}
use Rattle.search.specs.Branching.{highest}
use Rattle.search.specs.Values.{numbers_of, count_at}
use Rattle.search.specs.Inner.{unfixed_places, at_place}
use Rattle.search.proofs.PrepareNumbers.{numbers_named}
use Rattle.search.proofs.BranchPicks.{picks_lowest, picks_busiest, picks_on, mask_at}
use Rattle.search.proofs.pick.picked.Goals as goal
use Rattle.search.proofs.pick.picked.Goals.{Start}

-- a plan has as many named belts as its numbers say
size : {b numbers : List ℕ} → Accepted b → numbers ≡ numbers_of (plan_of b) → named_at numbers ≡ length (named (plan_of b))
size ok e = ap named_at e ∙ numbers_named ok

few : (c : Start) → named_at c.args.prepared.numbers.now ≤ max_named
few c = omega (arith, size c.requires.1 c.requires.2, named_few c.requires.1)

pub lowest-requires : goal.lowest-requires
lowest-requires c = omega (arith, few (goal.at.lowest-requires c).Start, c.named-count.ensures)

pub busiest-requires : goal.busiest-requires
busiest-requires c = few (goal.at.busiest-requires c).Start

pub lowest_on-requires : goal.lowest_on-requires
lowest_on-requires c = omega (arith, few (goal.at.lowest_on-requires c).Start, c.named-count.ensures)

pub returns-in-0 : goal.returns-in-0
returns-in-0 c = λ b ok numbers.
    let a = c.args in
    c.lowest.ensures
    ∙ ap (λ (n : ℕ). at_place (head? (unfixed_places a.fixings n))) (c.named-count.ensures ∙ size ok numbers)
    ∙ picks_lowest b a.fixings (has_belt b a.mask) a.pick c.in-0.is

pub returns-in-1 : goal.returns-in-1
returns-in-1 c = λ b ok numbers.
    let a = c.args in
    c.busiest.ensures
    ∙ (λ i. at_place (highest (count_at (numbers i)) (unfixed_places a.fixings (named_at (numbers i)))))
    ∙ ap (λ (n : ℕ). at_place (highest (count_at (numbers_of (plan_of b))) (unfixed_places a.fixings n))) (numbers_named ok)
    ∙ picks_busiest b a.fixings (has_belt b a.mask) ok a.pick c.in-1.is

pub returns-in_default : goal.returns-in_default
returns-in_default c = λ b ok numbers.
    let a = c.args in
    let has : ℕ → Bool = λ k. in_mask a.mask (Some k) in
    c.lowest_on.ensures
    ∙ ap (λ (n : ℕ). at_place (otherwise (find has (unfixed_places a.fixings n)) (head? (unfixed_places a.fixings n)))) (c.named-count.ensures ∙ size ok numbers)
    ∙ picks_on b a.fixings (has_belt b a.mask) a.pick (omega arith) (omega arith) has (mask_at b a.fixings a.mask)
