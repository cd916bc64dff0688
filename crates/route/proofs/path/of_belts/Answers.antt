use Rattle.std.proofs.Common.{sym, ◌∙◌, ap, arith, List, ℕ, map, take, drop}
use native.Mathlib.Numerals.{add-one}
use lib.ListN.{set, drop_of_length-le}
use lib.Seq.{length-take-le, drop-cons, get_or-take, sets}
use Rattle.plan.specs.Plan.{belt_id}
use Rattle.route.proofs.RouteIndices.{same_route, packed_count, packed_sets}
use Rattle.route.proofs.path.of_belts.Goals as goal

pub loop-k-init : goal.loop-k-init
loop-k-init c =
    let many = length-take-le c.args.count c.args.numbers.now (omega (arith, c.requires.0, c.requires.1)) in
    packed_sets (take c.args.count c.args.numbers.now) (omega (arith, many, c.requires.0))

pub loop-k-preserved : goal.loop-k-preserved
loop-k-preserved c =
    let n = c.args.count in
    let ns = take n c.args.numbers.now in
    let k = c.loop-k.k in
    let many = length-take-le n c.args.numbers.now (omega (arith, c.requires.0, c.requires.1)) in
    let number = get_or-take n c.args.numbers.now k 0 c.loop-k-test.true in
    (λ i. sets (set c.loop-k.belts k (belt_id (sym number i))) (add-one k i) (map belt_id (drop (add-one k i) ns)))
    ∙ sym (ap (λ (l : List ℕ). sets c.loop-k.belts k (map belt_id l)) (drop-cons ns k 0 (omega (arith, c.loop-k-test.true, many))))
    ∙ c.loop-k.invariant

pub returns : goal.returns
returns c =
    let n = c.args.count in
    let ns = take n c.args.numbers.now in
    let many = length-take-le n c.args.numbers.now (omega (arith, c.requires.0, c.requires.1)) in
    let done = drop_of_length-le ns {i = c.loop-k.k} (omega (arith, c.loop-k-test.false, many)) in
    same_route _ _
    (sym (packed_count ns (omega (arith, many, c.requires.0)) ∙ many))
    (sym (ap (λ (l : List ℕ). sets c.loop-k.belts c.loop-k.k (map belt_id l)) done) ∙ c.loop-k.invariant)
