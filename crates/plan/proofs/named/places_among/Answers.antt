use Rattle.std.proofs.Common.{◌≡◌, ℕ, ◌<◌, List, map, length, get_or, drop, set, sym, ap, ◌∙◌, add-one, arith}
use lib.ListN.{length-map, get_or-map, drop_of_length-le}
use lib.Seq.{drop-cons}
use Rattle.plan.specs.Bounds.{max_records}
use Rattle.plan.specs.Plan.{plan_of, named, belt_id}
use Rattle.plan.specs.declared.read.BeltId.{BeltId}
use Rattle.plan.specs.Reading.{Accepted}
use Rattle.plan.proofs.Lists.{at_member}
use Rattle.plan.proofs.LineAccepted.{accepted_passed}
use Rattle.plan.proofs.Reading.{belt_low}
use Rattle.plan.proofs.NamedBelts.{few_named, named_rises, named_in}
use Rattle.plan.proofs.NamedPlaces.{numbered, numbered_places}
use Rattle.plan.proofs.named.places_among.Goals as goal

-- the belt at a place of the list
belt_is : (ns : List ℕ) {ids : List BeltId} (k : ℕ) {e : ℕ} → ids ≡ map belt_id ns → e ≡ (get_or ids k (belt_id 0)).0 → e ≡ get_or ns k 0
belt_is ns k same is = is ∙ ap (λ (l : List BeltId). (get_or l k (belt_id 0)).0) same ∙ ap (λ (b : BeltId). b.0) (get_or-map belt_id ns k 0)

-- the belt of a turn is named, and there are at most 48
module _ {ids : List BeltId} {k : ℕ} {b : List ℕ} (accepted : Accepted b) (same : ids ≡ map belt_id (named (plan_of b))) (turn : k < length ids) where
  here : k < length (named (plan_of b))
  here = omega (arith, turn, ap length same, length-map (named (plan_of b)) belt_id)

  few : k < 48
  few = omega (arith, here, few_named b (accepted_passed b accepted.unrefused).1)

  low : {e : ℕ} → e ≡ (get_or ids k (belt_id 0)).0 → e < max_records
  low is =
      let ns = named (plan_of b) in
      omega (arith, belt_is ns k same is, (belt_low accepted (get_or ns k 0) (named_in b (get_or ns k 0) (at_member ns k here))).2)

pub loop-k-init : goal.loop-k-init
loop-k-init c b accepted same = ap (λ (l : List ℕ). numbered l 0 (named (plan_of b))) c.requires.fresh ∙ numbered_places (named (plan_of b)) (named_rises b)

pub overflow_cast-places : goal.overflow_cast-places
overflow_cast-places c =
    let (b, accepted, same) = c.requires.list in
    omega (arith, few accepted same c.loop-k-test.true)

pub bounds-places-from : goal.bounds-places-from
bounds-places-from c =
    let (b, accepted, same) = c.requires.list in
    low accepted same c.loop-k-test.true c.from.ensures

pub loop-k-preserved : goal.loop-k-preserved
loop-k-preserved c b accepted same =
    let ns = named (plan_of b) in
    let k = c.loop-k.k in
    let is = belt_is ns k same c.from.ensures in
    (λ i. numbered (set c.loop-k.places (is i) (add-one k i)) (add-one k i) (drop (add-one k i) ns))
    ∙ sym (ap (numbered c.loop-k.places k) (drop-cons ns k 0 (here accepted same c.loop-k-test.true)))
    ∙ c.loop-k.invariant b accepted same

pub returns : goal.returns
returns c b accepted same =
    let ns = named (plan_of b) in
    let done = drop_of_length-le ns {i = c.loop-k.k} (omega (arith, c.loop-k-test.false, ap length same, length-map ns belt_id)) in
    sym (ap (numbered c.loop-k.places c.loop-k.k) done) ∙ c.loop-k.invariant b accepted same
