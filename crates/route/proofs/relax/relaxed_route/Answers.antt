-- `relax::relaxed_route`: the pass, where it finds a way the walk along it, and what the pass left is cleared (WalkAnswer.antt).
use Rattle.std.proofs.Common.{◌≡◌, List, Some, sym, ◌∙◌, ap, arith}
use mathlib.Core.Option.{Option, none}
use Rattle.plan.specs.Plan.{Belt, plan_of}
use Rattle.route.specs.Subproblems.{relaxed}
use Rattle.route.specs.Values.{subproblem_in, at_most, summary_of, summary_as, walked_of}
use Rattle.route.specs.Walks.{walk_as}
use Rattle.route.proofs.RelaxAsked.{none_apart, graph_placing}
use Rattle.route.proofs.WalkAnswer.{ends_within, none_past, pass_lost, pass_found}
use Rattle.route.proofs.relax.relaxed_route.Goals as goal
use Rattle.route.proofs.relax.relaxed_route.Goals.{then-t-s-via-then-t-s, then-t-s-via-else-t-s+then-fixings-ne0, in-Some, in-None}

pub returns-then-t-s : goal.returns-then-t-s
returns-then-t-s c b g e o =
    let a = c.args in
    let lost : relaxed (plan_of b) a.trip.s a.trip.t (subproblem_in b a.fixings) ≡ none = elim c.then-t-s.branch [
      | then-t-s-via-then-t-s w ↦ none_past g a.fixings a.trip.s a.trip.t e w.if-t-s.true
      | then-t-s-via-else-t-s+then-fixings-ne0 w ↦ none_apart g a.fixings a.trip.s a.trip.t o w.if-fixings-ne0.true
    ] in
    let dropped = ap (at_most a.bound) lost in
    (sym (ap (summary_as b) dropped), sym (ap (λ (r : Option (List Belt)). walked_of r a.scratch.now.walked) dropped))

pub ways_to-cost-requires : goal.ways_to-cost-requires
ways_to-cost-requires c =
    let ((b, g, e, o), bound) = c.requires in
    let (from, to, high) = ends_within g c.args.fixings c.args.trip.s c.args.trip.t e in
    (g.sound, c.args.scratch.now.empty, c.if-t-s.false, omega arith, c.in_order-due.ensures.0, bound)

pub walk-requires : goal.walk-requires
walk-requires c =
    let a = c.args in
    let (b, g, e, o) = c.requires.0 in
    let (from, to, high) = ends_within g a.fixings a.trip.s a.trip.t e in
    let is = pass_found g a.fixings a.trip.s a.trip.t e a.bound c.ways_to-cost.new.ways c.if-fixings-ne0.false c.in_order-due.ensures.1
    c.ways_to-cost.ensures.1 c.in-Some.cost c.in-Some.is in
    (omega arith, graph_placing g, (is.route, is.trail))

pub clear-requires : goal.clear-requires
clear-requires c =
    let (b, g, e, o) = c.requires.0 in
    let (from, to, high) = ends_within g c.args.fixings c.args.trip.s c.args.trip.t e in
    (c.if-t-s.false, omega arith, c.ways_to-cost.ensures.0)

pub returns : goal.returns
returns c b g e o =
    let a = c.args in
    let walked = a.scratch.now.walked in
    elim c.match-cost.branch [
      | in-Some w ↦
          let is = pass_found g a.fixings a.trip.s a.trip.t e a.bound c.ways_to-cost.new.ways c.if-fixings-ne0.false c.in_order-due.ensures.1
          c.ways_to-cost.ensures.1 w.in-Some.cost w.in-Some.is in
          let (summary, stored) = w.walk.ensures is.route is.trail in
          let price : walk_as a.places.now w.in-Some.cost is.route ≡ summary_of b is.route = λ i. walk_as (g.placed i) (is.price_is i) is.route in
          let kept : c.match-cost.scratch.1.1.0 ≡ w.walk.new.walked = λ i. (w.scratch-is i).1.1.0 in (
            w.summary-is ∙ ap Some (summary ∙ price) ∙ sym (ap (summary_as b) is.is),
            kept ∙ stored ∙ sym (ap (λ (r : Option (List Belt)). walked_of r walked) is.is),
          )
      | in-None w ↦
          let lost = pass_lost g a.fixings a.trip.s a.trip.t e a.bound c.ways_to-cost.new.ways c.if-fixings-ne0.false c.in_order-due.ensures.1
          c.ways_to-cost.ensures.1 w.in-None.is in
          let kept : c.match-cost.scratch.1.1.0 ≡ walked = λ i. (w.scratch-is i).1.1.0 in
          (w.summary-is ∙ sym (ap (summary_as b) lost), kept ∙ sym (ap (λ (r : Option (List Belt)). walked_of r walked) lost))
    ]
