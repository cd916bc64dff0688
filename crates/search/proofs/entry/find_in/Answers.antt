-- The arrays have room for the belts and the records.
use Rattle.std.proofs.Common.{ℕ, ◌∙◌, ap}
use lib.ListN.{length-replicate}
use Rattle.plan.specs.Plan.{plan_of}
use Rattle.plan.specs.Words.{words_in}
use Rattle.route.specs.Values.{clauses_in}
use Rattle.search.specs.Values.{Ready}
use Rattle.search.proofs.PrepareNumbers.{prepared}
use Rattle.search.proofs.entry.find_in.Given.{Over}
use Rattle.search.proofs.entry.find_in.Goals as goal
use Rattle.search.proofs.entry.find_in.Goals.{After-prepare}

-- what is prepared is the plan
ready : (g : Over) (c : After-prepare g) → let q = c.prepare.new in
    Ready c.args.plan.bytes.now q.words q.numbers q.places q.clauses c.args.query
ready g c =
    let b = c.args.plan.bytes.now in
    let made = c.prepare.ensures in
    let words = made.words ∙ ap (λ (n : ℕ). words_in n (plan_of b)) (length-replicate g.row.W 0) in
    let clauses = made.clauses ∙ ap (λ (n : ℕ). clauses_in n b) (length-replicate g.row.C 0) in record {
      prepared = prepared c.args.plan.accepted c.requires.bytes g.row.W g.row.C c.requires.words_fit c.requires.clauses_fit words made.numbers made.places clauses;
      junctions = c.requires.ends;
      lock = c.requires.lock;
    }

pub find-requires-clause-ready : goal.find-requires-clause-ready
find-requires-clause-ready g c = (c.args.plan.bytes.now, ready g (goal.at.find-requires-clause-ready g c).After-prepare)

pub returns : goal.returns
returns g c = c.find.ensures c.args.plan.bytes.now (ready g (goal.at.returns g c).After-prepare)
