use Rattle.std.proofs.Common.{◌<◌, ℕ, List, Option, sym, subst}
use Rattle.search.specs.declared.state.Ending.{Ending}
use Rattle.search.specs.Values.{IsReady}
use Rattle.search.proofs.SearchStep.{Running, Handed, running_first, left, handed, fewer}
use Rattle.search.proofs.run.run.Goals as goal
use Rattle.search.proofs.run.run.Goals.{In-None}

pub loop-stepped-init : goal.loop-stepped-init
loop-stepped-init c = λ b ready. running_first b c.args.query c.new.result c.new.ensures

-- the run goes on from the last step
goes : (c : In-None) {b : List ℕ} → IsReady b c.args.prepared c.args.query → Running b c.args.query c.loop-stepped.stepped.search
goes c {b} ready = subst (Handed b c.args.query c.loop-stepped.stepped) c.in-None.is (c.loop-stepped.invariant b ready)

pub step-stepped-requires : goal.step-stepped-requires
step-stepped-requires c =
    let (b, ready) = c.requires in
    let now = goes (goal.at.step-stepped-requires c).In-None ready in
    record { ready = (b, ready, now.valid); within = now.within }

pub loop-stepped-smaller : goal.loop-stepped-smaller
loop-stepped-smaller c =
    let (b, ready) = c.requires in
    let now = goes (goal.at.loop-stepped-smaller c).In-None ready in
    let (turn, valid, walked) = c.step-stepped.ensures b ready now.valid in
    let q = c.args.query in
    subst (λ (o : Option Ending). left q c.step-stepped.result c.step-stepped.result.ending < left q c.loop-stepped.stepped o) (sym c.in-None.is)
    (fewer b q now c.step-stepped.result turn valid)

pub loop-stepped-preserved : goal.loop-stepped-preserved
loop-stepped-preserved c = λ b ready.
    let now = goes (goal.at.loop-stepped-preserved c).In-None ready in
    let (turn, valid, walked) = c.step-stepped.ensures b ready now.valid in
    handed b c.args.query now c.step-stepped.result turn valid

pub returns-in-Some : goal.returns-in-Some
returns-in-Some c = λ b ready.
    subst (Handed b c.args.query c.loop-stepped.stepped) c.in-Some.is (c.loop-stepped.invariant b ready)
