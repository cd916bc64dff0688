-- The run is the written search's, and each ending has its answer.
use Rattle.std.proofs.Common.{ℕ, List, Some, None, Ok, refl, ◌∙◌, ap, subst}
use Rattle.search.specs.declared.state.Ending.{Ending}
use Rattle.search.specs.declared.state.Ending.TheVariants.{Nothing, Spent}
use Rattle.search.specs.Answers.{reply, reply_of, Told}
use Rattle.search.specs.Values.{IsReady}
use Rattle.search.specs.Inner.{IsListed}
use Rattle.search.proofs.PrepareNumbers.{prepared_ruled, prepared_modes}
use Rattle.search.proofs.AnswerReply.{found_held, turn_ended, turn_found}
use Rattle.search.proofs.entry.find.Goals as goal
use Rattle.search.proofs.entry.find.Goals.{Start}

-- what the sheet of the best route is made from
listed : (c : Start) {b : List ℕ} → IsReady b c.args.prepared c.args.query → IsListed b c.args.prepared
listed c ready =
    let all = ready.prepared in
    record { ruled = prepared_ruled all; modes = prepared_modes all; placed = all.placed; bytes = all.bytes }

pub write_best-requires : goal.write_best-requires
write_best-requires c =
    let start = (goal.at.write_best-requires c).Start in
    let (b, ready) = c.requires.ready in
    let (turn, valid) = c.run-stepped.ensures b ready in
    record {
      listed = (b, listed start ready, valid, ready.lock);
      held = found_held b c.args.query c.run-stepped.result turn (c.in-Some.is ∙ ap (λ (x : Ending). Some x) c.in-Found.is);
      room = c.requires.room;
    }

pub returns-in-Found : goal.returns-in-Found
returns-in-Found c = λ b ready.
    let start = (goal.at.returns-in-Found c).Start in
    let out = c.args.out.now in
    let (turn, valid) = c.run-stepped.ensures b ready in
    subst (Told (reply_of (Ok c.write_best.result)) out c.write_best.new.out)
    (turn_found b c.args.query c.run-stepped.result turn out (c.in-Some.is ∙ ap (λ (x : Ending). Some x) c.in-Found.is))
    (c.write_best.ensures b (listed start ready) valid ready.lock)

pub returns-in-Nothing : goal.returns-in-Nothing
returns-in-Nothing c = λ b ready.
    let out = c.args.out.now in
    let v = c.run-stepped.result in
    subst (Told (reply 100 v.search.opened 0) out out)
    (turn_ended b c.args.query v (c.run-stepped.ensures b ready).0 out (Some Nothing) (c.in-Some.is ∙ ap (λ (x : Ending). Some x) c.in-Nothing.is))
    (refl, refl)

pub returns-in-Spent : goal.returns-in-Spent
returns-in-Spent c = λ b ready.
    let out = c.args.out.now in
    let v = c.run-stepped.result in
    subst (Told (reply 101 v.search.opened 0) out out)
    (turn_ended b c.args.query v (c.run-stepped.ensures b ready).0 out (Some Spent) (c.in-Some.is ∙ ap (λ (x : Ending). Some x) c.in-Spent.is))
    (refl, refl)

pub returns-in_default : goal.returns-in_default
returns-in_default c = λ b ready.
    let out = c.args.out.now in
    let v = c.run-stepped.result in
    subst (Told (reply 102 v.search.opened 0) out out) (turn_ended b c.args.query v (c.run-stepped.ensures b ready).0 out None c.in_default.is) (refl, refl)
