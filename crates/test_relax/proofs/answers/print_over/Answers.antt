-- `print_over`: there is room for the belts of every plan.
use Rattle.std.proofs.Common.{◌≡◌, ◌+◌, ◌-◌, ◌≤◌, List, ℕ, length, replicate, refl, sym, subst, arith}
use Rattle.plan.specs.Bounds.{max_named, max_records}
use Rattle.plan.specs.Records.{records}
use Rattle.plan.specs.Reading.{Accepted, Bytes}
use Rattle.plan.specs.Plan.{plan_of}
use Rattle.plan.specs.Words.{words_in, row_numbers, numbers_end, padded}
use Rattle.plan.specs.Tables.{Sound, Tabled}
use Rattle.plan.proofs.Reading.{records_few}
use Rattle.plan.proofs.WordsTabled.{words_tabled}
use Rattle.route.specs.Values.{named_places, Graph}
use Rattle.test_relax.proofs.answers.print_over.Goals as goal

-- the arrays are those of the plan
graph : {b words numbers places : List ℕ} → Accepted b → Bytes b → places ≡ named_places b
    → words ≡ words_in (max_named + max_records) (plan_of b) → numbers ≡ padded numbers_end (row_numbers (plan_of b))
    → Graph b words numbers places
graph {b} {words} {numbers} ok bytes placed are tell =
    let fits : max_named + records b ≤ max_named + max_records = omega (arith, (records_few ok).0) in
    let (sound, tabled) = words_tabled ok bytes (max_named + max_records) fits numbers (replicate (numbers_end - length (row_numbers (plan_of b))) 0) tell in
    record {
      accepted = ok;
      bytes = bytes;
      sound = subst (λ (ws : List ℕ). Sound ws numbers) (sym are) sound;
      tabled = subst (λ (ws : List ℕ). Tabled (plan_of b) ws numbers) (sym are) tabled;
      placed = placed;
    }

pub fill_words-requires-clause-room : goal.fill_words-requires-clause-room
fill_words-requires-clause-room g c = omega (arith, (records_few c.args.plan.accepted).0)

pub relaxed_route-summary-requires : goal.relaxed_route-summary-requires
relaxed_route-summary-requires g c =
    let filled = c.fill_words.ensures in
    ((c.args.plan.bytes.now, graph c.args.plan.accepted c.requires.0 c.requires.1 filled.words filled.numbers, c.requires.2, c.requires.3), omega arith)
