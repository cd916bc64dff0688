-- The numbers of a prepared plan (specs/Values.antt): what each part of the array has, and how it is put together.
--
--   rows_size       how long the part of the words is
--   numbers_made    the numbers of the words, with the counts and the number of modes stored behind them, are those of the plan
--   numbers_named   the array has the number of named belts
--   numbers_count   for each named belt it has in how many rules that is
--   numbers_modes   it has the number of modes
--   prepared        what `prepare` leaves in arrays of n words and m clauses is a prepared plan
--   prepared_graph  the arrays of a prepared plan are what the relaxed route goes by
--   prepared_ruled  and its clauses what the rule test goes by
--   prepared_modes  and the array of numbers has its number of modes
--
-- Assumes nothing.
use mathlib.Core.Path.{◌≡◌, refl, sym, ◌∙◌, ap, subst}
use Prim.Native.Nat.{ℕ, ◌+◌, ◌-◌, ◌≤◌, ◌<◌}
use mathlib.Core.List.{List, [], ◌∷◌, ◌++◌, append-nil, append_assoc}
use native.Mathlib.Omega.{arith}
use lib.ListN.{length, get_or, drop, set, replicate, length-append, get_or-append}
use borrow.Rule.Slice.PartMut.{put_mid}
use lib.Seq.{set_at, take_at, drop_at, get_or-append-add}
use Rattle.plan.specs.Bounds.{max_named}
use Rattle.plan.specs.Plan.{plan_of, named}
use Rattle.plan.specs.Reading.{Accepted, Bytes}
use Rattle.plan.specs.Records.{records}
use Rattle.plan.specs.Words.{padded, words_in, row_numbers, row_numbers_end, numbers_end, named_at}
use Rattle.plan.specs.Tables.{Sound, Tabled}
use Rattle.plan.proofs.NamedPlaces.{drop_replicate}
use Rattle.plan.proofs.WordsPlaces.{length_rows, named_at_lem}
use Rattle.plan.proofs.WordsTabled.{length_words_in, words_tabled}
use Rattle.plan.proofs.Reading.{named_few}
use Rattle.route.specs.Values.{named_places, clauses_in, Graph, Ruled}
use Rattle.route.proofs.RulesEntries.{clauses_lent}
use Rattle.search.specs.Branching.{rule_count}
use Rattle.search.specs.Values.{counts_of, numbers_of, counts_from, modes_from, count_at, modes_at, Prepared}
use Rattle.search.proofs.BranchCounts.{counts_at, length_counts}

module _ {b : List ℕ} (ok : Accepted b) where
  abbrev rows : List ℕ
  rows = row_numbers (plan_of b)

  abbrev counts : List ℕ
  counts = counts_of (plan_of b)

  pub rows_size : length rows ≡ row_numbers_end
  rows_size = length_rows ok rows [] (sym (append-nil rows))

  -- the counts, stored over zeros
  counts_stored : put_mid counts_from max_named (padded numbers_end rows) counts ≡ rows ++ counts ++ (0 ∷ [])
  counts_stored =
      let zeros : List ℕ = replicate (numbers_end - length rows) 0 in
      let first = rows_size in
      let one : numbers_end - length rows - max_named ≡ 1 = omega arith in
      let rest : drop max_named (drop counts_from (rows ++ zeros)) ≡ 0 ∷ [] =
      ap (drop max_named) (drop_at rows zeros counts_from rows_size)
      ∙ drop_replicate max_named (numbers_end - length rows) 0
      ∙ ap (λ (k : ℕ). replicate k 0) one in
      (λ i. take_at rows zeros counts_from rows_size i ++ (counts ++ rest i)) ∙ sym (append_assoc rows counts (0 ∷ []))

  pub numbers_made : set (put_mid counts_from max_named (padded numbers_end rows) counts) modes_from (plan_of b).modes ≡ numbers_of (plan_of b)
  unfolding numbers_of
  numbers_made =
      let first = rows_size in
      let some = length_counts ok in
      let size = length-append rows counts in
      let modes = (plan_of b).modes in
      ap (λ (l : List ℕ). set l modes_from modes) counts_stored
      ∙ set_at (rows ++ counts) 0 [] modes modes_from (omega arith)
      ∙ append_assoc rows counts (modes ∷ [])

  pub numbers_named : named_at (numbers_of (plan_of b)) ≡ length (named (plan_of b))
  unfolding numbers_of
  numbers_named = named_at_lem ok (numbers_of (plan_of b)) (counts ++ ((plan_of b).modes ∷ [])) refl

  pub numbers_count : (k : ℕ) → k < length (named (plan_of b)) → count_at (numbers_of (plan_of b)) k ≡ rule_count (plan_of b) (get_or (named (plan_of b)) k 0)
  unfolding numbers_of
  numbers_count k l =
      let rest : List ℕ = counts ++ ((plan_of b).modes ∷ []) in
      let at : counts_from + k ≡ length rows + k = omega (arith, rows_size) in
      ap (λ (j : ℕ). get_or (rows ++ rest) j 0) at
      ∙ get_or-append-add rows rest k 0
      ∙ get_or-append counts ((plan_of b).modes ∷ []) 0 k (omega (arith, length_counts ok, named_few ok))
      ∙ counts_at b k l

  pub numbers_modes : modes_at (numbers_of (plan_of b)) ≡ (plan_of b).modes
  unfolding numbers_of
  numbers_modes =
      let rest : List ℕ = counts ++ ((plan_of b).modes ∷ []) in
      let at : modes_from ≡ length rows + (length counts + 0) = omega (arith, rows_size, length_counts ok) in
      ap (λ (j : ℕ). get_or (rows ++ rest) j 0) at
      ∙ get_or-append-add rows rest (length counts + 0) 0
      ∙ get_or-append-add counts ((plan_of b).modes ∷ []) 0 0

-- ---- a prepared plan

pub prepared : {b : List ℕ} (ok : Accepted b) → Bytes b → (n m : ℕ) → max_named + records b ≤ n → records b ≤ m → {words numbers places clauses : List ℕ}
    → words ≡ words_in n (plan_of b) → numbers ≡ numbers_of (plan_of b) → places ≡ named_places b → clauses ≡ clauses_in m b → Prepared b words numbers places clauses
prepared {b} ok bytes n m fits rules {words} {numbers} {places} {clauses} w ns ps cs =
    let size : length words ≡ n = ap length w ∙ length_words_in ok n fits in
    record {
      accepted = ok;
      bytes = bytes;
      worded = w ∙ sym (ap (λ (k : ℕ). words_in k (plan_of b)) size);
      words_fit = omega (arith, fits, size);
      numbered = ns;
      placed = ps;
      ruled = clauses_lent m rules cs;
    }

module _ {b words numbers places clauses : List ℕ} (h : Prepared b words numbers places clauses) where
  pub prepared_graph : Graph b words numbers places
  unfolding numbers_of
  prepared_graph =
      let (sound, tabled) =
      words_tabled h.accepted h.bytes (length words) h.words_fit numbers (counts_of (plan_of b) ++ ((plan_of b).modes ∷ [])) h.numbered in
      record {
        accepted = h.accepted;
        bytes = h.bytes;
        sound = subst (λ (ws : List ℕ). Sound ws numbers) (sym h.worded) sound;
        tabled = subst (λ (ws : List ℕ). Tabled (plan_of b) ws numbers) (sym h.worded) tabled;
        placed = h.placed;
      }

  pub prepared_ruled : Ruled b clauses
  prepared_ruled = record { accepted = h.accepted; clauses = h.ruled }

  pub prepared_modes : modes_at numbers ≡ (plan_of b).modes
  prepared_modes = ap modes_at h.numbered ∙ numbers_modes h.accepted
