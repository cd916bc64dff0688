-- What a pass over the words of a plan (Words.antt) goes by: not what stands where, but which belts have a word. So neither that rows are sorted nor that
-- a belt with a lesser twin is left out matters to it. That the arrays of an accepted plan are so is a law (proofs/WordsTabled.antt), so that nobody has to
-- believe these of a prepared plan. Places are counted from 0: place u is for junction u + 1.
--
--   Below ws             every word is below far, so that far and a word can be added
--   Rising ws first last the heads of the words from place first on and before place last rise
--   Sound words numbers  what the code needs of the arrays, whatever they stand for
--   Word p words i u e   place i has the word of the nameless belt e, which leaves place u
--   Covered words numbers u i e
--                        place i of the row of place u has a word with the head of belt e that is not greater than its own
--   Arc p words numbers u k e
--                        place k of the named belts of place u has the word of belt e
--   Tabled p words numbers
--                        each word of a row is that of a nameless belt of its junction, and each nameless belt is covered by its row; named belts stand
--                        apart, each once, with the place that it leaves and its place among the named belts, junction by junction (marks_rise)
--
-- Assumes nothing.
use Rattle.std.specs.Prelude.{◌≡◌, ℕ, suc, ◌+◌, ◌-◌, ◌≤◌, ◌<◌, true, false, length, get_or}
use mathlib.Core.List.{List, Memᴰ}
use Rattle.std.specs.Prelude.{Some}
use Rattle.plan.specs.Bounds.{max_junctions, max_named}
use Rattle.plan.specs.Plan.{Belt, Plan, named, place_of}
use Rattle.plan.specs.Words.{word_of, word_head, far, is_named, row_numbers_end, start_at, mark_at, tail_at, tail_place_at, named_at}

abbrev pub Below : List ℕ → Type 0
Below ws = (i : ℕ) → get_or ws i 0 < far

abbrev pub Rising : List ℕ → ℕ → ℕ → Type 0
Rising ws first last = (i j : ℕ) → first ≤ i → i ≤ j → j < last → word_head (get_or ws i 0) ≤ word_head (get_or ws j 0)

pub record Sound (words numbers : List ℕ) : Type 0 where
  pub numbers_fit : row_numbers_end ≤ length numbers
  pub words_fit : max_named ≤ length words
  pub row : (u : ℕ) → u ≤ max_junctions → start_at numbers u ≤ length words
  pub named_row : (u : ℕ) → u ≤ max_junctions → mark_at numbers u ≤ max_named
  pub rises : (u : ℕ) → u < max_junctions → Rising words (start_at numbers u) (start_at numbers (u + 1))
  pub low : Below words
  pub named_few : named_at numbers ≤ max_named
  pub tail_low : (k : ℕ) → k < max_named → tail_at numbers k < max_junctions
  pub place_low : (k : ℕ) → k < max_named → tail_place_at numbers k < max_named

pub record Word (p : Plan) (words : List ℕ) (i u : ℕ) (e : Belt) : Type 0 where
  pub belt : Memᴰ e p.belts
  pub leaves : e.leaves ≡ suc u
  pub nameless : is_named p e ≡ false
  pub same : get_or words i 0 ≡ word_of e

pub record Covered (words numbers : List ℕ) (u i : ℕ) (e : Belt) : Type 0 where
  pub from : start_at numbers u ≤ i
  pub before : i < start_at numbers (u + 1)
  pub head : word_head (get_or words i 0) ≡ e.leads - 1
  pub less : get_or words i 0 ≤ word_of e

pub record Arc (p : Plan) (words numbers : List ℕ) (u k : ℕ) (e : Belt) : Type 0 where
  pub from : mark_at numbers u ≤ k
  pub before : k < mark_at numbers (u + 1)
  pub belt : Memᴰ e p.belts
  pub leaves : e.leaves ≡ suc u
  pub same : get_or words k 0 ≡ word_of e

pub record Tabled (p : Plan) (words numbers : List ℕ) : Type 0 where
  pub word_is : (u i : ℕ) → u < p.junctions → start_at numbers u ≤ i → i < start_at numbers (u + 1) → (e : Belt) × Word p words i u e
  pub covers : (u : ℕ) (e : Belt) → Memᴰ e p.belts → e.leaves ≡ suc u → is_named p e ≡ false → (i : ℕ) × Covered words numbers u i e
  pub arc_is : (u k : ℕ) → u < p.junctions → mark_at numbers u ≤ k → k < mark_at numbers (u + 1) → (e : Belt) × Arc p words numbers u k e
  pub has : (u : ℕ) (e : Belt) → Memᴰ e p.belts → e.leaves ≡ suc u → is_named p e ≡ true → (k : ℕ) × Arc p words numbers u k e
  pub once : (u v j k : ℕ) (e : Belt) → Arc p words numbers u j e → Arc p words numbers v k e → j ≡ k
  pub arc_named : (u k : ℕ) (e : Belt) → Arc p words numbers u k e → is_named p e ≡ true
  pub tail_is : (u k : ℕ) (e : Belt) → Arc p words numbers u k e → tail_at numbers k ≡ u
  pub place_is : (u k : ℕ) (e : Belt) → Arc p words numbers u k e → place_of (named p) e.index ≡ Some (tail_place_at numbers k)
  pub arc_at : (k : ℕ) → k < named_at numbers → (u : ℕ) × (e : Belt) × (u < p.junctions) × Arc p words numbers u k e
  pub arc_few : (u k : ℕ) (e : Belt) → Arc p words numbers u k e → k < named_at numbers
  pub named_all : named_at numbers ≡ length (named p)
  pub marks_rise : (u : ℕ) → u < p.junctions → mark_at numbers u ≤ mark_at numbers (u + 1)
