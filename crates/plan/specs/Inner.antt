-- Definitions that only the contracts of private functions cite. Nobody has to believe them: what the open functions answer is said
-- by the other files.
--
--   Passed2, Passed4, Passed6 b
--                         no line up to line 2, 4 or 6 is broken
--   links_by b r ts        the links that record r holds in the chain fields ts, each a field and the kind of record that it leads to
--   bump m                the mark of a record to which one more link leads: 0 none, 1 one, 2 more than one
--   mark seen i           the marks with that of record i so raised
--   marked seen ls        the marks `seen` after the links ls have been followed
--   Followed b ls seen later t
--                         the links ls of the plan b have been followed: t says whether one is wrong, and where none is the marks
--                         `seen` have become `later`
--   marked_once seen r     record r is marked with 1
--   names_belt b l         record l is a literal of a belt
--   note t marks e        the marks with belt e marked, where t says so
--   noted b marks ls      the marks after the belts that the records ls name have been marked
--   notes b               those of the whole plan, in an array of max_records places
--   words_to n es ws       the array of n words while it is filled: the named belts es and the rows ws are in it
--   numbers_to p u es k    the array of numbers while it is filled: the rows up to junction u have their starts and marks, the named belts es are in it,
--                         and k is how many there are, once it is known
--   start_of p u, mark_of p u
--                         where the row of place u starts, and how many named belts leave places before u
--   tail_of e, tail_place_of p e
--                         the place that belt e leaves, and its place among the named belts
--   put_words p e first end k ws
--                         the words ws with that of belt e put in: at place k, if it is named, else into the row from place first on and before place
--                         end; put_end: where that row ends then
--   put_numbers p e u k ns the numbers ns with those of belt e, which leaves place u: where it is named, its tail and its place stand at place k of theirs
--
-- Assumes nothing.
use Rattle.std.specs.Prelude.{◌≡◌, ℕ, zero, suc, ◌+◌, ◌-◌, Bool, true, false, ◌&&◌, List, [], ◌∷◌, ◌++◌, map, length, get_or, set, replicate, eqb, ltb}
use Rattle.std.proofs.Math.Seq.{slice}
use Rattle.plan.specs.Lists.{any, count, joined, upto}
use Rattle.plan.specs.Bounds.{max_records, max_named, junction_places}
use Rattle.plan.specs.Records.{field, kind, junctions, records, Link, link_to, placed}
use Rattle.plan.specs.Plan.{Belt, Plan, named}
use Rattle.plan.specs.Refusals.{bad_link, broken1, broken2, broken3, broken4, broken5, broken6}
use Rattle.plan.specs.Words.{word_of, is_named, put_word, rows_to, named_to, padded, tails_from, tail_places_from, row_numbers_end, numbers_end}

-- no line is broken up to line 2, 4 or 6
abbrev pub Passed2 : List ℕ → Type 0
Passed2 b = (broken1 b ≡ false) × (broken2 b ≡ false)

abbrev pub Passed4 : List ℕ → Type 0
Passed4 b = Passed2 b × (broken3 b ≡ false) × (broken4 b ≡ false)

abbrev pub Passed6 : List ℕ → Type 0
Passed6 b = Passed4 b × (broken5 b ≡ false) × (broken6 b ≡ false)

abbrev pub links_by : List ℕ → ℕ → List (ℕ × ℕ) → List Link
links_by b r ts = joined (λ (t : ℕ × ℕ). link_to r (field b r t.0) t.1) ts

abbrev pub bump : ℕ → ℕ
bump zero = 1
bump (suc m) = 2

abbrev pub mark : List ℕ → ℕ → List ℕ
mark seen i = set seen i (bump (get_or seen i 0))

abbrev pub marked : List ℕ → List Link → List ℕ
marked seen [] = seen
marked seen (l ∷ ls) = marked (mark seen l.index) ls

abbrev pub Followed : List ℕ → List Link → List ℕ → List ℕ → Bool → Type 0
Followed b ls seen later t = (t ≡ any (bad_link b) ls) × (t ≡ false → later ≡ marked seen ls)

abbrev pub marked_once : List ℕ → ℕ → Bool
marked_once seen r = eqb (get_or seen r 0) 1

abbrev pub names_belt : List ℕ → ℕ → Bool
names_belt b l = eqb (kind b l) 4 && eqb (field b l 3) 0

abbrev pub note : Bool → List ℕ → ℕ → List ℕ
note true marks e = set marks e 1
note false marks e = marks

abbrev pub noted : List ℕ → List ℕ → List ℕ → List ℕ
noted b marks [] = marks
noted b marks (l ∷ ls) = noted b (note (names_belt b l) marks (field b l 4)) ls

unfoldable pub notes : List ℕ → List ℕ
notes b = noted b (replicate max_records 0) (upto (suc (junctions b)) (records b))

-- ---- words

abbrev pub words_to : ℕ → List Belt → List ℕ → List ℕ
words_to n es ws = padded max_named (map word_of es) ++ padded (n - max_named) ws

abbrev pub start_of : Plan → ℕ → ℕ
start_of p u = max_named + length (rows_to p u)

abbrev pub mark_of : Plan → ℕ → ℕ
mark_of p u = length (named_to p u)

abbrev pub tail_of : Belt → ℕ
tail_of e = e.leaves - 1

abbrev pub tail_place_of : Plan → Belt → ℕ
tail_place_of p e = count (λ (n : ℕ). ltb n e.index) (named p)

abbrev pub numbers_to : Plan → ℕ → List Belt → ℕ → List ℕ
numbers_to p u es k =
    padded junction_places (map (start_of p) (upto 0 (suc u)))
    ++ (padded junction_places (map (mark_of p) (upto 0 (suc u)))
    ++ (padded max_named (map tail_of es)
    ++ (padded max_named (map (tail_place_of p) es)
    ++ (k ∷ replicate (numbers_end - row_numbers_end) 0))))

abbrev pub put_words_by : Bool → ℕ → ℕ → ℕ → ℕ → List ℕ → List ℕ
put_words_by true word first end k ws = set ws k word
put_words_by false word first end k ws = placed ws first (put_word word (slice first end ws))

abbrev pub put_words : Plan → Belt → ℕ → ℕ → ℕ → List ℕ → List ℕ
put_words p e first end k ws = put_words_by (is_named p e) (word_of e) first end k ws

abbrev pub put_end_by : Bool → ℕ → ℕ → ℕ → List ℕ → ℕ
put_end_by true word first end ws = end
put_end_by false word first end ws = first + length (put_word word (slice first end ws))

abbrev pub put_end : Plan → Belt → ℕ → ℕ → List ℕ → ℕ
put_end p e first end ws = put_end_by (is_named p e) (word_of e) first end ws

abbrev pub put_numbers_by : Bool → ℕ → ℕ → ℕ → List ℕ → List ℕ
put_numbers_by true u place k ns = set (set ns (tails_from + k) u) (tail_places_from + k) place
put_numbers_by false u place k ns = ns

abbrev pub put_numbers : Plan → Belt → ℕ → ℕ → List ℕ → List ℕ
put_numbers p e u k ns = put_numbers_by (is_named p e) u (tail_place_of p e) k ns
