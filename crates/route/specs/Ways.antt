-- The table of ways on, as the pass over words fills it (src/ways.rt). The contracts of that pass cite these, and the layers above only the empty table
-- (no_ways); nobody else has to believe them.
-- Junctions are counted from 1, and places of arrays from 0: place i is for junction i + 1. The table has a Way for each place: link_limit times the cost
-- of the way on, and the link of its first belt.
--
--   bit m k         the mask m has place k
--   no_way          what the table has for a place that is not filled; no_ways: the empty table, which has it for each place
--   way_of v        the Way of a sum v: its cost, link_limit times, and its link
--   rest_of o        what the table has as the cost of the way on o: link_limit times its cost, or far where there is none
--   cost_of o        the cost of the route o, if there is one
--   rest_at ways i, link_at ways i
--                   what the table has for place i: the cost of the way on, and the link of its first belt
--   Spared s t ways the table is empty but for the places from s on and before t
--   Asked b x words numbers due forbidden t
--                   what holds where a pass is asked for: the plan b is accepted, the arrays are its own, and the subproblem x requires the named belts
--                   that the mask `due` has, by their order of tails, and forbids those that the mask `forbidden` has, by their places; no belt both
--   Traces ways r   the table has the link of each belt of the route r, for the place that it leaves
--   Low ways        no cost in the table is above far; Room ways: and it has max_junctions places
--   over_word ways w the way over the word w, by what the table has for its head; over_belt ways e: the same over the word of belt e
--   Near words nearest i
--                   the head of the word at place i is no further than place nearest
--   OpenArc words numbers nearest forbidden i
--                   and the mask `forbidden` does not have the place among the named belts of the belt at place i
--   Least words Open first last ways from v
--                   v is the least of `from` and the ways over the words from place first on and before place last that are open: it is not above any of
--                   them, and is one of them (Hit)
--   Rows words numbers forbidden nearest ways u v
--                   v is the least of both rows of place u, that of the named belts first
--   Opens b x u nearest e
--                   belt e of the plan b leaves junction u, is not forbidden by the subproblem x, and leads no further than the junction nearest
--   Lowest b x u nearest ways v
--                   the way over no open belt of junction u is less than v, and v is that over one of them, or far
--   Cut b x t u nearest
--                   nearest is the next junction after u, before t, that a required belt leaves, or t; none leaves u or one in between
--   Piece b x words numbers due forbidden t low nearest
--                   no required belt leaves a place from low on and before nearest, and one leaves place nearest, or it is t
--   Ready b x t ways i
--                   for place i the table has what its way on to place t costs; and where there is one, it can be followed to its end
--   Stands b x t low nearest ways
--                   so it is for all places from low to nearest
--   Parted b x words numbers due t left nearest ways
--                   the state between two pieces, where the required belts of the mask `left` are still to come
--
-- Assumes nothing.
use Rattle.std.specs.Prelude.{◌≡◌, ◌⊎◌, Bool, true, false, ℕ, suc, ◌+◌, ◌*◌, ◌-◌, ◌/◌, ◌%◌, ◌^◌, ◌≤◌, ◌<◌, length, get_or, replicate, eqb}
use Rattle.std.proofs.Math.Option.{Option, none, some}
use Rattle.std.specs.Prelude.{Some, None}
use Rattle.std.specs.declared.option.Option as answer
use mathlib.Core.List.{List, [], ◌∷◌, Memᴰ}
use Rattle.plan.specs.Bounds.{max_junctions}
use Rattle.plan.specs.Plan.{Belt, plan_of}
use Rattle.plan.specs.Reading.{Accepted, Bytes}
use Rattle.plan.specs.Words.{link_limit, link_of, word_of, word_head, far, is_named, start_at, mark_at, tail_place_at, named_at}
use Rattle.plan.specs.Tables.{Arc, Tabled}
use Rattle.route.specs.declared.ways.Way.{Way}
use Rattle.route.specs.Routes.{cost}
use Rattle.route.specs.Subproblems.{Subproblem}
use Rattle.route.specs.Inner.{is_required, is_forbidden, way_on}

abbrev pub bit : ℕ → ℕ → Bool
bit m k = eqb (m / 2 ^ k % 2) 1

abbrev pub rest_of : Option (List Belt) → ℕ
rest_of none = far
rest_of (some r) = cost r * link_limit

abbrev pub cost_of : Option (List Belt) → answer.Option ℕ
cost_of none = None
cost_of (some r) = Some (cost r)

abbrev pub no_way : Way
no_way = record { cost = 0; link = 0 }

abbrev pub no_ways : List Way
no_ways = replicate max_junctions no_way

abbrev pub way_of : ℕ → Way
way_of v = record { cost = v - v % link_limit; link = v % link_limit }

abbrev pub rest_at : List Way → ℕ → ℕ
rest_at ways i = (get_or ways i no_way).cost

abbrev pub link_at : List Way → ℕ → ℕ
link_at ways i = (get_or ways i no_way).link

pub record Spared (s t : ℕ) (ways : List Way) : Type 0 where
  pub size : length ways ≡ max_junctions
  pub below : (j : ℕ) → j < s → get_or ways j no_way ≡ no_way
  pub above : (j : ℕ) → t ≤ j → j < max_junctions → get_or ways j no_way ≡ no_way

pub record Asked (b : List ℕ) (x : Subproblem) (words numbers : List ℕ) (due forbidden t : ℕ) : Type 0 where
  pub accepted : Accepted b
  pub bytes : Bytes b
  pub inside : suc t ≤ (plan_of b).junctions
  pub tabled : Tabled (plan_of b) words numbers
  pub of_nameless : (e : Belt) → Memᴰ e (plan_of b).belts → is_named (plan_of b) e ≡ false
      → (is_required x e ≡ false) × (is_forbidden x e ≡ false)
  pub of_named : (u k : ℕ) (e : Belt) → Arc (plan_of b) words numbers u k e
      → (is_required x e ≡ bit due k) × (is_forbidden x e ≡ bit forbidden (tail_place_at numbers k))
  -- what x requires are belts of the plan
  pub belts : (n : ℕ) → Memᴰ n x.required → (e : Belt) × Memᴰ e (plan_of b).belts × (n ≡ e.index)
  pub placed : (k : ℕ) → bit due k ≡ true → k < named_at numbers
  pub apart : (k : ℕ) → bit due k ≡ true → bit forbidden (tail_place_at numbers k) ≡ false

abbrev pub Traces : List Way → List Belt → Type 0
Traces ways [] = Unit {0}
Traces ways (e ∷ r) = (link_at ways (e.leaves - 1) ≡ link_of e) × Traces ways r

-- ---- rows

abbrev pub Low : List Way → Type 0
Low ways = (j : ℕ) → rest_at ways j ≤ far

pub record Room (ways : List Way) : Type 0 where
  pub size : length ways ≡ max_junctions
  pub low : Low ways

abbrev pub over_word : List Way → ℕ → ℕ
over_word ways w = rest_at ways (word_head w) + w

abbrev pub over_belt : List Way → Belt → ℕ
over_belt ways e = rest_at ways (e.leads - 1) + word_of e

abbrev pub Near : List ℕ → ℕ → ℕ → Type 0
Near words nearest i = word_head (get_or words i 0) ≤ nearest

abbrev pub OpenArc : List ℕ → List ℕ → ℕ → ℕ → ℕ → Type 0
OpenArc words numbers nearest forbidden i = Near words nearest i × (forbidden / 2 ^ tail_place_at numbers i % 2 ≡ 0)

-- place i has an open word, and v is the way over it
pub record Hit (words : List ℕ) (Open : ℕ → Type 0) (first last : ℕ) (ways : List Way) (v i : ℕ) : Type 0 where
  pub from : first ≤ i
  pub before : i < last
  pub is_open : Open i
  pub same : v ≡ over_word ways (get_or words i 0)

pub record Least (words : List ℕ) (Open : ℕ → Type 0) (first last : ℕ) (ways : List Way) (from v : ℕ) : Type 0 where
  pub start : v ≤ from
  pub below : (i : ℕ) → first ≤ i → i < last → Open i → v ≤ over_word ways (get_or words i 0)
  pub one : (v ≡ from) ⊎ ((i : ℕ) × Hit words Open first last ways v i)

pub record Rows (words numbers : List ℕ) (forbidden nearest : ℕ) (ways : List Way) (u v : ℕ) : Type 0 where
  pub least : ℕ
  pub of_named : Least words (OpenArc words numbers nearest forbidden) (mark_at numbers u) (mark_at numbers (u + 1)) ways far least
  pub of_others : Least words (Near words nearest) (start_at numbers u) (start_at numbers (u + 1)) ways least v

-- ---- belts

pub record Opens (b : List ℕ) (x : Subproblem) (u nearest : ℕ) (e : Belt) : Type 0 where
  pub belt : Memᴰ e (plan_of b).belts
  pub leaves : e.leaves ≡ u
  pub allowed : is_forbidden x e ≡ false
  pub near : e.leads ≤ nearest

pub record Lowest (b : List ℕ) (x : Subproblem) (u nearest : ℕ) (ways : List Way) (v : ℕ) : Type 0 where
  pub start : v ≤ far
  pub below : (e : Belt) → Opens b x u nearest e → v ≤ over_belt ways e
  pub one : (v ≡ far) ⊎ ((e : Belt) × Opens b x u nearest e × (v ≡ over_belt ways e))

pub record Cut (b : List ℕ) (x : Subproblem) (t u nearest : ℕ) : Type 0 where
  pub above : u < nearest
  pub within : nearest ≤ t
  pub clear : (g : Belt) → Memᴰ g (plan_of b).belts → is_required x g ≡ true → u ≤ g.leaves → g.leaves < nearest → ⊥
  pub reached : (nearest ≡ t) ⊎ ((g : Belt) × Memᴰ g (plan_of b).belts × (is_required x g ≡ true) × (g.leaves ≡ nearest))

-- ---- pieces

pub record Piece (b : List ℕ) (x : Subproblem) (words numbers : List ℕ) (due forbidden t low nearest : ℕ) : Type 0 where
  pub asked : Asked b x words numbers due forbidden t
  pub within : nearest ≤ t
  pub clear : (g : Belt) → Memᴰ g (plan_of b).belts → is_required x g ≡ true → suc low ≤ g.leaves → g.leaves < suc nearest → ⊥
  pub reached : (suc nearest ≡ suc t) ⊎ ((g : Belt) × Memᴰ g (plan_of b).belts × (is_required x g ≡ true) × (g.leaves ≡ suc nearest))

pub record Ready (b : List ℕ) (x : Subproblem) (t : ℕ) (ways : List Way) (i : ℕ) : Type 0 where
  pub price : rest_at ways i ≡ rest_of (way_on (plan_of b) x (suc t) (suc i))
  pub trace : (r : List Belt) → way_on (plan_of b) x (suc t) (suc i) ≡ some r → Traces ways r

abbrev pub Stands : List ℕ → Subproblem → ℕ → ℕ → ℕ → List Way → Type 0
Stands b x t low nearest ways = (i : ℕ) → low ≤ i → i ≤ nearest → Ready b x t ways i

-- those that have come leave places from nearest on and before t. If none that is still to come leaves place nearest, its way on is known; if one does,
-- two required belts leave it, and there is no route
pub record Parted (b : List ℕ) (x : Subproblem) (words numbers : List ℕ) (due t left nearest : ℕ) (ways : List Way) : Type 0 where
  pub within : nearest ≤ t
  pub part : (k : ℕ) → bit left k ≡ true → bit due k ≡ true
  pub come : (u k : ℕ) (e : Belt) → Arc (plan_of b) words numbers u k e → bit due k ≡ true → (bit left k ≡ true) ⊎ ((nearest ≤ u) × (u < t))
  pub under : (nearest ≡ t) ⊎ ((u k : ℕ) (e : Belt) → Arc (plan_of b) words numbers u k e → bit left k ≡ true → u ≤ nearest)
  pub reached : (nearest ≡ t) ⊎ ((k : ℕ) × (g : Belt) × Arc (plan_of b) words numbers nearest k g × (bit due k ≡ true) × (bit left k ≡ false))
  pub ready : ((u k : ℕ) (e : Belt) → Arc (plan_of b) words numbers u k e → bit left k ≡ true → u < nearest) → Ready b x t ways nearest
