-- The table, one place after the other.
--
--   ways_clear        an array of zeros may be entered into, and is spared everywhere
--   entered ways u v  the table with v for place u: its cost, and its link
--   room_entered      a number that is not above far is entered
--   spared_entered    what is entered for a place from s on and before t leaves the others 0
--   traces_entered    what is entered for a place does not touch routes from later ones
--   ready_entered     nor what is known of later ones
--   ready_stored      what is wanted of v, entered for a place, is then known of it
--   piece_cut         each place of a piece is cut by the end of the piece
--   stands_next       one place further back
--
-- What is known of a place says that its way on can be followed to its end (Traces), so nothing need be known of places that no way on comes by: those
-- under a required belt are left as they are. Assumes nothing.
use mathlib.Core.Path.{◌≡◌, refl, ◌∙◌, ap, subst}
use mathlib.Core.Logic.{◌⊎◌, inl, inr}
use mathlib.Core.Option.{some}
use Prim.Native.Nat.{ℕ, zero, suc, ◌-◌, ◌%◌, ◌≤◌, ◌<◌}
use mathlib.Core.List.{List, [], ◌∷◌}
use native.Mathlib.Omega.{arith}
use native.Mathlib.Nat.{eq-or-lt_of_le}
use lib.ListN.{length, get_or, set, replicate, length-set, length-replicate}
use lib.Seq.{get_or-set_same, get_or-set_other}
use Rattle.plan.specs.Bounds.{max_junctions}
use Rattle.plan.specs.Plan.{Belt, plan_of}
use Rattle.plan.specs.Reading.{Accepted}
use Rattle.plan.specs.Words.{link_limit, far}
use Rattle.plan.proofs.Reading.{plan_sizes, belt_ends}
use Rattle.route.specs.declared.ways.Way.{Way}
use Rattle.route.specs.Routes.{IsRoute}
use Rattle.route.specs.Subproblems.{Subproblem}
use Rattle.route.specs.Inner.{way_on}
use Rattle.route.specs.Ways.{no_way, no_ways, way_of, rest_of, rest_at, link_at, Spared, Traces, Room, Rows, Cut, Piece, Ready, Stands}
use Rattle.route.proofs.RelaxOnward.{way_route, way_next}
use Rattle.route.proofs.WaysFirst.{First, first_way, way_opens}
use Rattle.route.proofs.WaysTabled.{lowest_of_lem}

-- ---- the array

blank : (n j : ℕ) → get_or (replicate n no_way) j no_way ≡ no_way
blank zero j = refl
blank (suc n) zero = refl
blank (suc n) (suc j) = blank n j

pub ways_clear : (ways : List Way) → ways ≡ no_ways → Room ways × ((s t : ℕ) → Spared s t ways)
ways_clear ways e =
    let none : (j : ℕ) → get_or ways j no_way ≡ no_way = λ j. ap (λ (l : List Way). get_or l j no_way) e ∙ blank max_junctions j in
    let long : length ways ≡ max_junctions = ap (length {A = Way}) e ∙ length-replicate max_junctions no_way in (
      record { size = long; low = λ j. omega (arith, ap (λ (w : Way). w.cost) (none j)) },
      λ s t. record { size = long; below = λ j l. none j; above = λ j l k. none j },
    )

abbrev pub entered : List Way → ℕ → ℕ → List Way
entered ways u v = set ways u (way_of v)

set_low : (m : ℕ) (l : List Way) (i : ℕ) (a : Way) → a.cost ≤ m → ((j : ℕ) → rest_at l j ≤ m) → (j : ℕ) → rest_at (set l i a) j ≤ m
set_low m [] i a h all j = all j
set_low m (y ∷ l) zero a h all zero = h
set_low m (y ∷ l) zero a h all (suc j) = all (suc j)
set_low m (y ∷ l) (suc i) a h all zero = all zero
set_low m (y ∷ l) (suc i) a h all (suc j) = set_low m l i a h (λ k. all (suc k)) j

module _ (ways : List Way) (u v : ℕ) where
  entered_size : length (entered ways u v) ≡ length ways
  entered_size = length-set ways u (way_of v)

  pub room_entered : v ≤ far → Room ways → Room (entered ways u v)
  room_entered h r = record { size = entered_size ∙ r.size; low = set_low far ways u (way_of v) (omega arith) r.low }

  entered_other : (j : ℕ) → (j ≡ u → ⊥) → get_or (entered ways u v) j no_way ≡ get_or ways j no_way
  entered_other j apart = get_or-set_other ways u j (way_of v) no_way apart

  rest_other : (j : ℕ) → (j ≡ u → ⊥) → rest_at (entered ways u v) j ≡ rest_at ways j
  rest_other j apart = ap (λ (w : Way). w.cost) (entered_other j apart)

  link_other : (j : ℕ) → (j ≡ u → ⊥) → link_at (entered ways u v) j ≡ link_at ways j
  link_other j apart = ap (λ (w : Way). w.link) (entered_other j apart)

  module _ (l : u < max_junctions) where
    module _ (size : length ways ≡ max_junctions) where
      entered_same : get_or (entered ways u v) u no_way ≡ way_of v
      entered_same = get_or-set_same ways u (way_of v) no_way (omega arith)

      rest_same : rest_at (entered ways u v) u ≡ v - v % link_limit
      rest_same = ap (λ (w : Way). w.cost) entered_same

      link_same : link_at (entered ways u v) u ≡ v % link_limit
      link_same = ap (λ (w : Way). w.link) entered_same

    pub spared_entered : {s t : ℕ} → s ≤ u → u < t → Spared s t ways → Spared s t (entered ways u v)
    spared_entered {s} {t} from to h = record {
      size = entered_size ∙ h.size;
      below = λ j k. entered_other j (λ q. omega arith) ∙ h.below j k;
      above = λ j k m. entered_other j (λ q. omega arith) ∙ h.above j k m;
    }

-- ---- what is known of places

module _ {b : List ℕ} (ok : Accepted b) where
  pub traces_entered : (t j : ℕ) (ways : List Way) (u v : ℕ) (r : List Belt) → u < max_junctions → IsRoute (plan_of b) j t r → suc u < j
      → Traces ways r → Traces (entered ways u v) r
  traces_entered t j ways u v [] few h l tr = tt
  traces_entered t j ways u v (e ∷ r) few h l tr =
      let up = (belt_ends ok e h.0).1 in (
        link_other ways u v (e.leaves - 1) (λ q. omega (arith, h.1)) ∙ tr.0,
        traces_entered t e.leads ways u v r few h.2 (omega (arith, h.1)) tr.1,
      )

  pub ready_entered : {x : Subproblem} {t : ℕ} {ways : List Way} (i u v : ℕ) → u < i → i < max_junctions → Ready b x t ways i
      → Ready b x t (entered ways u v) i
  ready_entered {x} {t} {ways} i u v l few h = record {
    price = rest_other ways u v i (λ q. omega arith) ∙ h.price;
    trace = λ r k. traces_entered (suc t) (suc i) ways u v r (omega arith) (way_route ok x (suc t) (suc i) r k) (omega arith) (h.trace r k);
  }

  pub ready_stored : (x : Subproblem) (t u v : ℕ) (ways : List Way) → u < max_junctions → length ways ≡ max_junctions → First b x (suc t) (suc u) v
      → ((e : Belt) (r : List Belt) → way_on (plan_of b) x (suc t) (suc u) ≡ some (e ∷ r) → Traces ways r)
      → Ready b x t (entered ways u v) u
  ready_stored x t u v ways few size is later = record { price = rest_same ways u v few size ∙ is.price; trace = go }
    where
      go : (r : List Belt) → way_on (plan_of b) x (suc t) (suc u) ≡ some r → Traces (entered ways u v) r
      go [] h = tt
      go (e ∷ r) h =
          let (m, leaves, next) = way_next ok x (suc t) (suc u) e r h in
          let at : e.leaves - 1 ≡ u = omega arith in (
            ap (link_at (entered ways u v)) at ∙ link_same ways u v few size ∙ is.link e r h,
            traces_entered (suc t) e.leads ways u v r few (way_route ok x (suc t) e.leads r next) (omega (arith, (belt_ends ok e m).1)) (later e r h),
          )

-- ---- a piece

module _ {b : List ℕ} {x : Subproblem} {words numbers : List ℕ} {due forbidden t low nearest : ℕ}
    (p : Piece b x words numbers due forbidden t low nearest) where
  pub piece_cut : (u : ℕ) → low ≤ u → u < nearest → Cut b x (suc t) (suc u) (suc nearest)
  piece_cut u h l = record {
    above = omega arith;
    within = omega (arith, p.within);
    clear = λ g m w from up. p.clear g m w (omega arith) up;
    reached = p.reached;
  }

  pub stands_next : (ways : List Way) (w u v : ℕ) → w ≡ suc u → low ≤ u → u < nearest → length ways ≡ max_junctions → Stands b x t w nearest ways
      → Rows words numbers forbidden nearest ways u v → Stands b x t u nearest (entered ways u v)
  stands_next ways w u v one h l size done rows i from to = go (eq-or-lt_of_le from)
    where
      ok : Accepted b
      ok = p.asked.accepted

      here : u < (plan_of b).junctions
      here = omega (arith, p.within, p.asked.inside)

      few : nearest < max_junctions
      few = omega (arith, p.within, p.asked.inside, (plan_sizes ok).1)

      cut : Cut b x (suc t) (suc u) (suc nearest)
      cut = piece_cut u h l

      priced : (j : ℕ) → suc u < j → j ≤ suc nearest → rest_at ways (j - 1) ≡ rest_of (way_on (plan_of b) x (suc t) j)
      priced j a c =
          let back : suc (j - 1) ≡ j = omega arith in
          (done (j - 1) (omega arith) (omega arith)).price ∙ ap (λ (n : ℕ). rest_of (way_on (plan_of b) x (suc t) n)) back

      first : First b x (suc t) (suc u) v
      first =
          first_way ok p.asked.bytes x (suc t) p.asked.inside (suc u) (suc nearest) cut ways priced v
          (lowest_of_lem p.asked u nearest ways v here rows)

      later : (e : Belt) (r : List Belt) → way_on (plan_of b) x (suc t) (suc u) ≡ some (e ∷ r) → Traces ways r
      later e r k =
          let (o, next) = way_opens ok p.asked.bytes x (suc t) p.asked.inside (suc u) (suc nearest) cut e r k in
          let up = (belt_ends ok e o.belt).1 in
          let back : suc (e.leads - 1) ≡ e.leads = omega arith in
          (done (e.leads - 1) (omega (arith, o.leaves)) (omega (arith, o.near))).trace r (ap (way_on (plan_of b) x (suc t)) back ∙ next)

      go : (u ≡ i) ⊎ (u < i) → Ready b x t (entered ways u v) i
      go (inl q) = subst (Ready b x t (entered ways u v)) q (ready_stored ok x t u v ways (omega (arith, few)) size first later)
      go (inr k) = ready_entered ok i u v k (omega (arith, few)) (done i (omega arith) to)
