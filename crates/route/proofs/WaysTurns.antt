-- A turn of the loop over pieces, by the numbers that the code has: place k of the mask of what is left, the word there, and its tail.
--
--   turn_start    the tail is before place s: there is no relaxed route
--   turn_down     the word's head is past its tail
--   turn_past     the word's head is past place nearest: there is no relaxed route
--   turn_piece    else from its head to nearest is a piece, and the way on from nearest is known
--   turn_dear     the piece is done, and the way over the word is above the limit: so is every route
--   turn_next     it is not: the state after the turn
--   way_lost      where there is no route within the bound, the pass answers that there is none
--   way_found     where there is no required belt left, and the way on from s is known, it answers its cost
--
-- Assumes nothing.
use mathlib.Core.Path.{◌≡◌, sym, ◌∙◌, ap, subst, subst₂}
use mathlib.Core.Option.{Option, none, some}
use Rattle.std.proofs.Common.{Some, None}
use Rattle.std.specs.declared.option.Option as answer
use Prim.Native.Nat.{ℕ, suc, ◌+◌, ◌*◌, ◌-◌, ◌/◌, ◌^◌, ◌≤◌, ◌<◌}
use mathlib.Core.List.{List}
use native.Mathlib.Omega.{arith}
use lib.ListN.{length, get_or}
use Rattle.plan.specs.Bounds.{max_junctions}
use Rattle.plan.specs.Plan.{Belt, plan_of}
use Rattle.plan.specs.Words.{link_limit, way_limit, far, word_head, tail_at}
use Rattle.plan.specs.Tables.{Arc}
use Rattle.plan.proofs.Reading.{belt_ends}
use Rattle.route.specs.declared.ways.Way.{Way}
use Rattle.route.specs.Routes.{cost}
use Rattle.route.specs.Subproblems.{Subproblem, relaxed}
use Rattle.route.specs.Values.{at_most}
use Rattle.route.specs.Ways.{cost_of, rest_of, Asked, Traces, over_word, over_belt, Piece, Ready, Stands, Parted}
use Rattle.route.proofs.WaysWords.{head_of}
use Rattle.route.proofs.WaysTabled.{over_of}
use Rattle.route.proofs.WaysHighest.{top_set}
use Rattle.route.proofs.WaysStanding.{entered}
use Rattle.route.proofs.WaysParting.{bound_within, no_start, no_route, next_piece, next_ready, dear_way, parted_next}

module _ {b : List ℕ} {x : Subproblem} {words numbers : List ℕ} {due forbidden t : ℕ} (q : Asked b x words numbers due forbidden t)
    {left nearest : ℕ} {ways : List Way} (w : Parted b x words numbers due t left nearest ways)
    (k : ℕ) (low : 2 ^ k ≤ left) (high : left < 2 ^ suc k) where
  -- the belt at place k
  abbrev next : (u : ℕ) × (e : Belt) × (u < (plan_of b).junctions) × Arc (plan_of b) words numbers u k e
  next = q.tabled.arc_at k (q.placed k (w.part k (top_set left k low high)))

  abbrev u : ℕ
  u = next.0

  abbrev e : Belt
  e = next.1

  arc : Arc (plan_of b) words numbers u k e
  arc = next.3

  head : word_head (get_or words k 0) ≡ e.leads - 1
  head = ap word_head arc.same ∙ head_of q.accepted e arc.belt

  tail : tail_at numbers k ≡ u
  tail = q.tabled.tail_is u k e arc

  pub turn_start : (s : ℕ) → tail_at numbers k < s → relaxed (plan_of b) (suc s) (suc t) x ≡ none
  turn_start s h = no_start q w low high arc s (subst (λ (n : ℕ). n < s) tail h)

  pub turn_down : tail_at numbers k < word_head (get_or words k 0)
  turn_down = omega (arith, tail, head, arc.leaves, (belt_ends q.accepted e arc.belt).1)

  pub turn_past : (s : ℕ) → nearest < word_head (get_or words k 0) → relaxed (plan_of b) (suc s) (suc t) x ≡ none
  turn_past s h = no_route q w low high arc s (subst (λ (n : ℕ). nearest < n) head h)

  module _ (near : word_head (get_or words k 0) ≤ nearest) where
    near_head : e.leads - 1 ≤ nearest
    near_head = subst (λ (n : ℕ). n ≤ nearest) head near

    pub turn_piece : Piece b x words numbers due forbidden t (word_head (get_or words k 0)) nearest × Ready b x t ways nearest
    turn_piece = (
      subst (λ (n : ℕ). Piece b x words numbers due forbidden t n nearest) (sym head) (next_piece q w low high arc near_head),
      next_ready q w low high arc near_head,
    )

    module _ {ways' : List Way} (stands : Stands b x t (word_head (get_or words k 0)) nearest ways') where
      stands_head : Stands b x t (e.leads - 1) nearest ways'
      stands_head = subst (λ (n : ℕ). Stands b x t n nearest ways') head stands

      way : over_word ways' (get_or words k 0) ≡ over_belt ways' e
      way = ap (over_word ways') arc.same ∙ over_of q.accepted ways' e arc.belt

      pub turn_dear : (s bound : ℕ) → s ≤ tail_at numbers k → bound < way_limit → bound * link_limit + (link_limit - 1) < over_word ways' (get_or words k 0)
          → at_most bound (relaxed (plan_of b) (suc s) (suc t) x) ≡ none
      turn_dear s bound from l h =
          dear_way q w low high arc near_head stands_head s bound (subst (λ (n : ℕ). s ≤ n) tail from) l
          (subst (λ (n : ℕ). bound * link_limit + (link_limit - 1) < n) way h)

      pub turn_next : length ways' ≡ max_junctions → over_word ways' (get_or words k 0) < far
          → Parted b x words numbers due t (left - 2 ^ k) (tail_at numbers k) (entered ways' (tail_at numbers k) (over_word ways' (get_or words k 0)))
      turn_next size h =
          subst₂ (λ (n v : ℕ). Parted b x words numbers due t (left - 2 ^ k) n (entered ways' n v)) (sym tail) (sym way)
          (parted_next q w low high arc near_head stands_head size (subst (λ (n : ℕ). n < far) way h))

-- ---- what is answered

pub way_lost : (o : Option (List Belt)) (ways : List Way) → o ≡ none
    → (◌≡◌ {A = answer.Option ℕ} None (cost_of o)) × ((r : List Belt) → o ≡ some r → Traces ways r)
way_lost o ways h = (sym (ap cost_of h), λ r q. cc)

pub way_found : (bound : ℕ) (o : Option (List Belt)) (cost : ℕ) → bound < way_limit → cost ≡ rest_of o → cost ≤ bound * link_limit + (link_limit - 1)
    → (at_most bound o ≡ o) × (◌≡◌ {A = answer.Option ℕ} (Some (cost / link_limit)) (cost_of (at_most bound o)))
way_found bound o c low price h =
    let is = bound_within bound o low (omega arith) in
    (is, found o price ∙ sym (ap cost_of is))
  where
    found : (o : Option (List Belt)) → c ≡ rest_of o → ◌≡◌ {A = answer.Option ℕ} (Some (c / link_limit)) (cost_of o)
    found none q = absurd (omega arith)
    found (some r) q = let same : c / link_limit ≡ cost r = omega arith in ap Some same
