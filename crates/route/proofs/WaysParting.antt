-- The loop over pieces: one required belt after the other, from the highest tail down.
--
--   same_belt      a place of the named belts has one belt
--   lower_tails    a lower place has no higher tail
--   before_start, past_end, crossed
--                  there is no relaxed route where a required belt leaves a junction before s, leads past t, or over the one that another required
--                  belt leaves
--   found_way      where there is a relaxed route, it is the way on from s
--   required_way   a way on from the tail of a required belt begins with it; way_required: it goes on as the way on from its head
--   bound_dear, bound_within
--                  a way is above the limit of a bound exactly if its cost is above the bound
--   parted_start   the state before the first piece
--   last_piece, last_ready, last_way
--                  where none is left the last piece goes down to s, and the way on from s is the relaxed route
--   no_start, no_route
--                  there is no route where the next required belt leaves a place before s, or leads past the place nearest
--   next_piece, next_ready
--                  else from its head to nearest is a piece, and the way on from nearest is known
--   dear_way       where the way over it costs more than the bound, so does every route
--   parted_next    the state after the piece
--
-- Assumes nothing.
use mathlib.Core.Path.{◌≡◌, refl, sym, ◌∙◌, ap, subst}
use mathlib.Core.Logic.{◌⊎◌, inl, inr, ⊎_elim}
use mathlib.Core.Bool.{true, false}
use mathlib.Core.Option.{Option, none, some, some-injective}
use Prim.Native.Nat.{ℕ, zero, suc, ◌+◌, ◌*◌, ◌-◌, ◌%◌, ◌^◌, ◌≤◌, ◌<◌}
use mathlib.Core.List.Memᴰ
use mathlib.Core.List.{List, [], ◌∷◌, Memᴰ, head-eq_of_cons-eq, tail-eq_of_cons-eq}
use native.Mathlib.Omega.{arith}
use lib.ListN.{length}
use lib.Pow.{pow_pos}
use Rattle.plan.specs.Bounds.{max_junctions}
use Rattle.plan.specs.Plan.{Belt, plan_of}
use Rattle.plan.specs.Reading.{Accepted}
use Rattle.plan.specs.Words.{link_limit, way_limit, far, link_of, word_index, is_named, mark_at}
use Rattle.plan.specs.Tables.{Arc, Tabled}
use Rattle.plan.proofs.Lists.{lt_or_le, test, never, in_mem, mem_in}
use Rattle.plan.proofs.Reading.{plan_sizes, belt_index, belt_ends}
use Rattle.route.specs.declared.ways.Way.{Way}
use Rattle.route.specs.Routes.{IsRoute, cost, before}
use Rattle.route.specs.Permission.{passes}
use Rattle.route.specs.Subproblems.{Subproblem, admits, relaxed}
use Rattle.route.specs.Values.{at_most}
use Rattle.route.specs.Inner.{is_required, is_forbidden, remaining, way_on, way_cost}
use Rattle.route.specs.Ways.{bit, rest_of, rest_at, Asked, over_belt, Piece, Traces, Ready, Stands, Parted}
use Rattle.route.proofs.RelaxBound.{at_most_none, at_most_some}
use Rattle.route.proofs.RouteOrder.{before_cons}
use Rattle.route.proofs.SubproblemFirst.{admits_is, relaxed_some, is_relaxed, no_relaxed}
use Rattle.route.proofs.SubproblemCut.{in_passes, on_route, route_between, cut_claim}
use Rattle.route.proofs.RelaxOnward.{Owed, AllOwed, remaining_step, way_end, way_route, way_next, way_above, way_relaxed}
use Rattle.route.proofs.WaysWords.{parts, link_of_lem, index_of}
use Rattle.route.proofs.WaysFirst.{First}
use Rattle.route.proofs.WaysHighest.{high_none, top_set, top_last, rest_in, in_rest, rest_not}
use Rattle.route.proofs.WaysStanding.{entered, ready_stored}

-- ---- places of named belts

module _ {b : List ℕ} (ok : Accepted b) {words numbers : List ℕ} where
  tail_in : {u k : ℕ} {e : Belt} → Arc (plan_of b) words numbers u k e → u < (plan_of b).junctions
  tail_in {u} {k} {e} a = let (from, up, top) = belt_ends ok e a.belt in omega (arith, a.leaves)

  pub same_belt : {u v k : ℕ} {e f : Belt} → Arc (plan_of b) words numbers u k e → Arc (plan_of b) words numbers v k f → e ≡ f
  same_belt {u} {v} {k} {e} {f} a c =
      belt_index ok e f a.belt c.belt (sym (index_of ok e a.belt) ∙ ap word_index (sym a.same ∙ c.same) ∙ index_of ok f c.belt)

  -- rows stand one after the other
  marks_up : Tabled (plan_of b) words numbers → (u d : ℕ) → u + d ≤ (plan_of b).junctions → mark_at numbers u ≤ mark_at numbers (u + d)
  marks_up tabled u zero h = let q : u + 0 ≡ u = omega arith in omega (arith, ap (mark_at numbers) q)
  marks_up tabled u (suc d) h =
      let q : (u + d) + 1 ≡ u + suc d = omega arith in
      omega (arith, marks_up tabled u d (omega arith), tabled.marks_rise (u + d) (omega arith), ap (mark_at numbers) q)

  pub lower_tails : Tabled (plan_of b) words numbers → {u v j k : ℕ} {e f : Belt} → Arc (plan_of b) words numbers u j e → Arc (plan_of b) words numbers v k f
      → j ≤ k → u ≤ v
  lower_tails tabled {u} {v} {j} {k} {e} {f} a c l = go (lt_or_le v u)
    where
      go : (v < u) ⊎ (u ≤ v) → u ≤ v
      go (inl h) =
          let q : (v + 1) + (u - (v + 1)) ≡ u = omega arith in
          absurd (omega (arith, a.from, c.before, marks_up tabled (v + 1) (u - (v + 1)) (omega (arith, tail_in a)), ap (mark_at numbers) q))
      go (inr h) = h

-- ---- relaxed routes and required belts

module _ {b : List ℕ} (ok : Accepted b) (x : Subproblem) (s t : ℕ) where
  -- there is none where no route can have all of them
  none_has : ((r : List Belt) → IsRoute (plan_of b) s t r → ((g : Belt) → Memᴰ g (plan_of b).belts → is_required x g ≡ true → Memᴰ g r) → ⊥)
      → relaxed (plan_of b) s t x ≡ none
  none_has h =
      no_relaxed ok s t x (λ r route a. h r route (λ g m w. on_route ok s t r route g m ((admits_is x r a).0 g.index (mem_in x.required w))))

  module _ (e : Belt) (m : Memᴰ e (plan_of b).belts) (w : is_required x e ≡ true) where
    pub before_start : e.leaves < s → relaxed (plan_of b) s t x ≡ none
    before_start l = none_has (λ r route has. omega (arith, (route_between ok s t r route e (has e m w)).0))

    pub past_end : t < e.leads → relaxed (plan_of b) s t x ≡ none
    past_end l = none_has (λ r route has. omega (arith, (route_between ok s t r route e (has e m w)).1))

    pub crossed : (g : Belt) → Memᴰ g (plan_of b).belts → is_required x g ≡ true → e.leaves ≤ g.leaves → g.leaves < e.leads → (e ≡ g → ⊥)
        → relaxed (plan_of b) s t x ≡ none
    crossed g i n l h apart =
        none_has (λ r route has. apart (((cut_claim b ok s t r route g i).0 (in_passes r g (has g i n))).cut e (has e m w) (l, h)))

  pub found_way : ((n : ℕ) → Memᴰ n x.required → (e : Belt) × Memᴰ e (plan_of b).belts × (n ≡ e.index))
      → (r : List Belt) → relaxed (plan_of b) s t x ≡ some r → way_on (plan_of b) x t s ≡ relaxed (plan_of b) s t x
  found_way belts r h = way_relaxed ok x t s owed
    where
      owed : AllOwed b x t s
      owed n m =
          let (e, i, q) = belts n m in
          let (route, a, least) = relaxed_some ok s t x r h in
          let cut = (cut_claim b ok s t r route e i).0 (ap (passes r) (sym q) ∙ (admits_is x r a).0 n m) in
          (e, record { belt = i; wanted = in_mem x.required (Memᴰ.cast (sym q) m); from = cut.from; before_t = cut.before_t }, q)

-- ---- ways on and required belts

module _ {b : List ℕ} (ok : Accepted b) (x : Subproblem) (t : ℕ) where
  pub required_way : (e : Belt) → Owed b x t e.leaves e → (f : Belt) (r : List Belt) → way_on (plan_of b) x t e.leaves ≡ some (f ∷ r)
      → (e ≡ f) × (way_on (plan_of b) x t e.leads ≡ some r)
  required_way e o f r h =
      let (route, a, least) = relaxed_some ok e.leaves t (remaining (plan_of b) x t e.leaves) (f ∷ r) h in
      let goes = ((remaining_step ok x t e.leaves f r route).0 a).0 in
      let (m, leaves, next) = way_next ok x t e.leaves f r h in
      let owed : Owed b x f.leads e.leaves e =
      record { belt = o.belt; wanted = o.wanted; from = omega arith; before_t = omega (arith, (belt_ends ok f m).1) } in
      let same : e ≡ f = goes.only e owed in
      (same, ap (λ (g : Belt). way_on (plan_of b) x t g.leads) same ∙ next)

  -- where no other is required before its head
  pub way_required : (e : Belt) (r : List Belt) → Owed b x t e.leaves e → is_forbidden x e ≡ false
      → ((g : Belt) → Owed b x e.leads e.leaves g → g ≡ e) → way_on (plan_of b) x t e.leads ≡ some r
      → way_on (plan_of b) x t e.leaves ≡ some (e ∷ r)
  way_required e r o free only h =
      let (later, a, least) = relaxed_some ok e.leads t (remaining (plan_of b) x t e.leads) r h in
      let route : IsRoute (plan_of b) e.leaves t (e ∷ r) = (o.belt, refl, later) in
      is_relaxed ok e.leaves t (remaining (plan_of b) x t e.leaves) (e ∷ r) route
      ((remaining_step ok x t e.leaves e r route).1 (record { allowed = free; only = only }, a)) (first least)
    where
      first : ((q : List Belt) → IsRoute (plan_of b) e.leads t q → admits (remaining (plan_of b) x t e.leads) q ≡ true → before q r ≡ false)
          → (q : List Belt) → IsRoute (plan_of b) e.leaves t q → admits (remaining (plan_of b) x t e.leaves) q ≡ true → before q (e ∷ r) ≡ false
      first least [] k a = absurd (omega (arith, k, o.before_t))
      first least (f ∷ q) k a =
          let (goes, w) = (remaining_step ok x t e.leaves f q k).0 a in
          let owed : Owed b x f.leads e.leaves e =
          record { belt = o.belt; wanted = o.wanted; from = omega arith; before_t = omega (arith, k.1, (belt_ends ok f k.0).1) } in
          let same : e ≡ f = goes.only e owed in
          subst (λ (g : Belt). before (g ∷ q) (e ∷ r) ≡ false) same
          (before_cons e q r ∙ least q (subst (λ (g : Belt). IsRoute (plan_of b) g.leads t q) (sym same) k.2)
          (subst (λ (g : Belt). admits (remaining (plan_of b) x t g.leads) q ≡ true) (sym same) w))

-- ---- bounds: the limit of a bound is link_limit times the bound, and the highest link

pub bound_dear : (bound : ℕ) (o : Option (List Belt)) → bound * link_limit + (link_limit - 1) < rest_of o → at_most bound o ≡ none
bound_dear bound none h = refl
bound_dear bound (some r) h = at_most_none bound (some r) (omega arith)

pub bound_within : (bound : ℕ) (o : Option (List Belt)) → bound < way_limit → rest_of o ≤ bound * link_limit + (link_limit - 1) → at_most bound o ≡ o
bound_within bound none l h = absurd (omega arith)
bound_within bound (some r) l h = at_most_some bound (some r) (omega arith)

-- ---- the state between pieces

module _ {b : List ℕ} {x : Subproblem} {words numbers : List ℕ} {due forbidden t : ℕ} (q : Asked b x words numbers due forbidden t) where
  ok : Accepted b
  ok = q.accepted

  -- a required belt has a place
  required_arc : (g : Belt) → Memᴰ g (plan_of b).belts → is_required x g ≡ true
      → (v : ℕ) × (j : ℕ) × Arc (plan_of b) words numbers v j g × (bit due j ≡ true)
  required_arc g m h = go (test (is_named (plan_of b) g))
    where
      go : (is_named (plan_of b) g ≡ true) ⊎ (is_named (plan_of b) g ≡ false) → (v : ℕ) × (j : ℕ) × Arc (plan_of b) words numbers v j g × (bit due j ≡ true)
      go (inl n) =
          let (j, a) = q.tabled.has (g.leaves - 1) g m (omega (arith, (belt_ends ok g m).0)) n in
          (g.leaves - 1, j, a, sym (q.of_named (g.leaves - 1) j g a).0 ∙ h)
      go (inr n) = absurd (never h (q.of_nameless g m n).0)

  arc_required : {u k : ℕ} {e : Belt} → Arc (plan_of b) words numbers u k e → bit due k ≡ true → is_required x e ≡ true
  arc_required {u} {k} {e} a h = (q.of_named u k e a).0 ∙ h

  pub parted_start : (ways : List Way) → rest_at ways t ≡ 0 → Parted b x words numbers due t due t ways
  parted_start ways clear = record {
    within = omega arith;
    part = λ k h. h;
    come = λ u k e a h. inl h;
    under = inl refl;
    reached = inl refl;
    ready = λ _. record {
      price = clear ∙ sym (ap rest_of (way_end ok x (suc t)));
      trace = λ r h. subst (Traces ways) (some-injective [] r (sym (way_end ok x (suc t)) ∙ h)) tt;
    };
  }

  module _ {left nearest : ℕ} {ways : List Way} (w : Parted b x words numbers due t left nearest ways) where
    -- what cuts at place nearest
    reached : (suc nearest ≡ suc t) ⊎ ((g : Belt) × Memᴰ g (plan_of b).belts × (is_required x g ≡ true) × (g.leaves ≡ suc nearest))
    reached = go w.reached
      where
        go : (nearest ≡ t) ⊎ ((k : ℕ) × (g : Belt) × Arc (plan_of b) words numbers nearest k g × (bit due k ≡ true) × (bit left k ≡ false))
            → (suc nearest ≡ suc t) ⊎ ((g : Belt) × Memᴰ g (plan_of b).belts × (is_required x g ≡ true) × (g.leaves ≡ suc nearest))
        go (inl e) = inl (ap suc e)
        go (inr (k, g, a, h, n)) = inr (g, a.belt, arc_required a h, a.leaves)

    -- a piece from place low on, below which what is left leaves
    pieced : (low : ℕ) → ((v j : ℕ) (g : Belt) → Arc (plan_of b) words numbers v j g → bit left j ≡ true → v < low)
        → Piece b x words numbers due forbidden t low nearest
    pieced low under = record { asked = q; within = w.within; clear = clear; reached = reached }
      where
        clear : (g : Belt) → Memᴰ g (plan_of b).belts → is_required x g ≡ true → suc low ≤ g.leaves → g.leaves < suc nearest → ⊥
        clear g m h from up =
            let (v, j, a, r) = required_arc g m h in
            ⊎_elim (λ d. omega (arith, under v j g a d, a.leaves)) (λ l. omega (arith, a.leaves, l.0)) (w.come v j g a r)

    -- ---- none is left

    module _ (done : left ≡ 0) where
      none_left : (j : ℕ) → bit left j ≡ true → ⊥
      none_left j h = never (ap (λ (n : ℕ). bit n j) (sym done) ∙ h) (high_none 0 j (pow_pos j))

      pub last_piece : (s : ℕ) → Piece b x words numbers due forbidden t s nearest
      last_piece s = pieced s (λ v j g a h. absurd (none_left j h))

      pub last_ready : Ready b x t ways nearest
      last_ready = w.ready (λ v j g a h. absurd (none_left j h))

      pub last_way : (s : ℕ) → s ≤ nearest → way_on (plan_of b) x (suc t) (suc s) ≡ relaxed (plan_of b) (suc s) (suc t) x
      last_way s l = way_relaxed ok x (suc t) (suc s) owed
        where
          all_come : (u k : ℕ) (e : Belt) → Arc (plan_of b) words numbers u k e → bit due k ≡ true → (nearest ≤ u) × (u < t)
          all_come u k e a h = ⊎_elim (λ d. absurd (none_left k d)) (λ c. c) (w.come u k e a h)

          owed : AllOwed b x (suc t) (suc s)
          owed n m =
              let (e, i, same) = q.belts n m in
              let wanted : is_required x e ≡ true = in_mem x.required (Memᴰ.cast (sym same) m) in
              let (u, k, a, h) = required_arc e i wanted in
              let (from, to) = all_come u k e a h in
              (e, record { belt = i; wanted = wanted; from = omega (arith, a.leaves); before_t = omega (arith, a.leaves) }, same)

    -- ---- belt e is the next

    module _ {k : ℕ} (low : 2 ^ k ≤ left) (high : left < 2 ^ suc k) {u : ℕ} {e : Belt} (arc : Arc (plan_of b) words numbers u k e) where
      is_left : bit left k ≡ true
      is_left = top_set left k low high

      needed : bit due k ≡ true
      needed = w.part k is_left

      wanted : is_required x e ≡ true
      wanted = arc_required arc needed

      -- what is left leaves no later than it
      last : (v j : ℕ) (g : Belt) → Arc (plan_of b) words numbers v j g → bit left j ≡ true → v ≤ u
      last v j g a h = lower_tails ok q.tabled a arc (top_last left k low high j h)

      pub no_start : (s : ℕ) → u < s → relaxed (plan_of b) (suc s) (suc t) x ≡ none
      no_start s l = before_start ok x (suc s) (suc t) e arc.belt wanted (omega (arith, arc.leaves))

      pub no_route : (s : ℕ) → nearest < e.leads - 1 → relaxed (plan_of b) (suc s) (suc t) x ≡ none
      no_route s past = go w.reached w.under
        where
          end : nearest ≡ t → relaxed (plan_of b) (suc s) (suc t) x ≡ none
          end h = past_end ok x (suc s) (suc t) e arc.belt wanted (omega arith)

          go : (nearest ≡ t) ⊎ ((k : ℕ) × (g : Belt) × Arc (plan_of b) words numbers nearest k g × (bit due k ≡ true) × (bit left k ≡ false))
              → (nearest ≡ t) ⊎ ((u k : ℕ) (e : Belt) → Arc (plan_of b) words numbers u k e → bit left k ≡ true → u ≤ nearest)
              → relaxed (plan_of b) (suc s) (suc t) x ≡ none
          go (inl h) under = end h
          go (inr g) (inl h) = end h
          go (inr (j, g, a, h, n)) (inr under) =
              crossed ok x (suc s) (suc t) e arc.belt wanted g a.belt (arc_required a h)
              (omega (arith, arc.leaves, a.leaves, under u k e arc is_left)) (omega (arith, a.leaves))
              (λ same.
              let one : k ≡ j = q.tabled.once u nearest k j g (subst (λ (d : Belt). Arc (plan_of b) words numbers u k d) same arc) a in
              never (ap (bit left) (sym one) ∙ is_left) n)

      module _ (near : e.leads - 1 ≤ nearest) where
        head_above : u < e.leads - 1
        head_above = omega (arith, arc.leaves, (belt_ends ok e arc.belt).1)

        before_t : u < t
        before_t = omega (arith, head_above, w.within)

        pub next_piece : Piece b x words numbers due forbidden t (e.leads - 1) nearest
        next_piece = pieced (e.leads - 1) (λ v j g a h. omega (arith, last v j g a h, head_above))

        pub next_ready : Ready b x t ways nearest
        next_ready = w.ready (λ v j g a h. omega (arith, last v j g a h, head_above))

        -- the piece is done
        module _ {ways' : List Way} (stands : Stands b x t (e.leads - 1) nearest ways') where
          back : suc (e.leads - 1) ≡ e.leads
          back = omega (arith, (belt_ends ok e arc.belt).1)

          price : rest_at ways' (e.leads - 1) ≡ rest_of (way_on (plan_of b) x (suc t) e.leads)
          price = (stands (e.leads - 1) (omega arith) near).price ∙ ap (λ (n : ℕ). rest_of (way_on (plan_of b) x (suc t) n)) back

          here : Owed b x (suc t) e.leaves e
          here = record { belt = arc.belt; wanted = wanted; from = omega arith; before_t = omega (arith, arc.leaves, before_t) }

          over : (r : List Belt) → way_on (plan_of b) x (suc t) e.leads ≡ some r → over_belt ways' e ≡ cost (e ∷ r) * link_limit + link_of e
          over r h = omega (arith, price ∙ ap rest_of h)

          link : link_of e < link_limit
          link = link_of_lem ok e arc.belt

          pub dear_way : (s bound : ℕ) → s ≤ u → bound < way_limit → bound * link_limit + (link_limit - 1) < over_belt ways' e
              → at_most bound (relaxed (plan_of b) (suc s) (suc t) x) ≡ none
          dear_way s bound from l h = found (relaxed (plan_of b) (suc s) (suc t) x) refl
            where
              go : (o : Option (List Belt)) → way_on (plan_of b) x (suc t) e.leaves ≡ o → bound < way_cost o
              go none k = omega arith
              go (some []) k = absurd (omega (arith, way_route ok x (suc t) e.leaves [] k, here.before_t))
              go (some (f ∷ r)) k =
                  let (same, next) = required_way ok x (suc t) e here f r k in
                  omega (arith, over r next, link, ap (λ (g : Belt). g.cost) same)

              above : at_most bound (way_on (plan_of b) x (suc t) (suc s)) ≡ none
              above =
                  way_above ok x (suc t) e here bound (go (way_on (plan_of b) x (suc t) e.leaves) refl) (suc s) (omega (arith, arc.leaves))

              found : (o : Option (List Belt)) → relaxed (plan_of b) (suc s) (suc t) x ≡ o → at_most bound o ≡ none
              found none k = refl
              found (some r) k = ap (at_most bound) (sym (found_way ok x (suc s) (suc t) q.belts r k ∙ k)) ∙ above

          -- no other belt that is left leaves there: the way on is that over e
          stored : length ways' ≡ max_junctions → over_belt ways' e < far
              → ((v j : ℕ) (g : Belt) → Arc (plan_of b) words numbers v j g → bit (left - 2 ^ k) j ≡ true → v < u)
              → Ready b x t (entered ways' u (over_belt ways' e)) u
          stored size within others = go (way_on (plan_of b) x (suc t) e.leads) refl
            where
              only : (g : Belt) → Owed b x e.leads e.leaves g → g ≡ e
              only g o =
                  let (v, j, a, r) = required_arc g o.belt o.wanted in
                  ⊎_elim
                  (λ d.
                  ⊎_elim
                  (λ same. same_belt ok a (subst (λ (n : ℕ). Arc (plan_of b) words numbers u n e) (sym same) arc))
                  (λ d'. absurd (omega (arith, others v j g a d', a.leaves, arc.leaves, o.from)))
                  (in_rest left k low high j d))
                  (λ l. absurd (omega (arith, l.0, a.leaves, o.before_t, back)))
                  (w.come v j g a r)

              go : (o : Option (List Belt)) → way_on (plan_of b) x (suc t) e.leads ≡ o → Ready b x t (entered ways' u (over_belt ways' e)) u
              go none h = absurd (omega (arith, price ∙ ap rest_of h))
              go (some r) h =
                  let free = (q.of_named u k e arc).1 ∙ q.apart k needed in
                  let at : way_on (plan_of b) x (suc t) (suc u) ≡ some (e ∷ r) =
                  ap (way_on (plan_of b) x (suc t)) (sym arc.leaves) ∙ way_required ok x (suc t) e r here free only h in
                  let is = over r h in
                  let least : over_belt ways' e % link_limit ≡ link_of e = ap (λ (n : ℕ). n % link_limit) is ∙ (parts (cost (e ∷ r)) (link_of e) link).1 in
                  let first : First b x (suc t) (suc u) (over_belt ways' e) = record {
                    price = let p : over_belt ways' e - over_belt ways' e % link_limit ≡ rest_of (some (e ∷ r)) = omega arith in p ∙ sym (ap rest_of at);
                    link = λ f r' c. least ∙ ap link_of (head-eq_of_cons-eq (some-injective (e ∷ r) (f ∷ r') (sym at ∙ c)));
                  } in
                  ready_stored ok x t u (over_belt ways' e) ways' (omega (arith, tail_in ok arc, (plan_sizes ok).1)) size first
                  (λ f r' c. (stands (e.leads - 1) (omega arith) near).trace r'
                  (ap (way_on (plan_of b) x (suc t)) back ∙ h ∙ ap (λ (l : List Belt). some l) (tail-eq_of_cons-eq (some-injective (e ∷ r) (f ∷ r') (sym at ∙ c)))))

          pub parted_next : length ways' ≡ max_junctions → over_belt ways' e < far
              → Parted b x words numbers due t (left - 2 ^ k) u (entered ways' u (over_belt ways' e))
          parted_next size within = record {
            within = omega (arith, before_t);
            part = λ j h. w.part j (rest_in left k low high j h).0;
            come = come;
            under = inr (λ v j g a h. last v j g a (rest_in left k low high j h).0);
            reached = inr (k, e, arc, needed, rest_not left k low high k (omega arith));
            ready = stored size within;
          }
            where
              come : (v j : ℕ) (g : Belt) → Arc (plan_of b) words numbers v j g → bit due j ≡ true
                  → (bit (left - 2 ^ k) j ≡ true) ⊎ ((u ≤ v) × (v < t))
              come v j g a h = go (w.come v j g a h)
                where
                  go : (bit left j ≡ true) ⊎ ((nearest ≤ v) × (v < t)) → (bit (left - 2 ^ k) j ≡ true) ⊎ ((u ≤ v) × (v < t))
                  go (inl d) =
                      ⊎_elim
                      (λ same. inr (lower_tails ok q.tabled arc a (omega arith), omega (arith, last v j g a d, before_t)))
                      (λ d'. inl d')
                      (in_rest left k low high j d)
                  go (inr l) = inr (omega (arith, l.0, head_above, near), l.1)
