-- `Search::step` meets its contract: the six steps, on what the Search stands for (SearchState, SearchStep, SearchBound). Assumes nothing.
use mathlib.Core.Path.{◌≡◌, refl, sym, ◌∙◌, ap, subst, subst₂}
use mathlib.Core.Bool.{Bool, true, false, ◌||◌, or-true}
use mathlib.Core.Option.{Option}
use Prim.Native.Nat.{ℕ, ◌+◌, ◌-◌, ◌≤◌, ◌<◌}
use mathlib.Core.List.{List}
use lib.ListN.{length, set, length-set}
use native.Mathlib.Omega.{arith}
use Rattle.std.specs.Prelude.{Some, None}
use Rattle.std.specs.declared.option.Option as answer
use lib.Dec.{eqb, ltb}
use borrow.Author.Tests.{eq-eqb, ne_eqb, ltb-true, ltb-false}
use mathlib.Core.Logic.{◌⊎◌, inl, inr}
use Rattle.plan.proofs.Lists.{test}
use Rattle.plan.specs.Bounds.{max_steps}
use Rattle.plan.specs.Plan.{Belt}
use Rattle.route.specs.declared.belts.Route.{Route}
use Rattle.route.specs.declared.relax.Fixings.{Fixings}
use Rattle.route.specs.declared.relax.Summary.{Summary}
use Rattle.route.specs.Routes.{lower}
use Rattle.route.specs.Permission.{passes}
use Rattle.route.specs.Values.{Known, route_in, subproblem_in, has_belt, at_most, summary_as, walked_of, first_belts, ids_of, lower_ids}
use Rattle.route.proofs.RouteOrder.{lower_known}
use Rattle.route.proofs.RelaxBound.{walked_size}
use Rattle.search.specs.declared.query.Query.{Query}
use Rattle.search.specs.declared.state.Search.{Search}
use Rattle.search.specs.declared.state.Ending.{Ending}
use Rattle.search.specs.declared.state.Judged.{Judged}
use Rattle.search.specs.declared.state.Judged.TheVariants.{Drop}
use Rattle.search.specs.Search.{considered}
use Rattle.search.specs.Answers.{problem_in}
use Rattle.search.specs.Values.{no_fixings, is_held, state_in, ending_in, turn_in, Valid, Ready, step_in, newest_of, relaxed_in, walked_by, max_waiting}
use Rattle.search.specs.Inner.{held_as, price_of, better_in, judged_in, judged_by}
use Rattle.search.proofs.PrepareNumbers.{prepared_graph, prepared_ruled}
use Rattle.search.proofs.SearchState.{settled_to, Room, Taken, Settles, popped, count_few, popped_taken}
use Rattle.search.proofs.SearchStep.{OnRoute, answered, judged_same, judged_settles, step_empty, step_spent, step_goes}
use Rattle.search.proofs.SearchBound.{bound_low, Held, Tells, tells, held_few, held_back}
use Rattle.search.proofs.state.Search.step.Goals.{After-relaxed_route-summary, In-Some, In-Branch, in-Some+then-improved_by+in-Drop, in-Some+then-improved_by+in-Best, in-Some+then-improved_by+in-Branch, in-Some+else-improved_by, in_default}
use Rattle.search.proofs.state.Search.step.Goals as goal

-- ---- what is known once the newest subproblem of the Search v is opened

-- the arrays are prepared of the plan b, and v is a Search of it; the walk answered the summary s, and left `left` in what was `room`
record Opened (b words numbers stops clauses : List ℕ) (q : Query) (v : Search) (room left : List ℕ) (a : answer.Option Summary) : Type 0 where
  ready : Ready b words numbers stops clauses q
  valid : Valid b v
  size : length v.waiting ≡ max_waiting
  waits : v.count ≡ 0 → ⊥
  long : length room ≡ max_steps
  found : (a ≡ summary_as b (at_most v.bound (relaxed_in b q.trip (newest_of v))))
      × (left ≡ walked_of (at_most v.bound (relaxed_in b q.trip (newest_of v))) room)

module _ {b words numbers stops clauses : List ℕ} {q : Query} {v : Search} {room left : List ℕ} {a : answer.Option Summary} (h : Opened b words numbers stops clauses q v room left a) where
  abbrev newest : Fixings
  newest = newest_of v

  -- the relaxed route of the newest
  abbrev relaxed : Option (List Belt)
  relaxed = relaxed_in b q.trip newest

  taken : Taken b (popped v) newest
  taken = popped_taken h.ready.prepared.accepted v h.size h.valid h.waits

  -- what the answer tells of it
  told : Tells b relaxed (is_held v.bound) v.best v.bound a
  told =
      tells h.ready.prepared.accepted h.ready.prepared.bytes q.trip h.ready.junctions newest (is_held v.bound) v.best
      h.valid.known v.bound h.valid.bound_is a h.found.0

  -- ---- whether its relaxed route improves on the best

  abbrev Better : Bool → Type 0
  Better t = t ≡ better_in b relaxed (is_held v.bound) v.best

  -- ---- what becomes of it

  -- the Search once the decision j is carried out
  abbrev settled : Judged → Search
  settled j = settled_to newest q.order (held_as relaxed) (price_of relaxed) (popped v) j

  -- what it stands for is what steps 3 to 6 do
  abbrev Settled : Judged → Type 0
  Settled j =
      Settles b (popped v) newest q (held_as relaxed) (price_of relaxed)
      (considered (problem_in b q) (subproblem_in b newest) (state_in b (popped v)) relaxed)
      j

  -- what becomes of it, where its relaxed route improves on the best
  abbrev judged : Judged
  judged = judged_in b q newest (passes (route_in b (held_as relaxed)))

  settles : (t : Bool) → Better t → Settled (judged_by t judged)
  settles t e =
      let size = length-set v.waiting (v.count - 1) no_fixings ∙ h.size in
      subst (λ (u : Bool). Settled (judged_by u judged)) (sym e)
      (judged_settles h.ready.prepared.accepted h.ready.prepared.bytes (popped v) size newest taken q h.ready.junctions relaxed refl)

  settles_worse : Better false → Settled Drop
  settles_worse e = settles false e

  -- what the summary s of a relaxed route within the bound tells
  module _ {s : Summary} (held : Held b v.bound relaxed s) where
    asked : (s.count ≤ max_steps) × (length left ≡ max_steps)
    asked = (
      held_few h.ready.prepared.accepted h.ready.prepared.bytes q.trip h.ready.junctions newest held,
      ap length h.found.1 ∙ walked_size (at_most v.bound relaxed) room ∙ h.long,
    )

    read : first_belts s.count left ≡ held_as relaxed
    read =
        ap (first_belts s.count) h.found.1
        ∙ held_back h.ready.prepared.accepted h.ready.prepared.bytes q.trip h.ready.junctions newest held room h.long

    -- it is of belts of the plan, and the mask has its named ones
    held_on : OnRoute b s.named (held_as relaxed) × (route_in b (held_as relaxed) ≡ held.route)
    held_on =
        let (on, zero, same) =
        answered h.ready.prepared.accepted h.ready.prepared.bytes q.trip.s q.trip.t h.ready.junctions (subproblem_in b newest) held.route held.is in
        (subst₂ (OnRoute b) (sym (ap (λ (w : Summary). w.named) held.summary)) (sym (ap held_as held.is)) on, ap (λ (o : Option (List Belt)). route_in b (held_as o)) held.is ∙ same)

    better_less : s.cost < v.bound → Better true
    better_less l = sym (told.less s held l)

    -- where it costs as much as the best, the belts that are read decide
    better_tied : v.bound ≤ s.cost → (r : Route) → r ≡ first_belts s.count left → (t : Bool) → t ≡ lower_ids (ids_of r) (ids_of v.best) → Better t
    better_tied l r is t e =
        let compared = is ∙ read in
        let known : Known b r = subst (Known b) (sym compared) held_on.0.known in
        e
        ∙ sym (lower_known h.ready.prepared.accepted r v.best known h.valid.known)
        ∙ ap (λ (x : Route). lower (route_in b x) (route_in b v.best)) compared
        ∙ ap (λ (x : List Belt). lower x (route_in b v.best)) held_on.1
        ∙ sym (told.tied s held l)

    better : (t : Bool) → t ≡ (ltb s.cost v.bound || lower_ids (ids_of (first_belts s.count left)) (ids_of v.best)) → Better t
    better t e = go (test (ltb s.cost v.bound))
      where
        go : (ltb s.cost v.bound ≡ true) ⊎ (ltb s.cost v.bound ≡ false) → Better t
        go (inl less) = e ∙ ap (λ (u : Bool). u || lower_ids (ids_of (first_belts s.count left)) (ids_of v.best)) less ∙ better_less (ltb-true s.cost v.bound less)
        go (inr more) =
            better_tied (ltb-false s.cost v.bound more) (first_belts s.count left) refl t
            (e ∙ ap (λ (u : Bool). u || lower_ids (ids_of (first_belts s.count left)) (ids_of v.best)) more)

    settles_better : Better true → (j : Judged) → j ≡ judged_in b q newest (has_belt b s.named) → Settled j
    settles_better e j is =
        let ruled = prepared_ruled h.ready.prepared in
        let same = judged_same ruled.accepted q newest s.named (held_as relaxed) held_on.0 in
        subst Settled (sym (is ∙ same)) (settles true e)

  -- a step that goes on hands back the Search w
  abbrev Done : Search → Type 0
  Done w = (turn_in b (record { search = w; ending = None }) ≡ step_in b q v) × Valid b w

  done : (v.opened ≡ q.budget → ⊥) → (j : Judged) (w : Search) → Settled j → w ≡ settled j → Done w
  done unspent j w all e = (
    step_goes b q q.budget v h.waits unspent w (ap (state_in b) e ∙ all.state),
    subst (Valid b) (sym e) all.valid,
  )

-- ---- a step that ends the search

-- the room after a step from v, where t says whether the step ends the search
abbrev walked_from : List ℕ → Query → Search → List ℕ → Bool → List ℕ
walked_from b q v room t = walked_by t (at_most v.bound (relaxed_in b q.trip (newest_of v))) room

pub returns-then-self-eq0 : goal.returns-then-self-eq0
returns-then-self-eq0 c =
    let q = c.args.query in
    let v = c.args.self in
    let none = c.if-self-eq0.true in
    λ b ready valid. (
      ap (λ (e : Ending). record { state = state_in b v; ending = ending_in (Some e) }) c.at_end.ensures ∙ step_empty b q q.budget v none,
      valid,
      sym (ap (λ (t : Bool). walked_from b q v c.args.scratch.now.walked (t || eqb v.opened q.budget)) (eq-eqb v.count 0 none)),
    )

pub returns-then-self-query : goal.returns-then-self-query
returns-then-self-query c =
    let q = c.args.query in
    let v = c.args.self in
    let spent = c.if-self-query.true in
    λ b ready valid. (
      step_spent b q q.budget v c.if-self-eq0.false spent,
      valid,
      sym (ap (walked_from b q v c.args.scratch.now.walked) ((λ i. eqb v.count 0 || eq-eqb v.opened q.budget spent i) ∙ or-true (eqb v.count 0))),
    )

-- ---- the newest is taken

pub offset_bounds-waiting-top : goal.offset_bounds-waiting-top
offset_bounds-waiting-top c =
    record { fits = omega (arith, count_few c.requires.ready.1.prepared.accepted c.requires.ready.2) }

pub bounds-waiting-top : goal.bounds-waiting-top
bounds-waiting-top c = omega (arith, count_few c.requires.ready.1.prepared.accepted c.requires.ready.2)

pub offset_bounds-waiting-top-2 : goal.offset_bounds-waiting-top-2
offset_bounds-waiting-top-2 c =
    record { fits = omega (arith, count_few c.requires.ready.1.prepared.accepted c.requires.ready.2) }

pub bounds-waiting-top-2 : goal.bounds-waiting-top-2
bounds-waiting-top-2 c = omega (arith, count_few c.requires.ready.1.prepared.accepted c.requires.ready.2)

pub relaxed_route-summary-requires : goal.relaxed_route-summary-requires
relaxed_route-summary-requires c =
    let (b, ready, valid) = c.requires.ready in
    let v = c.args.self in
    let ok = ready.prepared.accepted in
    let low = bound_low ok ready.prepared.bytes (is_held v.bound) v.best valid.known in
    let size : length v.waiting ≡ max_waiting = omega arith in (
      (b, prepared_graph ready.prepared, ready.junctions, (popped_taken ok v size valid c.if-self-eq0.false).required),
      omega (arith, low, valid.bound_is),
    )

-- ---- a relaxed route that costs as much as the best

module _ (c : After-relaxed_route-summary) {b : List ℕ}
    (ready : Ready b c.args.prepared.words.now c.args.prepared.numbers.now c.args.prepared.places.now c.args.prepared.clauses.now c.args.query)
    (valid : Valid b c.args.self) where
  opened : Opened b c.args.prepared.words.now c.args.prepared.numbers.now c.args.prepared.places.now c.args.prepared.clauses.now c.args.query c.args.self
      c.args.scratch.now.walked c.relaxed_route-summary.new.scratch.walked c.relaxed_route-summary.result
  opened =
      let v = c.args.self in
      let size : length v.waiting ≡ max_waiting = omega arith in
      let required = (popped_taken ready.prepared.accepted v size valid c.if-self-eq0.false).required in record {
        ready = ready;
        valid = valid;
        size = size;
        waits = c.if-self-eq0.false;
        long = omega arith;
        found = c.relaxed_route-summary.ensures b (prepared_graph ready.prepared) ready.junctions required;
      }

-- the summary is of the relaxed route
held_of : (c : In-Some) {b : List ℕ}
    (h : Opened b c.args.prepared.words.now c.args.prepared.numbers.now c.args.prepared.places.now c.args.prepared.clauses.now c.args.query c.args.self
    c.args.scratch.now.walked c.relaxed_route-summary.new.scratch.walked c.relaxed_route-summary.result)
    → Held b c.args.self.bound (relaxed h) c.in-Some.summary
held_of c h = (told h).held c.in-Some.summary c.in-Some.is

pub improved_by-requires : goal.improved_by-requires
improved_by-requires c =
    let at = goal.at.improved_by-requires c in
    let h = opened at.After-relaxed_route-summary c.requires.ready.1 c.requires.ready.2 in
    (asked h (held_of at.In-Some h)).0

-- ---- the subproblem is judged

pub of_belts-self-requires : goal.of_belts-self-requires
of_belts-self-requires c =
    let at = goal.at.of_belts-self-requires c in
    let h = opened at.After-relaxed_route-summary c.requires.ready.1 c.requires.ready.2 in
    asked h (held_of at.In-Some h)

-- there is room for both children
room : (c : In-Branch) (h : Opened c.requires.ready.0 c.args.prepared.words.now c.args.prepared.numbers.now c.args.prepared.places.now c.args.prepared.clauses.now c.args.query c.args.self
    c.args.scratch.now.walked c.relaxed_route-summary.new.scratch.walked c.relaxed_route-summary.result)
    → Held c.requires.ready.0 c.args.self.bound (relaxed h) c.in-Some.summary → (c.args.self.count - 1 ≤ max_waiting - 2) × (c.in-Branch.k < 64)
room c h held =
    let j = c.judge.result in
    let is = c.judge.ensures c.requires.ready.0 (prepared_ruled h.ready.prepared) h.ready.prepared.numbered h.ready.lock in
    subst (Room (popped c.args.self)) c.in-Branch.is (settles_better h held (better h held true (sym c.if-improved_by.true ∙ c.improved_by.ensures)) j is).room

pub child-requires : goal.child-requires
child-requires c =
    let at = goal.at.child-requires c in
    let h = opened at.After-relaxed_route-summary c.requires.ready.1 c.requires.ready.2 in
    let held = held_of at.In-Some h in
    (room at.In-Branch h held).1

pub child-requires-in-Branch : goal.child-requires-in-Branch
child-requires-in-Branch c =
    let at = goal.at.child-requires-in-Branch c in
    let h = opened at.After-relaxed_route-summary c.requires.ready.1 c.requires.ready.2 in
    let held = held_of at.In-Some h in
    (room at.In-Branch h held).1

pub offset_bounds-waiting-top-in-Branch : goal.offset_bounds-waiting-top-in-Branch
offset_bounds-waiting-top-in-Branch c =
    record { fits = omega (arith, count_few c.requires.ready.1.prepared.accepted c.requires.ready.2) }

pub bounds-waiting-top-in-Branch : goal.bounds-waiting-top-in-Branch
bounds-waiting-top-in-Branch c = omega (arith, count_few c.requires.ready.1.prepared.accepted c.requires.ready.2)

pub offset_bounds-waiting-top-in-Branch-2 : goal.offset_bounds-waiting-top-in-Branch-2
offset_bounds-waiting-top-in-Branch-2 c =
    record { fits = omega (arith, count_few c.requires.ready.1.prepared.accepted c.requires.ready.2) }

pub bounds-waiting-top-in-Branch-2 : goal.bounds-waiting-top-in-Branch-2
bounds-waiting-top-in-Branch-2 c =
    let at = goal.at.bounds-waiting-top-in-Branch-2 c in
    let h = opened at.After-relaxed_route-summary c.requires.ready.1 c.requires.ready.2 in
    let held = held_of at.In-Some h in
    omega (arith, (room at.In-Branch h held).0)

pub overflow_add-self-in-Branch : goal.overflow_add-self-in-Branch
overflow_add-self-in-Branch c =
    record { fits = omega (arith, count_few c.requires.ready.1.prepared.accepted c.requires.ready.2) }

-- ---- what is handed back

-- the Search v with the subproblems ws waiting
abbrev with_waiting : Search → List Fixings → Search
with_waiting v ws = record { waiting = ws; count = v.count; opened = v.opened; best = v.best; bound = v.bound }

-- the Search v after one more subproblem is opened, where n of the subproblems ws wait and the best is r, that costs k
abbrev after : Search → List Fixings → ℕ → Route → ℕ → Search
after v ws n r k = record { waiting = ws; count = n; opened = v.opened + 1; best = r; bound = k }

-- the newest is taken off
popped_is : (v : Search) → after v (set v.waiting (v.count - 1) no_fixings) (v.count - 1) v.best v.bound ≡ popped v
popped_is v = refl

pub returns : goal.returns
returns c = λ b ready valid.
    let at = goal.at.returns c in
    let q = c.args.query in
    let v = c.args.self in
    let h = opened at.After-relaxed_route-summary ready valid in
    let unspent = c.if-self-query.false in
    let waits = ne_eqb v.count 0 c.if-self-eq0.false in
    let w : Search = with_waiting c.match-summary.self c.match-summary.waiting in
    let (turn, next) : Done h w = elim c.match-summary.branch [
      | in-Some+then-improved_by+in-Drop u ↦
          let held = (told h).held u.in-Some.summary u.in-Some.is in
          let better_is = better h held true (sym u.if-improved_by.true ∙ u.improved_by.ensures) in
          let is = u.judge.ensures b (prepared_ruled ready.prepared) ready.prepared.numbered ready.lock in
          done h unspent u.judge.result w (settles_better h held better_is u.judge.result is)
          ((λ i. with_waiting (u.self-is i) (u.waiting-is i)) ∙ popped_is v ∙ sym (ap (settled h) u.in-Drop.is))
      | in-Some+then-improved_by+in-Best u ↦
          let held = (told h).held u.in-Some.summary u.in-Some.is in
          let better_is = better h held true (sym u.if-improved_by.true ∙ u.improved_by.ensures) in
          let is = u.judge.ensures b (prepared_ruled ready.prepared) ready.prepared.numbered ready.lock in
          let best = u.of_belts-self.ensures ∙ read h held in
          let cost_is = ap (λ (x : Summary). x.cost) held.summary ∙ sym (ap price_of held.is) in
          done h unspent u.judge.result w (settles_better h held better_is u.judge.result is)
          ((λ i. with_waiting (u.self-is i) (u.waiting-is i))
          ∙ (λ i. after v (set v.waiting (v.count - 1) no_fixings) (v.count - 1) (best i) (cost_is i))
          ∙ sym (ap (settled h) u.in-Best.is))
      | in-Some+then-improved_by+in-Branch u ↦
          let held = (told h).held u.in-Some.summary u.in-Some.is in
          let better_is = better h held true (sym u.if-improved_by.true ∙ u.improved_by.ensures) in
          let is = u.judge.ensures b (prepared_ruled ready.prepared) ready.prepared.numbered ready.lock in
          done h unspent u.judge.result w (settles_better h held better_is u.judge.result is)
          ((λ i. with_waiting (u.self-is i) (u.waiting-is i))
          ∙ (λ i.
          after v (set (set (set v.waiting (v.count - 1) no_fixings) (v.count - 1) (u.child.ensures i)) (v.count - 1 + 1) (u.child-in-Branch.ensures i))
          (v.count - 1 + 2) v.best v.bound)
          ∙ sym (ap (settled h) u.in-Branch.is))
      | in-Some+else-improved_by u ↦
          let held = (told h).held u.in-Some.summary u.in-Some.is in
          let worse = better h held false (sym u.if-improved_by.false ∙ u.improved_by.ensures) in
          done h unspent Drop w (settles_worse h worse) ((λ i. with_waiting (u.self-is i) (u.waiting-is i)) ∙ popped_is v)
      | in_default u ↦
          done h unspent Drop w (settles_worse h (sym ((told h).lost u.in_default.is))) ((λ i. with_waiting (u.self-is i) (u.waiting-is i)) ∙ popped_is v)
    ] in (
      turn,
      next,
      h.found.1
          ∙ sym (λ i. walked_from b q v c.args.scratch.now.walked (waits i || ne_eqb v.opened q.budget unspent i)),
    )
