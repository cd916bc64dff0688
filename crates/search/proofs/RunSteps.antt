-- The sequence of states, the steps, and the run: what they have to do with each other, whatever the search is about. The one idea: state
-- number n is the state that has opened n, a step that goes on leads from a state to the next one, and the first state in which nothing
-- waits is the last. So a run stands in a state of the sequence all the time, and how it ends says in which one: the last, or that of the
-- budget.
--
--   opens_one          an opening counts one
--   along              what holds of the first state, and of the next wherever it holds of a state, holds of all states of the sequence
--   state_opened       state number n has opened n
--   none_after, last_is_last, none_waits
--                      after a state in which nothing waits there is none
--   Finding            what a step finds; step_empty, step_spent, step_opens: what it then hands back
--   run_goes, run_ends
--                      what a step that goes on, and one that ends, does to the run: for a loop over `step`
--   Over               what is known of a run that has ended; over, run_is_over: a run has ended before its steps are at an end
--   run_over, run_found, run_nothing, run_counted, run_complete, run_spent_at, run_spent, run_larger
--                      what follows for the run to its ending
--   within_claim       WithinClaim: what holds after any number of steps
--
-- Assumes nothing.
use mathlib.Core.Path.{◌≡◌, refl, sym, ◌∙◌, ap, subst}
use mathlib.Core.Logic.{◌⊎◌, inl, inr, ◌↔◌}
use mathlib.Core.Bool.{Bool, true, false}
use mathlib.Core.Option.{Option, none, some, none-ne-some, some-injective}
use Prim.Native.Nat.{ℕ, zero, suc, ◌+◌, ◌-◌, ◌≤◌, ◌<◌}
use mathlib.Core.List.{List, [], ◌∷◌, cons-ne-nil}
use native.Mathlib.Omega.{arith}
use native.Mathlib.Nat.{eq-or-lt_of_le}
use lib.Dec.{eqb, ltb}
use borrow.Author.Tests.{ltb-true, ltb-false, eqb-true, eqb-false, eq-eqb, ne_eqb}
use Rattle.plan.specs.Plan.{Belt}
use Rattle.plan.proofs.Lists.{test}
use Rattle.route.specs.Subproblems.{Subproblem, relaxed}
use Rattle.search.specs.Search.{Problem, State, begun, branched, tested, setting_of, compared, improves, considered, take_at, open_next, next_among, next, state_at, taken_off}
use Rattle.search.specs.Search.{Ending, found_route, found_none, budget_spent, Turn, at_end, budgeted, step_of, step, onward, runs, run}
use Rattle.search.specs.Claims.{WaitsAt, WithinClaim}

-- ---- the count: what is done with a subproblem that was taken does not change it

module _ (q : Problem) (x : Subproblem) (st : State) where
  branched_opened : (o : Option ℕ) → (branched q x st o).opened ≡ st.opened
  branched_opened none = refl
  branched_opened (some e) = refl

  tested_opened : (r : List Belt) (o : Option ℕ) → (tested q x st r o).opened ≡ st.opened
  tested_opened r none = branched_opened (q.pick x r)
  tested_opened r (some σ) = refl

  compared_opened : (r : List Belt) (t : Bool) → (compared q x st r t).opened ≡ st.opened
  compared_opened r true = tested_opened r (setting_of q.terms r)
  compared_opened r false = refl

  considered_opened : (o : Option (List Belt)) → (considered q x st o).opened ≡ st.opened
  considered_opened none = refl
  considered_opened (some r) = compared_opened r (improves r st.best)

pub opens_one : (q : Problem) (st : State) (x : Subproblem) (xs : List Subproblem) → (open_next q st x xs).opened ≡ suc st.opened
opens_one q st x xs =
    let taken = take_at (q.choose st) x xs in
    considered_opened q taken.0 (taken_off st taken.1) (relaxed q.plan q.s q.t taken.0)

-- ---- the sequence

module _ (q : Problem) where
  -- the state after one in which some wait
  state_next : (n : ℕ) (st : State) (x : Subproblem) (xs : List Subproblem) → state_at q n ≡ some st → st.waiting ≡ x ∷ xs
      → state_at q (suc n) ≡ some (open_next q st x xs)
  state_next n st x xs h w = ap (next q) h ∙ ap (next_among q st) w

  -- what holds of the first state, and of the next wherever it holds of a state, holds of all
  pub along : (P : ℕ → State → Type 0) → P 0 begun
      → ((n : ℕ) (st : State) (x : Subproblem) (xs : List Subproblem) → st.waiting ≡ x ∷ xs → P n st → P (suc n) (open_next q st x xs))
      → (n : ℕ) (st : State) → state_at q n ≡ some st → P n st
  along P first then zero st h = subst (P 0) (some-injective begun st h) first
  along P first then (suc n) st h = before (along P first then n) (state_at q n) refl
    where
      waits : ((old : State) → state_at q n ≡ some old → P n old) → (old : State) → state_at q n ≡ some old
          → (xs : List Subproblem) → old.waiting ≡ xs → P (suc n) st
      waits below old k [] w = absurd (none-ne-some st (sym (ap (next q) k ∙ ap (next_among q old) w) ∙ h))
      waits below old k (x ∷ xs) w =
          subst (P (suc n)) (some-injective (open_next q old x xs) st (sym (state_next n old x xs k w) ∙ h)) (then n old x xs w (below old k))

      before : ((old : State) → state_at q n ≡ some old → P n old) → (o : Option State) → state_at q n ≡ o → P (suc n) st
      before below none k = absurd (none-ne-some st (sym (ap (next q) k) ∙ h))
      before below (some old) k = waits below old k old.waiting refl

pub state_opened : (q : Problem) (n : ℕ) (st : State) → state_at q n ≡ some st → st.opened ≡ n
state_opened q =
    along q (λ (n : ℕ) (st : State). st.opened ≡ n) refl (λ n st x xs w e. opens_one q st x xs ∙ ap (λ (k : ℕ). suc k) e)

module _ (q : Problem) where
  -- after a state in which nothing waits there is none
  none_after : (m : ℕ) (st : State) → state_at q m ≡ some st → st.waiting ≡ [] → (n : ℕ) → m < n → state_at q n ≡ none
  none_after m st h w zero l = absurd (omega arith)
  none_after m st h w (suc n) l = go (none_after m st h w n) (eq-or-lt_of_le (omega arith))
    where
      go : (m < n → state_at q n ≡ none) → (m ≡ n) ⊎ (m < n) → state_at q (suc n) ≡ none
      go below (inl e) = ap (λ (k : ℕ). next q (state_at q k)) (sym e) ∙ ap (next q) h ∙ ap (next_among q st) w
      go below (inr k) = ap (next q) (below k)

  -- so every state of the sequence is that one or comes before it
  last_is_last : (m : ℕ) (st : State) → state_at q m ≡ some st → st.waiting ≡ [] → (n : ℕ) (old : State) → state_at q n ≡ some old → n ≤ m
  last_is_last m st h w n old k = go (test (ltb m n))
    where
      go : (ltb m n ≡ true) ⊎ (ltb m n ≡ false) → n ≤ m
      go (inl t) = absurd (none-ne-some old (sym (none_after m st h w n (ltb-true m n t)) ∙ k))
      go (inr t) = ltb-false m n t

  -- one number, one state
  same_state : (m n : ℕ) (st old : State) → state_at q m ≡ some st → state_at q n ≡ some old → m ≡ n → st ≡ old
  same_state m n st old h k e = some-injective st old (sym h ∙ ap (state_at q) e ∙ k)

  -- from the last state on none has a waiting subproblem
  none_waits : (m : ℕ) (st : State) → state_at q m ≡ some st → st.waiting ≡ [] → (n : ℕ) → m ≤ n → WaitsAt q n → ⊥
  none_waits m st h w n l (old, k, u) =
      let back : n ≤ m = last_is_last m st h w n old k in
      u (ap (λ (at : State). at.waiting) (same_state n m old st k h (omega arith)) ∙ w)

-- ---- one step

-- what a step finds
data Finding (budget : ℕ) (st : State) : Type 0 where
  empty : st.waiting ≡ [] → Finding budget st
  spent : (x : Subproblem) (xs : List Subproblem) → st.waiting ≡ x ∷ xs → st.opened ≡ budget → Finding budget st
  opens : (x : Subproblem) (xs : List Subproblem) → st.waiting ≡ x ∷ xs → (st.opened ≡ budget → ⊥) → Finding budget st

finding : (budget : ℕ) (st : State) → Finding budget st
finding budget st = go st.waiting refl (test (eqb st.opened budget))
  where
    go : (xs : List Subproblem) → st.waiting ≡ xs → (eqb st.opened budget ≡ true) ⊎ (eqb st.opened budget ≡ false) → Finding budget st
    go [] w t = empty w
    go (x ∷ xs) w (inl t) = spent x xs w (eqb-true st.opened budget t)
    go (x ∷ xs) w (inr t) = opens x xs w (eqb-false st.opened budget t)

-- what a step that ends hands back
abbrev unchanged : State → Ending → Turn
unchanged st e = record { state = st; ending = some e }

module _ (q : Problem) (budget : ℕ) (st : State) where
  step_empty : st.waiting ≡ [] → step q budget st ≡ unchanged st (at_end st.best)
  step_empty w = ap (step_of q budget st) w

  module _ (x : Subproblem) (xs : List Subproblem) (w : st.waiting ≡ x ∷ xs) where
    step_spent : st.opened ≡ budget → step q budget st ≡ unchanged st budget_spent
    step_spent e = ap (step_of q budget st) w ∙ ap (budgeted q st x xs) (eq-eqb st.opened budget e)

    step_opens : (st.opened ≡ budget → ⊥) → step q budget st ≡ record { state = open_next q st x xs; ending = none }
    step_opens e = ap (step_of q budget st) w ∙ ap (budgeted q st x xs) (ne_eqb st.opened budget e)

-- ---- endings are apart, and the ending where nothing waits tells whether a best is held

ends_goes : (e : Ending) → some e ≡ none → ⊥
ends_goes e h = none-ne-some e (sym h)

found_unspent : {o : Option Ending} → o ≡ some found_route → o ≡ some budget_spent → ⊥
found_unspent h k = let z : ◌≡◌ {A = ℕ} 0 1 = cc in absurd (omega arith)

nothing_unspent : {o : Option Ending} → o ≡ some found_none → o ≡ some budget_spent → ⊥
nothing_unspent h k = let z : ◌≡◌ {A = ℕ} 0 1 = cc in absurd (omega arith)

at_end_spent : (o : Option (List Belt)) → some (at_end o) ≡ some budget_spent → ⊥
at_end_spent none e = let z : ◌≡◌ {A = ℕ} 0 1 = cc in absurd (omega arith)
at_end_spent (some r) e = let z : ◌≡◌ {A = ℕ} 0 1 = cc in absurd (omega arith)

at_end_found : (o : Option (List Belt)) → some (at_end o) ≡ some found_route → (r : List Belt) × (o ≡ some r)
at_end_found none e = let z : ◌≡◌ {A = ℕ} 0 1 = cc in absurd (omega arith)
at_end_found (some r) e = (r, refl)

at_end_nothing : (o : Option (List Belt)) → some (at_end o) ≡ some found_none → o ≡ none
at_end_nothing none e = refl
at_end_nothing (some r) e = let z : ◌≡◌ {A = ℕ} 0 1 = cc in absurd (omega arith)

-- ---- for a loop over `step`

-- a step that goes on has opened one, and the budget was not spent
goes_opens : (q : Problem) (budget : ℕ) (st : State) → (step q budget st).ending ≡ none
    → ((step q budget st).state.opened ≡ suc st.opened) × (st.opened ≡ budget → ⊥)
goes_opens q budget st g = go (finding budget st)
  where
    ending : {t : Turn} → step q budget st ≡ t → t.ending ≡ none
    ending h = sym (ap (λ (t : Turn). t.ending) h) ∙ g

    go : Finding budget st → ((step q budget st).state.opened ≡ suc st.opened) × (st.opened ≡ budget → ⊥)
    go (empty w) = absurd (ends_goes (at_end st.best) (ending (step_empty q budget st w)))
    go (spent x xs w e) = absurd (ends_goes budget_spent (ending (step_spent q budget st x xs w e)))
    go (opens x xs w e) = (ap (λ (t : Turn). t.state.opened) (step_opens q budget st x xs w e) ∙ opens_one q st x xs, e)

pub run_goes : (q : Problem) (budget : ℕ) (st : State) → st.opened ≤ budget → (step q budget st).ending ≡ none
    → ((step q budget st).state.opened ≡ suc st.opened) × (st.opened < budget)
    × (runs q budget (suc (budget - st.opened)) st ≡ runs q budget (suc (budget - (step q budget st).state.opened)) (step q budget st).state)
run_goes q budget st h g =
    let (one, unspent) = goes_opens q budget st g in
    let below : st.opened < budget = omega (arith, unspent) in
    let after = (step q budget st).state in
    let left : budget - st.opened ≡ suc (budget - after.opened) = omega (arith, one) in
    (one, below, ap (onward (runs q budget (budget - st.opened)) after) g ∙ ap (λ (n : ℕ). runs q budget n after) left)

pub run_ends : (q : Problem) (budget n : ℕ) (st : State) → ((step q budget st).ending ≡ none → ⊥) → runs q budget (suc n) st ≡ step q budget st
run_ends q budget n st h = go (step q budget st).state (step q budget st).ending h
  where
    go : (at : State) (o : Option Ending) → (o ≡ none → ⊥) → onward (runs q budget n) at o ≡ record { state = at; ending = o }
    go at none k = absurd (k refl)
    go at (some e) k = refl

-- ---- the run to its ending

-- how a run ends: nothing waits, or one waits and as many are opened as the budget has
data How (budget : ℕ) (v : Turn) : Type 0 where
  whole : v.state.waiting ≡ [] → v.ending ≡ some (at_end v.state.best) → How budget v
  short : (v.state.waiting ≡ [] → ⊥) → v.state.opened ≡ budget → v.ending ≡ some budget_spent → How budget v

-- what is known of a run that has ended: it stands in a state of the sequence
record Over (q : Problem) (budget : ℕ) (v : Turn) : Type 0 where
  counted : state_at q v.state.opened ≡ some v.state
  within : v.state.opened ≤ budget
  how : How budget v

-- a run from a state of the sequence has ended before its steps are at an end: each opens one, and the budget bounds what is opened
over : (q : Problem) (budget n : ℕ) (st : State) → state_at q st.opened ≡ some st → st.opened ≤ budget → budget < n + st.opened
    → Over q budget (runs q budget n st)
over q budget zero st h l f = absurd (omega arith)
over q budget (suc n) st h l f = go (over q budget n) (finding budget st)
  where
    -- by a step that ends
    ends_here : (e : Ending) → step q budget st ≡ unchanged st e → runs q budget (suc n) st ≡ unchanged st e
    ends_here e k = run_ends q budget n st (λ j. ends_goes e (sym (ap (λ (t : Turn). t.ending) k) ∙ j)) ∙ k

    go : ((at : State) → state_at q at.opened ≡ some at → at.opened ≤ budget → budget < n + at.opened → Over q budget (runs q budget n at))
        → Finding budget st → Over q budget (runs q budget (suc n) st)
    go below (empty w) =
        subst (Over q budget) (sym (ends_here (at_end st.best) (step_empty q budget st w)))
        (record { counted = h; within = l; how = whole w refl })
    go below (spent x xs w e) =
        subst (Over q budget) (sym (ends_here budget_spent (step_spent q budget st x xs w e)))
        (record { counted = h; within = l; how = short (λ k. cons-ne-nil x xs (sym w ∙ k)) e refl })
    go below (opens x xs w e) =
        let after = open_next q st x xs in
        let one : after.opened ≡ suc st.opened = opens_one q st x xs in
        let counted : state_at q after.opened ≡ some after = ap (state_at q) one ∙ state_next q st.opened st x xs h w in
        subst (Over q budget) (sym (ap (λ (t : Turn). onward (runs q budget n) t.state t.ending) (step_opens q budget st x xs w e)))
        (below after counted (omega (arith, one, e)) (omega (arith, one)))

run_is_over : (q : Problem) (budget : ℕ) → Over q budget (run q budget)
run_is_over q budget = over q budget (suc budget) begun refl (omega arith) (omega arith)

module _ {q : Problem} {budget : ℕ} {v : Turn} (o : Over q budget v) where
  -- a run that is not spent is whole
  unspent : (v.ending ≡ some budget_spent → ⊥) → (v.state.waiting ≡ []) × (v.ending ≡ some (at_end v.state.best))
  unspent h = go o.how
    where
      go : How budget v → (v.state.waiting ≡ []) × (v.ending ≡ some (at_end v.state.best))
      go (whole w e) = (w, e)
      go (short u n e) = absurd (h e)

  -- one that is spent stands in the state of the budget, and one waits
  spent_there : v.ending ≡ some budget_spent → (v.state.opened ≡ budget) × (v.state.waiting ≡ [] → ⊥)
  spent_there h = go o.how
    where
      go : How budget v → (v.state.opened ≡ budget) × (v.state.waiting ≡ [] → ⊥)
      go (whole w e) = absurd (at_end_spent v.state.best (sym e ∙ h))
      go (short u n e) = (n, u)

  spent_waits : v.ending ≡ some budget_spent → WaitsAt q budget
  spent_waits h = let (n, u) = spent_there h in (v.state, ap (state_at q) (sym n) ∙ o.counted, u)

  -- where nothing waits in it, nothing waits at the budget or later
  whole_for_good : v.state.waiting ≡ [] → (n : ℕ) → budget ≤ n → WaitsAt q n → ⊥
  whole_for_good w n l k = let up : v.state.opened ≤ budget = o.within in none_waits q v.state.opened v.state o.counted w n (omega arith) k

  goes_never : v.ending ≡ none → ⊥
  goes_never h = go o.how
    where
      go : How budget v → ⊥
      go (whole w e) = ends_goes (at_end v.state.best) (sym e ∙ h)
      go (short u n e) = ends_goes budget_spent (sym e ∙ h)

-- two runs that are not spent end alike: the last state is one
same_end : {q : Problem} {a b : ℕ} {v w : Turn} → Over q a v → Over q b w → (v.ending ≡ some budget_spent → ⊥) → (w.ending ≡ some budget_spent → ⊥) → v ≡ w
same_end {q} {a} {b} {v} {w} o p h k =
    let (empty-v, ending-v) = unspent o h in
    let (empty-w, ending-w) = unspent p k in
    let m = v.state.opened in
    let n = w.state.opened in
    let up : m ≤ n = last_is_last q n w.state p.counted empty-w m v.state o.counted in
    let down : n ≤ m = last_is_last q m v.state o.counted empty-v n w.state p.counted in
    let state : v.state ≡ w.state = same_state q m n v.state w.state o.counted p.counted (omega arith) in
    let ending : v.ending ≡ w.ending = ending-v ∙ ap (λ (at : State). some (at_end at.best)) state ∙ sym ending-w in
    λ i. record { state = state i; ending = ending i }

module _ (q : Problem) (budget : ℕ) where
  pub run_over : (run q budget).ending ≡ none → ⊥
  run_over h = goes_never (run_is_over q budget) h

  pub run_found : (run q budget).ending ≡ some found_route → (r : List Belt) × ((run q budget).state.best ≡ some r)
  run_found h = at_end_found (run q budget).state.best (sym (unspent (run_is_over q budget) (found_unspent h)).1 ∙ h)

  pub run_nothing : (run q budget).ending ≡ some found_none → (run q budget).state.best ≡ none
  run_nothing h = at_end_nothing (run q budget).state.best (sym (unspent (run_is_over q budget) (nothing_unspent h)).1 ∙ h)

  pub run_counted : state_at q (run q budget).state.opened ≡ some (run q budget).state
  run_counted = (run_is_over q budget).counted

  pub run_complete : ((run q budget).ending ≡ some budget_spent → ⊥) → (run q budget).state.waiting ≡ []
  run_complete h = (unspent (run_is_over q budget) h).0

  pub run_spent_at : (run q budget).ending ≡ some budget_spent → (run q budget).state.opened ≡ budget
  run_spent_at h = (spent_there (run_is_over q budget) h).0

  pub run_spent : ((run q budget).ending ≡ some budget_spent) ↔ WaitsAt q budget
  run_spent = (spent_waits (run_is_over q budget), λ k. go k (run_is_over q budget).how)
    where
      go : WaitsAt q budget → How budget (run q budget) → (run q budget).ending ≡ some budget_spent
      go k (whole w e) = absurd (whole_for_good (run_is_over q budget) w budget (omega arith) k)
      go k (short u n e) = e

  pub run_larger : ((run q budget).ending ≡ some budget_spent → ⊥) → (more : ℕ) → budget ≤ more → run q more ≡ run q budget
  run_larger h more l =
      let unspent-more : (run q more).ending ≡ some budget_spent → ⊥ =
      λ k. whole_for_good (run_is_over q budget) (run_complete h) more l (spent_waits (run_is_over q more) k) in
      same_end (run_is_over q more) (run_is_over q budget) unspent-more h

-- ---- any number of steps

-- after any number of steps from a state of the sequence a run stands in one, and has opened no more than the budget
runs_within : (q : Problem) (budget n : ℕ) (st : State) → state_at q st.opened ≡ some st → st.opened ≤ budget
    → ((runs q budget n st).state.opened ≤ budget) × (state_at q (runs q budget n st).state.opened ≡ some (runs q budget n st).state)
runs_within q budget zero st h l = (l, h)
runs_within q budget (suc n) st h l = go (runs_within q budget n) (finding budget st)
  where
    Stands : Turn → Type 0
    Stands v = (v.state.opened ≤ budget) × (state_at q v.state.opened ≡ some v.state)

    stays : (e : Ending) → step q budget st ≡ unchanged st e → Stands (runs q budget (suc n) st)
    stays e k = subst Stands (sym (ap (λ (t : Turn). onward (runs q budget n) t.state t.ending) k)) (l, h)

    go : ((at : State) → state_at q at.opened ≡ some at → at.opened ≤ budget → Stands (runs q budget n at))
        → Finding budget st → Stands (runs q budget (suc n) st)
    go below (empty w) = stays (at_end st.best) (step_empty q budget st w)
    go below (spent x xs w e) = stays budget_spent (step_spent q budget st x xs w e)
    go below (opens x xs w e) =
        let after = open_next q st x xs in
        let one : after.opened ≡ suc st.opened = opens_one q st x xs in
        let counted : state_at q after.opened ≡ some after = ap (state_at q) one ∙ state_next q st.opened st x xs h w in
        subst Stands (sym (ap (λ (t : Turn). onward (runs q budget n) t.state t.ending) (step_opens q budget st x xs w e)))
        (below after counted (omega (arith, one, e)))

pub within_claim : WithinClaim
within_claim q budget n = runs_within q budget n begun refl (omega arith)
