-- A search in a plan whose belts got other indices is the renamed search: each definition of a search, of its clauses and of its parts, on renamed
-- arguments gives the renamed result. Of the renaming f it is asked that of two indices the lower gets the lower new one (RisesAlways).
--
--   unfixed_renamed     the named belts that a subproblem does not fix
--   children_renamed    the children of a subproblem
--   pick_renamed        each pick
--   step_renamed        one step
--   renaming_claim      THE CLAIM: any number of steps
--   renames_query       the problem of a query about the renamed plan is the renamed problem
--   ended_renamed       what a run comes to is renumbered
--   run_renamed         the run of a query about the renamed plan comes to the renumbered outcome
--
-- Assumes nothing.
use mathlib.Core.Path.{◌≡◌, refl, sym, ◌∙◌, ap}
use mathlib.Core.Bool.{Bool, true, false, not, ◌||◌}
use mathlib.Core.Option.{Option, none, some}
use Prim.Native.Nat.{ℕ, zero, suc}
use mathlib.Core.List.{List, [], ◌∷◌, ◌++◌, map, map-append, head?}
use lib.Dec.{eqb, ltb}
use Rattle.plan.specs.Lists.{keep, mem}
use Rattle.plan.specs.Plan.{Belt, Plan, named}
use Rattle.route.specs.declared.path.Trip.{Trip}
use Rattle.route.specs.Permission.{passes, terms_of, find, otherwise, Terms}
use Rattle.route.specs.Subproblems.{Subproblem, relaxed}
use Rattle.search.specs.Branching.{is_fixed, unfixed, adding, requiring, forbidding, children, rule_count, higher, highest, pick_of}
use Rattle.search.specs.Search.{Problem, State, Ending, found_route, found_none, budget_spent, Turn, branched, tested, setting_of, compared, improves, considered, taken_off, take_at, open_taken, open_next, at_end, budgeted, step_of, step, onward, runs, run, begun, problem_of}
use Rattle.search.specs.Answers.{route, or_zero, best_route, ending_of, ended_by, ended}
use Rattle.archive.specs.Renaming.{RisesAlways, Renames, renamed, renamed_route, map_option, renamed_subproblem, renamed_state, renamed_turn, renumbered}
use Rattle.archive.specs.Claims.{RenamingClaim}
use Rattle.archive.proofs.RenameRoutes.{keep_across, find_across, eqb_renamed, mem_renamed, cost_renamed, indices_renamed, passes_renamed, improves_renamed, relaxed_renamed}
use Rattle.archive.proofs.RenameRules.{named_renamed, count_renamed, setting_renamed}

-- ---- subproblems and their children

module _ (f : ℕ → ℕ) (up : RisesAlways f) where
  fixed_renamed : (x : Subproblem) (e : ℕ) → is_fixed (renamed_subproblem f x) (f e) ≡ is_fixed x e
  fixed_renamed x e = λ i. mem_renamed f up e x.required i || mem_renamed f up e x.forbidden i

  pub unfixed_renamed : (p : Plan) (x : Subproblem) → unfixed (renamed f p) (renamed_subproblem f x) ≡ map f (unfixed p x)
  unfixed_renamed p x =
      ap (keep (λ (e : ℕ). not (is_fixed (renamed_subproblem f x) e))) (named_renamed f up p)
      ∙ keep_across (λ (e : ℕ). not (is_fixed (renamed_subproblem f x) e)) (λ (e : ℕ). not (is_fixed x e)) f (λ e. ap not (fixed_renamed x e)) (named p)

  adding_renamed : (p : Plan) (e : ℕ) (es : List ℕ) → adding (renamed f p) (f e) (map f es) ≡ map f (adding p e es)
  adding_renamed p e es =
      ap (keep (λ (n : ℕ). mem n (map f es) || eqb n (f e))) (named_renamed f up p)
      ∙ keep_across (λ (n : ℕ). mem n (map f es) || eqb n (f e)) (λ (n : ℕ). mem n es || eqb n e) f
      (λ n i. mem_renamed f up n es i || eqb_renamed f up n e i) (named p)

  requiring_renamed : (p : Plan) (x : Subproblem) (e : ℕ) → requiring (renamed f p) (renamed_subproblem f x) (f e) ≡ renamed_subproblem f (requiring p x e)
  requiring_renamed p x e = λ i. record { required = adding_renamed p e x.required i; forbidden = map f x.forbidden }

  forbidding_renamed : (p : Plan) (x : Subproblem) (e : ℕ) → forbidding (renamed f p) (renamed_subproblem f x) (f e) ≡ renamed_subproblem f (forbidding p x e)
  forbidding_renamed p x e = λ i. record { required = map f x.required; forbidden = adding_renamed p e x.forbidden i }

  pub children_renamed : (o : ℕ) (p : Plan) (x : Subproblem) (e : ℕ)
      → children o (renamed f p) (renamed_subproblem f x) (f e) ≡ map (renamed_subproblem f) (children o p x e)
  children_renamed zero p x e = λ i. forbidding_renamed p x e i ∷ requiring_renamed p x e i ∷ []
  children_renamed (suc o) p x e = λ i. requiring_renamed p x e i ∷ forbidding_renamed p x e i ∷ []

-- ---- picks

head_renamed : (f : ℕ → ℕ) (es : List ℕ) → head? (map f es) ≡ map_option f (head? es)
head_renamed f [] = refl
head_renamed f (e ∷ es) = refl

otherwise_renamed : (f : ℕ → ℕ) (o w : Option ℕ) → otherwise (map_option f o) (map_option f w) ≡ map_option f (otherwise o w)
otherwise_renamed f none w = refl
otherwise_renamed f (some e) w = refl

-- counts of the renamed belts and of the belts
module _ (f : ℕ → ℕ) (count-new count : ℕ → ℕ) (same : (e : ℕ) → count-new (f e) ≡ count e) where
  higher_renamed : (e : ℕ) (o : Option ℕ) → higher count-new (f e) (map_option f o) ≡ map_option f (higher count e o)
  higher_renamed e none = refl
  higher_renamed e (some d) = (λ i. elim (ltb (same e i) (same d i)) [ true ↦ some (f d) | false ↦ some (f e) ]) ∙ go (ltb (count e) (count d))
    where
      go : (t : Bool) → elim t [ true ↦ some (f d) | false ↦ some (f e) ] ≡ map_option f (elim t [ true ↦ some d | false ↦ some e ])
      go true = refl
      go false = refl

  highest_renamed : (es : List ℕ) → highest count-new (map f es) ≡ map_option f (highest count es)
  highest_renamed [] = refl
  highest_renamed (e ∷ es) = ap (higher count-new (f e)) (highest_renamed es) ∙ higher_renamed e (highest count es)

module _ (f : ℕ → ℕ) (up : RisesAlways f) where
  -- tests of the renamed belts and of the belts
  by_test : (k : ℕ) (p : Plan) (x : Subproblem) (on-new on : ℕ → Bool) → ((e : ℕ) → on-new (f e) ≡ on e)
      → pick_of k (renamed f p) (renamed_subproblem f x) on-new ≡ map_option f (pick_of k p x on)
  by_test zero p x on-new on same = ap head? (unfixed_renamed f up p x) ∙ head_renamed f (unfixed p x)
  by_test (suc zero) p x on-new on same =
      ap (highest (rule_count (renamed f p))) (unfixed_renamed f up p x)
      ∙ highest_renamed f (rule_count (renamed f p)) (rule_count p) (count_renamed f up p) (unfixed p x)
  by_test (suc (suc k)) p x on-new on same =
      ap (λ (es : List ℕ). otherwise (find on-new es) (head? es)) (unfixed_renamed f up p x)
      ∙ (λ i. otherwise (find_across on-new on f same (unfixed p x) i) (head_renamed f (unfixed p x) i))
      ∙ otherwise_renamed f (find on (unfixed p x)) (head? (unfixed p x))

  pub pick_renamed : (k : ℕ) (p : Plan) (x : Subproblem) (r : List Belt)
      → pick_of k (renamed f p) (renamed_subproblem f x) (passes (renamed_route f r)) ≡ map_option f (pick_of k p x (passes r))
  pick_renamed k p x r = by_test k p x (passes (renamed_route f r)) (passes r) (passes_renamed f up r)

-- ---- steps 3 to 6

module _ (f : ℕ → ℕ) (up : RisesAlways f) (q w : Problem) (by : Renames f q w) where
  branched_renamed : (x : Subproblem) (st : State) (o : Option ℕ)
      → branched w (renamed_subproblem f x) (renamed_state f st) (map_option f o) ≡ renamed_state f (branched q x st o)
  branched_renamed x st none = refl
  branched_renamed x st (some e) =
      ap (λ (xs : List Subproblem). record { waiting = xs; opened = st.opened; best = map_option (renamed_route f) st.best })
      ((λ i. children (by.order i) (by.plan i) (renamed_subproblem f x) (f e) ++ map (renamed_subproblem f) st.waiting)
      ∙ ap (λ (xs : List Subproblem). xs ++ map (renamed_subproblem f) st.waiting) (children_renamed f up q.order q.plan x e)
      ∙ sym (map-append (renamed_subproblem f) (children q.order q.plan x e) st.waiting))

  tested_renamed : (x : Subproblem) (st : State) (r : List Belt) (o : Option ℕ)
      → tested w (renamed_subproblem f x) (renamed_state f st) (renamed_route f r) o ≡ renamed_state f (tested q x st r o)
  tested_renamed x st r none = ap (branched w (renamed_subproblem f x) (renamed_state f st)) (by.pick x r) ∙ branched_renamed x st (q.pick x r)
  tested_renamed x st r (some σ) = refl

  setting_same : (r : List Belt) → setting_of w.terms (renamed_route f r) ≡ setting_of q.terms r
  setting_same r = ap (λ (terms : Terms). setting_of terms (renamed_route f r)) by.terms ∙ setting_renamed f up q.terms r

  compared_renamed : (x : Subproblem) (st : State) (r : List Belt) (t : Bool)
      → compared w (renamed_subproblem f x) (renamed_state f st) (renamed_route f r) t ≡ renamed_state f (compared q x st r t)
  compared_renamed x st r false = refl
  compared_renamed x st r true =
      ap (tested w (renamed_subproblem f x) (renamed_state f st) (renamed_route f r)) (setting_same r) ∙ tested_renamed x st r (setting_of q.terms r)

  considered_renamed : (x : Subproblem) (st : State) (o : Option (List Belt))
      → considered w (renamed_subproblem f x) (renamed_state f st) (map_option (renamed_route f) o) ≡ renamed_state f (considered q x st o)
  considered_renamed x st none = refl
  considered_renamed x st (some r) =
      ap (compared w (renamed_subproblem f x) (renamed_state f st) (renamed_route f r)) (improves_renamed f up r st.best)
      ∙ compared_renamed x st r (improves r st.best)

  -- ---- the subproblem that is taken

  abbrev renamed_taken : Subproblem × List Subproblem → Subproblem × List Subproblem
  renamed_taken taken = (renamed_subproblem f taken.0, map (renamed_subproblem f) taken.1)

  take_renamed : (n : ℕ) (x : Subproblem) (xs : List Subproblem)
      → take_at n (renamed_subproblem f x) (map (renamed_subproblem f) xs) ≡ renamed_taken (take_at n x xs)
  take_renamed zero x xs = refl
  take_renamed (suc n) x [] = refl
  take_renamed (suc n) x (y ∷ ys) =
      ap (λ (taken : Subproblem × List Subproblem). (taken.0, renamed_subproblem f x ∷ taken.1)) (take_renamed n y ys)

  relaxed_same : (x : Subproblem) → relaxed w.plan w.s w.t (renamed_subproblem f x) ≡ map_option (renamed_route f) (relaxed q.plan q.s q.t x)
  relaxed_same x = (λ i. relaxed (by.plan i) (by.s i) (by.t i) (renamed_subproblem f x)) ∙ relaxed_renamed f up q.plan q.s q.t x

  opened_renamed : (st : State) (taken : Subproblem × List Subproblem)
      → open_taken w (renamed_state f st) (renamed_taken taken) ≡ renamed_state f (open_taken q st taken)
  opened_renamed st taken =
      ap (considered w (renamed_subproblem f taken.0) (renamed_state f (taken_off st taken.1))) (relaxed_same taken.0)
      ∙ considered_renamed taken.0 (taken_off st taken.1) (relaxed q.plan q.s q.t taken.0)

  next_renamed : (st : State) (x : Subproblem) (xs : List Subproblem)
      → open_next w (renamed_state f st) (renamed_subproblem f x) (map (renamed_subproblem f) xs) ≡ renamed_state f (open_next q st x xs)
  next_renamed st x xs =
      ap (λ (n : ℕ). open_taken w (renamed_state f st) (take_at n (renamed_subproblem f x) (map (renamed_subproblem f) xs))) (by.choose st)
      ∙ ap (open_taken w (renamed_state f st)) (take_renamed (q.choose st) x xs)
      ∙ opened_renamed st (take_at (q.choose st) x xs)

  -- ---- steps and runs

  budgeted_renamed : (st : State) (x : Subproblem) (xs : List Subproblem) (t : Bool)
      → budgeted w (renamed_state f st) (renamed_subproblem f x) (map (renamed_subproblem f) xs) t ≡ renamed_turn f (budgeted q st x xs t)
  budgeted_renamed st x xs true = refl
  budgeted_renamed st x xs false = ap (λ (now : State). record { state = now; ending = none }) (next_renamed st x xs)

  at_end_lem : (o : Option (List Belt)) → at_end (map_option (renamed_route f) o) ≡ at_end o
  at_end_lem none = refl
  at_end_lem (some r) = refl

  by_waiting : (budget : ℕ) (st : State) (xs : List Subproblem)
      → step_of w budget (renamed_state f st) (map (renamed_subproblem f) xs) ≡ renamed_turn f (step_of q budget st xs)
  by_waiting budget st [] = ap (λ (e : Ending). record { state = renamed_state f st; ending = some e }) (at_end_lem st.best)
  by_waiting budget st (x ∷ xs) = budgeted_renamed st x xs (eqb st.opened budget)

  pub step_renamed : (budget : ℕ) (st : State) → step w budget (renamed_state f st) ≡ renamed_turn f (step q budget st)
  step_renamed budget st = by_waiting budget st st.waiting

  runs_renamed : (budget n : ℕ) (st : State) → runs w budget n (renamed_state f st) ≡ renamed_turn f (runs q budget n st)
  runs_renamed budget zero st = refl
  runs_renamed budget (suc n) st =
      ap (λ (v : Turn). onward (λ (now : State). runs w budget n now) v.state v.ending) (step_renamed budget st)
      ∙ go (λ now. runs_renamed budget n now) (step q budget st).state (step q budget st).ending
    where
      go : ((now : State) → runs w budget n (renamed_state f now) ≡ renamed_turn f (runs q budget n now)) → (now : State) (e : Option Ending)
          → onward (λ (u : State). runs w budget n u) (renamed_state f now) e ≡ renamed_turn f (onward (λ (u : State). runs q budget n u) now e)
      go below now none = below now
      go below now (some e) = refl

pub renaming_claim : RenamingClaim
renaming_claim f up q w by budget n st = runs_renamed f up q w by budget n st

-- ---- queries

pub renames_query : (f : ℕ → ℕ) → RisesAlways f → (p : Plan) (trip : Trip) (pick order : ℕ)
    → Renames f (problem_of p trip pick order) (problem_of (renamed f p) trip pick order)
renames_query f up p trip pick order = record {
  plan = refl;
  terms = refl;
  s = refl;
  t = refl;
  order = refl;
  pick = pick_renamed f up pick p;
  choose = λ st. refl;
}

module _ (f : ℕ → ℕ) (up : RisesAlways f) (p : Plan) (trip : Trip) where
  best_renamed : (n : ℕ) (o : Option (List Belt))
      → best_route (terms_of (renamed f p) trip) n (map_option (renamed_route f) o) ≡ renumbered f (best_route (terms_of p trip) n o)
  best_renamed n none = refl
  best_renamed n (some r) = λ i. route (indices_renamed f r i) (cost_renamed f r i) (or_zero (setting_renamed f up (terms_of p trip) r i)) n

  ending_renamed : (n : ℕ) (o : Option (List Belt)) (e : Ending)
      → ending_of (terms_of (renamed f p) trip) n (map_option (renamed_route f) o) e ≡ renumbered f (ending_of (terms_of p trip) n o e)
  ending_renamed n o budget_spent = refl
  ending_renamed n o found_none = refl
  ending_renamed n o found_route = best_renamed n o

  by_ending : (st : State) (e : Option Ending)
      → ended_by (terms_of (renamed f p) trip) (renamed_state f st) e ≡ renumbered f (ended_by (terms_of p trip) st e)
  by_ending st none = refl
  by_ending st (some e) = ending_renamed st.opened st.best e

pub ended_renamed : (f : ℕ → ℕ) → RisesAlways f → (p : Plan) (trip : Trip) (v : Turn)
    → ended (terms_of (renamed f p) trip) (renamed_turn f v) ≡ renumbered f (ended (terms_of p trip) v)
ended_renamed f up p trip v = by_ending f up p trip v.state v.ending

pub run_renamed : (f : ℕ → ℕ) → RisesAlways f → (p : Plan) (trip : Trip) (pick order budget : ℕ)
    → ended (terms_of (renamed f p) trip) (run (problem_of (renamed f p) trip pick order) budget)
    ≡ renumbered f (ended (terms_of p trip) (run (problem_of p trip pick order) budget))
run_renamed f up p trip pick order budget =
    let q = problem_of p trip pick order in
    ap (ended (terms_of (renamed f p) trip))
    (renaming_claim f up q (problem_of (renamed f p) trip pick order) (renames_query f up p trip pick order) budget (suc budget) begun)
    ∙ ended_renamed f up p trip (run q budget)
