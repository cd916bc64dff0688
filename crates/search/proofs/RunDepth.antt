-- Depth first, few subproblems wait: each fixes at least as many named belts as there are older ones.
--
--   deep_begun        this holds at the beginning
--   deep_tested, deep_considered
--                     and still holds when the newest is taken: what is taken fixes as many as there are others, and each of its children one more
--   deep_few          so at most one more waits than there are named belts
--   depth_claim       all this of the sequence without a budget, where the newest is taken next
--
-- The one idea: a subproblem with n older ones was made by at least n branchings. Assumes nothing.
use mathlib.Core.Path.{◌≡◌, refl, sym, subst}
use mathlib.Core.Bool.{Bool, true, false}
use Prim.Native.Nat.{ℕ, zero, suc, ◌+◌, ◌-◌, ◌≤◌}
use mathlib.Core.Option.{Option, none, some}
use mathlib.Core.List.{List, [], ◌∷◌, ◌++◌, Memᴰ}
use native.Mathlib.Omega.{arith}
use lib.ListN.{length, get_or}
use Rattle.plan.specs.Plan.{Belt, Plan, named}
use Rattle.route.specs.Subproblems.{Subproblem, relaxed}
use Rattle.search.specs.Branching.{unfixed, fixed_count, requiring, forbidding, children}
use Rattle.search.specs.Search.{Problem, State, free, begun, branched, tested, setting_of, compared, improves, considered, taken_off, take_at, open_taken, open_next, state_at}
use Rattle.search.specs.Values.{Deep}
use Rattle.search.specs.Claims.{DepthClaim}
use Rattle.search.proofs.BranchChildren.{fixed_unfixed, fixed_more}
use Rattle.search.proofs.RunSteps.{along}

pub deep_begun : (p : Plan) → Deep p begun.waiting
deep_begun p = (omega arith, tt)

pub deep_few : (p : Plan) (xs : List Subproblem) → Deep p xs → length xs ≤ length (named p) + 1
deep_few p [] h = omega arith
deep_few p (x ∷ older) h = omega (arith, h.0, fixed_unfixed p x)

-- ---- when one is opened

-- a problem whose picking rule picks unfixed named belts
abbrev pub Picks : Problem → Type 0
Picks q = (x : Subproblem) (r : List Belt) (e : ℕ) → q.pick x r ≡ some e → Memᴰ e (unfixed q.plan x)

module _ (q : Problem) (picks : Picks q) (x : Subproblem) (st : State) (deep : Deep q.plan st.waiting)
    (room : length st.waiting ≤ fixed_count q.plan x) where
  -- both children fix more than x, which fixes as many as wait
  deep_two : (y z : Subproblem) → suc (fixed_count q.plan x) ≤ fixed_count q.plan y → suc (fixed_count q.plan x) ≤ fixed_count q.plan z
      → Deep q.plan (y ∷ z ∷ st.waiting)
  deep_two y z h k = (omega arith, (omega arith, deep))

  deep_children : (o e : ℕ) → Memᴰ e (unfixed q.plan x) → Deep q.plan (children o q.plan x e ++ st.waiting)
  deep_children zero e m =
      deep_two (forbidding q.plan x e) (requiring q.plan x e) (fixed_more 0 q.plan x e (forbidding q.plan x e) (Memᴰ.head refl) m)
      (fixed_more 0 q.plan x e (requiring q.plan x e) (Memᴰ.tail (Memᴰ.head refl)) m)
  deep_children (suc o) e m =
      deep_two (requiring q.plan x e) (forbidding q.plan x e) (fixed_more 1 q.plan x e (requiring q.plan x e) (Memᴰ.head refl) m)
      (fixed_more 1 q.plan x e (forbidding q.plan x e) (Memᴰ.tail (Memᴰ.head refl)) m)

  deep_branched : (o : Option ℕ) → ((e : ℕ) → o ≡ some e → Memᴰ e (unfixed q.plan x)) → Deep q.plan (branched q x st o).waiting
  deep_branched none h = deep
  deep_branched (some e) h = deep_children q.order e (h e refl)

  pub deep_tested : (r : List Belt) (o : Option ℕ) → Deep q.plan (tested q x st r o).waiting
  deep_tested r (some σ) = deep
  deep_tested r none = deep_branched (q.pick x r) (picks x r)

  deep_compared : (r : List Belt) (t : Bool) → Deep q.plan (compared q x st r t).waiting
  deep_compared r true = deep_tested r (setting_of q.terms r)
  deep_compared r false = deep

  pub deep_considered : (o : Option (List Belt)) → Deep q.plan (considered q x st o).waiting
  deep_considered none = deep
  deep_considered (some r) = deep_compared r (improves r st.best)

-- ---- the sequence

module _ (q : Problem) (picks : Picks q) (newest : (st : State) → q.choose st ≡ 0) where
  deep_next : (st : State) (x : Subproblem) (xs : List Subproblem) → st.waiting ≡ x ∷ xs → Deep q.plan st.waiting
      → Deep q.plan (open_next q st x xs).waiting
  deep_next st x xs w deep =
      let (room, older) = subst (Deep q.plan) w deep in
      subst (λ (k : ℕ). Deep q.plan (open_taken q st (take_at k x xs)).waiting) (sym (newest st))
      (deep_considered q picks x (taken_off st xs) older room (relaxed q.plan q.s q.t x))

  deep_at : (n : ℕ) (st : State) → state_at q n ≡ some st → Deep q.plan st.waiting
  deep_at = along q (λ (n : ℕ) (st : State). Deep q.plan st.waiting) (deep_begun q.plan) (λ n. deep_next)

-- the i-th oldest has j newer ones above it
deep_old : (p : Plan) (xs : List Subproblem) → Deep p xs → (i j : ℕ) → 1 ≤ i → i + j ≡ length xs → i - 1 ≤ fixed_count p (get_or xs j free)
deep_old p [] h i j l e = absurd (omega arith)
deep_old p (x ∷ older) h i zero l e = omega (arith, h.0)
deep_old p (x ∷ older) h i (suc j) l e = deep_old p older h.1 i j l (omega arith)

pub depth_claim : DepthClaim
depth_claim q ex newest n st h =
    let deep = deep_at q ex.picks newest n st h in
    (deep_few q.plan st.waiting deep, deep_old q.plan st.waiting deep)
