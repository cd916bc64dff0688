-- What holds between any two steps of a search: which belts the waiting subproblems fix, how many wait, and what the best is.
--
--   waiting_all        what holds of the subproblem that fixes nothing, and of the children of each of which it holds, holds of every one that
--                      ever waits
--   Apart p x          the required and the forbidden belts of x are named belts, none of them twice, and none is both
--   apart_free, apart_children
--                      it holds at the beginning, and where it holds of a subproblem it holds of its children
--   fixes_claim        FixesClaim
--   sound_claim        SoundClaim: this, the depth, the best and the budget in one
--
-- Assumes nothing.
use mathlib.Core.Path.{◌≡◌, refl, sym, ap, subst}
use mathlib.Core.Logic.{◌⊎◌, inl, inr}
use mathlib.Core.Bool.{Bool, true, false, not, ◌||◌}
use mathlib.Core.Option.{Option, none, some}
use Prim.Native.Nat.{ℕ, zero, suc, ◌<◌}
use mathlib.Core.List.Memᴰ
use mathlib.Core.List.{List, [], ◌∷◌, ◌++◌, Memᴰ}
use native.Mathlib.Omega.{arith}
use lib.Dec.{eqb}
use borrow.Author.Tests.{not-true}
use Rattle.plan.specs.Lists.{mem}
use Rattle.plan.specs.Plan.{Belt, Plan, plan_of, indices_of, named}
use Rattle.plan.specs.Reading.{Accepted}
use Rattle.plan.proofs.Lists.{never, each, keep_in, in_mem}
use Rattle.plan.proofs.ListRising.{Rises, none, more, keep_rises}
use Rattle.plan.proofs.Reading.{belts_rise, named_few}
use Rattle.route.specs.Subproblems.{Subproblem, relaxed}
use Rattle.search.specs.Branching.{is_fixed, unfixed, adding, children}
use Rattle.search.specs.Search.{Problem, State, free, begun, branched, tested, setting_of, compared, improves, considered, taken_off, take_at, open_next, state_at, runs}
use Rattle.search.specs.Answers.{problem_in}
use Rattle.search.specs.Claims.{Explores, NoneTwice, FixesNamed, FixesClaim, SoundClaim}
use Rattle.search.proofs.BranchChildren.{of_both, of_adding, explores}
use Rattle.search.proofs.RunSteps.{along, within_claim}
use Rattle.search.proofs.RunCoverage.{best_claim}
use Rattle.search.proofs.RunDepth.{depth_claim}
use Rattle.search.proofs.AnswerRefusal.{query_accepted}

-- ---- every one that ever waits

module _ (q : Problem) (ex : Explores q) (P : Subproblem → Type 0) (first : P free)
    (child : (x : Subproblem) → P x → (e : ℕ) → Memᴰ e (unfixed q.plan x) → (y : Subproblem) → Memᴰ y (children q.order q.plan x e) → P y) where
  abbrev All : State → Type 0
  All st = (y : Subproblem) → Memᴰ y st.waiting → P y

  module _ (x : Subproblem) (here : P x) (st : State) (others : All st) where
    all_branched : (o : Option ℕ) → ((e : ℕ) → o ≡ some e → Memᴰ e (unfixed q.plan x)) → All (branched q x st o)
    all_branched none h = others
    all_branched (some e) h = λ y m. go y (Memᴰ.append_cases (children q.order q.plan x e) m)
      where
        go : (y : Subproblem) → Memᴰ y (children q.order q.plan x e) ⊎ Memᴰ y st.waiting → P y
        go y (inl k) = child x here e (h e refl) y k
        go y (inr k) = others y k

    all_tested : (r : List Belt) (o : Option ℕ) → All (tested q x st r o)
    all_tested r (some σ) = others
    all_tested r none = all_branched (q.pick x r) (ex.picks x r)

    all_compared : (r : List Belt) (t : Bool) → All (compared q x st r t)
    all_compared r true = all_tested r (setting_of q.terms r)
    all_compared r false = others

    all_considered : (o : Option (List Belt)) → All (considered q x st o)
    all_considered none = others
    all_considered (some r) = all_compared r (improves r st.best)

  -- the one that is taken and the others are among those that wait
  taken_in : (n : ℕ) (x : Subproblem) (xs : List Subproblem) → ((y : Subproblem) → Memᴰ y (x ∷ xs) → P y)
      → P (take_at n x xs).0 × ((y : Subproblem) → Memᴰ y (take_at n x xs).1 → P y)
  taken_in zero x xs h = (h x (Memᴰ.head refl), λ y m. h y (Memᴰ.tail m))
  taken_in (suc n) x [] h = (h x (Memᴰ.head refl), λ y m. absurd (Memᴰ.not-nil m))
  taken_in (suc n) x (z ∷ zs) h =
      let (one, rest) = taken_in n z zs (λ y m. h y (Memᴰ.tail m)) in
      (one, each P (h x (Memᴰ.head refl)) rest)

  all_next : (st : State) (x : Subproblem) (xs : List Subproblem) → st.waiting ≡ x ∷ xs → All st → All (open_next q st x xs)
  all_next st x xs w h =
      let n = q.choose st in
      let (one, rest) = taken_in n x xs (subst (λ (ys : List Subproblem). (y : Subproblem) → Memᴰ y ys → P y) w h) in
      all_considered (take_at n x xs).0 one (taken_off st (take_at n x xs).1) rest (relaxed q.plan q.s q.t (take_at n x xs).0)

  waiting_all : (n : ℕ) (st : State) → state_at q n ≡ some st → All st
  waiting_all = along q (λ (n : ℕ) (st : State). All st) (each P first (λ y m. absurd (Memᴰ.not-nil m))) (λ n. all_next)

-- ---- none twice

rises_once : {xs : List ℕ} → Rises xs → NoneTwice xs
rises_once none = tt
rises_once (more {x} above rises) = ((λ m. let low : x < x = above x m in omega arith), rises_once rises)

append_once : (xs ys : List ℕ) → NoneTwice xs → NoneTwice ys → ((e : ℕ) → Memᴰ e xs → Memᴰ e ys → ⊥) → NoneTwice (xs ++ ys)
append_once [] ys a b apart = b
append_once (x ∷ xs) ys a b apart = (here, append_once xs ys a.1 b (λ e m. apart e (Memᴰ.tail m)))
  where
    here : Memᴰ x (xs ++ ys) → ⊥
    here m = go (Memᴰ.append_cases xs m)
      where
        go : Memᴰ x xs ⊎ Memᴰ x ys → ⊥
        go (inl k) = a.0 k
        go (inr k) = apart x (Memᴰ.head refl) k

-- the named belts of a plan with the belts of accepted bytes rise
named_rise : (p : Plan) {b : List ℕ} → Accepted b → p.belts ≡ (plan_of b).belts → Rises (named p)
unfolding named
named_rise p ok same = keep_rises _ (subst Rises (sym (ap indices_of same)) (belts_rise ok))

-- ---- what the waiting ones fix

record Apart (p : Plan) (x : Subproblem) : Type 0 where
  required_named : (e : ℕ) → Memᴰ e x.required → Memᴰ e (named p)
  forbidden_named : (e : ℕ) → Memᴰ e x.forbidden → Memᴰ e (named p)
  required_once : NoneTwice x.required
  forbidden_once : NoneTwice x.forbidden
  apart : (e : ℕ) → Memᴰ e x.required → Memᴰ e x.forbidden → ⊥

apart_free : (p : Plan) → Apart p free
apart_free p = record {
  required_named = λ e m. absurd (Memᴰ.not-nil m);
  forbidden_named = λ e m. absurd (Memᴰ.not-nil m);
  required_once = tt;
  forbidden_once = tt;
  apart = λ e m. absurd (Memᴰ.not-nil m);
}

module _ (p : Plan) (rises : Rises (named p)) (x : Subproblem) (ok : Apart p x) (e : ℕ) (free-e : Memᴰ e (unfixed p x)) where
  -- e is neither required nor forbidden
  not_fixed : is_fixed x e ≡ false
  not_fixed = not-true (is_fixed x e) (keep_in (λ (n : ℕ). not (is_fixed x n)) (named p) free-e).1

  not_required : Memᴰ e x.required → ⊥
  not_required m = never (ap (λ (t : Bool). t || mem e x.forbidden) (in_mem x.required m)) not_fixed

  not_forbidden : Memᴰ e x.forbidden → ⊥
  not_forbidden m = go (mem e x.required) (in_mem x.forbidden m) not_fixed
    where
      go : (t : Bool) → mem e x.forbidden ≡ true → (t || mem e x.forbidden) ≡ false → ⊥
      go true k h = never refl h
      go false k h = never k h

  added_named : (es : List ℕ) (n : ℕ) → Memᴰ n (adding p e es) → Memᴰ n (named p)
  added_named es n m = (keep_in (λ (n : ℕ). mem n es || eqb n e) (named p) m).0

  added_once : (es : List ℕ) → NoneTwice (adding p e es)
  added_once es = rises_once (keep_rises (λ (n : ℕ). mem n es || eqb n e) rises)

  apart_children : (o : ℕ) (y : Subproblem) → Memᴰ y (children o p x e) → Apart p y
  apart_children o = of_both (Apart p) o p x e
      (record {
        required_named = added_named x.required;
        forbidden_named = ok.forbidden_named;
        required_once = added_once x.required;
        forbidden_once = ok.forbidden_once;
        apart = of_adding (λ (n : ℕ). Memᴰ n x.forbidden → ⊥) p e x.required not_forbidden ok.apart;
      })
      (record {
        required_named = ok.required_named;
        forbidden_named = added_named x.forbidden;
        required_once = ok.required_once;
        forbidden_once = added_once x.forbidden;
        apart = λ n m k. of_adding (λ (n : ℕ). Memᴰ n x.required → ⊥) p e x.forbidden not_required (λ n k m. ok.apart n m k) n k m;
      })

apart_fixes : (p : Plan) (x : Subproblem) → Apart p x → FixesNamed p x
apart_fixes p x ok = record {
  named_only = λ e m. go e (Memᴰ.append_cases x.required m);
  none_twice = append_once x.required x.forbidden ok.required_once ok.forbidden_once ok.apart;
}
  where
    go : (e : ℕ) → Memᴰ e x.required ⊎ Memᴰ e x.forbidden → Memᴰ e (named p)
    go e (inl m) = ok.required_named e m
    go e (inr m) = ok.forbidden_named e m

pub fixes_claim : FixesClaim
fixes_claim q ex n st h x m =
    let rises = named_rise q.plan ex.accepted ex.belts_are in
    apart_fixes q.plan x
    (waiting_all q ex (Apart q.plan) (apart_free q.plan) (λ x ok e u. apart_children q.plan rises x ok e u q.order) n st h x m)

-- ---- a search that is asked for

pub sound_claim : SoundClaim
sound_claim k fine n =
    let q = problem_in k.plan k.query in
    let ok = query_accepted k fine in
    let ex = explores k.plan ok k.query.trip k.query.pick k.query.order in
    let st = (runs q k.query.budget n begun).state in
    let (within, at) = within_claim q k.query.budget n in
    let (few, deep) = depth_claim q ex (λ st. refl) st.opened st at in
    record {
      few = omega (arith, few, named_few ok);
      deep = deep;
      fixes = fixes_claim q ex st.opened st at;
      permitted = best_claim q ex st.opened st at;
      within = within;
    }
