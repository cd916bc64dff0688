-- Coverage: in every state of a search every permitted route is the best, comes after it, or is admitted by a subproblem that waits; and
-- what was opened and what can yet be opened is within 2^(k+1) - 1. From these, that a run is right.
--
-- The one idea: a state is `Sound` where the best is permitted, every permitted route is covered, and the count with the weight of what
-- waits (RunWeights.antt) is within that of the first state. Opening any of those that wait keeps it: to take x off leaves a state that is
-- sound but for x (`Without`), and each of steps 3 to 6 makes up for it. Where x is dropped, the permitted routes that it admits are covered
-- by the best, or there are none; where its relaxed route becomes the best, that comes before all others that x admits and all that the old
-- best covered; where x is branched, its children admit what it admits, and weigh less.
--
--   sound_at           every state of the sequence is sound
--   coverage_claim, bound_claim, any_choice_claim
--                      what follows from it, as it is claimed (CoverageClaim, BoundClaim, AnyChoiceClaim)
--
-- Assumes nothing.
use mathlib.Core.Path.{◌≡◌, refl, sym, ◌∙◌, ap, subst}
use mathlib.Core.Logic.{◌⊎◌, inl, inr}
use mathlib.Core.Bool.{Bool, true, false, true≢false}
use mathlib.Core.Option.{Option, none, some, some-injective, none-ne-some}
use Prim.Native.Nat.{ℕ, zero, suc, ◌+◌, ◌≤◌}
use mathlib.Core.List.Memᴰ
use mathlib.Core.List.{List, [], ◌∷◌, Memᴰ}
use native.Mathlib.Omega.{arith}
use native.Mathlib.Numerals.{add-one}
use lib.ListN.{length}
use Rattle.plan.specs.Plan.{Belt, named, plan_of}
use Rattle.plan.proofs.Lists.{test}
use Rattle.route.specs.Routes.{IsRoute, before}
use Rattle.route.specs.Subproblems.{Subproblem, admits, relaxed}
use Rattle.route.proofs.RouteOrder.{before_trans, not_before_trans, before_total}
use Rattle.route.proofs.SubproblemFirst.{relaxed_some, relaxed_none}
use Rattle.route.proofs.RulesLowest.{lowest_claim}
use Rattle.search.specs.Branching.{unfixed, children}
use Rattle.search.specs.Search.{Problem, State, free, begun, branched, tested, setting_of, compared, improves, considered, take_at, open_next, state_at, found_route, found_none, budget_spent, run, taken_off}
use Rattle.search.specs.Claims.{Explores, Covers, CoverageClaim, BoundClaim, BestClaim, AnyChoiceClaim, Permits}
use Rattle.search.proofs.BranchChildren.{children_admit, settled}
use Rattle.search.proofs.RunWeights.{tree, tree_pow, tree_some, size, weight, weight_some, weight_free, weight_taken, weight_children}
use Rattle.search.proofs.BranchRoutes.{same_route, same_relaxed}
use Rattle.search.proofs.RunSteps.{along, state_opened, run_over, run_found, run_nothing, run_counted, run_complete, run_spent_at, run_spent, run_larger}

-- ---- the subproblem that is taken

-- each is the one that is taken or one of the others
in_taken : (n : ℕ) (x : Subproblem) (xs : List Subproblem) {y : Subproblem} → Memᴰ y (x ∷ xs)
    → (y ≡ (take_at n x xs).0) ⊎ Memᴰ y (take_at n x xs).1
in_taken zero x xs m = Memᴰ.cases_cons m
in_taken (suc n) x [] m = Memᴰ.cases_cons m
in_taken (suc n) x (z ∷ zs) {y} m = go (Memᴰ.cases_cons m) (λ k. in_taken n z zs k)
  where
    later : (y ≡ (take_at n z zs).0) ⊎ Memᴰ y (take_at n z zs).1 → (y ≡ (take_at n z zs).0) ⊎ Memᴰ y (x ∷ (take_at n z zs).1)
    later (inl e) = inl e
    later (inr k) = inr (Memᴰ.tail k)

    go : (y ≡ x) ⊎ Memᴰ y (z ∷ zs) → (Memᴰ y (z ∷ zs) → (y ≡ (take_at n z zs).0) ⊎ Memᴰ y (take_at n z zs).1)
        → (y ≡ (take_at n z zs).0) ⊎ Memᴰ y (x ∷ (take_at n z zs).1)
    go (inl e) below = inr (Memᴰ.head e)
    go (inr k) below = later (below k)

-- ---- the invariant

-- the routes that a search is about
abbrev Routed : Problem → List Belt → Type 0
Routed q w = IsRoute q.plan q.s q.t w

record Sound (q : Problem) (st : State) : Type 0 where
  permitted : (b : List Belt) → st.best ≡ some b → Permits q b
  covered : (w : List Belt) → Permits q w → Covers st w
  bound : st.opened + weight q.plan st.waiting ≤ tree (length (named q.plan))

-- the same of a state from which x was taken off and counted: it is sound but for x
record Without (q : Problem) (x : Subproblem) (st : State) : Type 0 where
  permitted : (b : List Belt) → st.best ≡ some b → Permits q b
  covered : (w : List Belt) → Permits q w → Covers st w ⊎ (admits x w ≡ true)
  bound : st.opened + (size q.plan x + weight q.plan st.waiting) ≤ suc (tree (length (named q.plan)))

-- covered by the best alone
abbrev ByBest : Option (List Belt) → List Belt → Type 0
ByBest o w = (o ≡ some w) ⊎ ((b : List Belt) × (o ≡ some b) × (before b w ≡ true))

by_best : (st : State) (w : List Belt) → ByBest st.best w → Covers st w
by_best st w (inl e) = inl e
by_best st w (inr h) = inr (inl h)

sound_begun : (q : Problem) → Sound q begun
sound_begun q = record {
  permitted = λ b h. absurd (none-ne-some b h);
  covered = λ w i. inr (inr (free, Memᴰ.head refl, refl));
  bound = omega (arith, weight_free q.plan);
}

-- ---- steps 3 to 6

module _ (q : Problem) (ex : Explores q) where
  -- a route of the problem is one of the accepted plan with the same belts, and the other way round
  routed : (w : List Belt) → Routed q w → IsRoute (plan_of ex.bytes) q.s q.t w
  routed w i = subst (λ (T : Type 0). T) (same_route q.plan (plan_of ex.bytes) ex.belts_are q.s q.t w) i

  routed_back : (w : List Belt) → IsRoute (plan_of ex.bytes) q.s q.t w → Routed q w
  routed_back w i = subst (λ (T : Type 0). T) (sym (same_route q.plan (plan_of ex.bytes) ex.belts_are q.s q.t w)) i

  relaxed_there : (x : Subproblem) → relaxed (plan_of ex.bytes) q.s q.t x ≡ relaxed q.plan q.s q.t x
  relaxed_there x = sym (same_relaxed q.plan (plan_of ex.bytes) ex.belts_are q.s q.t x)

  -- what the relaxed route is
  relaxed_least : (x : Subproblem) (r : List Belt) → relaxed q.plan q.s q.t x ≡ some r
      → Routed q r × (admits x r ≡ true)
      × ((w : List Belt) → Routed q w → admits x w ≡ true → before w r ≡ false)
  relaxed_least x r h =
      let (i, a, least) = relaxed_some ex.accepted q.s q.t x r (relaxed_there x ∙ h) in
      (routed_back r i, a, λ w j c. least w (routed w j) c)

  no_admitted : (x : Subproblem) → relaxed q.plan q.s q.t x ≡ none
      → (w : List Belt) → Routed q w → admits x w ≡ true → ⊥
  no_admitted x h w i a = relaxed_none ex.accepted q.s q.t x (relaxed_there x ∙ h) w (routed w i) a

  -- a route that does not come before b is b or comes after it
  behind : (b w : List Belt) → Routed q b → Routed q w → before w b ≡ false → ByBest (some b) w
  behind b w i j h = go (test (before b w))
    where
      same : before b w ≡ false → b ≡ w
      same k = before_total ex.accepted q.s q.t b w (routed b i) (routed w j) k h

      go : (before b w ≡ true) ⊎ (before b w ≡ false) → ByBest (some b) w
      go (inl k) = inr (b, refl, k)
      go (inr k) = inl (ap {B = Option (List Belt)} some (same k))

  module _ (x : Subproblem) (st : State) (sound : Without q x st) where
    -- x is dropped where what it admits is covered without it
    dropped : ((w : List Belt) → Permits q w → admits x w ≡ true → Covers st w) → Sound q st
    dropped h = record {
      permitted = sound.permitted;
      covered = λ w i. go w i (sound.covered w i);
      bound = omega (arith, sound.bound, tree_some (length (unfixed q.plan x)));
    }
      where
        go : (w : List Belt) → Permits q w → Covers st w ⊎ (admits x w ≡ true) → Covers st w
        go w i (inl c) = c
        go w i (inr a) = h w i a

    module _ (r : List Belt) (is : relaxed q.plan q.s q.t x ≡ some r) where
      -- 5 and 6: the relaxed route is not permitted
      sound_branched : setting_of q.terms r ≡ none → (o : Option ℕ) → q.pick x r ≡ o → Sound q (branched q x st o)
      sound_branched unmet none k = dropped (λ w i a. absurd ((lowest_claim q.terms w).1.0 (likewise w a) i.1))
        where
          -- nor is any other that x admits
          likewise : (w : List Belt) → admits x w ≡ true → setting_of q.terms w ≡ none
          likewise w a =
              let (j, c, least) = relaxed_least x r is in
              settled q.plan q.terms ex.rules_named x (ex.picks_one x r k) w r a c ∙ unmet
      sound_branched unmet (some e) k = record {
        permitted = sound.permitted;
        covered = λ w i. go w (sound.covered w i);
        bound = omega (arith, sound.bound, weight_children q.plan q.order x e st.waiting (ex.picks x r e k));
      }
        where
          go : (w : List Belt) → Covers st w ⊎ (admits x w ≡ true) → Covers (branched q x st (some e)) w
          go w (inl (inl h)) = inl h
          go w (inl (inr (inl h))) = inr (inl h)
          go w (inl (inr (inr (y, m, a)))) = inr (inr (y, Memᴰ.append_right (children q.order q.plan x e) m, a))
          go w (inr a) = let (y, m, c) = children_admit q.order q.plan x e w a in inr (inr (y, Memᴰ.append_left st.waiting m, c))

      -- 4: it comes before the best, and is permitted or not
      sound_tested : improves r st.best ≡ true → (o : Option ℕ) → setting_of q.terms r ≡ o → Sound q (tested q x st r o)
      sound_tested better none k = sound_branched k (q.pick x r) refl
      sound_tested better (some σ) k =
          let (j, c, least) = relaxed_least x r is in
          let (u, works, first) = ((lowest_claim q.terms r).0 σ).0 k in
          record {
            permitted = λ w h. subst (Permits q) (some-injective r w h) (j, (σ, u, works));
            covered = λ w i. go w (λ a. behind r w j i.0 (least w i.0 a)) (sound.covered w i);
            bound = omega (arith, sound.bound, tree_some (length (unfixed q.plan x)));
          }
        where
          -- it comes before the old best, and so before what comes after that
          over : (b : List Belt) → st.best ≡ some b → before r b ≡ true
          over b h = subst (λ (o : Option (List Belt)). improves r o ≡ true) h better

          go : (w : List Belt) → (admits x w ≡ true → ByBest (some r) w) → Covers st w ⊎ (admits x w ≡ true) → Covers (tested q x st r (some σ)) w
          go w least (inl (inl h)) = inr (inl (r, refl, over w h))
          go w least (inl (inr (inl (b, h, l)))) = inr (inl (r, refl, before_trans r b w (over b h) l))
          go w least (inl (inr (inr h))) = inr (inr h)
          go w least (inr a) = by_best (tested q x st r (some σ)) w (least a)

      -- 3: it comes before the best or not
      sound_compared : (t : Bool) → improves r st.best ≡ t → Sound q (compared q x st r t)
      sound_compared true k = sound_tested k (setting_of q.terms r) refl
      sound_compared false k = dropped (λ w i a. by_best st w (go w i a st.best refl k))
        where
          go : (w : List Belt) → Permits q w → admits x w ≡ true
              → (o : Option (List Belt)) → st.best ≡ o → improves r o ≡ false → ByBest st.best w
          go w i a none e h = absurd (true≢false h)
          go w i a (some b) e h =
              let (j, c, least) = relaxed_least x r is in
              subst (λ (o : Option (List Belt)). ByBest o w) (sym e)
              (behind b w (sound.permitted b e).0 i.0 (not_before_trans w r b (least w i.0 a) h))

    -- 3: there is a relaxed route or none
    sound_considered : (o : Option (List Belt)) → relaxed q.plan q.s q.t x ≡ o → Sound q (considered q x st o)
    sound_considered none k = dropped (λ w i a. absurd (no_admitted x k w i.0 a))
    sound_considered (some r) k = sound_compared r k (improves r st.best) refl

  -- ---- any of those that wait is opened

  -- it is sound but for the one that was taken, whichever that is
  taken_off_lem : (n : ℕ) (st : State) (x : Subproblem) (xs : List Subproblem) → st.waiting ≡ x ∷ xs → Sound q st
      → Without q (take_at n x xs).0 (taken_off st (take_at n x xs).1)
  taken_off_lem n st x xs e sound = record {
    permitted = sound.permitted;
    covered = λ w i. go w (sound.covered w i);
    bound =
        let h : st.opened + weight q.plan (x ∷ xs) ≤ tree (length (named q.plan)) =
        subst (λ (ys : List Subproblem). st.opened + weight q.plan ys ≤ tree (length (named q.plan))) e sound.bound in
        omega (arith, weight_taken q.plan n x xs);
  }
    where
      waits : (w : List Belt) (y : Subproblem) → admits y w ≡ true → (y ≡ (take_at n x xs).0) ⊎ Memᴰ y (take_at n x xs).1
          → Covers (taken_off st (take_at n x xs).1) w ⊎ (admits (take_at n x xs).0 w ≡ true)
      waits w y a (inl h) = inr (subst (λ (z : Subproblem). admits z w ≡ true) h a)
      waits w y a (inr m) = inl (inr (inr (y, m, a)))

      go : (w : List Belt) → Covers st w → Covers (taken_off st (take_at n x xs).1) w ⊎ (admits (take_at n x xs).0 w ≡ true)
      go w (inl h) = inl (inl h)
      go w (inr (inl h)) = inl (inr (inl h))
      go w (inr (inr (y, m, a))) = waits w y a (in_taken n x xs (subst (Memᴰ y) e m))

  sound_next : (st : State) (x : Subproblem) (xs : List Subproblem) → st.waiting ≡ x ∷ xs → Sound q st → Sound q (open_next q st x xs)
  sound_next st x xs e sound =
      let n = q.choose st in
      sound_considered (take_at n x xs).0 (taken_off st (take_at n x xs).1) (taken_off_lem n st x xs e sound)
      (relaxed q.plan q.s q.t (take_at n x xs).0) refl

  -- every state of the sequence is sound
  sound_at : (n : ℕ) (st : State) → state_at q n ≡ some st → Sound q st
  sound_at = along q (λ (n : ℕ) (st : State). Sound q st) (sound_begun q) (λ n st x xs w sound. sound_next st x xs w sound)

-- ---- the claims

pub best_claim : BestClaim
best_claim q ex n st h = (sound_at q ex n st h).permitted

pub coverage_claim : CoverageClaim
coverage_claim q ex n st h = (sound_at q ex n st h).covered

pub bound_claim : BoundClaim
bound_claim q ex n (st, h, waits) =
    let some-waits : 1 ≤ weight q.plan st.waiting = weight_some q.plan st.waiting waits in
    let within : st.opened + weight q.plan st.waiting ≤ tree (length (named q.plan)) = (sound_at q ex n st h).bound in
    rw add-one (omega (arith, tree_pow (length (named q.plan)), state_opened q n st h))

module _ (q : Problem) (ex : Explores q) (budget : ℕ) where
  at_end_lem : Sound q (run q budget).state
  at_end_lem = sound_at q ex (run q budget).state.opened (run q budget).state (run_counted q budget)

  -- where nothing waits any more, the best covers every permitted route
  covered_by_best : ((run q budget).ending ≡ some budget_spent → ⊥) → (w : List Belt) → Permits q w → ByBest (run q budget).state.best w
  covered_by_best unspent w i = go (at_end_lem.covered w i)
    where
      go : Covers (run q budget).state w → ByBest (run q budget).state.best w
      go (inl h) = inl h
      go (inr (inl h)) = inr h
      go (inr (inr (y, m, a))) = absurd (Memᴰ.not-nil (subst (Memᴰ y) (run_complete q budget unspent) m))

  found_first : (run q budget).ending ≡ some found_route → (r : List Belt) × ((run q budget).state.best ≡ some r) × Permits q r
      × ((w : List Belt) → Permits q w → (w ≡ r → ⊥) → before r w ≡ true)
  found_first h =
      let (r, e) = run_found q budget h in
      (r, e, at_end_lem.permitted r e, λ w i d. go r w e d (covered_by_best unspent w i))
    where
      unspent : (run q budget).ending ≡ some budget_spent → ⊥
      unspent s = let z : ◌≡◌ {A = ℕ} 0 1 = cc in absurd (omega arith)

      go : (r w : List Belt) → (run q budget).state.best ≡ some r → (w ≡ r → ⊥) → ByBest (run q budget).state.best w → before r w ≡ true
      go r w e d (inl k) = absurd (d (some-injective w r (sym k ∙ e)))
      go r w e d (inr (b, k, l)) = subst (λ (v : List Belt). before v w ≡ true) (some-injective b r (sym k ∙ e)) l

  none_found : (run q budget).ending ≡ some found_none → (w : List Belt) → Permits q w → ⊥
  none_found h w i = go (run_nothing q budget h) (covered_by_best unspent w i)
    where
      unspent : (run q budget).ending ≡ some budget_spent → ⊥
      unspent s = let z : ◌≡◌ {A = ℕ} 0 1 = cc in absurd (omega arith)

      go : (run q budget).state.best ≡ none → ByBest (run q budget).state.best w → ⊥
      go e (inl k) = none-ne-some w (sym e ∙ k)
      go e (inr (b, k, l)) = none-ne-some b (sym e ∙ k)

pub any_choice_claim : AnyChoiceClaim
any_choice_claim q ex budget = record {
  ends = run_over q budget;
  found = found_first q ex budget;
  none_permitted = none_found q ex budget;
  spent_when = run_spent q budget;
  never_spent = λ enough s. omega (arith, bound_claim q ex budget ((run_spent q budget).0 s));
  counted = run_counted q budget;
  complete = run_complete q budget;
  spent_at = run_spent_at q budget;
  larger = run_larger q budget;
}
