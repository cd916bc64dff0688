-- What a Search stands for, as the code changes it: after each change it stands for the state that the written search goes to, and is valid.
--
--   places              the length of a Search's array, in the form in which owning a Search gives that fact
--   waiting_length      the first n masks of an array are n subproblems
--   settled_to f o r c v j
--                       the Search v after the decision j on the subproblem f is carried out, with the relaxed route r, its cost c and the order o
--   Room v j            the array has room for what j adds
--   Taken b v f         a Search from which the subproblem of the masks f was taken: there is room for its children
--   Settles .. r c st j after j is carried out the Search is valid, and stands for the state st
--   compared_settles    this holds for steps 3 to 6, where there is a relaxed route
--   popped v            the Search v without its newest subproblem, opened and counted
--   newest_waits, count_few, popped_taken
--                       the newest is the first that waits; at most max_waiting wait; without the newest there is room for its children
--   first_state, first_valid
--                       at its beginning
--
-- The newest stands last in the array, so what is stored from place n on is no part of the first n; and a mask with the place of one more
-- belt fixes that belt too. How many wait is told by the states (Depth). Assumes nothing.
use mathlib.Core.Path.{◌≡◌, refl, sym, ◌∙◌, ap, subst}
use mathlib.Core.Logic.{◌⊎◌, inl, inr}
use mathlib.Core.Bool.{Bool, true, false, not, ◌||◌, true≢false}
use mathlib.Core.Option.{Option, none, some}
use Prim.Native.Nat.{ℕ, zero, suc, ◌+◌, ◌-◌, ◌≤◌, ◌<◌}
use mathlib.Core.List.Memᴰ
use mathlib.Core.List.{List, [], ◌∷◌, ◌++◌, map, Memᴰ}
use native.Mathlib.Omega.{arith}
use lib.Pow.{pow_pos}
use lib.ListN.{length, get_or, set, length-set, length-map, replicate}
use lib.Seq.{get_or-set_same, get_or-set_other}
use lib.Dec.{eqb, ltb, eqb-suc-zero}
use borrow.Author.Tests.{eqb-true, eqb-false, ne_eqb}
use Rattle.plan.specs.Plan.{Place}
use Rattle.std.specs.Prelude.{Some}
use Rattle.plan.specs.Lists.{count, mem}
use Rattle.plan.specs.Plan.{plan_of, named, place_of}
use Rattle.plan.specs.Reading.{Accepted}
use Rattle.plan.proofs.Lists.{test, keep_in, keep_none, keep_cong}
use Rattle.plan.proofs.NamedBelts.{named_rises}
use Rattle.plan.proofs.NamedPlaces.{at_place, place_in_lem}
use Rattle.plan.proofs.Reading.{named_few}
use Rattle.route.specs.declared.belts.Route.{Route}
use Rattle.route.specs.declared.relax.Fixings.{Fixings}
use Rattle.route.specs.Permission.{passes, terms_of}
use Rattle.route.specs.Subproblems.{Subproblem}
use Rattle.route.specs.Routes.{cost}
use Rattle.route.specs.Values.{ids_of, packed, Known, route_in, in_mask, with_place, fixed_in, OfNamed, subproblem_in, unbounded}
use Rattle.route.proofs.MaskFixings.{fixed_mem, with_belt, with_low, nothing_has}
use Rattle.search.specs.declared.query.Query.{Query}
use Rattle.search.specs.declared.state.Search.{Search}
use Rattle.search.specs.declared.state.Judged.{Judged}
use Rattle.search.specs.declared.state.Judged.TheVariants.{Drop, Best, Branch}
use Rattle.search.specs.Branching.{is_fixed, unfixed, fixed_count, adding, requiring, forbidding, children, pick_of}
use Rattle.search.specs.Search.{State, free, branched, setting_of, tested, compared, begun}
use Rattle.search.specs.Answers.{problem_in}
use Rattle.search.specs.Values.{picked_place, no_fixings, first_search, waiting_in, is_held, best_in, bound_of, state_in, Deep, Valid, newest_of, max_waiting}
use Rattle.search.specs.Inner.{child_at, branch_at, tested_as, judged_in, judged_by}
use Rattle.search.proofs.BranchChildren.{fixed_unfixed, picks_unfixed}
use Rattle.search.proofs.RunDepth.{deep_tested, deep_begun, deep_few}

pub places : (v : Search) {n : ℕ} → length (map {B = ℕ × (ℕ × Unit {0})} (λ (f : Fixings). (f.required, (f.forbidden, tt))) v.waiting) ≡ n
    → length v.waiting ≡ n
places v h = sym (length-map {B = ℕ × (ℕ × Unit {0})} v.waiting (λ (f : Fixings). (f.required, (f.forbidden, tt)))) ∙ h

-- ---- what is stored

-- what holds of each place holds where one is stored, if it holds of that one
stored_each : (P : ℕ → Fixings → Type 0) (xs : List Fixings) (i : ℕ) (f : Fixings) → i < length xs → P i f
    → ((j : ℕ) → (j ≡ i → ⊥) → P j (get_or xs j no_fixings)) → (j : ℕ) → P j (get_or (set xs i f) j no_fixings)
stored_each P xs i f l h others j = go (test (eqb j i))
  where
    go : (eqb j i ≡ true) ⊎ (eqb j i ≡ false) → P j (get_or (set xs i f) j no_fixings)
    go (inl t) =
        subst (λ (k : ℕ). P k (get_or (set xs i f) k no_fixings)) (sym (eqb-true j i t)) (subst (P i) (sym (get_or-set_same xs i f no_fixings l)) h)
    go (inr t) = let apart = eqb-false j i t in subst (P j) (sym (get_or-set_other xs i j f no_fixings apart)) (others j apart)

-- both masks have places of named belts alone
abbrev Masked : List ℕ → Fixings → Type 0
Masked b f = OfNamed b f.required × OfNamed b f.forbidden

stored_masked : (b : List ℕ) (xs : List Fixings) (i : ℕ) (f : Fixings) → i < length xs → Masked b f → ((j : ℕ) → Masked b (get_or xs j no_fixings))
    → (j : ℕ) → Masked b (get_or (set xs i f) j no_fixings)
stored_masked b xs i f l h all = stored_each (λ (k : ℕ) (g : Fixings). Masked b g) xs i f l h (λ j apart. all j)

none_masked : (b : List ℕ) → Masked b no_fixings
none_masked b = (pow_pos (length (named (plan_of b))), pow_pos (length (named (plan_of b))))

all_masked : {b : List ℕ} {v : Search} → Valid b v → (i : ℕ) → Masked b (get_or v.waiting i no_fixings)
all_masked valid i = (valid.required i, valid.forbidden i)

-- ---- the subproblems that wait

pub waiting_length : (b : List ℕ) (xs : List Fixings) (n : ℕ) → length (waiting_in b xs n) ≡ n
waiting_length b xs zero = refl
waiting_length b xs (suc n) = ap suc (waiting_length b xs n)

stored_beyond : (b : List ℕ) (xs : List Fixings) (n i : ℕ) (f : Fixings) → n ≤ i → waiting_in b (set xs i f) n ≡ waiting_in b xs n
stored_beyond b xs zero i f h = refl
stored_beyond b xs (suc n) i f h =
    λ k. subproblem_in b (get_or-set_other xs i n f no_fixings (λ e. omega (arith, h, e)) k) ∷ stored_beyond b xs n i f (omega (arith, h)) k

-- two more are the newest
both_stored : (b : List ℕ) (xs : List Fixings) (n : ℕ) (older newer : Fixings) → n + 1 < length xs
    → waiting_in b (set (set xs n older) (n + 1) newer) (n + 2) ≡ subproblem_in b newer ∷ subproblem_in b older ∷ waiting_in b xs n
both_stored b xs n older newer l =
    let ys = set xs n older in
    let zs = set ys (n + 1) newer in
    let size : length ys ≡ length xs = length-set xs n older in
    let two : n + 2 ≡ suc (suc n) = omega arith in
    let one : suc n ≡ n + 1 = omega arith in
    let last : get_or zs (suc n) no_fixings ≡ newer =
    ap (λ (k : ℕ). get_or zs k no_fixings) one ∙ get_or-set_same ys (n + 1) newer no_fixings (omega (arith, l, size)) in
    let second : get_or zs n no_fixings ≡ older =
    get_or-set_other ys (n + 1) n newer no_fixings (λ e. omega (arith, e)) ∙ get_or-set_same xs n older no_fixings (omega (arith, l)) in
    let others : waiting_in b zs n ≡ waiting_in b xs n =
    stored_beyond b ys n (n + 1) newer (omega arith) ∙ stored_beyond b xs n n older (omega arith) in
    ap (waiting_in b zs) two ∙ (λ k. subproblem_in b (last k) ∷ subproblem_in b (second k) ∷ others k)

-- ---- the masks of the children

module _ (b : List ℕ) (e : ℕ) (i : Memᴰ e (named (plan_of b))) where
  abbrev place : Place
  place = place_of (named (plan_of b)) e

  with_fixed : (m : ℕ) → fixed_in (named (plan_of b)) (with_place m place) ≡ adding (plan_of b) e (fixed_in (named (plan_of b)) m)
  with_fixed m =
      let ns = named (plan_of b) in
      keep_cong (λ (n : ℕ). in_mask (with_place m place) (place_of ns n)) (λ (n : ℕ). mem n (fixed_in ns m) || eqb n e) ns (λ n j.
      with_belt (named_rises b) m e n i j ∙ ap (λ (t : Bool). t || eqb n e) (sym (fixed_mem ns m n)))

  module _ (f : Fixings) where
    requiring_is : subproblem_in b (child_at f place true) ≡ requiring (plan_of b) (subproblem_in b f) e
    requiring_is = λ k. record { required = with_fixed f.required k; forbidden = fixed_in (named (plan_of b)) f.forbidden }

    forbidding_is : subproblem_in b (child_at f place false) ≡ forbidding (plan_of b) (subproblem_in b f) e
    forbidding_is = λ k. record { required = fixed_in (named (plan_of b)) f.required; forbidden = with_fixed f.forbidden k }

-- ---- what is done with a subproblem that was taken

-- two more wait
abbrev with_both : Fixings → Fixings → Search → Search
with_both older newer v = record {
  waiting = set (set v.waiting v.count older) (v.count + 1) newer;
  count = v.count + 2;
  opened = v.opened;
  best = v.best;
  bound = v.bound;
}

-- a new best is held, that costs c
abbrev held : Search → Route → ℕ → Search
held v r c = record { waiting = v.waiting; count = v.count; opened = v.opened; best = r; bound = c }

abbrev pub settled_to : Fixings → ℕ → Route → ℕ → Search → Judged → Search
settled_to f o r c v Drop = v
settled_to f o r c v Best = held v r c
settled_to f o r c v (Branch k) = with_both (child_at f (Some k) (eqb o 0)) (child_at f (Some k) (not (eqb o 0))) v

abbrev pub Room : Search → Judged → Type 0
Room v Drop = Unit {0}
Room v Best = Unit {0}
Room v (Branch k) = (v.count ≤ max_waiting - 2) × (k < 64)

pub record Taken (b : List ℕ) (v : Search) (f : Fixings) : Type 0 where
  pub valid : Valid b v
  pub required : OfNamed b f.required
  pub forbidden : OfNamed b f.forbidden
  pub room : v.count ≤ fixed_count (plan_of b) (subproblem_in b f)

-- ---- two more waiting

-- the state st, where the subproblems xs wait
abbrev where_wait : List Subproblem → State → State
where_wait xs st = record { waiting = xs; opened = st.opened; best = st.best }

-- both children, in the order o
abbrev grown : Fixings → Fixings → ℕ → Search → Search
grown requires forbids zero v = with_both requires forbids v
grown requires forbids (suc o) v = with_both forbids requires v

module _ (b : List ℕ) (v : Search) (size : length v.waiting ≡ max_waiting) (room : v.count ≤ max_waiting - 2) where
  both_state : (older newer : Fixings)
      → state_in b (with_both older newer v) ≡ where_wait (subproblem_in b newer ∷ subproblem_in b older ∷ (state_in b v).waiting) (state_in b v)
  both_state older newer = λ k. where_wait (both_stored b v.waiting v.count older newer (omega (arith, size, room)) k) (state_in b v)

  grown_state : (requires forbids : Fixings) (x : Subproblem) (e : ℕ)
      → subproblem_in b requires ≡ requiring (plan_of b) x e → subproblem_in b forbids ≡ forbidding (plan_of b) x e
      → (o : ℕ) → state_in b (grown requires forbids o v) ≡ where_wait (children o (plan_of b) x e ++ (state_in b v).waiting) (state_in b v)
  grown_state requires forbids x e r f zero = both_state requires forbids ∙ (λ k. where_wait (f k ∷ r k ∷ (state_in b v).waiting) (state_in b v))
  grown_state requires forbids x e r f (suc o) = both_state forbids requires ∙ (λ k. where_wait (r k ∷ f k ∷ (state_in b v).waiting) (state_in b v))

  both_valid : (older newer : Fixings) → Masked b older → Masked b newer → Valid b v
      → Deep (plan_of b) (state_in b (with_both older newer v)).waiting → Valid b (with_both older newer v)
  both_valid older newer o n valid deep =
      let xs = v.waiting in
      let ys = set xs v.count older in
      let here : v.count < length xs = omega (arith, size, room) in
      let next : v.count + 1 < length ys = omega (arith, size, room, length-set xs v.count older) in
      let masked = stored_masked b ys (v.count + 1) newer next n (stored_masked b xs v.count older here o (all_masked valid)) in record {
        required = λ i. (masked i).0;
        forbidden = λ i. (masked i).1;
        deep = deep;
        spare = λ i h.
            get_or-set_other ys (v.count + 1) i newer no_fixings (λ e. omega (arith, h, e))
            ∙ get_or-set_other xs v.count i older no_fixings (λ e. omega (arith, h, e))
            ∙ valid.spare i (omega (arith, h));
        known = valid.known;
        rest_zero = valid.rest_zero;
        unheld = valid.unheld;
        bound_is = valid.bound_is;
      }

  grown_valid : (requires forbids : Fixings) → Masked b requires → Masked b forbids → Valid b v
      → (o : ℕ) → Deep (plan_of b) (state_in b (grown requires forbids o v)).waiting → Valid b (grown requires forbids o v)
  grown_valid requires forbids r f valid zero deep = both_valid requires forbids r f valid deep
  grown_valid requires forbids r f valid (suc o) deep = both_valid forbids requires f r valid deep

-- ---- steps 3 to 6

branch_grown : (f : Fixings) (k o : ℕ) (r : Route) (c : ℕ) (v : Search) → settled_to f o r c v (Branch k) ≡ grown (child_at f (Some k) true) (child_at f (Some k) false) o v
branch_grown f k zero r c v = refl
branch_grown f k (suc o) r c v = ap (λ (t : Bool). with_both (child_at f (Some k) t) (child_at f (Some k) (not t)) v) (eqb-suc-zero o)

some_long : {A : Type 0} {a : A} (xs : List A) → Memᴰ a xs → 1 ≤ length xs
some_long [] m = absurd (Memᴰ.not-nil m)
some_long (x ∷ xs) m = omega arith

-- what costs less than `unbounded` is held
is_held_lem : (c : ℕ) → c < unbounded → is_held c ≡ true
is_held_lem c low = ap not (ne_eqb c unbounded (λ e. omega (arith, low, e)))

held_valid : {b : List ℕ} {v : Search} {r : Route} {c : ℕ} → Valid b v → Known b r → r ≡ packed (ids_of r) → c ≡ cost (route_in b r) → c < unbounded
    → Valid b (held v r c)
held_valid {b} {v} {r} {c} valid known rest_zero price low = record {
  required = valid.required;
  forbidden = valid.forbidden;
  deep = valid.deep;
  spare = valid.spare;
  known = known;
  rest_zero = rest_zero;
  unheld = λ h. absurd (true≢false (sym (is_held_lem c low) ∙ h));
  bound_is = price ∙ sym (ap (λ (t : Bool). bound_of (best_in b t r)) (is_held_lem c low));
}

pub record Settles (b : List ℕ) (v : Search) (f : Fixings) (q : Query) (r : Route) (c : ℕ) (st : State) (j : Judged) : Type 0 where
  pub room : Room v j
  pub state : state_in b (settled_to f q.order r c v j) ≡ st
  pub valid : Valid b (settled_to f q.order r c v j)

module _ {b : List ℕ} (ok : Accepted b) (v : Search) (size : length v.waiting ≡ max_waiting) (f : Fixings) (taken : Taken b v f) (q : Query) (r : Route) (c : ℕ) where
  abbrev subproblem : Subproblem
  subproblem = subproblem_in b f

  -- what becomes of it where it is branched on the belt o
  abbrev at : Option ℕ → Judged
  at o = branch_at (picked_place (named (plan_of b)) o)

  few_wait : (e : ℕ) → Memᴰ e (unfixed (plan_of b) subproblem) → v.count ≤ max_waiting - 2
  few_wait e u =
      omega (arith, taken.room, fixed_unfixed (plan_of b) subproblem, some_long (unfixed (plan_of b) subproblem) u, named_few ok)

  branch_settles : (o : Option ℕ) → ((e : ℕ) → o ≡ some e → Memᴰ e (unfixed (plan_of b) subproblem))
      → Deep (plan_of b) (branched (problem_in b q) subproblem (state_in b v) o).waiting
      → Settles b v f q r c (branched (problem_in b q) subproblem (state_in b v) o) (at o)
  branch_settles none h deep = record { room = tt; state = refl; valid = taken.valid }
  branch_settles (some e) h deep =
      let ns = named (plan_of b) in
      let u = h e refl in
      let i = (keep_in (λ (n : ℕ). not (is_fixed subproblem n)) ns u).0 in
      let few : v.count ≤ max_waiting - 2 = few_wait e u in
      let requires = child_at f (place_of ns e) true in
      let forbids = child_at f (place_of ns e) false in
      let whole : settled_to f q.order r c v (at (some e)) ≡ grown requires forbids q.order v =
      subst (λ (k : Place). settled_to f q.order r c v (branch_at k) ≡ grown (child_at f k true) (child_at f k false) q.order v) (sym (place_in_lem e ns i))
      (branch_grown f (count (λ (n : ℕ). ltb n e) ns) q.order r c v) in
      let state : state_in b (grown requires forbids q.order v) ≡ branched (problem_in b q) subproblem (state_in b v) (some e) =
      grown_state b v size few requires forbids subproblem e (requiring_is b e i f) (forbidding_is b e i f) q.order in record {
        room = subst (λ (k : Place). Room v (branch_at k)) (sym (place_in_lem e ns i)) (few, omega (arith, (at_place e (named_rises b) i).1, named_few ok));
        state = ap (state_in b) whole ∙ state;
        valid =
            subst (Valid b) (sym whole)
            (grown_valid b v size few requires forbids
            (with_low (named_rises b) f.required e i taken.required, taken.forbidden)
            (taken.required, with_low (named_rises b) f.forbidden e i taken.forbidden)
            taken.valid
            q.order
            (subst (λ (st : State). Deep (plan_of b) st.waiting) (sym state) deep));
      }

  module _ (known : Known b r) (rest_zero : r ≡ packed (ids_of r)) (price : c ≡ cost (route_in b r)) (low : c < unbounded) where
    abbrev picked : Option ℕ
    picked = pick_of q.pick (plan_of b) subproblem (passes (route_in b r))

    tested_settles : (o : Option ℕ)
        → Settles b v f q r c (tested (problem_in b q) subproblem (state_in b v) (route_in b r) o) (tested_as (picked_place (named (plan_of b)) picked) o)
    tested_settles (some σ) = record {
      room = tt;
      state = λ i. record { waiting = (state_in b v).waiting; opened = v.opened; best = best_in b (is_held_lem c low i) r };
      valid = held_valid taken.valid known rest_zero price low;
    }
    tested_settles none =
        let p = plan_of b in
        let few : length (state_in b v).waiting ≤ fixed_count p subproblem = omega (arith, waiting_length b v.waiting v.count, taken.room) in
        branch_settles picked (picks_unfixed q.pick p subproblem (passes (route_in b r)))
        (deep_tested (problem_in b q) (λ x l. picks_unfixed q.pick p x (passes l)) subproblem (state_in b v) taken.valid.deep few (route_in b r) none)

    pub compared_settles : (t : Bool)
        → Settles b v f q r c (compared (problem_in b q) subproblem (state_in b v) (route_in b r) t) (judged_by t (judged_in b q f (passes (route_in b r))))
    compared_settles true = tested_settles (setting_of (terms_of (plan_of b) q.trip) (route_in b r))
    compared_settles false = record { room = tt; state = refl; valid = taken.valid }

-- ---- the newest is taken

abbrev pub popped : Search → Search
popped v = record {
  waiting = set v.waiting (v.count - 1) no_fixings;
  count = v.count - 1;
  opened = v.opened + 1;
  best = v.best;
  bound = v.bound;
}

last_waits : (b : List ℕ) (xs : List Fixings) (n : ℕ) → (n ≡ 0 → ⊥)
    → waiting_in b xs n ≡ subproblem_in b (get_or xs (n - 1) no_fixings) ∷ waiting_in b xs (n - 1)
last_waits b xs zero h = absurd (h refl)
last_waits b xs (suc n) h =
    let same : n ≡ suc n - 1 = omega arith in
    ap (λ (k : ℕ). subproblem_in b (get_or xs k no_fixings) ∷ waiting_in b xs k) same

pub newest_waits : (b : List ℕ) (v : Search) → (v.count ≡ 0 → ⊥)
    → (state_in b v).waiting ≡ subproblem_in b (newest_of v) ∷ (state_in b (popped v)).waiting
newest_waits b v h =
    last_waits b v.waiting v.count h
    ∙ sym (ap (λ (xs : List Subproblem). subproblem_in b (newest_of v) ∷ xs)
    (stored_beyond b v.waiting (v.count - 1) (v.count - 1) no_fixings (omega arith)))

pub count_few : {b : List ℕ} → Accepted b → {v : Search} → Valid b v → v.count ≤ max_waiting
count_few {b} ok {v} valid =
    omega (arith, deep_few (plan_of b) (state_in b v).waiting valid.deep, waiting_length b v.waiting v.count, named_few ok)

pub popped_taken : {b : List ℕ} → Accepted b → (v : Search) → length v.waiting ≡ max_waiting → Valid b v → (v.count ≡ 0 → ⊥)
    → Taken b (popped v) (newest_of v)
popped_taken {b} ok v size valid waits =
    let xs = v.waiting in
    let top = v.count - 1 in
    let deep : Deep (plan_of b) (subproblem_in b (newest_of v) ∷ (state_in b (popped v)).waiting) =
    subst (Deep (plan_of b)) (newest_waits b v waits) valid.deep in
    let below : top < length xs = omega (arith, size, count_few ok valid, waits) in
    let masked = stored_masked b xs top no_fixings below (none_masked b) (all_masked valid) in record {
      valid = record {
        required = λ i. (masked i).0;
        forbidden = λ i. (masked i).1;
        deep = deep.1;
        spare = stored_each (λ (i : ℕ) (f : Fixings). top ≤ i → f ≡ no_fixings) xs top no_fixings below (λ h. refl)
            (λ i apart h. valid.spare i (omega (arith, h, apart)));
        known = valid.known;
        rest_zero = valid.rest_zero;
        unheld = valid.unheld;
        bound_is = valid.bound_is;
      };
      required = valid.required top;
      forbidden = valid.forbidden top;
      room = omega (arith, deep.0, waiting_length b (set xs top no_fixings) top);
    }

-- ---- the beginning

-- masks without a place fix nothing
none_fixed : (b : List ℕ) → subproblem_in b no_fixings ≡ free
none_fixed b =
    let ns = named (plan_of b) in
    let nothing : fixed_in ns 0 ≡ [] = keep_none (λ (e : ℕ). in_mask 0 (place_of ns e)) ns (λ e m. nothing_has ns e) in
    λ k. record { required = nothing k; forbidden = nothing k }

pub first_state : (b : List ℕ) → state_in b first_search ≡ begun
first_state b = λ k. record { waiting = none_fixed b k ∷ []; opened = 0; best = none }

all_none : (n i : ℕ) → get_or (replicate n no_fixings) i no_fixings ≡ no_fixings
all_none zero i = refl
all_none (suc n) zero = refl
all_none (suc n) (suc i) = all_none n i

pub first_valid : (b : List ℕ) → Valid b first_search
first_valid b =
    let masked : (i : ℕ) → Masked b (get_or first_search.waiting i no_fixings) = λ i. subst (Masked b) (sym (all_none max_waiting i)) (none_masked b) in record {
      required = λ i. (masked i).0;
      forbidden = λ i. (masked i).1;
      deep = subst (λ (st : State). Deep (plan_of b) st.waiting) (sym (first_state b)) (deep_begun (plan_of b));
      spare = λ i h. all_none max_waiting i;
      known = record { belts = λ e m. absurd (Memᴰ.not-nil m) };
      rest_zero = refl;
      unheld = λ h. refl;
      bound_is = refl;
    }
