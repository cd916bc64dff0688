-- What branching does: which belts the children fix, which routes they admit, what the picks pick.
--
--   children_admit    a route that a subproblem admits is admitted by one of its two children
--   fixed_child       of the named belts a child fixes those that its parent fixes, and the one that was picked
--   fixed_unfixed     the fixed and the unfixed named belts are all of them
--   fixed_more, unfixed_less
--                     so each child of an unfixed belt fixes more, and leaves fewer unfixed
--   settled           where nothing is unfixed, all admitted routes have one lowest setting, or none
--   picks_unfixed, picks_one
--                     each pick picks an unfixed named belt, and one while there is one
--   explores          so the search of a query explores
--
-- The one idea: a route either passes the picked belt or not, so it follows one of the children; and since a rule tells routes apart by its
-- named belts alone, two routes that agree on all of these are permitted alike. Assumes nothing.
use mathlib.Core.Path.{◌≡◌, refl, sym, ◌∙◌, ap, subst}
use mathlib.Core.Logic.{◌⊎◌, inl, inr}
use mathlib.Core.Bool.{Bool, true, false, not, ◌||◌, or_assoc, or_comm, or-true}
use mathlib.Core.Option.{Option, none, some}
use Prim.Native.Nat.{ℕ, zero, suc, ◌+◌, ◌≤◌, ◌<◌}
use mathlib.Core.List.Memᴰ
use mathlib.Core.List.{List, [], ◌∷◌, head?, Memᴰ}
use native.Mathlib.Omega.{arith}
use lib.ListN.{length}
use lib.Dec.{eqb, ltb}
use borrow.Author.Tests.{eqb-true, eq-eqb, not-true}
use Rattle.plan.specs.Lists.{any, keep_by, keep, count_by, count, mem}
use Rattle.plan.specs.declared.read.Literal.{Literal}
use Rattle.plan.specs.declared.read.Literal.TheVariants.{OfBelt, OfMode}
use Rattle.plan.specs.Plan.{Belt, Plan, plan_of, names, in_rule, named}
use Rattle.plan.specs.Reading.{Accepted}
use Rattle.plan.proofs.Lists.{test, either, never, alike, each, in_any, any_some, in_keep, keep_in, in_mem, mem_in}
use Rattle.route.specs.declared.path.Trip.{Trip}
use Rattle.route.specs.Permission.{passes, Terms, find, or_else, otherwise}
use Rattle.route.specs.Subproblems.{Subproblem, admits}
use Rattle.route.proofs.SubproblemFirst.{admits_is, is_admits}
use Rattle.route.proofs.RulesCodes.{literal_named}
use Rattle.route.proofs.RulesNamed.{AgreeOn, lowest_cong}
use Rattle.search.specs.Branching.{is_fixed, unfixed, fixed_count, adding, requiring, forbidding, children, rule_count, higher, highest, pick_of}
use Rattle.search.specs.Search.{setting_of, problem_of}
use Rattle.search.specs.Claims.{Explores}

-- ---- the two children

-- what holds of both holds of each
pub of_both : (P : Subproblem → Type 0) (o : ℕ) (p : Plan) (x : Subproblem) (e : ℕ) → P (requiring p x e) → P (forbidding p x e)
    → (y : Subproblem) → Memᴰ y (children o p x e) → P y
of_both P zero p x e r f = each P f (each P r (λ y m. absurd (Memᴰ.not-nil m)))
of_both P (suc o) p x e r f = each P r (each P f (λ y m. absurd (Memᴰ.not-nil m)))

requiring_child : (o : ℕ) (p : Plan) (x : Subproblem) (e : ℕ) → Memᴰ (requiring p x e) (children o p x e)
requiring_child zero p x e = Memᴰ.tail (Memᴰ.head refl)
requiring_child (suc o) p x e = Memᴰ.head refl

forbidding_child : (o : ℕ) (p : Plan) (x : Subproblem) (e : ℕ) → Memᴰ (forbidding p x e) (children o p x e)
forbidding_child zero p x e = Memᴰ.head refl
forbidding_child (suc o) p x e = Memᴰ.tail (Memᴰ.head refl)

-- ---- what they admit

-- what holds of some belts and of e holds of these belts with e added
pub of_adding : (P : ℕ → Type 0) (p : Plan) (e : ℕ) (es : List ℕ) → P e → ((n : ℕ) → Memᴰ n es → P n) → (n : ℕ) → Memᴰ n (adding p e es) → P n
of_adding P p e es here there n m =
    go (either (mem n es) (eqb n e) (keep_in (λ (n : ℕ). mem n es || eqb n e) (named p) m).1)
  where
    go : (mem n es ≡ true) ⊎ (eqb n e ≡ true) → P n
    go (inl t) = there n (mem_in es t)
    go (inr t) = subst P (sym (eqb-true n e t)) here

pub children_admit : (o : ℕ) (p : Plan) (x : Subproblem) (e : ℕ) (r : List Belt) → admits x r ≡ true
    → (y : Subproblem) × Memᴰ y (children o p x e) × (admits y r ≡ true)
children_admit o p x e r h = go (test (passes r e)) (admits_is x r h)
  where
    go : (passes r e ≡ true) ⊎ (passes r e ≡ false)
        → ((n : ℕ) → Memᴰ n x.required → passes r n ≡ true) × ((n : ℕ) → Memᴰ n x.forbidden → passes r n ≡ false)
        → (y : Subproblem) × Memᴰ y (children o p x e) × (admits y r ≡ true)
    go (inl t) (has, lacks) =
        let all-passed = of_adding (λ (n : ℕ). passes r n ≡ true) p e x.required t has in
        (requiring p x e, requiring_child o p x e, is_admits (requiring p x e) r all-passed lacks)
    go (inr t) (has, lacks) =
        let none_passed = of_adding (λ (n : ℕ). passes r n ≡ false) p e x.forbidden t lacks in
        (forbidding p x e, forbidding_child o p x e, is_admits (forbidding p x e) r has none_passed)

-- ---- what they fix

-- a number is among those kept where it passes
mem_keep : (f : ℕ → Bool) (xs : List ℕ) (n : ℕ) → Memᴰ n xs → mem n (keep f xs) ≡ f n
mem_keep f xs n m = alike (mem n (keep f xs)) (f n) (λ t. (keep_in f xs (mem_in (keep f xs) t)).1) (λ t. in_mem (keep f xs) (in_keep f xs m t))

mem_adding : (p : Plan) (e : ℕ) (es : List ℕ) (n : ℕ) → Memᴰ n (named p) → mem n (adding p e es) ≡ (mem n es || eqb n e)
mem_adding p e es n m = mem_keep (λ (n : ℕ). mem n es || eqb n e) (named p) n m

-- the last of three comes second
or_swap : (a b c : Bool) → ((a || c) || b) ≡ ((a || b) || c)
or_swap a b c = or_assoc a c b ∙ ap (λ (t : Bool). a || t) (or_comm c b) ∙ sym (or_assoc a b c)

pub fixed_child : (o : ℕ) (p : Plan) (x : Subproblem) (e : ℕ) (y : Subproblem) → Memᴰ y (children o p x e)
    → (n : ℕ) → Memᴰ n (named p) → is_fixed y n ≡ (is_fixed x n || eqb n e)
fixed_child o p x e y m n i = of_both (λ (y : Subproblem). is_fixed y n ≡ (is_fixed x n || eqb n e)) o p x e required forbidden y m
  where
    required : is_fixed (requiring p x e) n ≡ (is_fixed x n || eqb n e)
    required =
        ap (λ (t : Bool). t || mem n x.forbidden) (mem_adding p e x.required n i)
        ∙ or_swap (mem n x.required) (mem n x.forbidden) (eqb n e)

    forbidden : is_fixed (forbidding p x e) n ≡ (is_fixed x n || eqb n e)
    forbidden =
        ap (λ (t : Bool). mem n x.required || t) (mem_adding p e x.forbidden n i)
        ∙ sym (or_assoc (mem n x.required) (mem n x.forbidden) (eqb n e))

-- ---- how many they fix

-- those that pass and those that do not are all
count_rest : (f : ℕ → Bool) (xs : List ℕ) → count f xs + length (keep (λ (n : ℕ). not (f n)) xs) ≡ length xs
count_rest f [] = refl
count_rest f (x ∷ xs) = go (f x) (count_rest f xs)
  where
    go : (t : Bool) → count f xs + length (keep (λ (n : ℕ). not (f n)) xs) ≡ length xs
        → count_by t (count f xs) + length (keep_by (not t) x (keep (λ (n : ℕ). not (f n)) xs)) ≡ suc (length xs)
    go true h = omega arith
    go false h = omega arith

pub fixed_unfixed : (p : Plan) (x : Subproblem) → fixed_count p x + length (unfixed p x) ≡ length (named p)
fixed_unfixed p x = count_rest (is_fixed x) (named p)

-- where a passes only if b does, to count both leaves the second ahead by as much as before
both_counted : (d : ℕ) (a b : Bool) (m n : ℕ) → (a ≡ true → b ≡ true) → d + m ≤ n → d + count_by a m ≤ count_by b n
both_counted d true true m n h l = omega arith
both_counted d true false m n h l = absurd (never (h refl) refl)
both_counted d false true m n h l = omega arith
both_counted d false false m n h l = l

-- where what passes f passes g
module _ (f g : ℕ → Bool) where
  abbrev Within : List ℕ → Type 0
  Within xs = (n : ℕ) → Memᴰ n xs → f n ≡ true → g n ≡ true

  -- at least as many pass g
  count_within : (xs : List ℕ) → Within xs → 0 + count f xs ≤ count g xs
  count_within [] h = omega arith
  count_within (x ∷ xs) h =
      both_counted 0 (f x) (g x) (count f xs) (count g xs) (h x (Memᴰ.head refl)) (count_within xs (λ n m. h n (Memᴰ.tail m)))

  -- and more do where one passes g alone
  count_more : (xs : List ℕ) → Within xs → (e : ℕ) → Memᴰ e xs → f e ≡ false → g e ≡ true → 1 + count f xs ≤ count g xs
  count_more [] h e m a b = absurd (Memᴰ.not-nil m)
  count_more (x ∷ xs) h e m a b = go (Memᴰ.cases_cons m) (λ k. count_more xs (λ n i. h n (Memᴰ.tail i)) e k a b)
    where
      here : (s t : Bool) → s ≡ false → t ≡ true → 0 + count f xs ≤ count g xs → 1 + count_by s (count f xs) ≤ count_by t (count g xs)
      here true t p q l = absurd (never refl p)
      here false false p q l = absurd (never q refl)
      here false true p q l = omega arith

      go : (e ≡ x) ⊎ Memᴰ e xs → (Memᴰ e xs → 1 + count f xs ≤ count g xs) → 1 + count f (x ∷ xs) ≤ count g (x ∷ xs)
      go (inl q) below = here (f x) (g x) (ap f (sym q) ∙ a) (ap g (sym q) ∙ b) (count_within xs (λ n i. h n (Memᴰ.tail i)))
      go (inr k) below = both_counted 1 (f x) (g x) (count f xs) (count g xs) (h x (Memᴰ.head refl)) (below k)

pub fixed_more : (o : ℕ) (p : Plan) (x : Subproblem) (e : ℕ) (y : Subproblem) → Memᴰ y (children o p x e)
    → Memᴰ e (unfixed p x) → suc (fixed_count p x) ≤ fixed_count p y
fixed_more o p x e y m u =
    let (i, t) = keep_in (λ (n : ℕ). not (is_fixed x n)) (named p) u in
    omega (arith, count_more (is_fixed x) (is_fixed y) (named p) wider e i (not-true (is_fixed x e) t) (picked i))
  where
    wider : (n : ℕ) → Memᴰ n (named p) → is_fixed x n ≡ true → is_fixed y n ≡ true
    wider n i t = fixed_child o p x e y m n i ∙ ap (λ (s : Bool). s || eqb n e) t

    picked : Memᴰ e (named p) → is_fixed y e ≡ true
    picked i = fixed_child o p x e y m e i ∙ ap (λ (s : Bool). is_fixed x e || s) (eq-eqb e e refl) ∙ or-true (is_fixed x e)

pub unfixed_less : (o : ℕ) (p : Plan) (x : Subproblem) (e : ℕ) (y : Subproblem) → Memᴰ y (children o p x e)
    → Memᴰ e (unfixed p x) → length (unfixed p y) < length (unfixed p x)
unfixed_less o p x e y m u = omega (arith, fixed_more o p x e y m u, fixed_unfixed p x, fixed_unfixed p y)

-- ---- where nothing is unfixed

all_fixed : (p : Plan) (x : Subproblem) → unfixed p x ≡ [] → (n : ℕ) → Memᴰ n (named p) → is_fixed x n ≡ true
all_fixed p x u n m = go (test (is_fixed x n))
  where
    go : (is_fixed x n ≡ true) ⊎ (is_fixed x n ≡ false) → is_fixed x n ≡ true
    go (inl t) = t
    go (inr t) = absurd (Memᴰ.not-nil (subst (Memᴰ n) u (in_keep (λ (n : ℕ). not (is_fixed x n)) (named p) m (ap not t))))

-- of two admitted routes the one passes each named belt that the other passes
passed_too : (p : Plan) (x : Subproblem) → unfixed p x ≡ [] → (r q : List Belt) → admits x r ≡ true → admits x q ≡ true
    → (e : ℕ) → Memᴰ e (named p) → passes r e ≡ true → passes q e ≡ true
passed_too p x u r q a c e n h = go (either (mem e x.required) (mem e x.forbidden) (all_fixed p x u e n))
  where
    go : (mem e x.required ≡ true) ⊎ (mem e x.forbidden ≡ true) → passes q e ≡ true
    go (inl m) = (admits_is x q c).0 e (mem_in x.required m)
    go (inr m) = absurd (never h ((admits_is x r a).1 e (mem_in x.forbidden m)))

-- where no named belt is unfixed, and the rules to be met name no other belts, the routes that are admitted are permitted alike
pub settled : (p : Plan) (terms : Terms) → ((e : ℕ) → any (in_rule e) terms.rules ≡ true → Memᴰ e (named p))
    → (x : Subproblem) → unfixed p x ≡ [] → (r q : List Belt) → admits x r ≡ true → admits x q ≡ true → setting_of terms r ≡ setting_of terms q
settled p terms in-rules x u r q a c = lowest_cong terms (passes r) (passes q) agree
  where
    agree : AgreeOn terms.rules (passes r) (passes q)
    agree rule m e w k =
        let in-it = in_any (names e.0) rule k (eq-eqb e.0 e.0 refl) in
        let is_named = in-rules e.0 (in_any (in_rule e.0) terms.rules m in-it) in
        alike (passes r e.0) (passes q e.0) (passed_too p x u r q a c e.0 is_named) (passed_too p x u q r c a e.0 is_named)

-- ---- the picks

-- o is one of es, or none and there are none
abbrev From : List ℕ → Option ℕ → Type 0
From es none = es ≡ []
From es (some e) = Memᴰ e es

from_head : (es : List ℕ) → From es (head? es)
from_head [] = refl
from_head (e ∷ es) = Memᴰ.head refl

from_higher : (count : ℕ → ℕ) (e : ℕ) (es : List ℕ) (o : Option ℕ) → From es o → From (e ∷ es) (higher count e o)
from_higher count e es none h = Memᴰ.head refl
from_higher count e es (some f) h = go (ltb (count e) (count f))
  where
    go : (t : Bool) → From (e ∷ es) (elim t [ true ↦ some f | false ↦ some e ])
    go true = Memᴰ.tail h
    go false = Memᴰ.head refl

from_highest : (count : ℕ → ℕ) (es : List ℕ) → From es (highest count es)
from_highest count [] = refl
from_highest count (e ∷ es) = from_higher count e es (highest count es) (from_highest count es)

-- what is found is one of them
abbrev Among : List ℕ → Option ℕ → Type 0
Among es none = Unit {0}
Among es (some e) = Memᴰ e es

among_find : (f : ℕ → Bool) (es : List ℕ) → Among es (find f es)
among_find f [] = tt
among_find f (e ∷ es) = go (f e) (find f es) (among_find f es)
  where
    go : (t : Bool) (o : Option ℕ) → Among es o → Among (e ∷ es) (or_else t e o)
    go true o h = Memᴰ.head refl
    go false none h = tt
    go false (some n) h = Memᴰ.tail h

from_else : (es : List ℕ) (o w : Option ℕ) → Among es o → From es w → From es (otherwise o w)
from_else es none w h k = k
from_else es (some e) w h k = h

from_pick : (k : ℕ) (p : Plan) (x : Subproblem) (on : ℕ → Bool) → From (unfixed p x) (pick_of k p x on)
from_pick zero p x on = from_head (unfixed p x)
from_pick (suc zero) p x on = from_highest (rule_count p) (unfixed p x)
from_pick (suc (suc k)) p x on =
    from_else (unfixed p x) (find on (unfixed p x)) (head? (unfixed p x)) (among_find on (unfixed p x)) (from_head (unfixed p x))

pub picks_unfixed : (k : ℕ) (p : Plan) (x : Subproblem) (on : ℕ → Bool) (e : ℕ) → pick_of k p x on ≡ some e → Memᴰ e (unfixed p x)
picks_unfixed k p x on e h = subst (From (unfixed p x)) h (from_pick k p x on)

pub picks_one : (k : ℕ) (p : Plan) (x : Subproblem) (on : ℕ → Bool) → pick_of k p x on ≡ none → unfixed p x ≡ []
picks_one k p x on h = subst (From (unfixed p x)) h (from_pick k p x on)

-- a belt in a rule of an accepted plan is a named belt
rule_named : {b : List ℕ} → Accepted b → (e : ℕ) → any (in_rule e) (plan_of b).rules ≡ true → Memᴰ e (named (plan_of b))
rule_named {b} ok e h =
    let (rule, m, i) = any_some (in_rule e) (plan_of b).rules h in
    let (l, k, n) = any_some (names e) rule i in
    go rule m l k n
  where
    go : (rule : List Literal) → Memᴰ rule (plan_of b).rules → (l : Literal) → Memᴰ l rule → names e l ≡ true → Memᴰ e (named (plan_of b))
    go rule m (OfBelt f w) k n = Memᴰ.cast (eqb-true e f.0 n) (literal_named ok m f w k)
    go rule m (OfMode f w) k n = absurd (never n refl)

pub explores : (b : List ℕ) → Accepted b → (trip : Trip) (pick order : ℕ) → Explores (problem_of (plan_of b) trip pick order)
explores b ok trip pick order = record {
  bytes = b;
  accepted = ok;
  belts_are = refl;
  rules_named = rule_named ok;
  picks = λ x r. picks_unfixed pick (plan_of b) x (passes r);
  picks_one = λ x r. picks_one pick (plan_of b) x (passes r);
}
