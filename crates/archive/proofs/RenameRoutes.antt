-- The routes of a plan whose belts got other indices are its renamed routes, and they stand in the same order. Of the renaming f it is asked only that of
-- two indices the lower gets the lower new one (RisesAlways).
--
-- Lists that are mapped, where a test g of the elements says what a test f says of their images:
--   any_across, all_across, count_across
--                       both say the same of the lists, and count the same
--   keep_across, find_across
--                       what is kept, and what is found, is the image of what g keeps and finds
--   joined_across       images that are joined are the image of what is joined
-- Numbers:
--   eqb_renamed, ltb_renamed, mem_renamed
--                       equal, lower, and among a list: the same of renamed indices
-- Routes:
--   leaving_renamed     the belts that leave a junction
--   routes_renamed      all routes
--   cost_renamed, before_renamed, improves_renamed
--                       cost and order stay
--   passes_renamed, admits_renamed
--                       so does what is on a route, and what a subproblem admits
--   indices_renamed     the indices of a renamed route are the renamed ones
--   first_renamed       the first of the renamed routes is the renamed first
--   relaxed_renamed     THE RELAXED ROUTE OF A RENAMED SUBPROBLEM IS THE RENAMED ONE
--
-- Assumes nothing.
use mathlib.Core.Path.{◌≡◌, refl, sym, ◌∙◌, ap}
use mathlib.Core.Logic.{◌⊎◌, inl, inr}
use mathlib.Core.Bool.{Bool, true, false, not, ◌&&◌, ◌||◌}
use mathlib.Core.Option.{Option, none, some}
use Prim.Native.Nat.{ℕ, zero, suc, ◌+◌, ◌-◌, ◌≤◌, ◌<◌}
use mathlib.Core.List.{List, [], ◌∷◌, ◌++◌, map, map-map, map-append}
use native.Mathlib.Omega.{arith}
use native.Mathlib.Nat.{eq-or-lt_of_le}
use lib.Dec.{eqb, ltb}
use borrow.Author.Tests.{eq-eqb, ne_eqb, lt-ltb, le-ltb}
use Rattle.plan.specs.Lists.{any, all, keep_by, keep, count_by, count, mem, joined}
use Rattle.plan.specs.Plan.{Belt, Plan, indices_of, leaving}
use Rattle.plan.proofs.Lists.{lt_or_le, keep_map}
use Rattle.route.specs.Routes.{cost, first, lower, before, stay, routes_of, routes}
use Rattle.route.specs.Permission.{passes, or_else, find}
use Rattle.route.specs.Subproblems.{Subproblem, admits, earlier, first_of, relaxed}
use Rattle.search.specs.Search.{improves}
use Rattle.archive.specs.Renaming.{RisesAlways, renamed_belt, renamed, renamed_route, map_option, renamed_subproblem}

-- ---- lists that are mapped

module _ {A B : Type 0} (f : B → Bool) (g : A → Bool) (h : A → B) (same : (a : A) → f (h a) ≡ g a) where
  pub any_across : (xs : List A) → any f (map h xs) ≡ any g xs
  any_across [] = refl
  any_across (x ∷ xs) = λ i. same x i || any_across xs i

  pub all_across : (xs : List A) → all f (map h xs) ≡ all g xs
  all_across [] = refl
  all_across (x ∷ xs) = λ i. same x i && all_across xs i

  pub count_across : (xs : List A) → count f (map h xs) ≡ count g xs
  count_across [] = refl
  count_across (x ∷ xs) = λ i. count_by (same x i) (count_across xs i)

  pub keep_across : (xs : List A) → keep f (map h xs) ≡ map h (keep g xs)
  keep_across [] = refl
  keep_across (x ∷ xs) = (λ i. keep_by (same x i) (h x) (keep_across xs i)) ∙ go (g x)
    where
      go : (t : Bool) → keep_by t (h x) (map h (keep g xs)) ≡ map h (keep_by t x (keep g xs))
      go true = refl
      go false = refl

  pub find_across : (xs : List A) → find f (map h xs) ≡ map_option h (find g xs)
  find_across [] = refl
  find_across (x ∷ xs) = (λ i. or_else (same x i) (h x) (find_across xs i)) ∙ go (g x)
    where
      go : (t : Bool) → or_else t (h x) (map_option h (find g xs)) ≡ map_option h (or_else t x (find g xs))
      go true = refl
      go false = refl

pub joined_across : {A B C D : Type 0} (f : B → List D) (g : A → List C) (h : A → B) (k : C → D) → ((a : A) → f (h a) ≡ map k (g a)) → (xs : List A)
    → joined f (map h xs) ≡ map k (joined g xs)
joined_across f g h k same [] = refl
joined_across f g h k same (x ∷ xs) = (λ i. same x i ++ joined_across f g h k same xs i) ∙ sym (map-append k (g x) (joined g xs))

-- ---- numbers

module _ (f : ℕ → ℕ) (up : RisesAlways f) where
  -- of two indices the one that is not higher gets the one that is not higher
  keeps_order : (a b : ℕ) → a ≤ b → f a ≤ f b
  keeps_order a b h = go (eq-or-lt_of_le h)
    where
      go : (a ≡ b) ⊎ (a < b) → f a ≤ f b
      go (inl e) = let k : f a ≡ f b = ap f e in omega (arith, k)
      go (inr l) = let k : f a < f b = up a b l in omega (arith, k)

  pub ltb_renamed : (a b : ℕ) → ltb (f a) (f b) ≡ ltb a b
  ltb_renamed a b = go (lt_or_le a b)
    where
      go : (a < b) ⊎ (b ≤ a) → ltb (f a) (f b) ≡ ltb a b
      go (inl l) = lt-ltb (f a) (f b) (up a b l) ∙ sym (lt-ltb a b l)
      go (inr l) = le-ltb (f a) (f b) (keeps_order b a l) ∙ sym (le-ltb a b l)

  pub eqb_renamed : (a b : ℕ) → eqb (f a) (f b) ≡ eqb a b
  eqb_renamed a b = go (lt_or_le a b) (lt_or_le b a)
    where
      apart : f a < f b → f a ≡ f b → ⊥
      apart l e = omega arith

      apart_too : f b < f a → f a ≡ f b → ⊥
      apart_too l e = omega arith

      go : (a < b) ⊎ (b ≤ a) → (b < a) ⊎ (a ≤ b) → eqb (f a) (f b) ≡ eqb a b
      go (inl l) k = ne_eqb (f a) (f b) (apart (up a b l)) ∙ sym (ne_eqb a b (λ e. omega arith))
      go (inr l) (inl k) = ne_eqb (f a) (f b) (apart_too (up b a k)) ∙ sym (ne_eqb a b (λ e. omega arith))
      go (inr l) (inr k) = let e : a ≡ b = omega arith in eq-eqb (f a) (f b) (ap f e) ∙ sym (eq-eqb a b e)

  pub mem_renamed : (e : ℕ) (es : List ℕ) → mem (f e) (map f es) ≡ mem e es
  mem_renamed e es = any_across (eqb (f e)) (eqb e) f (eqb_renamed e) es

-- ---- routes

pub leaving_renamed : (f : ℕ → ℕ) (p : Plan) (j : ℕ) → leaving (renamed f p) j ≡ map (renamed_belt f) (leaving p j)
leaving_renamed f p j = keep_map (λ (e : Belt). eqb e.leaves j) (renamed_belt f) p.belts

-- the routes that go on from belt e
abbrev onward : Belt → List (List Belt) → List (List Belt)
onward e rs = map (λ (r : List Belt). e ∷ r) rs

onward_renamed : (f : ℕ → ℕ) (e : Belt) (rs : List (List Belt)) → onward (renamed_belt f e) (map (renamed_route f) rs) ≡ map (renamed_route f) (onward e rs)
onward_renamed f e rs =
    map-map (λ (r : List Belt). renamed_belt f e ∷ r) (renamed_route f) rs ∙ sym (map-map (renamed_route f) (λ (r : List Belt). e ∷ r) rs)

module _ (f : ℕ → ℕ) (p : Plan) where
  of_length : (n s t : ℕ) → routes_of (renamed f p) n s t ≡ map (renamed_route f) (routes_of p n s t)
  of_length zero s t = go (eqb s t)
    where
      go : (here : Bool) → stay here ≡ map (renamed_route f) (stay here)
      go true = refl
      go false = refl
  of_length (suc n) s t = go (λ u. of_length n u t) (eqb s t)
    where
      go : ((u : ℕ) → routes_of (renamed f p) n u t ≡ map (renamed_route f) (routes_of p n u t)) → (here : Bool)
          → elim here [ true ↦ [] ∷ [] | false ↦ joined (λ (e : Belt). onward e (routes_of (renamed f p) n e.leads t)) (leaving (renamed f p) s) ]
          ≡ map (renamed_route f) (elim here [ true ↦ [] ∷ [] | false ↦ joined (λ (e : Belt). onward e (routes_of p n e.leads t)) (leaving p s) ])
      go below true = refl
      go below false =
          ap (joined (λ (e : Belt). onward e (routes_of (renamed f p) n e.leads t))) (leaving_renamed f p s)
          ∙ joined_across (λ (e : Belt). onward e (routes_of (renamed f p) n e.leads t)) (λ (e : Belt). onward e (routes_of p n e.leads t))
          (renamed_belt f) (renamed_route f)
          (λ e. ap (onward (renamed_belt f e)) (below e.leads) ∙ onward_renamed f e (routes_of p n e.leads t)) (leaving p s)

  pub routes_renamed : (s t : ℕ) → routes (renamed f p) s t ≡ map (renamed_route f) (routes p s t)
  routes_renamed s t = of_length (t - s) s t

pub cost_renamed : (f : ℕ → ℕ) (r : List Belt) → cost (renamed_route f r) ≡ cost r
cost_renamed f [] = refl
cost_renamed f (e ∷ r) = ap (λ (n : ℕ). e.cost + n) (cost_renamed f r)

pub indices_renamed : (f : ℕ → ℕ) (r : List Belt) → indices_of (renamed_route f r) ≡ map f (indices_of r)
indices_renamed f [] = refl
indices_renamed f (e ∷ r) = ap (λ (es : List ℕ). f e.index ∷ es) (indices_renamed f r)

-- ---- order, and what is on a route

module _ (f : ℕ → ℕ) (up : RisesAlways f) where
  lower_renamed : (a b : List Belt) → lower (renamed_route f a) (renamed_route f b) ≡ lower a b
  lower_renamed [] [] = refl
  lower_renamed [] (d ∷ b) = refl
  lower_renamed (e ∷ a) [] = refl
  lower_renamed (e ∷ a) (d ∷ b) =
      λ i. ltb_renamed f up e.index d.index i || (eqb_renamed f up e.index d.index i && lower_renamed a b i)

  pub before_renamed : (a b : List Belt) → before (renamed_route f a) (renamed_route f b) ≡ before a b
  before_renamed a b = λ i. first (cost_renamed f a i) (cost_renamed f b i) (lower_renamed a b i)

  pub improves_renamed : (r : List Belt) (o : Option (List Belt)) → improves (renamed_route f r) (map_option (renamed_route f) o) ≡ improves r o
  improves_renamed r none = refl
  improves_renamed r (some best) = before_renamed r best

  pub passes_renamed : (r : List Belt) (e : ℕ) → passes (renamed_route f r) (f e) ≡ passes r e
  passes_renamed r e =
      any_across (λ (d : Belt). eqb d.index (f e)) (λ (d : Belt). eqb d.index e) (renamed_belt f) (λ d. eqb_renamed f up d.index e) r

  pub admits_renamed : (x : Subproblem) (r : List Belt) → admits (renamed_subproblem f x) (renamed_route f r) ≡ admits x r
  admits_renamed x r =
      let on = passes_renamed r in
      λ i. all_across (passes (renamed_route f r)) (passes r) f on x.required i
      && not (any_across (passes (renamed_route f r)) (passes r) f on x.forbidden i)

  earlier_renamed : (r : List Belt) (o : Option (List Belt))
      → earlier (renamed_route f r) (map_option (renamed_route f) o) ≡ map_option (renamed_route f) (earlier r o)
  earlier_renamed r none = refl
  earlier_renamed r (some q) =
      ap (λ (t : Bool). elim t [ true ↦ some (renamed_route f q) | false ↦ some (renamed_route f r) ]) (before_renamed q r) ∙ go (before q r)
    where
      go : (t : Bool) → elim t [ true ↦ some (renamed_route f q) | false ↦ some (renamed_route f r) ]
          ≡ map_option (renamed_route f) (elim t [ true ↦ some q | false ↦ some r ])
      go true = refl
      go false = refl

  pub first_renamed : (rs : List (List Belt)) → first_of (map (renamed_route f) rs) ≡ map_option (renamed_route f) (first_of rs)
  first_renamed [] = refl
  first_renamed (r ∷ rs) = ap (earlier (renamed_route f r)) (first_renamed rs) ∙ earlier_renamed r (first_of rs)

  pub relaxed_renamed : (p : Plan) (s t : ℕ) (x : Subproblem)
      → relaxed (renamed f p) s t (renamed_subproblem f x) ≡ map_option (renamed_route f) (relaxed p s t x)
  unfolding relaxed
  relaxed_renamed p s t x =
      ap (λ (rs : List (List Belt)). first_of (keep (admits (renamed_subproblem f x)) rs)) (routes_renamed f p s t)
      ∙ ap first_of (keep_across (admits (renamed_subproblem f x)) (admits x) (renamed_route f) (admits_renamed x) (routes p s t))
      ∙ first_renamed (keep (admits x) (routes p s t))
