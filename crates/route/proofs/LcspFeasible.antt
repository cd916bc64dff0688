-- The permitted routes are the feasible paths of the published definition.
--
-- A route r and a setting σ give every variable a value (`value`): a belt is on r or not, a mode is on in σ or not. A literal that
-- states this value is right (`Right`). Everything goes through two laws of the joint assignment of r and σ, joint_in and in_joint:
-- its literals are exactly the right ones over the variables of the instance.
--
--   holds_right, right_holds    a literal of a rule holds exactly where it is right
--   joint_assigns, joint_complete, joint_agrees
--                               the joint assignment is an assignment over the variables, complete, and agrees with the path of r
--   met_satisfied               where the setting works, the joint assignment satisfies the formula: each clause has a right literal, that of a rule
--                               one that holds, that of a locked mode its only one
--   right_met                   where right literals satisfy the formula, the setting works
--   met_claim                   so it works exactly where the joint assignment satisfies the formula
--   joint_feasible, feasible_joint
--                               so a route for which σ works is a feasible path by the joint assignment, and back
--   all_right                   the literals by which a path is feasible, whatever they are, are right under a setting with their modes on
--   permitted_claim             so a route is permitted exactly where its path is feasible
--   paths_claim                 and every feasible path is that of a permitted route
--
-- Assumes nothing.
use mathlib.Core.Path.{◌≡◌, refl, sym, ◌∙◌, ap, subst}
use mathlib.Core.Logic.{◌⊎◌, inl, inr}
use mathlib.Core.Bool.{Bool, true, false, not, ◌||◌, beq, true≢false}
use Prim.Native.Nat.{ℕ, suc, ◌≤◌}
use mathlib.Core.List.Memᴰ
use mathlib.Core.List.{List, [], ◌∷◌, map, Memᴰ}
use native.Mathlib.Omega.{arith}
use lib.Dec.{eqb}
use Rattle.plan.specs.declared.read.Literal.{Literal}
use Rattle.plan.specs.declared.read.Literal.TheVariants.{OfBelt, OfMode}
use Rattle.plan.specs.Plan.{Belt, Plan, plan_of}
use Rattle.plan.specs.Reading.{Accepted}
use Rattle.plan.proofs.Lists.{test, both, and_is, beq_true, beq_refl, all_in, all_is, in_any, any_some, in_map, map_in, upto_in}
use Rattle.route.specs.Lcsp.{Var, graph, free, Lit, ¬ₗ, Clause, Formula, ◌∈?◌, Consistent, IsAssignment, AssignedTrue, AssignedFalse, IsComplete, Satisfies, Arc, arc_var, variables, on_path, induced, Agree, FeasibleBy, Feasible}
use Rattle.route.specs.Routes.{IsRoute}
use Rattle.route.specs.declared.path.Trip.{Trip}
use Rattle.route.specs.Permission.{passes, is_on, holds, met, all_met, modes_of, agrees, terms_of, works, Permitted, IsPermitted}
use Rattle.route.specs.Instances.{arc_of, lit_of, lock_lit, unit_of, instance_of, settled, joint}
use Rattle.route.specs.Claims.{MetClaim, PermittedClaim, PathsClaim}
use Rattle.route.proofs.LcspCondition.{in_set, not_in, Hit, satisfied_hit, hit_satisfied}
use Rattle.route.proofs.LcspInstance.{arcs_belts, route_path, path_route, arc_var_lem, mode_var, names_variable, IsClause, clause_is, rule_clause, unit_clause}
use Rattle.route.proofs.RulesLock.{agrees_at_lem, at_agrees}
use Rattle.route.proofs.MaskBits.{setting}

-- ---- values

-- the literal that variable x has the value w
abbrev says : Bool → Var → Lit
says w x = record { positive = w; var = x }

-- what a path says of an arc, and a setting of a mode
abbrev arc_says : List Arc → Arc → Lit
arc_says q a = says (on_path q a) (arc_var a)

abbrev mode_says : ℕ → ℕ → Lit
mode_says σ m = says (is_on σ m) (free m)

-- an arc is on the path of r exactly where r passes its belt
on_path_lem : (r : List Belt) (a : Arc) → on_path (map arc_of r) a ≡ passes r a.number
on_path_lem [] a = refl
on_path_lem (e ∷ r) a = ap (λ (w : Bool). eqb e.index a.number || w) (on_path_lem r a)

module _ (r : List Belt) (σ : ℕ) where
  -- the value that route and setting give a variable
  abbrev value : Var → Bool
  value (graph e) = passes r e
  value (free m) = is_on σ m

  abbrev Right : Lit → Type 0
  Right l = l.positive ≡ value l.var

  abbrev AllRight : List Lit → Type 0
  AllRight T = (l : Lit) → Memᴰ l T → Right l

  holds_right : (l : Literal) → holds (passes r) σ l ≡ true → Right (lit_of l)
  holds_right (OfBelt e wanted) h = sym (beq_true (passes r e.0) wanted h)
  holds_right (OfMode m wanted) h = sym (beq_true (is_on σ m.0) wanted h)

  right_holds : (l : Literal) → Right (lit_of l) → holds (passes r) σ l ≡ true
  right_holds (OfBelt e wanted) h = ap (beq (passes r e.0)) h ∙ beq_refl (passes r e.0)
  right_holds (OfMode m wanted) h = ap (beq (is_on σ m.0)) h ∙ beq_refl (is_on σ m.0)

  -- what the path of r induces is right
  induced_right : (A : List Arc) → AllRight (induced A (map arc_of r))
  induced_right A l m = let (a, k, q) = map_in (arc_says (map arc_of r)) A m in subst Right (sym q) (on_path_lem r a)

  -- right literals do not contradict each other
  right_consistent : (T : List Lit) → AllRight T → Consistent T
  right_consistent T right l m k = unlike l.positive (right l m ∙ sym (right (¬ₗ l) k))
    where
      unlike : (w : Bool) → w ≡ not w → ⊥
      unlike true h = true≢false h
      unlike false h = true≢false (sym h)

-- ---- the joint assignment

module _ (p : Plan) (trip : Trip) where
  abbrev Arcs : List Arc
  Arcs = (instance_of p trip).arcs

  abbrev Vars : List Var
  Vars = variables (instance_of p trip)

  abbrev Rules : Formula
  Rules = (instance_of p trip).formula

  -- a variable is that of an arc, or a mode
  abbrev IsVar : Var → Type 0
  IsVar x = ((a : Arc) × Memᴰ a Arcs × (x ≡ arc_var a)) ⊎ ((n : ℕ) × Memᴰ n (modes_of p.modes) × (x ≡ free n))

  var_is : (x : Var) → Memᴰ x Vars → IsVar x
  var_is x m = go (Memᴰ.append_cases (map arc_var Arcs) m)
    where
      go : Memᴰ x (map arc_var Arcs) ⊎ Memᴰ x (map free (modes_of p.modes)) → IsVar x
      go (inl k) = inl (map_in arc_var Arcs k)
      go (inr k) = inr (map_in free (modes_of p.modes) k)

  module _ (r : List Belt) (σ : ℕ) where
    abbrev Induced : List Lit
    Induced = induced Arcs (map arc_of r)

    abbrev Joint : List Lit
    Joint = joint p (map arc_of r) σ

    joint_in : (l : Lit) → Memᴰ l Joint → Memᴰ l.var Vars × Right r σ l
    joint_in l m = go (Memᴰ.append_cases Induced m)
      where
        go : Memᴰ l Induced ⊎ Memᴰ l (settled p.modes σ) → Memᴰ l.var Vars × Right r σ l
        go (inl k) =
            let (a, i, q) = map_in (arc_says (map arc_of r)) Arcs k in
            (Memᴰ.cast (ap (λ (x : Lit). x.var) q) (arc_var_lem p trip a i), induced_right r σ Arcs l k)
        go (inr k) =
            let (n, i, q) = map_in (mode_says σ) (modes_of p.modes) k in
            (Memᴰ.cast (ap (λ (x : Lit). x.var) q) (mode_var p trip n i), subst (Right r σ) (sym q) refl)

    in_joint : (l : Lit) → Memᴰ l.var Vars → Right r σ l → Memᴰ l Joint
    in_joint l m right = go (var_is l.var m)
      where
        go : IsVar l.var → Memᴰ l Joint
        go (inl (a, k, q)) =
            let w : l.positive ≡ on_path (map arc_of r) a = right ∙ ap (value r σ) q ∙ sym (on_path_lem r a) in
            Memᴰ.append_left (settled p.modes σ) (Memᴰ.cast (λ i. says (w i) (q i)) (in_map (arc_says (map arc_of r)) k))
        go (inr (n, k, q)) =
            let w : l.positive ≡ is_on σ n = right ∙ ap (value r σ) q in
            Memᴰ.append_right Induced (Memᴰ.cast (λ i. says (w i) (q i)) (in_map (mode_says σ) k))

    joint_right : AllRight r σ Joint
    joint_right l m = (joint_in l m).1

    joint_consistent : Consistent Joint
    joint_consistent = right_consistent r σ Joint joint_right

    joint_assigns : IsAssignment Vars Joint
    joint_assigns = record { over = λ l m. (joint_in l m).0; consistent = joint_consistent }

    joint_complete : IsComplete Vars Joint
    joint_complete x m = go (test (value r σ x))
      where
        go : (value r σ x ≡ true) ⊎ (value r σ x ≡ false) → AssignedTrue Joint x ⊎ AssignedFalse Joint x
        go (inl e) = inl (in_joint (says true x) m (sym e))
        go (inr e) = inr (in_joint (says false x) m (sym e))

    joint_agrees : Agree Arcs (map arc_of r) Joint
    joint_agrees w y = (λ m. go (Memᴰ.append_cases Induced m), λ m. Memᴰ.append_left (settled p.modes σ) m)
      where
        go : Memᴰ (says w (graph y)) Induced ⊎ Memᴰ (says w (graph y)) (settled p.modes σ) → Memᴰ (says w (graph y)) Induced
        go (inl k) = k
        go (inr k) =
            let (n, i, q) = map_in (mode_says σ) (modes_of p.modes) k in
            let v : graph y ≡ free n = ap (λ (x : Lit). x.var) q in
            let z : ◌≡◌ {A = ℕ} 0 1 = cc in
            absurd (omega arith)

-- ---- rules met and formulas satisfied

right_met : (p : Plan) (trip : Trip) (r : List Belt) (σ : ℕ) (T : List Lit) → AllRight r σ T → Satisfies T (Rules p trip)
    → works (terms_of p trip) (passes r) σ ≡ true
right_met p trip r σ T right h =
    and_is (agrees p.modes trip.lock σ) (all_met p.rules (passes r) σ)
    (at_agrees trip.lock σ p.modes lock)
    (all_is (met (passes r) σ) p.rules one)
  where
    one : (rule : List Literal) → Memᴰ rule p.rules → met (passes r) σ rule ≡ true
    one rule m =
        let (l, k, j) = satisfied_hit T (Rules p trip) h (map lit_of rule) (rule_clause p trip rule m) in
        let (x, i, q) = map_in lit_of rule k in
        in_any (holds (passes r) σ) rule i (right_holds r σ x (subst (Right r σ) q (right l j)))

    lock : (n : ℕ) → Memᴰ n (modes_of p.modes) → is_on trip.lock.mask n ≡ true → is_on σ n ≡ is_on trip.lock.values n
    lock n m t =
        let (l, k, j) = satisfied_hit T (Rules p trip) h (unit_of trip.lock n) (unit_clause p trip n m t) in
        sym (subst (Right r σ) (Memᴰ.eq_of_singleton k) (right l j))

module _ {b : List ℕ} (ok : Accepted b) (trip : Trip) where
  met_satisfied : (r : List Belt) (σ : ℕ) → works (terms_of (plan_of b) trip) (passes r) σ ≡ true
      → Satisfies (Joint (plan_of b) trip r σ) (Rules (plan_of b) trip)
  met_satisfied r σ h = hit_satisfied (Joint (plan_of b) trip r σ) (Rules (plan_of b) trip) (joint_consistent (plan_of b) trip r σ) one
    where
      one : (α : Clause) → Memᴰ α (Rules (plan_of b) trip) → Hit (Joint (plan_of b) trip r σ) α
      one α m = go (clause_is (plan_of b) trip α m)
        where
          parts : (agrees (plan_of b).modes trip.lock σ ≡ true) × (all_met (plan_of b).rules (passes r) σ ≡ true)
          parts = both (agrees (plan_of b).modes trip.lock σ) (all_met (plan_of b).rules (passes r) σ) h

          go : IsClause (plan_of b) trip α → Hit (Joint (plan_of b) trip r σ) α
          go (inl (rule, k, q)) =
              let (l, j, e) = any_some (holds (passes r) σ) rule (all_in (met (passes r) σ) (plan_of b).rules parts.1 k) in (
                lit_of l,
                subst (Memᴰ (lit_of l)) (sym q) (in_map lit_of j),
                in_joint (plan_of b) trip r σ (lit_of l) (names_variable ok trip rule k l j) (holds_right r σ l e),
              )
          go (inr (n, k, t, q)) =
              let e = agrees_at_lem trip.lock σ (plan_of b).modes parts.0 n k t in (
                lock_lit trip.lock n,
                subst (Memᴰ (lock_lit trip.lock n)) (sym q) (Memᴰ.head refl),
                in_joint (plan_of b) trip r σ (lock_lit trip.lock n) (mode_var (plan_of b) trip n k) (sym e),
              )

pub met_claim : MetClaim
met_claim b ok trip r σ =
    (met_satisfied ok trip r σ, right_met (plan_of b) trip r σ (Joint (plan_of b) trip r σ) (joint_right (plan_of b) trip r σ))

-- ---- by the joint assignment

module _ {b : List ℕ} (ok : Accepted b) (trip : Trip) (r : List Belt) (σ : ℕ) where
  pub joint_feasible : IsRoute (plan_of b) trip.s trip.t r → works (terms_of (plan_of b) trip) (passes r) σ ≡ true
      → FeasibleBy (instance_of (plan_of b) trip) (map arc_of r) (joint (plan_of b) (map arc_of r) σ)
  joint_feasible route h = record {
    path = route_path (plan_of b) trip.t trip.s r route;
    assigns = joint_assigns (plan_of b) trip r σ;
    complete = joint_complete (plan_of b) trip r σ;
    agree = joint_agrees (plan_of b) trip r σ;
    satisfies = met_satisfied ok trip r σ h;
  }

  pub feasible_joint : FeasibleBy (instance_of (plan_of b) trip) (map arc_of r) (joint (plan_of b) (map arc_of r) σ)
      → IsRoute (plan_of b) trip.s trip.t r × (works (terms_of (plan_of b) trip) (passes r) σ ≡ true)
  feasible_joint f = (path_route (plan_of b) trip.t trip.s r f.path, (met_claim b ok trip r σ).1 f.satisfies)

-- ---- by any assignment

-- what T says of mode n: on where it has the literal
abbrev on_in : List Lit → ℕ → Bool
on_in T n = says true (free n) ∈? T

on_is : (T : List Lit) → Consistent T → (w : Bool) (n : ℕ) → Memᴰ (says w (free n)) T → on_in T n ≡ w
on_is T c true n m = in_set (says true (free n)) T m
on_is T c false n m = not_in (says true (free n)) T (c (says false (free n)) m)

module _ (p : Plan) (trip : Trip) (r : List Belt) (T : List Lit) (f : FeasibleBy (instance_of p trip) (map arc_of r) T) where
  all_right : (σ : ℕ) → ((n : ℕ) → 1 ≤ n → n ≤ p.modes → is_on σ n ≡ on_in T n) → AllRight r σ T
  all_right σ on l m = go l.positive l.var m
    where
      mode : (w : Bool) (n : ℕ) → Memᴰ (says w (free n)) T → IsVar p trip (free n) → w ≡ is_on σ n
      mode w n m (inl (a, i, q)) = let z : ◌≡◌ {A = ℕ} 0 1 = cc in absurd (omega arith)
      mode w n m (inr (k, i, q)) =
          let e : n ≡ k = cc in
          let (l, u) = upto_in 1 (suc p.modes) k i in
          sym (on n (omega (arith, l, e)) (omega (arith, u, e)) ∙ on_is T f.assigns.consistent w n m)

      go : (w : Bool) (x : Var) → Memᴰ (says w x) T → w ≡ value r σ x
      go w (graph y) m = induced_right r σ (Arcs p trip) (says w (graph y)) ((f.agree w y).0 m)
      go w (free n) m = mode w n m (var_is p trip (free n) (f.assigns.over (says w (free n)) m))

  feasible_permitted : Permitted (terms_of p trip) r
  feasible_permitted =
      let (σ, low, on) = setting (on_in T) p.modes in (σ, low, right_met p trip r σ T (all_right σ on) f.satisfies)

pub permitted_claim : PermittedClaim
permitted_claim b ok trip r = (to, back)
  where
    to : IsPermitted (plan_of b) trip r → Feasible (instance_of (plan_of b) trip) (map arc_of r)
    to (route, (σ, low, h)) = (joint (plan_of b) (map arc_of r) σ, joint_feasible ok trip r σ route h)

    back : Feasible (instance_of (plan_of b) trip) (map arc_of r) → IsPermitted (plan_of b) trip r
    back (T, f) = (path_route (plan_of b) trip.t trip.s r f.path, feasible_permitted (plan_of b) trip r T f)

pub paths_claim : PathsClaim
paths_claim b ok trip q f =
    let (r, e) = arcs_belts q in
    (r, e, (permitted_claim b ok trip r).1 (subst (Feasible (instance_of (plan_of b) trip)) e f))
