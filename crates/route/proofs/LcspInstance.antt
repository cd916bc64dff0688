-- An accepted plan is an instance of the published problem (specs/Lcsp.antt, specs/Instances.antt).
--
--   instance_is     its belts join junctions, no path of them comes back, no two are of one number, and its rules and the lock name only its
--                   own belts and modes
--   cost_weight     the cost of a route is the weight of its path
--   route_path      a route's belts are a path
--   path_route      belts whose arcs are a path are a route
--   arcs_belts      every list of arcs is that of some belts
--   arc_var_lem, mode_var
--                   arcs and modes are variables of the instance
--   names_variable  and so is what a literal of a rule names
--   clause_is       a clause of the instance is that of a rule, or that of a locked mode (IsClause); rule_clause, unit_clause: and back
--
-- Assumes nothing.
use mathlib.Core.Path.{◌≡◌, refl, sym, ◌∙◌, ap, subst}
use mathlib.Core.Logic.{◌⊎◌, inl, inr}
use mathlib.Core.Bool.{true}
use Prim.Native.Nat.{ℕ, suc, ◌+◌, ◌≤◌, ◌<◌}
use mathlib.Core.List.Memᴰ
use mathlib.Core.List.{List, [], ◌∷◌, map, Memᴰ, map-map, map-id}
use native.Mathlib.Omega.{arith}
use Rattle.plan.specs.declared.read.Literal.{Literal}
use Rattle.plan.specs.declared.read.Literal.TheVariants.{OfBelt, OfMode}
use Rattle.plan.specs.Plan.{Belt, Plan, plan_of, belt_at}
use Rattle.plan.specs.Reading.{Accepted}
use Rattle.plan.proofs.Lists.{in_keep, keep_in, in_map, map_in, in_upto}
use Rattle.plan.proofs.Reading.{belt_in, belt_index, belt_ends, literal_belt, literal_mode}
use Rattle.route.specs.Lcsp.{free, Lit, Clause, Arc, arc_var, variables, IsPath, IsInstance}
use Rattle.route.specs.declared.path.Trip.{Trip}
use Rattle.route.specs.Routes.{IsRoute}
use Rattle.route.specs.Permission.{is_on, modes_of}
use Rattle.route.specs.Instances.{arc_of, lit_of, lock_lit, unit_of, locked_of, instance_of}
use Rattle.route.specs.Claims.{CostClaim}

-- ---- paths and routes

-- the belt of an arc
abbrev belt_of : Arc → Belt
belt_of a = record { index = a.number; leaves = a.tail; leads = a.head; cost = a.weight }

pub arcs_belts : (q : List Arc) → (r : List Belt) × (q ≡ map arc_of r)
arcs_belts q = (map belt_of q, sym (map-map arc_of belt_of q ∙ map-id q))

pub cost_weight : CostClaim
cost_weight [] = refl
cost_weight (e ∷ r) = ap (λ (n : ℕ). e.cost + n) (cost_weight r)

module _ (p : Plan) (t : ℕ) where
  pub route_path : (s : ℕ) (r : List Belt) → IsRoute p s t r → IsPath (map arc_of p.belts) s t (map arc_of r)
  route_path s [] h = h
  route_path s (e ∷ r) h = (in_map arc_of h.0, h.1, route_path e.leads r h.2)

  pub path_route : (s : ℕ) (r : List Belt) → IsPath (map arc_of p.belts) s t (map arc_of r) → IsRoute p s t r
  path_route s [] h = h
  path_route s (e ∷ r) h =
      let (x, m, q) = map_in arc_of p.belts h.0 in
      (Memᴰ.cast (ap belt_of q) m, h.1, path_route e.leads r h.2)

-- ---- variables and clauses of the instance

module _ (p : Plan) (trip : Trip) where
  pub arc_var_lem : (a : Arc) → Memᴰ a (map arc_of p.belts) → Memᴰ (arc_var a) (variables (instance_of p trip))
  arc_var_lem a m = Memᴰ.append_left (map free (modes_of p.modes)) (in_map arc_var m)

  pub mode_var : (n : ℕ) → Memᴰ n (modes_of p.modes) → Memᴰ (free n) (variables (instance_of p trip))
  mode_var n m = Memᴰ.append_right (map arc_var (map arc_of p.belts)) (in_map free m)

  -- ---- clauses of the instance

  -- a clause is that of a rule, or that of a locked mode
  abbrev pub IsClause : Clause → Type 0
  IsClause α =
      ((rule : List Literal) × Memᴰ rule p.rules × (α ≡ map lit_of rule))
      ⊎ ((n : ℕ) × Memᴰ n (modes_of p.modes) × (is_on trip.lock.mask n ≡ true) × (α ≡ unit_of trip.lock n))

  pub clause_is : (α : Clause) → Memᴰ α (instance_of p trip).formula → IsClause α
  clause_is α m = go (Memᴰ.append_cases (map (map lit_of) p.rules) m)
    where
      go : Memᴰ α (map (map lit_of) p.rules) ⊎ Memᴰ α (map (unit_of trip.lock) (locked_of p.modes trip.lock)) → IsClause α
      go (inl k) = inl (map_in (map lit_of) p.rules k)
      go (inr k) =
          let (n, i, q) = map_in (unit_of trip.lock) (locked_of p.modes trip.lock) k in
          let (j, t) = keep_in (is_on trip.lock.mask) (modes_of p.modes) i in
          inr (n, j, t, q)

  pub rule_clause : (rule : List Literal) → Memᴰ rule p.rules → Memᴰ (map lit_of rule) (instance_of p trip).formula
  rule_clause rule m = Memᴰ.append_left (map (unit_of trip.lock) (locked_of p.modes trip.lock)) (in_map (map lit_of) m)

  pub unit_clause : (n : ℕ) → Memᴰ n (modes_of p.modes) → is_on trip.lock.mask n ≡ true
      → Memᴰ (unit_of trip.lock n) (instance_of p trip).formula
  unit_clause n m t =
      Memᴰ.append_right (map (map lit_of) p.rules) (in_map (unit_of trip.lock) (in_keep (is_on trip.lock.mask) (modes_of p.modes) m t))

module _ {b : List ℕ} (ok : Accepted b) (trip : Trip) where
  pub names_variable : (rule : List Literal) → Memᴰ rule (plan_of b).rules → (x : Literal) → Memᴰ x rule
      → Memᴰ (lit_of x).var (variables (instance_of (plan_of b) trip))
  names_variable rule m (OfBelt e wanted) k =
      arc_var_lem (plan_of b) trip (arc_of (belt_at b e.0)) (in_map arc_of (belt_in ok e.0 (literal_belt ok rule m e wanted k)))
  names_variable rule m (OfMode n wanted) k =
      let h = literal_mode ok rule m n wanted k in
      mode_var (plan_of b) trip n.0 (in_upto 1 (suc (plan_of b).modes) n.0 h.0 (omega (arith, h.1)))

-- ---- an accepted plan is an instance

module _ {b : List ℕ} (ok : Accepted b) where
  abbrev arcs : List Arc
  arcs = map arc_of (plan_of b).belts

  -- an arc joins two junctions, and leads to the higher one
  arc_ends : (a : Arc) → Memᴰ a arcs → (1 ≤ a.tail) × (a.tail < a.head) × (a.head ≤ (plan_of b).junctions)
  arc_ends a m =
      let (x, k, q) = map_in arc_of (plan_of b).belts m in
      subst (λ (c : Arc). (1 ≤ c.tail) × (c.tail < c.head) × (c.head ≤ (plan_of b).junctions)) (sym q) (belt_ends ok x k)

  -- so a path never leads lower
  path_rises : (u v : ℕ) (q : List Arc) → IsPath arcs u v q → u ≤ v
  path_rises u v [] h = let e : u ≡ v = h in omega arith
  path_rises u v (a ∷ q) h = omega (arith, (arc_ends a h.0).1, h.1, path_rises a.head v q h.2)

  no_cycle : (v : ℕ) (a : Arc) (q : List Arc) → IsPath arcs v v (a ∷ q) → ⊥
  no_cycle v a q h = omega (arith, (arc_ends a h.0).1, h.1, path_rises a.head v q h.2)

  one_number : (a c : Arc) → Memᴰ a arcs → Memᴰ c arcs → arc_var a ≡ arc_var c → a ≡ c
  one_number a c m n e =
      let (x, j, p) = map_in arc_of (plan_of b).belts m in
      let (y, k, q) = map_in arc_of (plan_of b).belts n in
      let same : a.number ≡ c.number = cc in
      let number : x.index ≡ y.index = sym (ap (λ (d : Arc). d.number) p) ∙ same ∙ ap (λ (d : Arc). d.number) q in
      p ∙ ap arc_of (belt_index ok x y j k number) ∙ sym q

  node : (j : ℕ) → 1 ≤ j → j ≤ (plan_of b).junctions → (trip : Trip) → Memᴰ j (instance_of (plan_of b) trip).nodes
  node j l u trip = in_upto 1 (suc (plan_of b).junctions) j l (omega arith)

  over : (trip : Trip) (α : Clause) → Memᴰ α (instance_of (plan_of b) trip).formula → (l : Lit) → Memᴰ l α
      → Memᴰ l.var (variables (instance_of (plan_of b) trip))
  over trip α m l k = go (clause_is (plan_of b) trip α m)
    where
      go : IsClause (plan_of b) trip α → Memᴰ l.var (variables (instance_of (plan_of b) trip))
      go (inl (rule, n, q)) =
          let (x, i, e) = map_in lit_of rule (subst (Memᴰ l) q k) in
          subst (λ (y : Lit). Memᴰ y.var (variables (instance_of (plan_of b) trip))) (sym e) (names_variable ok trip rule n x i)
      go (inr (n, i, t, q)) =
          let e : l ≡ lock_lit trip.lock n = Memᴰ.eq_of_singleton (subst (Memᴰ l) q k) in
          subst (λ (y : Lit). Memᴰ y.var (variables (instance_of (plan_of b) trip))) (sym e) (mode_var (plan_of b) trip n i)

  pub instance_is : (trip : Trip) → 1 ≤ trip.s → trip.s ≤ (plan_of b).junctions → 1 ≤ trip.t → trip.t ≤ (plan_of b).junctions
      → IsInstance (instance_of (plan_of b) trip)
  instance_is trip ls us lt ut = record {
    joins = joins;
    acyclic = no_cycle;
    bijection = one_number;
    starts = node trip.s ls us trip;
    ends = node trip.t lt ut trip;
    over = over trip;
  }
    where
      joins : (a : Arc) → Memᴰ a arcs
          → Memᴰ a.tail (instance_of (plan_of b) trip).nodes × Memᴰ a.head (instance_of (plan_of b) trip).nodes
      joins a m =
          let h = arc_ends a m in
          let top : a.tail ≤ (plan_of b).junctions = omega (arith, h.1, h.2) in
          let low : 1 ≤ a.head = omega (arith, h.0, h.1) in
          (node a.tail h.0 top trip, node a.head low h.2 trip)
