-- Source document 000, sections 2.1 and 2.2 with Definition 2.1: the logic-constrained shortest path problem (LCSP), by itself.
-- Nothing of this project is imported. A set of that document is a list here, of which only membership is asked.
--
--   Var                graph y, free z: the variables of Y and of Z, two separate kinds
--   Lit                a literal: a variable, or its negation; ¬ₗ l: the opposite literal
--   Clause, Formula    (1): a set of literals, a set of clauses
--   l ∈? α             l is in the set α, as a Boolean: it rests on same_lit, and that on same_var
--   IsAssignment X T   T is a set of literals over X without a contradiction (Consistent)
--   IsComplete X T     T assigns every variable of X, true or false
--   Φ given l          (2), written Φ | l there: conditioning on a literal; Φ given_all T: on an assignment, one literal after the other
--   Satisfies T Φ      nothing is left of Φ given_all T
--   Arc                an arc: its number, where it leaves (tail) and leads (head), its weight, a natural number
--   Instance           nodes and arcs of the graph, the free variables, the formula, s and t. The bijection ρ from arcs to graph
--                      variables is `graph` on the arcs' numbers (arc_var)
--   IsInstance I       what the definition asks of them: arcs join nodes, no cycle, ρ is a bijection, s and t are nodes, the
--                      formula is over the variables of I
--   variables I        X = Y ∪ Z
--   IsPath A u v p     p is a path from u to v of arcs of A; weight_of p: its cost
--   induced A p        T_p, the assignment that p induces, over ALL arcs of A
--   Agree A p T        p induces T ∩ Y
--   FeasibleBy I p T   p is a path from s to t, and the complete assignment T agrees with it and satisfies the formula
--   Feasible I p       some T makes it so: p is one of P_{s,t}(Φ)
--   Solves I p         what the problem asks for: a feasible path of minimal cost
--
-- Left out, since Definition 2.1 does not use them: unassigned variables, that an assignment satisfies a single clause, and formulas that are
-- unsatisfiable or contradicted. Two arcs with the same ends are two arcs, told apart by their numbers. Weights are natural numbers, where the
-- document has non-negative ones.
-- That Φ given_all T does not depend on the order of T is a law (proofs/LcspCondition.antt). Assumes nothing.
use Rattle.std.specs.Prelude.{◌≡◌, ℕ, ◌+◌, ◌≤◌, Bool, true, false, not, ◌&&◌, ◌||◌, ◌↔◌, ◌⊎◌, eqb}
use Rattle.std.specs.Bool.{beq}
use mathlib.Core.List.{List, [], ◌∷◌, ◌++◌, map, Memᴰ}

infixl 60 ◌given◌ ◌given_all◌
infixl 50 ◌∈?◌
-- ---- 2.1: propositional logic

pub data Var : Type 0 where
  graph : ℕ → Var
  free : ℕ → Var

pub record Lit : Type 0 where
  pub positive : Bool
  pub var : Var

abbrev pub ¬ₗ : Lit → Lit
¬ₗ l = record { positive = not l.positive; var = l.var }

abbrev pub Clause : Type 0
Clause = List Lit

abbrev pub Formula : Type 0
Formula = List Clause

abbrev pub same_var : Var → Var → Bool
same_var (graph a) (graph b) = eqb a b
same_var (graph a) (free b) = false
same_var (free a) (graph b) = false
same_var (free a) (free b) = eqb a b

abbrev pub same_lit : Lit → Lit → Bool
same_lit l m = beq l.positive m.positive && same_var l.var m.var

abbrev pub ◌∈?◌ : Lit → List Lit → Bool
l ∈? [] = false
l ∈? (m ∷ α) = same_lit l m || (l ∈? α)

-- "for all l ∈ T we have ¬l ∉ T"
abbrev pub Consistent : List Lit → Type 0
Consistent T = (l : Lit) → Memᴰ l T → Memᴰ (¬ₗ l) T → ⊥

pub record IsAssignment (X : List Var) (T : List Lit) : Type 0 where
  pub over : (l : Lit) → Memᴰ l T → Memᴰ l.var X
  pub consistent : Consistent T

abbrev pub AssignedTrue : List Lit → Var → Type 0
AssignedTrue T x = Memᴰ (record { positive = true; var = x }) T

abbrev pub AssignedFalse : List Lit → Var → Type 0
AssignedFalse T x = Memᴰ (record { positive = false; var = x }) T

abbrev pub IsComplete : List Var → List Lit → Type 0
IsComplete X T = (x : Var) → Memᴰ x X → AssignedTrue T x ⊎ AssignedFalse T x

-- x in front of a set, unless it drops out
abbrev pub unless : {A : Type 0} → Bool → A → List A → List A
unless true x xs = xs
unless false x xs = x ∷ xs

-- α \ {l}
abbrev pub without : Lit → Clause → Clause
without l [] = []
without l (m ∷ α) = unless (same_lit l m) m (without l α)

-- the clauses α of Φ with l ∉ α
abbrev pub lacking : Lit → Formula → Formula
lacking l [] = []
lacking l (α ∷ Φ) = unless (l ∈? α) α (lacking l Φ)

-- (2): "all clauses containing l are deleted and ¬l is removed from the remaining ones"
abbrev pub ◌given◌ : Formula → Lit → Formula
Φ given l = map (without (¬ₗ l)) (lacking l Φ)

abbrev pub ◌given_all◌ : Formula → List Lit → Formula
Φ given_all [] = Φ
Φ given_all (l ∷ T) = (Φ given l) given_all T

abbrev pub Satisfies : List Lit → Formula → Type 0
Satisfies T Φ = Φ given_all T ≡ []

-- ---- 2.2: the problem

pub record Arc : Type 0 where
  pub number : ℕ
  pub tail : ℕ
  pub head : ℕ
  pub weight : ℕ

-- ρ
abbrev pub arc_var : Arc → Var
arc_var a = graph a.number

pub record Instance : Type 0 where
  pub nodes : List ℕ
  pub arcs : List Arc
  pub frees : List ℕ
  pub formula : Formula
  pub s : ℕ
  pub t : ℕ

abbrev pub variables : Instance → List Var
variables I = map arc_var I.arcs ++ map free I.frees

abbrev pub IsPath : List Arc → ℕ → ℕ → List Arc → Type 0
IsPath A u v [] = u ≡ v
IsPath A u v (a ∷ p) = Memᴰ a A × (a.tail ≡ u) × IsPath A a.head v p

pub record IsInstance (I : Instance) : Type 0 where
  pub joins : (a : Arc) → Memᴰ a I.arcs → Memᴰ a.tail I.nodes × Memᴰ a.head I.nodes
  pub acyclic : (v : ℕ) (a : Arc) (p : List Arc) → IsPath I.arcs v v (a ∷ p) → ⊥
  pub bijection : (a b : Arc) → Memᴰ a I.arcs → Memᴰ b I.arcs → arc_var a ≡ arc_var b → a ≡ b
  pub starts : Memᴰ I.s I.nodes
  pub ends : Memᴰ I.t I.nodes
  pub over : (α : Clause) → Memᴰ α I.formula → (l : Lit) → Memᴰ l α → Memᴰ l.var (variables I)

abbrev pub weight_of : List Arc → ℕ
weight_of [] = 0
weight_of (a ∷ p) = a.weight + weight_of p

-- the arc is on the path. Arcs are told apart by their numbers, as the bijection lets them be
abbrev pub on_path : List Arc → Arc → Bool
on_path [] a = false
on_path (b ∷ p) a = eqb b.number a.number || on_path p a

abbrev pub induced : List Arc → List Arc → List Lit
induced A p = map (λ (a : Arc). record { positive = on_path p a; var = arc_var a }) A

abbrev pub Agree : List Arc → List Arc → List Lit → Type 0
Agree A p T = (w : Bool) (y : ℕ) →
    Memᴰ (record { positive = w; var = graph y }) T ↔ Memᴰ (record { positive = w; var = graph y }) (induced A p)

pub record FeasibleBy (I : Instance) (p : List Arc) (T : List Lit) : Type 0 where
  pub path : IsPath I.arcs I.s I.t p
  pub assigns : IsAssignment (variables I) T
  pub complete : IsComplete (variables I) T
  pub agree : Agree I.arcs p T
  pub satisfies : Satisfies T I.formula

abbrev pub Feasible : Instance → List Arc → Type 0
Feasible I p = (T : List Lit) × FeasibleBy I p T

pub record Solves (I : Instance) (p : List Arc) : Type 0 where
  pub feasible : Feasible I p
  pub minimal : (q : List Arc) → Feasible I q → weight_of p ≤ weight_of q
