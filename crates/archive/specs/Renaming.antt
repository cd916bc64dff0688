-- Belts that get other indices: what becomes of a plan, of a search in it, and of what a request comes to (paper 02, K3).
--
--   renamed_belt f e, renamed_literal f l, renamed_rules f rules, renamed f p
--                         the belt, the literal, the rules and the plan with index i replaced by f i, wherever a belt is meant. Modes keep their numbers
--   renamed_route f r      a route's belts so renamed
--   renamed_terms f terms, renamed_subproblem f x, renamed_state f st, renamed_turn f v
--                         the same of the terms of permission, of a subproblem, of a search's state and of what a step hands back
--   map_option g o         what o holds, if anything, with g applied
--   RisesAlways f         of any two numbers, be they indices of belts or not, the lower gets the lower new one
--   Renames f q w         the problem w is the problem q with its belts renamed: its plan and its terms are; what it picks is the renamed belt; s, t, the
--                         order of children and the choice of the next subproblem are the same
--   renumbered f o        the outcome o with a route's belts renamed; cost, setting and count, none, spent and refusals stay
--
-- Nothing here is about bytes. That a search in a renamed plan is the renamed search is a law (Claims.antt). Assumes nothing.
use Rattle.std.specs.Prelude.{◌≡◌, ℕ, ◌<◌, List, map}
use Rattle.std.proofs.Math.Option.{Option, none, some}
use Rattle.plan.specs.declared.read.Literal.{Literal}
use Rattle.plan.specs.declared.read.Literal.TheVariants.{OfBelt, OfMode}
use Rattle.plan.specs.Plan.{Belt, Plan}
use Rattle.route.specs.Permission.{Terms}
use Rattle.route.specs.Subproblems.{Subproblem}
use Rattle.search.specs.Search.{Problem, State, Turn}
use Rattle.search.specs.Answers.{Outcome, refused, route, nothing, spent, paused}

-- ---- plans

abbrev pub renamed_belt : (ℕ → ℕ) → Belt → Belt
renamed_belt f e = record { index = f e.index; leaves = e.leaves; leads = e.leads; cost = e.cost }

abbrev pub renamed_literal : (ℕ → ℕ) → Literal → Literal
renamed_literal f (OfBelt e wanted) = OfBelt (record { 0 = f e.0 }) wanted
renamed_literal f (OfMode m wanted) = OfMode m wanted

abbrev pub renamed_rules : (ℕ → ℕ) → List (List Literal) → List (List Literal)
renamed_rules f rules = map (map (renamed_literal f)) rules

abbrev pub renamed : (ℕ → ℕ) → Plan → Plan
renamed f p = record {
  junctions = p.junctions;
  modes = p.modes;
  belts = map (renamed_belt f) p.belts;
  rules = renamed_rules f p.rules;
}

abbrev pub renamed_route : (ℕ → ℕ) → List Belt → List Belt
renamed_route f r = map (renamed_belt f) r

abbrev pub renamed_terms : (ℕ → ℕ) → Terms → Terms
renamed_terms f terms = record { rules = renamed_rules f terms.rules; modes = terms.modes; allowed = terms.allowed }

-- ---- searches

abbrev pub map_option : {A B : Type 0} → (A → B) → Option A → Option B
map_option g none = none
map_option g (some x) = some (g x)

abbrev pub renamed_subproblem : (ℕ → ℕ) → Subproblem → Subproblem
renamed_subproblem f x = record { required = map f x.required; forbidden = map f x.forbidden }

abbrev pub renamed_state : (ℕ → ℕ) → State → State
renamed_state f st = record {
  waiting = map (renamed_subproblem f) st.waiting;
  opened = st.opened;
  best = map_option (renamed_route f) st.best;
}

abbrev pub renamed_turn : (ℕ → ℕ) → Turn → Turn
renamed_turn f v = record { state = renamed_state f v.state; ending = v.ending }

abbrev pub RisesAlways : (ℕ → ℕ) → Type 0
RisesAlways f = (a b : ℕ) → a < b → f a < f b

pub record Renames (f : ℕ → ℕ) (q w : Problem) : Type 0 where
  pub plan : w.plan ≡ renamed f q.plan
  pub terms : w.terms ≡ renamed_terms f q.terms
  pub s : w.s ≡ q.s
  pub t : w.t ≡ q.t
  pub order : w.order ≡ q.order
  pub pick : (x : Subproblem) (r : List Belt) → w.pick (renamed_subproblem f x) (renamed_route f r) ≡ map_option f (q.pick x r)
  pub choose : (st : State) → w.choose (renamed_state f st) ≡ q.choose st

-- ---- outcomes

abbrev pub renumbered : (ℕ → ℕ) → Outcome → Outcome
renumbered f (refused n) = refused n
renumbered f (route es c σ n) = route (map f es) c σ n
renumbered f (nothing n) = nothing n
renumbered f (spent n) = spent n
renumbered f (paused n) = paused n
