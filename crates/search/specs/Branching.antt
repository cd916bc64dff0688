-- How a subproblem is branched: the belts that can be picked, the three picks, the two children and their order (paper 01, "The search",
-- step 6; the paper's "halves" are the children).
--
--   is_fixed x e       belt e is required or forbidden by the subproblem x
--   unfixed p x       the named belts that x does not fix, in rising index
--   fixed_count p x    how many named belts x fixes
--   adding p e es     the named belts that are among es or are e, in rising index
--   requiring p x e, forbidding p x e
--                     the children of x for belt e: it is required, and is forbidden, too
--   children o p x e  both, the newer one first: order 0 takes the child that forbids e next, order 1 the one that requires it
--   rule_count p e     in how many rules belt e is; a rule that names it twice counts once
--   highest count es  the one of the belts es with the highest count, the first of equals (higher: the same of two)
--   pick_of k p x on   pick k, of the subproblem x: 0 the lowest unfixed named belt, 1 the one in most rules, then the lowest, 2 the lowest on
--                     the relaxed route, else the lowest; none where no named belt is unfixed. Which belts are on the relaxed route is
--                     told by the test `on`
--
-- Picks above 2 and orders above 1 are refused before a search begins (Answers.antt). Assumes nothing.
use Rattle.std.specs.Prelude.{ℕ, zero, suc, Bool, true, false, not, ◌||◌, eqb, ltb}
use Rattle.std.proofs.Math.Option.{Option, none, some}
use mathlib.Core.List.{List, [], ◌∷◌, head?}
use Rattle.plan.specs.Lists.{keep, count, mem}
use Rattle.plan.specs.Plan.{Plan, named, in_rule}
use Rattle.route.specs.Permission.{find, otherwise}
use Rattle.route.specs.Subproblems.{Subproblem}

abbrev pub is_fixed : Subproblem → ℕ → Bool
is_fixed x e = mem e x.required || mem e x.forbidden

abbrev pub unfixed : Plan → Subproblem → List ℕ
unfixed p x = keep (λ (e : ℕ). not (is_fixed x e)) (named p)

abbrev pub fixed_count : Plan → Subproblem → ℕ
fixed_count p x = count (is_fixed x) (named p)

-- ---- children

abbrev pub adding : Plan → ℕ → List ℕ → List ℕ
adding p e es = keep (λ (n : ℕ). mem n es || eqb n e) (named p)

abbrev pub requiring : Plan → Subproblem → ℕ → Subproblem
requiring p x e = record { required = adding p e x.required; forbidden = x.forbidden }

abbrev pub forbidding : Plan → Subproblem → ℕ → Subproblem
forbidding p x e = record { required = x.required; forbidden = adding p e x.forbidden }

abbrev pub children : ℕ → Plan → Subproblem → ℕ → List Subproblem
children zero p x e = forbidding p x e ∷ requiring p x e ∷ []
children (suc o) p x e = requiring p x e ∷ forbidding p x e ∷ []

-- ---- picks

abbrev pub rule_count : Plan → ℕ → ℕ
rule_count p e = count (in_rule e) p.rules

-- e, unless f has the higher count
abbrev pub higher : (ℕ → ℕ) → ℕ → Option ℕ → Option ℕ
higher count e none = some e
higher count e (some f) = elim (ltb (count e) (count f)) [ true ↦ some f | false ↦ some e ]

abbrev pub highest : (ℕ → ℕ) → List ℕ → Option ℕ
highest count [] = none
highest count (e ∷ es) = higher count e (highest count es)

abbrev pub pick_of : ℕ → Plan → Subproblem → (ℕ → Bool) → Option ℕ
pick_of zero p x on = head? (unfixed p x)
pick_of (suc zero) p x on = highest (rule_count p) (unfixed p x)
pick_of (suc (suc k)) p x on = otherwise (find on (unfixed p x)) (head? (unfixed p x))
