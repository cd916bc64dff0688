-- A plan as an instance of source document 000's problem: belts are the arcs and their graph variables, modes the free variables,
-- rules the clauses. A locked mode is one more clause, with a single literal: the mode, or its negation.
--
--   arc_of e           the arc of a belt; lit_of l: the literal of 000 that a literal of a rule is
--   lock_lit k n       the literal of mode n that the lock k wants: n where it is locked on, ¬n where it is locked off
--   unit_of k n        the clause of this literal alone
--   locked_of m k      the modes among 1 to m that the lock k has in its mask
--   instance_of p trip the instance of a trip through plan p: the clauses are the rules to be met, and one for each locked mode
--   settled m σ       the literals of the free variables under the setting σ of m modes
--   joint p q σ       the joint assignment of a path q and a setting σ: what q induces over all belts, and what σ sets
--
-- Assumes nothing.
use Rattle.std.specs.Prelude.{ℕ, suc, List, [], ◌∷◌, ◌++◌, map}
use Rattle.plan.specs.declared.read.Literal.{Literal}
use Rattle.plan.specs.declared.read.Literal.TheVariants.{OfBelt, OfMode}
use Rattle.plan.specs.Lists.{keep, upto}
use Rattle.plan.specs.Plan.{Belt, Plan}
use Rattle.route.specs.Lcsp.{Arc, Lit, Clause, Instance, graph, free, induced}
use Rattle.route.specs.declared.path.Lock.{Lock}
use Rattle.route.specs.declared.path.Trip.{Trip}
use Rattle.route.specs.Permission.{is_on, modes_of, terms_of}

abbrev pub arc_of : Belt → Arc
arc_of e = record { number = e.index; tail = e.leaves; head = e.leads; weight = e.cost }

abbrev pub lit_of : Literal → Lit
lit_of (OfBelt e wanted) = record { positive = wanted; var = graph e.0 }
lit_of (OfMode m wanted) = record { positive = wanted; var = free m.0 }

abbrev pub lock_lit : Lock → ℕ → Lit
lock_lit k n = record { positive = is_on k.values n; var = free n }

abbrev pub unit_of : Lock → ℕ → Clause
unit_of k n = lock_lit k n ∷ []

abbrev pub locked_of : ℕ → Lock → List ℕ
locked_of m k = keep (is_on k.mask) (modes_of m)

abbrev pub instance_of : Plan → Trip → Instance
instance_of p trip = record {
  nodes = upto 1 (suc p.junctions);
  arcs = map arc_of p.belts;
  frees = modes_of p.modes;
  formula = map (map lit_of) (terms_of p trip).rules ++ map (unit_of trip.lock) (locked_of p.modes trip.lock);
  s = trip.s;
  t = trip.t;
}

abbrev pub settled : ℕ → ℕ → List Lit
settled m σ = map (λ (n : ℕ). record { positive = is_on σ n; var = free n }) (modes_of m)

abbrev pub joint : Plan → List Arc → ℕ → List Lit
joint p q σ = induced (map arc_of p.belts) q ++ settled p.modes σ
