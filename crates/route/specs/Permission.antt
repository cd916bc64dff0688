-- Which routes are permitted (paper 01, "Permitted routes", and K2 of paper 02: some modes are the depot's to set).
--
--   passes r e          belt e is on route r
--   is_on σ m            mode m is on in the setting σ, in which it counts 2^(m-1)
--   holds on σ l        literal l holds: being on the route, or the mode being on, agrees with what is wanted.
--                       Which belts are on the route is told by the test `on`
--   met on σ rule       some literal of the rule holds; so a rule without literals is never met
--   all_met rules on σ   every rule is met
--   modes_of m           the modes 1 to m
--   agrees m k σ        the setting σ of m modes agrees with the lock k: each of them that is locked, its bit being set in the mask, is on in σ
--                       exactly where its bit is set in the values (agrees_at: one mode)
--   no_lock              the lock that locks no mode
--   wrong_lock p k       the mask has a bit at or above the number of modes, or the values have one outside the mask (line 15 of the refusal table)
--   Terms               what permission is asked under: the rules to be met, the number of modes, and which settings may be chosen
--   locked_terms p k     the terms of a plan under a lock: all its rules and modes, and the settings that agree with the lock
--   terms_of p trip      THE TERMS of a trip through a plan: those under its lock
--   works terms on σ    the setting σ may be chosen, and under it every rule is met
--   Permitted terms r   some setting of all the modes works
--   IsPermitted p trip r
--                       r is a route of the trip, and permitted under its terms
--   lowest terms on     the lowest setting that works, if one does: of the settings 0, 1, .. below 2^m, for m modes, the first. It is the
--                       one found by trying the highest mode off before on, and each lower mode inside it
--   find f xs           the first of xs that passes; otherwise o w: o, and w where o is none
--
-- `Trip`, from s to t under a lock, and `Lock`, a mask of locked modes and their values, bit m-1 for mode m, are declared by the code
-- (src/path.rt). Assumes nothing.
use Rattle.std.specs.Prelude.{◌≡◌, ℕ, suc, ◌-◌, ◌/◌, ◌%◌, ◌^◌, ◌<◌, Bool, true, false, not, ◌&&◌, ◌||◌, List, [], ◌∷◌, eqb, ltb}
use Rattle.std.specs.Bool.{beq}
use Rattle.std.proofs.Math.Option.{Option, none, some}
use Rattle.std.specs.Int.Bits.{bit_and}
use Rattle.plan.specs.declared.read.Literal.{Literal}
use Rattle.plan.specs.declared.read.Literal.TheVariants.{OfBelt, OfMode}
use Rattle.plan.specs.Lists.{any, all, iota, upto}
use Rattle.plan.specs.Plan.{Belt, Plan}
use Rattle.route.specs.declared.path.Lock.{Lock}
use Rattle.route.specs.declared.path.Trip.{Trip}
use Rattle.route.specs.Routes.{IsRoute}

abbrev pub passes : List Belt → ℕ → Bool
passes r e = any (λ (f : Belt). eqb f.index e) r

abbrev pub is_on : ℕ → ℕ → Bool
is_on σ m = eqb (σ / 2 ^ (m - 1) % 2) 1

abbrev pub holds : (ℕ → Bool) → ℕ → Literal → Bool
holds on σ (OfBelt e wanted) = beq (on e.0) wanted
holds on σ (OfMode m wanted) = beq (is_on σ m.0) wanted

abbrev pub met : (ℕ → Bool) → ℕ → List Literal → Bool
met on σ rule = any (holds on σ) rule

abbrev pub all_met : List (List Literal) → (ℕ → Bool) → ℕ → Bool
all_met rules on σ = all (met on σ) rules

-- ---- modes that the depot sets

abbrev pub modes_of : ℕ → List ℕ
modes_of m = upto 1 (suc m)

abbrev pub agrees_at : Lock → ℕ → ℕ → Bool
agrees_at k σ n = not (is_on k.mask n) || beq (is_on σ n) (is_on k.values n)

abbrev pub agrees : ℕ → Lock → ℕ → Bool
agrees m k σ = all (agrees_at k σ) (modes_of m)

abbrev pub no_lock : Lock
no_lock = record { mask = 0; values = 0 }

abbrev pub wrong_lock : Plan → Lock → Bool
wrong_lock p k = not (ltb k.mask (2 ^ p.modes) && eqb (bit_and k.values k.mask) k.values)

-- ---- what permission is asked under

pub record Terms : Type 0 where
  pub rules : List (List Literal)
  pub modes : ℕ
  pub allowed : ℕ → Bool

abbrev pub locked_terms : Plan → Lock → Terms
locked_terms p k = record { rules = p.rules; modes = p.modes; allowed = agrees p.modes k }

abbrev pub terms_of : Plan → Trip → Terms
terms_of p trip = locked_terms p trip.lock

abbrev pub works : Terms → (ℕ → Bool) → ℕ → Bool
works terms on σ = terms.allowed σ && all_met terms.rules on σ

abbrev pub Permitted : Terms → List Belt → Type 0
Permitted terms r = (σ : ℕ) × (σ < 2 ^ terms.modes) × (works terms (passes r) σ ≡ true)

abbrev pub IsPermitted : Plan → Trip → List Belt → Type 0
IsPermitted p trip r = IsRoute p trip.s trip.t r × Permitted (terms_of p trip) r

-- ---- the lowest setting

abbrev pub or_else : {A : Type 0} → Bool → A → Option A → Option A
or_else true x o = some x
or_else false x o = o

abbrev pub otherwise : {A : Type 0} → Option A → Option A → Option A
otherwise (some x) o = some x
otherwise none o = o

abbrev pub find : {A : Type 0} → (A → Bool) → List A → Option A
find f [] = none
find f (x ∷ xs) = or_else (f x) x (find f xs)

abbrev pub lowest : Terms → (ℕ → Bool) → Option ℕ
lowest terms on = find (works terms on) (iota 0 (2 ^ terms.modes))
