-- What the values that the code hands about mean. `Trip`, `Route`, `Sheet`, `Fixings` and `Summary` are declared by the code.
--
--   ids_of r          the indices of the belts that a Route holds: the first `count` of its array
--   packed es        the Route that holds the belts es, the rest of its array 0. A Route has room for max_steps, so of more it holds the first
--   route_of r        the Route that holds the belts of the route r
--   first_belts n ns  the Route of the first n belts of an array of indices
--   Known b r        all belts of a Route are belts of the plan b
--   route_in b r      the belts of the plan b that a Route holds
--   lower_ids es fs   `lower` of routes with the indices es and fs: the order of routes that cost as much
--   sheet_in h        the Sheet that the bytes h read as
--   bytes_of v        the bytes of a Sheet
--   setting_in v      the lowest setting, if there is one, that an answer stands for
--   LowPlace q       the place q has a bit in a mask
--   in_mask m q       a mask has the place q: bit k is for place k
--   with_place m q    the mask m with the place q in it
--   fixed_in ns m     those of the named belts ns whose places a mask has, in rising index
--   OfNamed b m      the mask m has no other places than those of the named belts of the plan b
--   subproblem_in b f the subproblem of the plan b that the masks f stand for
--   named_places b    the places of the named belts of the plan b, as the code looks them up
--   gathered_in places m es
--                    the mask m with the places of the belts es, as the array of places has them
--   Placeable places r
--                    the belts of a Route can be looked up in the array of places, and have bits in a mask
--   mask_of b es      the named belts of the plan b among es, as a mask
--   has_belt b m e    the mask m has belt e of the plan b
--   at_most c o       the route o, if there is one and it costs at most c
--   unbounded        a bound that drops no route, and that none costs as much as
--   summary_of b r    the cost of the route r of the plan b, how many belts it has, and the named ones; summary_as b o: that of a route, if there is one
--   Graph b words numbers places
--                    the plan b is accepted, and the arrays are its own: its words and their numbers, which are sound and have its belts, and the places of
--                    its named belts
--   walked_of o array
--                    the array with the indices of the belts of the route o, if there is one, from the first place on
--   with_bit n t      twice n, and 1 more if t holds
--   code_in places l  the code of literal l: twice its variable, and 1 more where it is wanted. The variable of a belt is twice its place among
--                    the named belts, as the array of places has it; that of a mode is twice its number, and 1 more
--   coded_in c        what a code says: the place of the belt or the mode, and whether it is wanted (coded_by, by whether it is a mode)
--   rule_entry b r    the entry of rule r of the plan b: the next rule, and field_limit times its first literal
--   literal_entry b l the entry of literal l of the plan b: the next literal of its rule, and field_limit times its code
--   entry_of b i      the entry of record i of the plan b: of record 0 the first rule, of a rule and of a literal the above, of any other 0 (entry_by)
--   clauses_in n b    the entries of the plan b by record index, as an array of n
--   Clauses b cs     the array cs has the entries of the plan b, and one for each of its records
--   Ruled b cs       the plan b is accepted, and the array cs has its clauses: b is a plan that cs is of. The rule test does not see the plan, so its
--                    contracts say what it answers for every such plan
--   case_of b trip h  the case of the sheet check
--
-- Assumes nothing.
use Rattle.std.specs.Prelude.{◌≡◌, ℕ, zero, suc, ◌+◌, ◌*◌, ◌-◌, ◌/◌, ◌%◌, ◌^◌, ◌≤◌, ◌<◌, Bool, true, false, length, get_or, min, take, replicate, eqb, leb}
use Rattle.std.proofs.Math.Nat.{min-le_left}
use Rattle.std.proofs.Math.Option.{Option, none, some}
use mathlib.Core.List.{List, [], ◌∷◌, ◌++◌, map, Memᴰ}
use Rattle.std.specs.Int.Bits.{bit_or}
use Rattle.std.proofs.lemmas.List.Edits.{sets}
use Rattle.plan.specs.declared.read.BeltId.{BeltId}
use Rattle.plan.specs.declared.read.Literal.{Literal}
use Rattle.plan.specs.declared.read.Literal.TheVariants.{OfBelt, OfMode}
use Rattle.plan.specs.Plan.{Place}
use Rattle.std.specs.Prelude.{Some, None}
use Rattle.plan.specs.Bounds.{field_limit, max_records, max_steps}
use Rattle.plan.specs.Lists.{keep, upto}
use Rattle.plan.specs.Records.{records}
use Rattle.plan.specs.Plan.{Belt, plan_of, literal_at, indices_of, named, belt_id, place_of, places_of, place_in}
use Rattle.plan.specs.Words.{way_limit}
use Rattle.plan.specs.Tables.{Sound, Tabled}
use Rattle.plan.specs.Reading.{Accepted, Bytes, IsBelt, is_rule_at, is_literal_at, first_rule, next_rule, first_literal, next_literal}
use Rattle.route.specs.declared.belts.Route.{Route}
use Rattle.route.specs.declared.sheet.Sheet.{Sheet}
use Rattle.route.specs.declared.clauses.Coded.{Coded}
use Rattle.route.specs.declared.clauses.Coded.TheVariants as coded
use Rattle.std.specs.declared.option.Option as answer
use Rattle.route.specs.declared.path.Trip.{Trip}
use Rattle.route.specs.declared.relax.Fixings.{Fixings}
use Rattle.route.specs.declared.relax.Summary.{Summary}
use Rattle.route.specs.Routes.{cost, first, belts_by_index}
use Rattle.route.specs.Subproblems.{Subproblem}
use Rattle.route.specs.Sheets.{sheet_of, belts_on, cost_on, setting_on}
use Rattle.route.specs.Refusals.{Case}

abbrev pub ids_of : Route → List ℕ
ids_of r = map (λ (e : BeltId). e.0) (take r.count r.belts)

abbrev pub packed : List ℕ → Route
packed es =
    record {
      count = min max_steps (length es);
      belts = map belt_id (take max_steps es) ++ replicate (max_steps - length es) (belt_id 0);
      few = min-le_left max_steps (length es);
    }

abbrev pub route_of : List Belt → Route
route_of r = packed (indices_of r)

abbrev pub first_belts : ℕ → List ℕ → Route
first_belts n ns = packed (take n ns)

pub record Known (b : List ℕ) (r : Route) : Type 0 where
  pub belts : (e : ℕ) → Memᴰ e (ids_of r) → IsBelt b e

abbrev pub route_in : List ℕ → Route → List Belt
route_in b r = belts_by_index (plan_of b) (ids_of r)

abbrev pub lower_ids : List ℕ → List ℕ → Bool
lower_ids [] [] = false
lower_ids [] (f ∷ fs) = true
lower_ids (e ∷ es) [] = false
lower_ids (e ∷ es) (f ∷ fs) = first e f (lower_ids es fs)

abbrev pub sheet_in : List ℕ → Sheet
sheet_in h = record { route = packed (belts_on h); cost = cost_on h; setting = setting_on h }

abbrev pub bytes_of : Sheet → List ℕ
bytes_of v = sheet_of (ids_of v.route) v.cost v.setting

abbrev pub setting_in : answer.Option ℕ → Option ℕ
setting_in (Some σ) = some σ
setting_in None = none

-- ---- subproblems

abbrev pub in_mask : ℕ → Place → Bool
in_mask m (Some k) = eqb (m / 2 ^ k % 2) 1
in_mask m None = false

abbrev pub LowPlace : Place → Type 0
LowPlace (Some k) = k < 64
LowPlace None = Unit {0}

abbrev pub with_place : ℕ → Place → ℕ
with_place m (Some k) = bit_or m (2 ^ k)
with_place m None = m

abbrev pub fixed_in : List ℕ → ℕ → List ℕ
fixed_in ns m = keep (λ (e : ℕ). in_mask m (place_of ns e)) ns

abbrev pub OfNamed : List ℕ → ℕ → Type 0
OfNamed b m = m < 2 ^ length (named (plan_of b))

abbrev pub subproblem_in : List ℕ → Fixings → Subproblem
subproblem_in b f = record { required = fixed_in (named (plan_of b)) f.required; forbidden = fixed_in (named (plan_of b)) f.forbidden }

abbrev pub named_places : List ℕ → List ℕ
named_places b = places_of (named (plan_of b))

abbrev pub gathered_in : List ℕ → ℕ → List ℕ → ℕ
gathered_in places m [] = m
gathered_in places m (e ∷ es) = gathered_in places (with_place m (place_in places e)) es

pub record Placeable (places : List ℕ) (r : Route) : Type 0 where
  pub few : r.count ≤ max_steps
  pub low : (e : ℕ) → Memᴰ e (ids_of r) → (e < max_records) × LowPlace (place_in places e)

abbrev pub mask_of : List ℕ → List ℕ → ℕ
mask_of b es = gathered_in (named_places b) 0 es

abbrev pub has_belt : List ℕ → ℕ → ℕ → Bool
has_belt b m e = in_mask m (place_of (named (plan_of b)) e)

abbrev pub at_most : ℕ → Option (List Belt) → Option (List Belt)
at_most c none = none
at_most c (some r) = elim (leb (cost r) c) [ true ↦ some r | false ↦ none ]

abbrev pub unbounded : ℕ
unbounded = way_limit - 1

abbrev pub summary_of : List ℕ → List Belt → Summary
summary_of b r = record { cost = cost r; count = length r; named = mask_of b (indices_of r) }

abbrev pub summary_as : List ℕ → Option (List Belt) → answer.Option Summary
summary_as b none = None
summary_as b (some r) = Some (summary_of b r)

pub record Graph (b words numbers places : List ℕ) : Type 0 where
  pub accepted : Accepted b
  pub bytes : Bytes b
  pub sound : Sound words numbers
  pub tabled : Tabled (plan_of b) words numbers
  pub placed : places ≡ named_places b

abbrev pub walked_of : Option (List Belt) → List ℕ → List ℕ
walked_of none array = array
walked_of (some r) array = sets array 0 (indices_of r)

-- ---- clauses

abbrev pub with_bit : ℕ → Bool → ℕ
with_bit n true = 2 * n + 1
with_bit n false = 2 * n

abbrev pub code_in : List ℕ → Literal → ℕ
code_in places (OfBelt e wanted) = with_bit (with_bit (get_or places e.0 0 - 1) false) wanted
code_in places (OfMode m wanted) = with_bit (with_bit m.0 true) wanted

abbrev pub coded_by : Bool → ℕ → Bool → Coded
coded_by true n wanted = coded.Mode (record { 0 = n }) wanted
coded_by false n wanted = coded.Belt n wanted

abbrev pub coded_in : ℕ → Coded
coded_in c = coded_by (eqb (c / 2 % 2) 1) (c / 2 / 2) (eqb (c % 2) 1)

abbrev pub rule_entry : List ℕ → ℕ → ℕ
rule_entry b r = next_rule b r + field_limit * first_literal b r

abbrev pub literal_entry : List ℕ → ℕ → ℕ
literal_entry b l = next_literal b l + field_limit * code_in (named_places b) (literal_at b l)

-- by whether the record is a rule, and whether it is a literal
abbrev pub entry_by : Bool → Bool → ℕ → ℕ → ℕ
entry_by true t rule literal = rule
entry_by false true rule literal = literal
entry_by false false rule literal = 0

unfoldable pub entry_of : List ℕ → ℕ → ℕ
entry_of b zero = first_rule b
entry_of b (suc i) = entry_by (is_rule_at b (suc i)) (is_literal_at b (suc i)) (rule_entry b (suc i)) (literal_entry b (suc i))

unfoldable pub clauses_in : ℕ → List ℕ → List ℕ
clauses_in n b = map (entry_of b) (upto 0 n)

pub record Clauses (b cs : List ℕ) : Type 0 where
  pub whole : cs ≡ clauses_in (length cs) b
  pub records_fit : records b ≤ length cs

pub record Ruled (b cs : List ℕ) : Type 0 where
  pub accepted : Accepted b
  pub clauses : Clauses b cs

-- ---- the sheet check

abbrev pub case_of : List ℕ → Trip → List ℕ → Case
case_of b trip h = record { plan = b; trip = trip; sheet = h }
