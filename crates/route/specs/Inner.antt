-- What only the contracts of private functions cite; nothing that a reader has to believe.
--
--   Codable places l
--                   literal l has a code: a named belt that can be looked up in the array of places, or a mode from 1 to max_modes
--   LowCoded l      what a code says of a belt has a bit in a mask, and a mode is one from 1 to max_modes
--   is_true l belts σ
--                   what a code says holds, where the mask `belts` has the named belts that are on the route, under the setting σ
--   stores f l is   the array l with f i at place i, for each i of the list `is`
--   settings_at m σ  the settings that have the modes above m as σ has them, in rising order
--   Settled p k m σ the modes above m are settled in the setting σ, and agree with the lock k; those up to m are as the values of k have them, so that
--                   the locked ones agree and the others are off
--   content_refusal p trip v
--                   the first broken one of lines 11 to 14 (sheet_by), or 0, by what a sheet in the form says
-- The relaxed route, found from t backwards:
--   is_required x e, is_forbidden x e
--                   belt e is required, and is forbidden, by the subproblem x
--   is_owed x t u e  belt e is required, and leaves u or a later junction before t
--   remaining p x t u
--                   the subproblem that remains from u on: it requires only such belts
--   way_on p x t u   the way on: the relaxed route from u to t of what remains from u on
--   way_cost o       the cost of a way on; way_limit, which no route costs, if there is none
--
-- Assumes nothing.
use Rattle.std.specs.Prelude.{◌≡◌, ℕ, ◌*◌, ◌/◌, ◌^◌, ◌≤◌, ◌<◌, Bool, true, false, not, ◌&&◌, List, [], ◌∷◌, get_or, set, eqb, leb, ltb}
use Rattle.std.specs.Prelude.{Some}
use Rattle.std.specs.Bool.{beq}
use Rattle.std.proofs.Math.Option.{Option, none, some}
use Rattle.plan.specs.Bounds.{max_modes, max_named, max_records}
use Rattle.plan.specs.Lists.{all, iota, keep, mem}
use Rattle.plan.specs.Plan.{Belt, Plan, indices_of}
use Rattle.plan.specs.Words.{way_limit}
use Rattle.plan.specs.declared.read.Literal.{Literal}
use Rattle.plan.specs.declared.read.Literal.TheVariants.{OfBelt, OfMode}
use Rattle.route.specs.declared.clauses.Coded.{Coded}
use Rattle.route.specs.declared.clauses.Coded.TheVariants as coded
use Rattle.route.specs.declared.sheet.Sheet.{Sheet}
use Rattle.route.specs.declared.path.Lock.{Lock}
use Rattle.route.specs.declared.path.Trip.{Trip}
use Rattle.route.specs.Routes.{connects, cost, belts_by_index}
use Rattle.route.specs.Permission.{passes, is_on, agrees_at, wrong_lock, terms_of, works}
use Rattle.route.specs.Subproblems.{Subproblem, relaxed}
use Rattle.route.specs.Values.{ids_of, in_mask}

-- ---- clauses

abbrev pub Codable : List ℕ → Literal → Type 0
Codable places (OfBelt e wanted) = (e.0 < max_records) × (1 ≤ get_or places e.0 0) × (get_or places e.0 0 ≤ max_named)
Codable places (OfMode m wanted) = (1 ≤ m.0) × (m.0 ≤ max_modes)

abbrev pub LowCoded : Coded → Type 0
LowCoded (coded.Belt k wanted) = k < 64
LowCoded (coded.Mode m wanted) = (1 ≤ m.0) × (m.0 ≤ max_modes)

abbrev pub is_true : Coded → ℕ → ℕ → Bool
is_true (coded.Belt k wanted) belts σ = beq (in_mask belts (Some k)) wanted
is_true (coded.Mode m wanted) belts σ = beq (is_on σ m.0) wanted

abbrev pub stores : (ℕ → ℕ) → List ℕ → List ℕ → List ℕ
stores f l [] = l
stores f l (i ∷ is) = stores f (set l i (f i)) is

-- ---- modes

abbrev pub settings_at : ℕ → ℕ → List ℕ
settings_at m σ = iota (σ / 2 ^ m * 2 ^ m) (2 ^ m)

pub record Settled (p : Plan) (k : Lock) (m σ : ℕ) : Type 0 where
  pub fine : wrong_lock p k ≡ false
  pub few : m ≤ p.modes
  pub above : (n : ℕ) → m < n → n ≤ p.modes → agrees_at k σ n ≡ true
  pub rest : (n : ℕ) → 1 ≤ n → n ≤ m → is_on σ n ≡ is_on k.values n

-- ---- the sheet check

-- the first broken one of lines 11 to 14
abbrev pub sheet_by : Bool → Bool → Bool → Bool → ℕ
sheet_by a b c d = elim a [ true ↦ 11 | false ↦ elim b [ true ↦ 12 | false ↦ elim c [ true ↦ 13 | false ↦ elim d [ true ↦ 14 | false ↦ 0 ] ] ] ]

abbrev pub content_refusal : Plan → Trip → Sheet → ℕ
content_refusal p trip v =
    let r = belts_by_index p (ids_of v.route) in
    sheet_by
    (not (all (λ (e : ℕ). mem e (indices_of p.belts)) (ids_of v.route) && ltb v.setting (2 ^ p.modes)))
    (not (connects trip.s trip.t r))
    (not (eqb (cost r) v.cost))
    (not (works (terms_of p trip) (passes r) v.setting))

-- ---- the relaxed route

abbrev pub is_required : Subproblem → Belt → Bool
is_required x e = mem e.index x.required

abbrev pub is_forbidden : Subproblem → Belt → Bool
is_forbidden x e = mem e.index x.forbidden

abbrev pub is_owed : Subproblem → ℕ → ℕ → Belt → Bool
is_owed x t u e = is_required x e && (leb u e.leaves && ltb e.leaves t)

abbrev pub remaining : Plan → Subproblem → ℕ → ℕ → Subproblem
remaining p x t u = record { required = indices_of (keep (is_owed x t u) p.belts); forbidden = x.forbidden }

abbrev pub way_on : Plan → Subproblem → ℕ → ℕ → Option (List Belt)
way_on p x t u = relaxed p u t (remaining p x t u)

abbrev pub way_cost : Option (List Belt) → ℕ
way_cost none = way_limit
way_cost (some r) = cost r
