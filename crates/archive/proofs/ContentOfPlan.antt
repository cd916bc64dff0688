-- The content of an accepted plan, and what the laws of places say of it.
--
--   fits_again               a content that fits is the content of its plan
--   indices_rise, names_belts
--                            the indices of an accepted plan's belts rise, and its rules name its belts alone: what the laws of ContentPlaces.antt ask for
--   belt_listed              the index of a belt record is among them
--   archived_plan            the plan of its content, from the first record behind the junctions on, is the plan with its belts' new indices
--   restored_plan            the plan is that of its content with the old indices; old_indices_rise: these rise on all numbers
--   new_of_old, new_indices_rise
--                            the new index of the k-th belt; new indices rise as the old ones do
--   archived_named           the named belts are the renamed ones
--   fits                     THE CONTENT OF AN ACCEPTED PLAN FITS
--   content_of_plan          and is the content of its plan
--
-- Assumes nothing.
use mathlib.Core.Path.{◌≡◌, sym, ◌∙◌, ap, subst}
use Prim.Native.Nat.{ℕ, suc, ◌+◌, ◌≤◌, ◌<◌}
use mathlib.Core.List.{List, map, Memᴰ}
use native.Mathlib.Omega.{arith}
use lib.ListN.{length, length-map}
use Rattle.plan.specs.declared.read.Literal.{Literal}
use Rattle.plan.specs.declared.read.Literal.TheVariants.{OfBelt, OfMode}
use Rattle.plan.specs.Bounds.{max_named}
use Rattle.plan.specs.Plan.{Belt, plan_of, indices_of, named}
use Rattle.plan.specs.Reading.{Accepted, Bytes, IsBelt}
use Rattle.plan.proofs.Lists.{map_in, mem_in}
use Rattle.plan.proofs.ListRising.{Rises}
use Rattle.plan.proofs.Reading.{plan_sizes, records_few, belt_indexed, belts_rise, belt_ends, belts_cost, literal_belt, literal_mode, named_few}
use Rattle.archive.specs.Renaming.{renamed_literal, renamed}
use Rattle.archive.specs.Content.{Leg, Content, leg_of, place, content_of, new_index}
use Rattle.archive.proofs.ContentFits.{plan_numbered, LegFits, LiteralFits, Fits}
use Rattle.archive.proofs.ContentPlaces.{get_d_place, LiteralNames, NamesBelts, content_again, plan_archived}
use Rattle.archive.proofs.ContentPlaces.{old, old_rises, plan_old, new_old, new_rises, new_one, named_renamed}
use Rattle.archive.proofs.ContentSize.{size_again}

-- ---- contents that fit

fitting_names : (c : Content) (l : Literal) → LiteralFits c l → LiteralNames (λ (k : ℕ). k < length c.legs) l
fitting_names c (OfBelt e wanted) h = h
fitting_names c (OfMode m wanted) h = tt

pub fits_again : (n : ℕ) (c : Content) → Fits c → content_of (plan_numbered n c) ≡ c
fits_again n c h = content_again n c (λ rule m l k. fitting_names c l (h.literals rule m l k))

-- ---- accepted plans

module _ {b : List ℕ} (ok : Accepted b) where
  pub indices_rise : Rises (indices_of (plan_of b).belts)
  indices_rise = belts_rise ok

  pub belt_listed : (e : ℕ) → IsBelt b e → Memᴰ e (indices_of (plan_of b).belts)
  belt_listed e o = mem_in (indices_of (plan_of b).belts) (belt_indexed ok e o)

  pub names_belts : NamesBelts (plan_of b)
  names_belts rule m (OfBelt e wanted) k = belt_listed e.0 (literal_belt ok rule m e wanted k)
  names_belts rule m (OfMode n wanted) k = tt

  pub archived_plan : plan_numbered (suc (plan_of b).junctions) (content_of (plan_of b)) ≡ renamed (new_index (plan_of b)) (plan_of b)
  archived_plan = plan_archived (plan_of b) indices_rise

  pub restored_plan : plan_of b ≡ renamed (old (plan_of b)) (plan_numbered 0 (content_of (plan_of b)))
  restored_plan = plan_old (plan_of b) names_belts

  pub old_indices_rise : (i j : ℕ) → i < j → old (plan_of b) i < old (plan_of b) j
  old_indices_rise = old_rises (plan_of b) indices_rise

  pub new_of_old : (k : ℕ) → k < length (plan_of b).belts → new_index (plan_of b) (old (plan_of b) k) ≡ suc (plan_of b).junctions + k
  new_of_old = new_old (plan_of b) indices_rise

  pub new_indices_rise : (d e : ℕ) → Memᴰ d (indices_of (plan_of b).belts) → Memᴰ e (indices_of (plan_of b).belts) → d < e
      → new_index (plan_of b) d < new_index (plan_of b) e
  new_indices_rise = new_rises (plan_of b) indices_rise

  -- the place of a belt is below their count
  place_low : (e : ℕ) → Memᴰ e (indices_of (plan_of b).belts) → place (indices_of (plan_of b).belts) e < length (plan_of b).belts
  place_low e m = omega (arith, (get_d_place (indices_of (plan_of b).belts) e m).1, length-map (plan_of b).belts (λ (x : Belt). x.index))

  pub archived_named : named (renamed (new_index (plan_of b)) (plan_of b)) ≡ map (new_index (plan_of b)) (named (plan_of b))
  archived_named = named_renamed (new_index (plan_of b)) (plan_of b) (new_one (plan_of b)) names_belts

  -- ---- what its content has to be

  leg_fits : Bytes b → (e : Leg) → Memᴰ e (map leg_of (plan_of b).belts) → LegFits (content_of (plan_of b)) e
  leg_fits bytes e m =
      let (x, i, q) = map_in leg_of (plan_of b).belts m in
      let (l, u, h) = belt_ends ok x i in
      subst (LegFits (content_of (plan_of b))) (sym q) (record { from = l; up = u; to = h; price = belts_cost ok bytes x i })

  literal_fits_lem : (rule : List Literal) → Memᴰ rule (plan_of b).rules → (l : Literal) → Memᴰ l rule
      → LiteralFits (content_of (plan_of b)) (renamed_literal (place (indices_of (plan_of b).belts)) l)
  literal_fits_lem rule m (OfBelt e wanted) k =
      omega (arith, place_low e.0 (names_belts rule m (OfBelt e wanted) k), length-map (plan_of b).belts leg_of)
  literal_fits_lem rule m (OfMode n wanted) k = literal_mode ok rule m n wanted k

  literals_fit : (rule : List Literal) → Memᴰ rule (content_of (plan_of b)).rules → (l : Literal) → Memᴰ l rule → LiteralFits (content_of (plan_of b)) l
  literals_fit rule m l k =
      let to = place (indices_of (plan_of b).belts) in
      let (x, i, q) = map_in (map (renamed_literal to)) (plan_of b).rules m in
      let (y, j, s) = map_in (renamed_literal to) x (subst (Memᴰ l) q k) in
      subst (LiteralFits (content_of (plan_of b))) (sym s) (literal_fits_lem x i y j)

  few_of_it : length (named (plan_numbered (suc (plan_of b).junctions) (content_of (plan_of b)))) ≤ max_named
  few_of_it =
      let same = ap named archived_plan ∙ archived_named in
      omega (arith, ap (length {A = ℕ}) same, length-map (named (plan_of b)) (new_index (plan_of b)), named_few ok)

pub fits : (b : List ℕ) → Bytes b → Accepted b → Fits (content_of (plan_of b))
fits b bytes ok =
    let (some, few, modes) = plan_sizes ok in
    record {
      some_junctions = some;
      few_junctions = few;
      few_modes = modes;
      few_records = omega (arith, size_again ok, (records_few ok).0);
      legs = leg_fits ok bytes;
      literals = literals_fit ok;
      few_named = few_of_it ok;
    }

pub content_of_plan : (n : ℕ) (b : List ℕ) → Bytes b → Accepted b → content_of (plan_numbered n (content_of (plan_of b))) ≡ content_of (plan_of b)
content_of_plan n b bytes ok = fits_again n (content_of (plan_of b)) (fits b bytes ok)
