-- Whether rules are met, by the belts that their literals name.
--
--   AgreeOn rules x y   the tests x and y agree on the belts that the rules name
--   met_cong          such tests meet the same rules; lowest_cong: have one lowest setting
--   passes_indexed    the belts of an accepted plan with these indices pass exactly these
--   known_low         the indices of the belts of a Route of an accepted plan are below max_records
--   route_placeable   they can be looked up
--   met_mask          in an accepted plan the mask of a Route meets the rules that the route meets
--   lowest_mask       and has its lowest setting; mask_claim: this as it is claimed (MaskClaim)
--
-- Assumes nothing.
use mathlib.Core.Path.{◌≡◌, refl, sym, ◌∙◌, ap, subst}
use mathlib.Core.Bool.{Bool, ◌&&◌, beq}
use Prim.Native.Nat.{ℕ, ◌^◌, ◌<◌}
use mathlib.Core.List.{List, Memᴰ}
use native.Mathlib.Omega.{arith}
use Rattle.plan.specs.declared.read.BeltId.{BeltId}
use Rattle.plan.specs.declared.read.Literal.{Literal}
use Rattle.plan.specs.declared.read.Literal.TheVariants.{OfBelt, OfMode}
use Rattle.plan.specs.Bounds.{max_records}
use Rattle.plan.specs.Lists.{mem, iota}
use Rattle.plan.specs.Plan.{Belt, plan_of, indices_of, named}
use Rattle.plan.specs.Reading.{Accepted, IsBelt}
use Rattle.plan.proofs.Lists.{any_cong, all_cong, map_in}
use Rattle.plan.proofs.NamedBelts.{indices_back, named_rises}
use Rattle.plan.proofs.Reading.{belt_of_lem, belt_low}
use Rattle.route.specs.declared.belts.Route.{Route}
use Rattle.route.specs.declared.path.Trip.{Trip}
use Rattle.route.specs.Routes.{belts_by_index}
use Rattle.route.specs.Permission.{passes, holds, met, all_met, Terms, terms_of, works, lowest}
use Rattle.route.specs.Values.{ids_of, Known, route_in, LowPlace, named_places, Placeable, mask_of, has_belt}
use Rattle.route.specs.Claims.{MaskClaim}
use Rattle.route.proofs.RulesLowest.{find_cong}
use Rattle.route.proofs.RouteIndices.{indexed_map, passes_indices}
use Rattle.route.proofs.MaskFixings.{place_low, looked_up, gathered_from}
use Rattle.route.proofs.RulesCodes.{literal_named}

-- ---- tests that agree

abbrev pub AgreeOn : List (List Literal) → (ℕ → Bool) → (ℕ → Bool) → Type 0
AgreeOn rules x y =
    (rule : List Literal) → Memᴰ rule rules → (e : BeltId) (w : Bool) → Memᴰ (OfBelt e w) rule → x e.0 ≡ y e.0

met_cong : (rules : List (List Literal)) (x y : ℕ → Bool) → AgreeOn rules x y → (σ : ℕ) → all_met rules x σ ≡ all_met rules y σ
met_cong rules x y h σ = all_cong (met x σ) (met y σ) rules (λ rule m. any_cong (holds x σ) (holds y σ) rule (go rule m))
  where
    go : (rule : List Literal) → Memᴰ rule rules → (l : Literal) → Memᴰ l rule → holds x σ l ≡ holds y σ l
    go rule m (OfBelt e w) k = ap (λ (t : Bool). beq t w) (h rule m e w k)
    go rule m (OfMode n w) k = refl

pub lowest_cong : (terms : Terms) (x y : ℕ → Bool) → AgreeOn terms.rules x y → lowest terms x ≡ lowest terms y
lowest_cong terms x y h =
    find_cong (works terms x) (works terms y) (iota 0 (2 ^ terms.modes)) (λ σ i. ap (λ (t : Bool). terms.allowed σ && t) (met_cong terms.rules x y h σ))

-- ---- the belts of a route

module _ {b : List ℕ} (ok : Accepted b) where
  passes_indexed : (es : List ℕ) → ((e : ℕ) → Memᴰ e es → IsBelt b e) → (e : ℕ) → passes (belts_by_index (plan_of b) es) e ≡ mem e es
  passes_indexed es h e = passes_indices (belts_by_index (plan_of b) es) e ∙ ap (mem e) (ap indices_of (indexed_map ok es h) ∙ indices_back b es)

  known_low : (r : Route) → Known b r → (e : ℕ) → Memᴰ e (ids_of r) → e < max_records
  known_low r k e m = (belt_low ok e (k.belts e m)).2

  pub route_placeable : (r : Route) → Known b r → {places : List ℕ} → places ≡ named_places b → Placeable places r
  route_placeable r k all = record {
    few = r.few;
    low = λ e m. (known_low r k e m, subst LowPlace (sym (looked_up b e all refl (known_low r k e m))) (place_low ok e));
  }

  -- the mask tells of each named belt what the route does
  pub mask_belt : (r : Route) → Known b r → (e : ℕ) → Memᴰ e (named (plan_of b))
      → has_belt b (mask_of b (ids_of r)) e ≡ passes (route_in b r) e
  mask_belt r k e i =
      gathered_from (named_rises b) refl (ids_of r) (known_low r k) e i ∙ sym (passes_indexed (ids_of r) k.belts e)

  -- so does that of any belts of the plan
  indices_low : (r : List Belt) → ((e : Belt) → Memᴰ e r → Memᴰ e (plan_of b).belts) → (e : ℕ) → Memᴰ e (indices_of r) → e < max_records
  indices_low r h e m =
      let (f, i, q) = map_in (λ (f : Belt). f.index) r m in
      let low = (belt_low ok f.index (belt_of_lem ok f (h f i)).0).2 in
      omega (arith, low, q)

  -- and so of each belt that a rule names
  mask_agrees : (r : Route) → Known b r → AgreeOn (plan_of b).rules (has_belt b (mask_of b (ids_of r))) (passes (route_in b r))
  mask_agrees r k rule m e w i = mask_belt r k e.0 (literal_named ok m e w i)

  pub met_mask : (r : Route) → Known b r → (σ : ℕ)
      → all_met (plan_of b).rules (has_belt b (mask_of b (ids_of r))) σ ≡ all_met (plan_of b).rules (passes (route_in b r)) σ
  met_mask r k σ = met_cong (plan_of b).rules (has_belt b (mask_of b (ids_of r))) (passes (route_in b r)) (mask_agrees r k) σ

  pub lowest_mask : (trip : Trip) (r : Route) → Known b r
      → lowest (terms_of (plan_of b) trip) (has_belt b (mask_of b (ids_of r))) ≡ lowest (terms_of (plan_of b) trip) (passes (route_in b r))
  lowest_mask trip r k = lowest_cong (terms_of (plan_of b) trip) (has_belt b (mask_of b (ids_of r))) (passes (route_in b r)) (mask_agrees r k)

pub mask_claim : MaskClaim
mask_claim b ok trip r h = lowest_cong (terms_of (plan_of b) trip) (has_belt b (mask_of b (indices_of r))) (passes r) (λ rule m e w i.
    gathered_from (named_rises b) refl (indices_of r) (indices_low ok r h) e.0 (literal_named ok m e w i) ∙ sym (passes_indices r e.0))
