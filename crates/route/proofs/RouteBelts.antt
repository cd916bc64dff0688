-- The belts that a Route holds, one after the other, and those from place k on.
--
--   places              the array has max_steps places, in the form in which owning a Route gives that fact
--   first_ids k belts    the indices of the first k of an array of belts; length_first: there are k
--   first_more          one more of them is one more index at the end
--   ids_next, ids_end   the indices that a Route holds are its first `count`: the next of them, and the end
--   ids_at              the belt at place k is one of them
--   left b items k      the belts of the plan b from place k of a slice of belts on; left_next, left_end
--   left_start          they are those of a known Route whose slice it is; few_items: there are at most max_steps
--   at_belt             the belt at place k is a belt of the plan
--
-- Assumes nothing.
use mathlib.Core.Path.{◌≡◌, refl, sym, ◌∙◌, ap, subst}
use Prim.Native.Nat.{ℕ, zero, suc, ◌+◌, ◌≤◌, ◌<◌}
use mathlib.Core.List.Memᴰ
use mathlib.Core.List.{List, [], ◌∷◌, ◌++◌, map, Memᴰ, map-append}
use native.Mathlib.Omega.{arith}
use native.Mathlib.Numerals.{add-one}
use lib.ListN.{length, get_or, take, drop, length-map, length-take, drop_of_length-le, get_or-map}
use lib.Seq.{length-take-le, take-suc, drop-cons, get_or-take}
use Rattle.plan.specs.declared.read.BeltId.{BeltId}
use Rattle.plan.specs.Bounds.{max_steps}
use Rattle.plan.specs.Plan.{Belt, belt_at, belt_id}
use Rattle.plan.specs.Reading.{Accepted, IsBelt}
use Rattle.route.specs.declared.belts.Route.{Route}
use Rattle.route.specs.Values.{ids_of, Known, route_in}
use Rattle.plan.proofs.Lists.{in_map}
use Rattle.route.proofs.RouteIndices.{known_route}

pub places : (r : Route) {n : ℕ} → length (map {B = ℕ × Unit {0}} (λ (e : BeltId). (e.0, tt)) r.belts) ≡ n → length r.belts ≡ n
places r h = sym (length-map {B = ℕ × Unit {0}} r.belts (λ (e : BeltId). (e.0, tt))) ∙ h

-- ---- the indices

abbrev pub first_ids : ℕ → List BeltId → List ℕ
first_ids k belts = map (λ (e : BeltId). e.0) (take k belts)

pub length_first : (k : ℕ) (belts : List BeltId) → k ≤ length belts → length (first_ids k belts) ≡ k
length_first k belts h = length-map (take k belts) (λ (e : BeltId). e.0) ∙ length-take-le k belts h

pub first_more : (k : ℕ) (belts : List BeltId) (d : BeltId) → k < length belts
    → first_ids (k + 1) belts ≡ first_ids k belts ++ (get_or belts k d).0 ∷ []
first_more k belts d h =
    ap (λ (n : ℕ). first_ids n belts) (add-one k)
    ∙ ap (map (λ (e : BeltId). e.0)) (take-suc belts k d h)
    ∙ map-append (λ (e : BeltId). e.0) (take k belts) (get_or belts k d ∷ [])

first_at : (n : ℕ) (belts : List BeltId) (k : ℕ) (d : BeltId) → k < n → get_or (first_ids n belts) k d.0 ≡ (get_or belts k d).0
first_at n belts k d l = get_or-map (λ (e : BeltId). e.0) (take n belts) k d ∙ ap (λ (e : BeltId). e.0) (get_or-take n belts k d l)

-- what stands at a place is in the list
at_in : {A : Type 0} (xs : List A) (k : ℕ) (d : A) → k < length xs → Memᴰ (get_or xs k d) xs
at_in [] k d h = absurd (omega arith)
at_in (x ∷ xs) zero d h = Memᴰ.head refl
at_in (x ∷ xs) (suc k) d h = Memᴰ.tail (at_in xs k d (omega arith))

module _ (r : Route) (few : r.count ≤ length r.belts) where
  ids_length : length (ids_of r) ≡ r.count
  ids_length = length_first r.count r.belts few

  at : (k : ℕ) → k < r.count → get_or (ids_of r) k 0 ≡ (get_or r.belts k (belt_id 0)).0
  at k l = first_at r.count r.belts k (belt_id 0) l

  pub ids_next : (k : ℕ) → k < r.count → drop k (ids_of r) ≡ (get_or r.belts k (belt_id 0)).0 ∷ drop (k + 1) (ids_of r)
  ids_next k l =
      drop-cons (ids_of r) k 0 (omega (arith, ids_length)) ∙ (λ i. at k l i ∷ drop (sym (add-one k) i) (ids_of r))

  pub ids_end : (k : ℕ) → r.count ≤ k → drop k (ids_of r) ≡ []
  ids_end k l = let past : length (ids_of r) ≤ k = omega (arith, ids_length) in drop_of_length-le (ids_of r) past

  pub ids_at : (k : ℕ) → k < r.count → Memᴰ (get_or r.belts k (belt_id 0)).0 (ids_of r)
  ids_at k l = Memᴰ.cast (sym (at k l)) (at_in (ids_of r) k 0 (omega (arith, ids_length)))

-- ---- the belts

abbrev pub left : List ℕ → List BeltId → ℕ → List Belt
left b items k = map (belt_at b) (map (λ (e : BeltId). e.0) (drop k items))

pub left_next : (b : List ℕ) (items : List BeltId) (k : ℕ) (d : BeltId) → k < length items
    → left b items k ≡ belt_at b (get_or items k d).0 ∷ left b items (k + 1)
left_next b items k d l =
    ap (λ (es : List BeltId). map (belt_at b) (map (λ (e : BeltId). e.0) es)) (drop-cons items k d l ∙ ap (λ (j : ℕ). get_or items k d ∷ drop j items) (sym (add-one k)))

pub left_end : (b : List ℕ) (items : List BeltId) (k : ℕ) → length items ≤ k → left b items k ≡ []
left_end b items k l = ap (λ (es : List BeltId). map (belt_at b) (map (λ (e : BeltId). e.0) es)) (drop_of_length-le items l)

-- the belts that a Route holds, as the slice of them
module _ (r : Route) {items : List BeltId} (held : items ≡ take r.count r.belts) where
  pub left_start : {b : List ℕ} → Accepted b → Known b r → left b items 0 ≡ route_in b r
  left_start {b} ok known = ap (λ (es : List BeltId). left b es 0) held ∙ sym (known_route ok r known)

  pub few_items : length items ≤ max_steps
  few_items = omega (arith, ap length held, length-take r.count r.belts, r.few)

  pub at_belt : {b : List ℕ} → Known b r → (k : ℕ) (d : BeltId) → k < length items → IsBelt b (get_or items k d).0
  at_belt known k d l =
      let m = in_map (λ (e : BeltId). e.0) (at_in items k d l) in
      known.belts (get_or items k d).0 (subst (λ (es : List BeltId). Memᴰ (get_or items k d).0 (map (λ (e : BeltId). e.0) es)) held m)
