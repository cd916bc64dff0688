-- The order of slices of belts, compared index by index.
use Rattle.std.proofs.Common.{◌≡◌, ◌∙◌, refl, rules, Bool, true, false, List, ◌∷◌, map}
use Rattle.std.proofs.lemmas.Cmp.{ranked, same_from_slice_cmp_tested}
use Rattle.std.specs.Ordering.{MatchOrdering, nat_cmp, is_lt}
use Rattle.std.specs.declared.cmp.Ordering.{Ordering}
use Rattle.std.specs.declared.cmp.Ordering.TheVariants.{Less, Equal, Greater}
use Rattle.plan.specs.declared.read.BeltId.{BeltId}
use Rattle.route.specs.Values.{lower_ids}
use Rattle.route.proofs.RouteOrder.{first_lt, first_eq, first_gt}
use Rattle.route.proofs.path.lower.Goals as goal

abbrev below : List BeltId → List BeltId → Bool
below xs ys = lower_ids (map (λ (e : BeltId). e.0) xs) (map (λ (e : BeltId). e.0) ys)

decided : (x y : BeltId) (xs ys : List BeltId) (o : Ordering) → o ≡ nat_cmp x.0 y.0
    → MatchOrdering o (below (x ∷ xs) (y ∷ ys) ≡ true) (below (x ∷ xs) (y ∷ ys) ≡ below xs ys) (below (x ∷ xs) (y ∷ ys) ≡ false)
decided x y xs ys Less h = first_lt x.0 y.0 (below xs ys) (ranked x.0 y.0 Less h)
decided x y xs ys Equal h = first_eq x.0 y.0 (below xs ys) (ranked x.0 y.0 Equal h)
decided x y xs ys Greater h = first_gt x.0 y.0 (below xs ys) (ranked x.0 y.0 Greater h)

pub returns : goal.returns
returns c =
    same_from_slice_cmp_tested (λ (x y : BeltId). nat_cmp x.0 y.0) is_lt below refl (λ _ _. refl) (λ _ _. refl) decided
    c.belts.result.now c.belts-2.result.now c.lt.result (search rules)
    ∙ (λ i. below (c.belts.ensures i) (c.belts-2.ensures i))
