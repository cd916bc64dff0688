-- What a subproblem admits, by the cut: each required belt restricts the route, and no forbidden belt is on it.
--
--   enforced_claim   this as it is claimed (EnforcedClaim)
--
-- Assumes nothing.
use mathlib.Core.Path.{◌≡◌, sym, ◌∙◌, ap}
use mathlib.Core.Bool.{true, false}
use Prim.Native.Nat.{ℕ}
use mathlib.Core.List.Memᴰ
use mathlib.Core.List.{Memᴰ}
use Rattle.plan.specs.Plan.{Belt, plan_of}
use Rattle.plan.proofs.Lists.{map_in}
use Rattle.route.specs.Permission.{passes}
use Rattle.route.specs.Subproblems.{admits, Restricts}
use Rattle.route.specs.Claims.{EnforcedClaim}
use Rattle.route.proofs.SubproblemFirst.{admits_is, is_admits}
use Rattle.route.proofs.SubproblemCut.{cut_claim}

pub enforced_claim : EnforcedClaim
enforced_claim b ok s t r h x known = (to, λ k. from k.0 k.1)
  where
    Restricted : Type 0
    Restricted = (g : Belt) → Memᴰ g (plan_of b).belts → Memᴰ g.index x.required → Restricts s t g r

    Clean : Type 0
    Clean = (e : ℕ) → Memᴰ e x.forbidden → passes r e ≡ false

    to : admits x r ≡ true → Restricted × Clean
    to a = let (k, f) = admits_is x r a in (λ g m w. (cut_claim b ok s t r h g m).0 (k g.index w), f)

    from : Restricted → Clean → admits x r ≡ true
    from k f = is_admits x r has f
      where
        has : (n : ℕ) → Memᴰ n x.required → passes r n ≡ true
        has n m =
            let (g, i, e) = map_in (λ (f : Belt). f.index) (plan_of b).belts (known n m) in
            ap (passes r) e ∙ (cut_claim b ok s t r h g i).1 (k g i (Memᴰ.cast (sym e) m))
