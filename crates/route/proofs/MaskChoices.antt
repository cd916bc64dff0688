-- Any choice of named belts as a mask.
--
--   bit_law     bit k of a mask is for the k-th of the named belts (BitLaw)
--   mask_low      the mask of named belts is of named belts; mask_in, in_mask_lem: it fixes exactly these
--   masks_law   every subproblem of named belts has masks (MasksLaw)
--
-- Assumes nothing.
use mathlib.Core.Path.{◌≡◌, refl, sym, ◌∙◌, ap}
use mathlib.Core.Bool.{true}
use mathlib.Core.Option.{Option, none, some}
use Prim.Native.Nat.{ℕ, ◌^◌, ◌<◌}
use mathlib.Core.List.{List, Memᴰ}
use lib.ListN.{length, get_or}
use Rattle.std.specs.Prelude.{Some}
use Rattle.plan.specs.Bounds.{max_records}
use Rattle.plan.specs.Lists.{mem}
use Rattle.plan.specs.Plan.{Belt, plan_of, named, place_of}
use Rattle.plan.specs.Reading.{Accepted}
use Rattle.plan.proofs.Lists.{keep_in, in_mem, mem_in}
use Rattle.plan.proofs.NamedBelts.{named_rises, named_in}
use Rattle.plan.proofs.NamedPlaces.{at_place, place_in_lem, place_at}
use Rattle.plan.proofs.Reading.{belt_low}
use Rattle.route.specs.declared.relax.Fixings.{Fixings}
use Rattle.route.specs.Subproblems.{Subproblem, admits, relaxed}
use Rattle.route.specs.Values.{in_mask, fixed_in, subproblem_in, mask_of}
use Rattle.route.specs.Laws.{BitLaw, MasksLaw}
use Rattle.route.proofs.SubproblemFirst.{admits_is, is_admits, relaxed_some, relaxed_none, is_relaxed, no_relaxed}
use Rattle.route.proofs.MaskFixings.{fixed_mem, gathered_from, gathered_low}

pub bit_law : BitLaw
bit_law b m k l =
    let ns = named (plan_of b) in
    let (e, i, q) = place_at (named_rises b) k l in
    let here : get_or ns k 0 ≡ e = sym (ap (λ (j : ℕ). get_or ns j 0) q) ∙ (at_place e (named_rises b) i).0 in
    ap (λ (n : ℕ). mem n (fixed_in ns m)) here ∙ fixed_mem ns m e ∙ ap (in_mask m) (place_in_lem e ns i ∙ ap (λ (j : ℕ). Some j) q)

module _ {b : List ℕ} (ok : Accepted b) (es : List ℕ) (all : (e : ℕ) → Memᴰ e es → Memᴰ e (named (plan_of b))) where
  abbrev ns : List ℕ
  ns = named (plan_of b)

  low : (e : ℕ) → Memᴰ e es → e < max_records
  low e m = (belt_low ok e (named_in b e (all e m))).2

  mask_low : mask_of b es < 2 ^ length ns
  mask_low = gathered_low (named_rises b) refl es low

  -- the mask of the belts es fixes exactly these
  mask_in : (e : ℕ) → Memᴰ e es → Memᴰ e (fixed_in ns (mask_of b es))
  mask_in e m = mem_in (fixed_in ns (mask_of b es)) (fixed_mem ns (mask_of b es) e ∙ gathered_from (named_rises b) refl es low e (all e m) ∙ in_mem es m)

  in_mask_lem : (e : ℕ) → Memᴰ e (fixed_in ns (mask_of b es)) → Memᴰ e es
  in_mask_lem e m =
      let (i, k) = keep_in (λ (n : ℕ). in_mask (mask_of b es) (place_of ns n)) ns m in
      mem_in es (sym (gathered_from (named_rises b) refl es low e i) ∙ k)

-- what two subproblems with the same belts admit is the same
admits_same : (x y : Subproblem) (r : List Belt) → ((e : ℕ) → Memᴰ e y.required → Memᴰ e x.required)
    → ((e : ℕ) → Memᴰ e y.forbidden → Memᴰ e x.forbidden) → admits x r ≡ true → admits y r ≡ true
admits_same x y r h k a = let (has, lacks) = admits_is x r a in is_admits y r (λ e m. has e (h e m)) (λ e m. lacks e (k e m))

relaxed_same : {b : List ℕ} → Accepted b → (x y : Subproblem) → ((r : List Belt) → admits x r ≡ true → admits y r ≡ true)
    → ((r : List Belt) → admits y r ≡ true → admits x r ≡ true) → (s t : ℕ) → relaxed (plan_of b) s t x ≡ relaxed (plan_of b) s t y
relaxed_same {b} ok x y to from s t = go (relaxed (plan_of b) s t x) refl
  where
    go : (o : Option (List Belt)) → relaxed (plan_of b) s t x ≡ o → o ≡ relaxed (plan_of b) s t y
    go none h = sym (no_relaxed ok s t y (λ q i a. relaxed_none ok s t x h q i (from q a)))
    go (some r) h =
        let (i, a, least) = relaxed_some ok s t x r h in
        sym (is_relaxed ok s t y r i (to r a) (λ q j c. least q j (from q c)))

pub masks_law : MasksLaw
masks_law b ok x req forb =
    let f : Fixings = record { required = mask_of b x.required; forbidden = mask_of b x.forbidden } in (
      f,
      mask_low ok x.required req,
      mask_low ok x.forbidden forb,
      relaxed_same ok (subproblem_in b f) x
          (λ r. admits_same (subproblem_in b f) x r (mask_in ok x.required req) (mask_in ok x.forbidden forb))
          (λ r. admits_same x (subproblem_in b f) r (in_mask_lem ok x.required req) (in_mask_lem ok x.forbidden forb)),
    )
