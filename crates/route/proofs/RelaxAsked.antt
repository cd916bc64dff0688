-- A pass as the masks of a subproblem ask for it.
--
--   arc_fixed      a named belt is fixed by a mask exactly when the mask has its place
--   none_apart     where some named belt is both required and forbidden there is no relaxed route
--   graph_asked    where none is, and `due` has the required belts in the order of tails, the pass over the words may be asked for
--   graph_placing  the places of the named belts have bits in a mask
--
-- Assumes nothing.
use mathlib.Core.Path.{◌≡◌, sym, ◌∙◌, ap, subst}
use mathlib.Core.Bool.{Bool, true, false, ◌&&◌}
use mathlib.Core.Option.{none}
use Prim.Native.Nat.{ℕ, suc, ◌≤◌, ◌<◌, ◌^◌}
use mathlib.Core.List.{List}
use native.Mathlib.Omega.{arith}
use lib.Bits.{bit_and, and_le_l}
use lib.Count.{count_trailing_zeros}
use lib.ListN.{length}
use lib.Dec.{ltb}
use lib.Pow.{pow_pos}
use borrow.Author.Tests.{ltb-true, lt-ltb}
use Rattle.std.specs.Prelude.{Some}
use Rattle.plan.specs.Lists.{count, mem}
use Rattle.plan.specs.Plan.{Belt, plan_of, named, place_by, place_of, place_in}
use Rattle.plan.specs.Words.{tail_place_at, named_at}
use Rattle.plan.specs.Tables.{Arc}
use Rattle.plan.proofs.Lists.{both, and_is, never, untrue, keep_in, in_keep}
use Rattle.plan.proofs.NamedBelts.{named_of, named_rises}
use Rattle.plan.proofs.NamedPlaces.{place_at, place_in_lem}
use Rattle.plan.proofs.Reading.{named_few}
use Rattle.route.specs.declared.relax.Fixings.{Fixings}
use Rattle.route.specs.Routes.{IsRoute}
use Rattle.route.specs.Subproblems.{admits, relaxed}
use Rattle.route.specs.Values.{in_mask, LowPlace, fixed_in, OfNamed, subproblem_in, Graph}
use Rattle.route.specs.Ways.{bit, Asked}
use Rattle.route.specs.Walks.{Placing}
use Rattle.route.proofs.MaskBits.{and_set, lowest_set, lowest_low}
use Rattle.route.proofs.MaskFixings.{fixes, fixed_mem, place_low, looked_up}
use Rattle.route.proofs.SubproblemFirst.{admits_is, no_relaxed}
use Rattle.route.proofs.WaysHighest.{high_none}

-- a belt that is not named is fixed by no mask
nameless_fixed : (ns : List ℕ) (m e : ℕ) → mem e ns ≡ false → mem e (fixed_in ns m) ≡ false
nameless_fixed ns m e h =
    fixed_mem ns m e ∙ ap (λ (t : Bool). in_mask m (place_by t (count (λ (n : ℕ). ltb n e) ns))) h

module _ {b words numbers places : List ℕ} (g : Graph b words numbers places) where
  pub arc_fixed : (m u k : ℕ) (e : Belt) → Arc (plan_of b) words numbers u k e → mem e.index (fixed_in (named (plan_of b)) m) ≡ bit m (tail_place_at numbers k)
  arc_fixed m u k e a = fixed_mem (named (plan_of b)) m e.index ∙ ap (in_mask m) (g.tabled.place_is u k e a)

  pub graph_placing : Placing places
  graph_placing e low =
      subst LowPlace (sym (looked_up b e g.placed (λ i. place_in places e) low)) (place_low g.accepted e)

  module _ (f : Fixings) (s t : ℕ) where
    pub none_apart : OfNamed b f.required → (bit_and f.required f.forbidden ≡ 0 → ⊥) → relaxed (plan_of b) s t (subproblem_in b f) ≡ none
    none_apart few h = no_relaxed g.accepted s t (subproblem_in b f) go
      where
        go : (q : List Belt) → IsRoute (plan_of b) s t q → admits (subproblem_in b f) q ≡ true → ⊥
        go q r a =
            let ns = named (plan_of b) in
            let mask = bit_and f.required f.forbidden in
            let low : mask < 2 ^ length ns = omega (arith, and_le_l f.required f.forbidden) in
            let k = count_trailing_zeros 64 mask in
            let under : k < length ns = lowest_low 64 mask (length ns) low h in
            let (needed, shut) = both (bit f.required k) (bit f.forbidden k)
            (sym (and_set f.required f.forbidden k) ∙ lowest_set 64 mask (omega (arith, named_few g.accepted))) in
            let (e, i, at) = place_at (named_rises b) k under in
            let place : place_of ns e ≡ Some k = place_in_lem e ns i ∙ ap (λ (n : ℕ). Some n) at in
            let (has, lacks) = admits_is (subproblem_in b f) q a in
            never (has e (in_keep (fixes ns f.required) ns i (ap (in_mask f.required) place ∙ needed)))
            (lacks e (in_keep (fixes ns f.forbidden) ns i (ap (in_mask f.forbidden) place ∙ shut)))

  module _ (f : Fixings) (due t : ℕ) (has : (k : ℕ) → bit due k ≡ (ltb k (named_at numbers) && bit f.required (tail_place_at numbers k))) where
    due_is : (k : ℕ) → bit due k ≡ true → (ltb k (named_at numbers) ≡ true) × (bit f.required (tail_place_at numbers k) ≡ true)
    due_is k h = both (ltb k (named_at numbers)) (bit f.required (tail_place_at numbers k)) (sym (has k) ∙ h)

    arc_due : (u k : ℕ) (e : Belt) → Arc (plan_of b) words numbers u k e → bit f.required (tail_place_at numbers k) ≡ bit due k
    arc_due u k e a =
        sym (has k ∙ ap (λ (s : Bool). s && bit f.required (tail_place_at numbers k)) (lt-ltb k (named_at numbers) (g.tabled.arc_few u k e a)))

    pub graph_asked : suc t ≤ (plan_of b).junctions → bit_and f.required f.forbidden ≡ 0 → Asked b (subproblem_in b f) words numbers due f.forbidden t
    graph_asked inside none_both = record {
      accepted = g.accepted;
      bytes = g.bytes;
      inside = inside;
      tabled = g.tabled;
      of_nameless = λ e i h.
          let ns = named (plan_of b) in
          (nameless_fixed ns f.required e.index h, nameless_fixed ns f.forbidden e.index h);
      of_named = λ u k e a. (arc_fixed f.required u k e a ∙ arc_due u k e a, arc_fixed f.forbidden u k e a);
      belts = λ n i. (named_of (plan_of b) n (keep_in (fixes (named (plan_of b)) f.required) (named (plan_of b)) i).0).0;
      placed = λ k h. ltb-true k (named_at numbers) (due_is k h).0;
      apart = λ k h.
          let q = tail_place_at numbers k in
          untrue (bit f.forbidden q) (λ shut.
          never (and_is (bit f.required q) (bit f.forbidden q) (due_is k h).1 shut)
          (sym (and_set f.required f.forbidden q) ∙ ap (λ (n : ℕ). bit n q) none_both ∙ high_none 0 q (pow_pos q)));
    }
