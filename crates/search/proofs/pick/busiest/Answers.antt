use Rattle.std.proofs.Common.{◌≡◌, ℕ, ◌+◌, ◌-◌, ◌<◌, ◌≤◌, Some, None, refl, ◌∙◌, ap, sym, subst, arith}
use lib.Bits.{bit_or}
use Rattle.plan.specs.Bounds.{max_named}
use Rattle.plan.specs.Words.{named_at}
use Rattle.search.specs.Values.{count_at}
use Rattle.search.specs.Inner.{at_place}
use Rattle.search.proofs.BranchPicks.{busiest_none, busiest_fixed, busiest_kept, busiest_taken, busiest_all, busiest_from}
use Rattle.search.proofs.pick.busiest.Goals as goal
use Rattle.search.proofs.pick.busiest.Goals.{In-loop-k}

pub loop-k-init : goal.loop-k-init
loop-k-init c =
    let n = named_at c.args.prepared.numbers.now in
    let fixed = bit_or c.args.fixings.required c.args.fixings.forbidden in record {
      below = tt;
      busiest = busiest_none c.args.prepared.numbers.now fixed n ∙ sym (ap (λ (k : ℕ). at_place (busiest_from c.args.prepared.numbers.now fixed k n)) c.named-k.ensures);
    }

-- the place of a turn is the next below, and one of the named belts
next : (c : In-loop-k) → (c.loop-k.k - 1 + 1 ≡ c.loop-k.k) × (c.loop-k.k - 1 < named_at c.args.prepared.numbers.now) × (c.loop-k.k - 1 < max_named)
next c = (omega arith, omega (arith, c.named-k.ensures), omega (arith, c.named-k.ensures, c.requires))

pub loop-k-preserved-then-has : goal.loop-k-preserved-then-has
loop-k-preserved-then-has c =
    let (back, inside, low) = next (goal.at.loop-k-preserved-then-has c).In-loop-k in record {
      below = c.loop-k.invariant.below;
      busiest = c.loop-k.invariant.busiest
          ∙ ap at_place (busiest_fixed c.args.prepared.numbers.now _ (named_at c.args.prepared.numbers.now) c.loop-k.k (c.loop-k.k - 1) back inside (sym c.if-has.ensures));
    }

pub rules_at-requires : goal.rules_at-requires
rules_at-requires c = rw c.in-Some.is at c.loop-k.invariant.below

pub loop-k-preserved-then-rules-rules_at : goal.loop-k-preserved-then-rules-rules_at
loop-k-preserved-then-rules-rules_at c =
    let (back, inside, low) = next (goal.at.loop-k-preserved-then-rules-rules_at c).In-loop-k in
    let less : count_at c.args.prepared.numbers.now (c.loop-k.k - 1) < count_at c.args.prepared.numbers.now c.in-Some.other =
    omega (arith, c.rules_at-rules.ensures, c.rules_at.ensures, c.if-rules-rules_at.true) in record {
      below = rw c.in-Some.is at c.loop-k.invariant.below;
      busiest = busiest_kept c.args.prepared.numbers.now _ (named_at c.args.prepared.numbers.now) c.loop-k.k (c.loop-k.k - 1) back inside (sym c.if-has.ensures)
          (Some c.in-Some.other) (sym c.in-Some.is ∙ c.loop-k.invariant.busiest) c.in-Some.other refl less;
    }

-- the place of this turn is the busiest: there was none before, or one that is in no more rules
pub loop-k-preserved : goal.loop-k-preserved
loop-k-preserved c =
    let (back, inside, low) = next (goal.at.loop-k-preserved c).In-loop-k in record {
      below = low;
      busiest = busiest_taken c.args.prepared.numbers.now _ (named_at c.args.prepared.numbers.now) c.loop-k.k (c.loop-k.k - 1) back inside (sym c.if-has.ensures)
          c.loop-k.best c.loop-k.invariant.busiest (λ j e. let no : None ≡ Some j = sym c.in_default.is ∙ e in cc);
    }

pub loop-k-preserved-in_default : goal.loop-k-preserved-in_default
loop-k-preserved-in_default c =
    let (back, inside, low) = next (goal.at.loop-k-preserved-in_default c).In-loop-k in
    let counts = count_at c.args.prepared.numbers.now in
    let more : counts c.in-Some.other ≤ counts (c.loop-k.k - 1) = omega (arith, c.rules_at-rules.ensures, c.rules_at.ensures, c.if-rules-rules_at.false) in record {
      below = low;
      busiest = busiest_taken c.args.prepared.numbers.now _ (named_at c.args.prepared.numbers.now) c.loop-k.k (c.loop-k.k - 1) back inside (sym c.if-has.ensures)
          c.loop-k.best c.loop-k.invariant.busiest
          (λ j e. let same : Some c.in-Some.other ≡ Some j = sym c.in-Some.is ∙ e in let at : c.in-Some.other ≡ j = cc in subst (λ (i : ℕ). counts i ≤ counts (c.loop-k.k - 1)) at more);
    }

pub returns : goal.returns
returns c =
    let zero : c.loop-k.k ≡ 0 = omega arith in
    let n = named_at c.args.prepared.numbers.now in
    let fixed = bit_or c.args.fixings.required c.args.fixings.forbidden in
    c.loop-k.invariant.busiest
    ∙ ap (λ (k : ℕ). at_place (busiest_from c.args.prepared.numbers.now fixed k n)) zero
    ∙ ap at_place (busiest_all c.args.prepared.numbers.now fixed n c.args.fixings refl)
