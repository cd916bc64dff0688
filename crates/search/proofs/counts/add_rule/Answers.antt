use Rattle.std.proofs.Common.{◌≡◌, ℕ, ◌+◌, List, get_or, sym, ap, ◌∙◌, arith}
use lib.ListN.{set}
use Rattle.search.specs.Inner.{with_rule}
use Rattle.search.proofs.BranchCounts.{with_none, with_same, with_next, with_now}
use Rattle.search.proofs.counts.add_rule.Goals as goal
use Rattle.search.proofs.counts.add_rule.Goals.{In-loop-k, then-has, else-has}

pub loop-k-init : goal.loop-k-init
loop-k-init c = with_none c.args.mask c.args.counts.now c.told-counts

-- the place that is looked at still has its old count
now : (c : In-loop-k) → get_or c.loop-k.counts c.loop-k.k 0 ≡ get_or c.args.counts.now c.loop-k.k 0
now c =
    ap (λ (xs : List ℕ). get_or xs c.loop-k.k 0) c.loop-k.invariant
    ∙ with_now c.args.mask c.args.counts.now c.loop-k.k (omega (arith, c.loop-k-test.true, c.requires.few))

pub overflow_add-counts : goal.overflow_add-counts
overflow_add-counts c = record { fits = omega (arith, now (goal.at.overflow_add-counts c).In-loop-k, c.requires.below c.loop-k.k) }

pub loop-k-preserved : goal.loop-k-preserved
loop-k-preserved c =
    let k = c.loop-k.k in
    let mask = c.args.mask in
    let before = c.args.counts.now in
    elim c.if-has.branch [
      | then-has w ↦
          w.counts-is
          ∙ ap (λ (xs : List ℕ). set xs k (get_or xs k 0 + 1)) c.loop-k.invariant
          ∙ with_next mask before k (omega (arith, c.loop-k-test.true, c.requires.few)) (sym c.has.ensures ∙ w.if-has.true)
      | else-has w ↦ w.counts-is ∙ c.loop-k.invariant ∙ with_same mask before k (sym c.has.ensures ∙ w.if-has.false)
    ]

pub returns : goal.returns
returns c =
    let k : c.loop-k.k ≡ c.args.count = omega arith in
    c.loop-k.invariant ∙ ap (λ (n : ℕ). with_rule c.args.counts.now n c.args.mask) k
