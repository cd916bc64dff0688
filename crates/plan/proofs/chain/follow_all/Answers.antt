-- One record after the other.
use Rattle.std.proofs.Common.{ℕ, ◌+◌, List, refl, sym, ap, ◌∙◌}
use mathlib.Core.Bool.{true≢false}
use Rattle.plan.specs.Lists.{any, joined, upto}
use Rattle.plan.specs.Records.{links_at, links}
use Rattle.plan.specs.Refusals.{bad_link}
use Rattle.plan.specs.Inner.{marked}
use Rattle.plan.proofs.ChainMarks.{pass_stop, pass_next, pass_done, marks_next, marks_done}
use Rattle.plan.proofs.chain.follow_all.Goals as goal

pub loop-r-init : goal.loop-r-init
unfolding links
loop-r-init c =
    let b = c.args.plan.bytes.now in
    let n = c.args.plan.counted in
    record {
      decides = ap (λ (n : ℕ). any (bad_link b) (joined (links_at b) (upto 0 n))) n;
      counts = ap (λ (n : ℕ). marked c.args.seen.now (joined (links_at b) (upto 0 n))) n;
    }

pub loop-r-preserved : goal.loop-r-preserved
loop-r-preserved c =
    let b = c.args.plan.bytes.now in
    let r = c.loop-r.r in
    let n = c.args.plan.count in
    let found = c.in_ok-follow_record.ensures in
    record {
      decides = pass_next (bad_link b) (links_at b) r n c.loop-r-test.true (sym found.0) ∙ c.loop-r.invariant.decides;
      counts = ap (λ (seen : List ℕ). marked seen (joined (links_at b) (upto (r + 1) n))) (found.1 refl)
          ∙ marks_next c.loop-r.seen (links_at b) r n c.loop-r-test.true
          ∙ c.loop-r.invariant.counts;
    }

pub returns : goal.returns
returns c =
    let b = c.args.plan.bytes.now in
    let r = c.loop-r.r in
    let n = c.args.plan.count in (
      sym (pass_done (bad_link b) (links_at b) r n c.loop-r-test.false) ∙ c.loop-r.invariant.decides,
      λ _. sym (marks_done c.loop-r.seen (links_at b) r n c.loop-r-test.false) ∙ c.loop-r.invariant.counts,
    )

pub returns-in_err-follow_record : goal.returns-in_err-follow_record
returns-in_err-follow_record c =
    let b = c.args.plan.bytes.now in
    rw c.from_residual.ensures.0 (
      sym (pass_stop (bad_link b) (links_at b) c.loop-r.r c.args.plan.count c.loop-r-test.true (sym c.in_err-follow_record.ensures.0)) ∙ c.loop-r.invariant.decides,
      λ e. absurd (true≢false e),
    )
