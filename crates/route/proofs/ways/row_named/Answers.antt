-- `ways::row_named` by the steps of WaysRows.antt.
use Rattle.std.proofs.Common.{◌+◌, subst, sym, arith, rules}
use Rattle.plan.specs.Words.{far}
use Rattle.route.specs.Ways.{OpenArc, Least}
use Rattle.route.proofs.WaysRows.{least_taken, least_passed, least_end}
use Rattle.route.proofs.ways.row_named.Goals as goal
use Rattle.route.proofs.ways.row_named.Goals.{then-head-nearest+then-is_allowed, else-head-nearest, else-head-nearest-via-then-head-nearest+else-is_allowed, else-head-nearest-via-else-head-nearest}

pub loop-i-preserved : goal.loop-i-preserved
loop-i-preserved c =
    let a = c.args in
    let i = c.loop-i in
    let Open = OpenArc a.words.now a.numbers.now a.nearest a.forbidden in
    elim c.if-head-nearest.branch [
      | then-head-nearest+then-is_allowed w ↦ record {
        at = λ l. omega (arith, i.invariant.at l);
        least = least_taken i.invariant.least i.auto.i (omega arith, w.is_allowed.ensures.0 w.if-is_allowed.true) (search rules);
      }
      | else-head-nearest w ↦
          let shut : Open i.i → ⊥ = elim w.else-head-nearest.branch [
            | else-head-nearest-via-then-head-nearest+else-is_allowed w' ↦ λ o. let t = w'.is_allowed.ensures.1 o.1 in let f = w'.if-is_allowed.false in cc
            | else-head-nearest-via-else-head-nearest w' ↦ λ o. omega (arith, o.0)
          ] in record {
            at = λ l. omega (arith, i.invariant.at l);
            least = subst (Least a.words.now Open a.first (i.i + 1) a.ways.now far) (sym w.least-is) (least_passed i.invariant.least shut);
          }
    ]

pub returns : goal.returns
returns c = least_end c.loop-i.invariant.least c.loop-i.auto.i-end c.loop-i.invariant.at (λ j l h o. omega arith)
