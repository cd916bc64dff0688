-- Each arm follows the chain fields of its row.
use Rattle.std.proofs.Common.{[], ◌∷◌, ◌++◌, refl, sym, ap}
use Rattle.plan.specs.Records.{junctions, row_of}
use Rattle.plan.specs.Inner.{links_by}
use Rattle.plan.proofs.ChainLinks.{no_targets, two_links}
use Rattle.plan.proofs.ChainMarks.{followed_as, followed_kind, followed_stop, followed_next}
use Rattle.plan.proofs.chain.follow_record.Goals as goal

pub returns-in-Ok-Header : goal.returns-in-Ok-Header
unfolding row_of
returns-in-Ok-Header c =
    followed_kind c.args.plan.bytes.now _ _ c.args.r 7 (sym (rw c.in-Ok-Header.field-0-is at c.in-Ok-Header.ensures)) c.follow.ensures

pub returns-in-Ok-Junction : goal.returns-in-Ok-Junction
unfolding row_of
returns-in-Ok-Junction c =
    followed_kind c.args.plan.bytes.now _ _ c.args.r 1 (sym (rw c.in-Ok-Junction.field-0-is at c.in-Ok-Junction.ensures)) c.follow-in-Ok-Junction.ensures

pub returns-in-Ok-Belt : goal.returns-in-Ok-Belt
unfolding row_of
returns-in-Ok-Belt c =
    followed_kind c.args.plan.bytes.now _ _ c.args.r 2 (sym (rw c.in-Ok-Belt.field-0-is at c.in-Ok-Belt.ensures)) c.follow-in-Ok-Belt.ensures

pub returns-in-Ok-Literal : goal.returns-in-Ok-Literal
unfolding row_of
returns-in-Ok-Literal c =
    followed_kind c.args.plan.bytes.now _ _ c.args.r 4 (sym (rw c.in-Ok-Literal.field-0-is at c.in-Ok-Literal.ensures)) c.follow-in-Ok-Literal.ensures

pub returns-in_err-follow-in-Ok-Rule : goal.returns-in_err-follow-in-Ok-Rule
unfolding row_of
returns-in_err-follow-in-Ok-Rule c =
    let b = c.args.plan.bytes.now in
    let r = c.args.r in
    let seen = c.args.seen.now in
    let later = c.follow-in-Ok-Rule.new.seen in
    let one = links_by b r ((1, 3) ∷ []) in
    let other = links_by b r ((2, 4) ∷ []) in
    rw c.from_residual.ensures.0
    (followed_kind b seen later r 3 (sym (rw c.in-Ok-Rule.field-0-is at c.in-Ok-Rule.ensures))
    (followed_as b seen later (one ++ other) _ (two_links b r (1, 3) (2, 4))
    (followed_stop b seen later one other later refl c.in_err-follow-in-Ok-Rule.ensures)))

pub returns-in_ok-follow-in-Ok-Rule : goal.returns-in_ok-follow-in-Ok-Rule
unfolding row_of
returns-in_ok-follow-in-Ok-Rule c =
    let b = c.args.plan.bytes.now in
    let r = c.args.r in
    let seen = c.args.seen.now in
    let later = c.follow-in-Ok-Rule-2.new.seen in
    let one = links_by b r ((1, 3) ∷ []) in
    let other = links_by b r ((2, 4) ∷ []) in
    followed_kind b seen later r 3 (sym (rw c.in-Ok-Rule.field-0-is at c.in-Ok-Rule.ensures))
    (followed_as b seen later (one ++ other) _ (two_links b r (1, 3) (2, 4))
    (followed_next b seen later one other c.follow-in-Ok-Rule.new.seen refl c.in_ok-follow-in-Ok-Rule.ensures c.follow-in-Ok-Rule-2.ensures))

pub returns-in-Err : goal.returns-in-Err
returns-in-Err c =
    let b = c.args.plan.bytes.now in
    let seen = c.args.seen.now in
    let none = ap (links_by b c.args.r) (sym (no_targets (junctions b) _ c.in-Err.ensures.1)) in
    followed_kind b seen seen c.args.r _ refl (followed_as b seen seen _ _ none (refl, λ t. refl))
