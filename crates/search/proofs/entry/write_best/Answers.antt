-- The sheet is that of the best route, its cost and its lowest setting.
use Rattle.std.proofs.Common.{◌≡◌, ℕ, Bool, List, false, ◌∙◌, ap, arith}
use Rattle.plan.specs.Plan.{plan_of}
use Rattle.route.specs.Routes.{cost}
use Rattle.route.specs.Permission.{wrong_lock, terms_of, lowest}
use Rattle.route.specs.Values.{ids_of, route_in, gathered_in, has_belt}
use Rattle.route.proofs.RouteIndices.{known_cheap}
use Rattle.route.proofs.RulesNamed.{route_placeable, lowest_mask}
use Rattle.search.specs.Answers.{or_zero}
use Rattle.search.specs.Values.{best_in, bound_of, Valid}
use Rattle.search.specs.Inner.{IsListed}
use Rattle.search.proofs.AnswerReply.{written_best, or_none}
use Rattle.search.proofs.entry.write_best.Goals as goal
use Rattle.search.proofs.entry.write_best.Goals.{Start}

-- the plan b is what the arrays are of, the search is one of it, and the lock is one of its modes
abbrev Given : Start → List ℕ → Type 0
Given c b =
    IsListed b c.args.prepared
    × Valid b c.args.search
    × (wrong_lock (plan_of b) c.args.trip.lock ≡ false)

-- the bound is what the best route costs
price : (c : Start) {b : List ℕ} → Given c b → c.args.search.bound ≡ cost (route_in b c.args.search.best)
price c {b} h = let v = c.args.search in h.1.bound_is ∙ ap (λ (t : Bool). bound_of (best_in b t v.best)) c.requires.held

pub on_route-mask-requires : goal.on_route-mask-requires
on_route-mask-requires c =
    let (b, listed, valid, lock) = c.requires.listed in
    route_placeable listed.ruled.accepted c.args.search.best valid.known listed.placed

pub write-requires : goal.write-requires
write-requires c =
    let start = (goal.at.write-requires c).Start in
    let (b, listed, valid, lock) = c.requires.listed in
    let low = known_cheap listed.ruled.accepted listed.bytes c.args.search.best valid.known in
    let same = price start (listed, valid, lock) in
    let room = c.requires.room in
    let few = c.args.search.best.few in
    (omega arith, omega arith)

pub returns : goal.returns
returns c =
    let start = (goal.at.returns c).Start in
    let search = c.args.search in
    λ b listed valid lock.
    let h : Given start b = (listed, valid, lock) in
    let modes = c.modes.ensures ∙ listed.modes in
    let mask = c.on_route-mask.ensures ∙ ap (λ (ps : List ℕ). gathered_in ps 0 (ids_of search.best)) listed.placed in
    let setting = c.lowest_setting-setting.ensures b listed.ruled modes lock
    ∙ ap (λ (m : ℕ). lowest (terms_of (plan_of b) c.args.trip) (has_belt b m)) mask
    ∙ lowest_mask listed.ruled.accepted c.args.trip search.best valid.known in
    written_best listed.ruled.accepted c.args.trip search valid.known _ _ c.write.result c.args.out.now _
    (price start h)
    (c.unwrap_or.ensures ∙ or_none c.lowest_setting-setting.result ∙ ap or_zero setting)
    c.write.ensures.0
    c.write.ensures.1
