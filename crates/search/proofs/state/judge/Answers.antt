-- It goes by whether a setting works, and else by the belt picked.
use Rattle.std.proofs.Common.{◌≡◌, ℕ, List, Bool, Option, Some, None, true, false, MatchOption, refl, sym, ◌∙◌, ap}
use Rattle.std.specs.Option.{is_some}
use Rattle.plan.specs.Plan.{Place, plan_of, named}
use Rattle.route.specs.declared.relax.Fixings.{Fixings}
use Rattle.route.specs.Permission.{wrong_lock, terms_of, lowest}
use Rattle.route.specs.Values.{setting_in, subproblem_in, has_belt, Ruled}
use Rattle.search.specs.declared.query.Query.{Query}
use Rattle.search.specs.declared.state.Judged.{Judged}
use Rattle.search.specs.declared.state.Judged.TheVariants.{Drop, Best, Branch}
use Rattle.search.specs.Branching.{pick_of}
use Rattle.search.specs.Values.{numbers_of, modes_at, picked_place}
use Rattle.search.specs.Inner.{branch_at, tested_as}
use Rattle.search.proofs.PrepareNumbers.{numbers_modes}
use Rattle.search.proofs.state.judge.Goals as goal
use Rattle.search.proofs.state.judge.Goals.{After-lowest_setting-setting}

-- the place of the belt picked, where the test `on` says which belts are on the route
abbrev place : List ℕ → Query → Fixings → (ℕ → Bool) → Place
place b query fixings on = picked_place (named (plan_of b)) (pick_of query.pick (plan_of b) (subproblem_in b fixings) on)

tested_some : (q : Place) (o : Option ℕ) → is_some o ≡ true → Best ≡ tested_as q (setting_in o)
tested_some q (Some σ) e = refl
tested_some q None e = let z : false ≡ true = e in cc

tested_none : (q : Place) (o : Option ℕ) → is_some o ≡ false → branch_at q ≡ tested_as q (setting_in o)
tested_none q (Some σ) e = let z : true ≡ false = e in cc
tested_none q None e = refl

branched : (q : Place) (j : Judged) → MatchOption q (j ≡ Drop) (λ k. j ≡ Branch k) → j ≡ branch_at q
branched (Some k) j h = h
branched None j h = h

pub lowest_setting-setting-requires : goal.lowest_setting-setting-requires
lowest_setting-setting-requires c =
    let (b, ruled, numbers, lock) = c.requires in
    (b, ruled, c.modes.ensures ∙ ap modes_at numbers ∙ numbers_modes ruled.accepted, lock)

-- the setting that was looked for
told : (c : After-lowest_setting-setting) (b : List ℕ) → Ruled b c.args.prepared.clauses.now → c.args.prepared.numbers.now ≡ numbers_of (plan_of b)
    → wrong_lock (plan_of b) c.args.query.trip.lock ≡ false
    → setting_in c.lowest_setting-setting.result ≡ lowest (terms_of (plan_of b) c.args.query.trip) (has_belt b c.args.mask)
told c b ruled numbers lock =
    c.lowest_setting-setting.ensures b ruled (c.modes.ensures ∙ ap modes_at numbers ∙ numbers_modes ruled.accepted) lock

pub returns-then-is_some : goal.returns-then-is_some
returns-then-is_some c = λ b ruled numbers lock.
    let q = place b c.args.query c.args.fixings (has_belt b c.args.mask) in
    tested_some q c.lowest_setting-setting.result (sym c.if-is_some.ensures)
    ∙ ap (tested_as q) (told (goal.at.returns-then-is_some c).After-lowest_setting-setting b ruled numbers lock)

pub returns : goal.returns
returns c = λ b ruled numbers lock.
    let q = place b c.args.query c.args.fixings (has_belt b c.args.mask) in
    branched c.picked.result c.map_or.result c.map_or.ensures
    ∙ ap branch_at (c.picked.ensures b ruled.accepted numbers)
    ∙ tested_none q c.lowest_setting-setting.result (sym c.if-is_some.ensures)
    ∙ ap (tested_as q) (told (goal.at.returns c).After-lowest_setting-setting b ruled numbers lock)
