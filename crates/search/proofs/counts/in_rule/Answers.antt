use Rattle.std.proofs.Common.{◌≡◌, ℕ, ◌<◌, Bool, Option, Some, length, sym, ap, ◌∙◌, subst, arith}
use Rattle.plan.specs.declared.read.BeltId.{BeltId}
use Rattle.plan.specs.declared.read.LiteralId.{LiteralId}
use Rattle.plan.specs.declared.read.Literal.TheVariants.{OfBelt}
use Rattle.plan.specs.Plan.{literal_at}
use Rattle.plan.specs.Bounds.{max_records}
use Rattle.plan.specs.Reading.{first_literal, literals_from, literal_link}
use Rattle.route.specs.Values.{LowPlace, with_place}
use Rattle.route.proofs.MaskFixings.{place_low, looked_up}
use Rattle.search.proofs.BranchCounts.{Gathering, gathering_start, gathering_low, gathering_belt, gathering_other, gathering_end, gathering_shorter}
use Rattle.search.proofs.counts.in_rule.Goals as goal
use Rattle.search.proofs.counts.in_rule.Goals.{In-Some, in-OfBelt, in_default-literal}

pub loop-next-init : goal.loop-next-init
loop-next-init c = gathering_start c.args.plan.accepted c.args.rule.0 c.requires.rule _ c.first_literal-next.ensures.link c.first_literal-next.ensures.literal

-- what is known of the literal that is read
unread : (c : In-Some) → Gathering c.args.plan.bytes.now c.args.places.now (first_literal c.args.plan.bytes.now c.args.rule.0) (Some c.in-Some.literal) c.loop-next.mask
unread c = rw c.in-Some.is at c.loop-next.invariant

pub literal-requires : goal.literal-requires
literal-requires c = (unread (goal.at.literal-requires c).In-Some).is_literal

-- the belt of a literal can be looked up
low : (c : In-Some) (x : BeltId) (w : Bool) → OfBelt x w ≡ literal_at c.args.plan.bytes.now c.in-Some.literal.0 → x.0 < max_records
low c x w e = gathering_low c.args.plan.accepted (unread c) x w e

pub place_of-requires : goal.place_of-requires
place_of-requires c = omega (arith, low (goal.at.place_of-requires c).In-Some _ _ c.in-OfBelt.ensures)

pub with-mask-requires : goal.with-mask-requires
with-mask-requires c =
    let e = c.in-OfBelt.belt.0 in
    let few = low (goal.at.with-mask-requires c).In-Some _ _ c.in-OfBelt.ensures in
    subst LowPlace (sym (looked_up c.args.plan.bytes.now e c.requires.places c.place_of.ensures few)) (place_low c.args.plan.accepted e)

pub next_literal-next-requires : goal.next_literal-next-requires
next_literal-next-requires c = (unread (goal.at.next_literal-next-requires c).In-Some).is_literal

pub loop-next-smaller : goal.loop-next-smaller
loop-next-smaller c =
    let left : ℕ → ℕ = λ n. length (literals_from c.args.plan.bytes.now n) in
    let less = gathering_shorter c.args.plan.accepted (unread (goal.at.loop-next-smaller c).In-Some) c.next_literal-next.result c.next_literal-next.ensures.link in
    subst (λ (o : Option LiteralId). left (literal_link c.next_literal-next.result) < left (literal_link o)) (sym c.in-Some.is) less

pub loop-next-preserved : goal.loop-next-preserved
loop-next-preserved c =
    let h = unread (goal.at.loop-next-preserved c).In-Some in
    let ok = c.args.plan.accepted in
    let link = c.next_literal-next.ensures.link in
    let is = c.next_literal-next.ensures.literal in
    let Next : ℕ → Type 0 = λ m. Gathering c.args.plan.bytes.now c.args.places.now (first_literal c.args.plan.bytes.now c.args.rule.0) c.next_literal-next.result m in
    elim c.match-literal.branch [
      | in-OfBelt w ↦
          let mask = w.mask-is ∙ w.with-mask.ensures ∙ ap (with_place c.loop-next.mask) w.place_of.ensures in
          subst Next (sym mask) (gathering_belt ok h _ link is _ _ w.in-OfBelt.ensures)
      | in_default-literal w ↦
          subst Next (sym w.mask-is) (gathering_other ok h _ link is (λ x t e. w.in_default-literal.not-OfBelt x t (c.literal.ensures ∙ e)))
    ]

pub returns : goal.returns
returns c = let h = rw c.in_default.is at c.loop-next.invariant in gathering_end c.args.plan.accepted h
