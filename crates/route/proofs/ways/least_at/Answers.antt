-- `ways::least_at`: both rows are where the array of numbers says.
use Rattle.std.proofs.Common.{◌+◌, arith, sym, subst₂}
use Rattle.plan.specs.Tables.{Rising}
use Rattle.route.proofs.ways.least_at.Goals as goal

pub row_named-least-requires : goal.row_named-least-requires
row_named-least-requires c =
    let (sound, low, u) = c.requires in
    (sound, omega (arith, sound.named_row (c.args.u + 1) (omega arith)), low)

pub row-requires : goal.row-requires
row-requires c =
    let (sound, low, u) = c.requires in (
      omega (arith, sound.row (c.args.u + 1) (omega arith)),
      sound.low,
      low,
      subst₂ (Rising c.args.words.now) (sym c.from-3.ensures) (sym c.from-4.ensures) (sound.rises c.args.u u),
    )
