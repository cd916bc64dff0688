-- The tests of each arm are those of its row.
use Rattle.std.proofs.Common.{eqb, sym, ◌∙◌, ap}
use mathlib.Core.Bool.{and-true, and_assoc, and_comm}
use Rattle.plan.specs.Lists.{within}
use Rattle.plan.specs.Records.{field, row_of}
use Rattle.plan.specs.Kinds.{kind_number}
use Rattle.plan.proofs.LineForms.{fits_as}
use Rattle.plan.proofs.table.fits.Goals as goal

pub returns-in-Header : goal.returns-in-Header
unfolding row_of
returns-in-Header c =
    let fit = fits_as c.args.plan.bytes.now c.args.r 7 (sym c.requires.kind ∙ ap kind_number c.in-Header.is) in
    simp (c.ranged.ensures, c.ranged-in-Header.ensures, c.field.ensures, fit, and_assoc, and-true)

pub returns-in-Junction : goal.returns-in-Junction
unfolding row_of
returns-in-Junction c =
    let fit = fits_as c.args.plan.bytes.now c.args.r 1 (sym c.requires.kind ∙ ap kind_number c.in-Junction.is) in
    simp (c.zeros.ensures, c.zeros-in-Junction.ensures, fit, and_assoc, and-true)

pub returns-in-Belt : goal.returns-in-Belt
unfolding row_of
returns-in-Belt c =
    let fit = fits_as c.args.plan.bytes.now c.args.r 2 (sym c.requires.kind ∙ ap kind_number c.in-Belt.is) in
    let b = c.args.plan.bytes.now in
    let r = c.args.r in
    let to = c.ranged-in-Belt.ensures ∙ ap (within 1 (field b r 2)) c.requires.junctions in
    simp (c.field-in-Belt.ensures, to, and_comm (eqb (field b r 5) 0) (within 1 (field b r 2) (field b 0 1)), fit, and-true)

pub returns-in-Rule : goal.returns-in-Rule
unfolding row_of
returns-in-Rule c =
    let fit = fits_as c.args.plan.bytes.now c.args.r 3 (sym c.requires.kind ∙ ap kind_number c.in-Rule.is) in
    simp (c.field-in-Rule.ensures, c.zeros-in-Rule.ensures, fit, and-true)

pub returns-in-Literal : goal.returns-in-Literal
unfolding row_of
returns-in-Literal c =
    let fit = fits_as c.args.plan.bytes.now c.args.r 4 (sym c.requires.kind ∙ ap kind_number c.in-Literal.is) in
    simp (c.ranged-in-Literal.ensures, c.ranged-in-Literal-2.ensures, c.field-in-Literal.ensures, fit, and_assoc, and-true)
