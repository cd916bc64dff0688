-- Both are zero where their bits, taken together, are.
use Rattle.std.proofs.Common.{◌≡◌, ℕ, zero, suc, ◌&&◌, eqb, bit_or, Bool, refl, sym, ap, ◌∙◌, arith}
use borrow.Author.Tests.{ne_eqb}
use Rattle.std.proofs.lemmas.Nat.{le_or_l}
use Rattle.plan.proofs.table.zeros.Goals as goal

together : (a b : ℕ) → eqb (bit_or a b) 0 ≡ (eqb a 0 && eqb b 0)
together zero b = refl
together (suc a) b =
    ne_eqb (bit_or (suc a) b) 0 (λ e. omega (arith, le_or_l (suc a) b)) ∙ sym (ap (λ (t : Bool). t && eqb b 0) (ne_eqb (suc a) 0 (λ e. omega arith)))

pub returns : goal.returns
returns c = together c.field.result c.field-2.result ∙ (λ i. eqb (c.field.ensures i) 0 && eqb (c.field-2.ensures i) 0)
