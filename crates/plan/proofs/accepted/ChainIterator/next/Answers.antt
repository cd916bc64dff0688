use Rattle.std.proofs.Common.{◌≡◌, ℕ, ◌<◌, List, ◌∷◌, ◌∙◌, sym, ap, length, arith}
use Rattle.plan.specs.Records.{chain}
use Rattle.plan.specs.Reading.{chain_link}
use Rattle.plan.proofs.Reading.{chain_next}
use Rattle.plan.proofs.accepted.ChainIterator.next.Goals as goal

pub returns-clause-steps : goal.returns-clause-steps
returns-clause-steps g c =
    let p = c.self.inside.plan.bytes.now in
    let here = ap (λ o. chain p (chain_link g.T.Chained.number o)) c.in_ok-id.was in
    let step = chain_next c.self.inside.plan.accepted g.T.Chained.chained _ (c.self.invariant c.in_ok-id.id c.in_ok-id.was) in
    sym c.self.view_is ∙ here ∙ step ∙ ap (λ (n : ℕ). g.T.Chained.number c.in_ok-id.id ∷ chain p n) (sym c.after-self-inside.ensures.link)

shorter : (l : List ℕ) (n : ℕ) (rest : List ℕ) → l ≡ n ∷ rest → length rest < length l
shorter l n rest e = omega (arith, ap length e)

pub returns-clause-goes : goal.returns-clause-goes
returns-clause-goes g c = record { on = λ ends. (tt, tt, shorter _ _ _ (returns-clause-steps g c)); keeps = tt; rests = λ ends. tt }
