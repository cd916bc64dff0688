-- The chain from the next belt on decides as the whole chain does: its first belt, or those behind it.
use Rattle.std.proofs.Common.{◌≡◌, ◌∙◌, ◌<◌, ◌||◌, ◌∷◌, ℕ, Bool, List, Option, Some, None, IfSome, MatchOption, length, sym, ap, subst, arith}
use Rattle.std.specs.Option.{unwrap_or}
use borrow.Author.Tests.{le-leb, lt-leb}
use Rattle.plan.specs.Lists.{any}
use Rattle.plan.specs.Records.{field, IsKind, chain}
use Rattle.plan.proofs.LineForms.{header}
use Rattle.plan.proofs.LinePassed.{linked, not_above}
use Rattle.plan.proofs.ChainLinks.{Linked}
use Rattle.plan.proofs.ChainLaws.{belt_step, first_belt_lem, next_belt_lem}
use Rattle.plan.proofs.belts.backward.Goals as goal

-- o is the link that a field of the value v holds
abbrev Link : ℕ → Option ℕ → Type 0
Link v o = MatchOption o (v ≡ 0) (λ i. (i ≡ v) × (0 < i))

index_of : (v : ℕ) (o : Option ℕ) → Link v o → unwrap_or o 0 ≡ v
index_of v None h = sym h
index_of v (Some i) h = h.0

leads_to : (b : List ℕ) (v : ℕ) (o : Option ℕ) → Link v o → ((v ≡ 0 → ⊥) → IsKind b 2 v) → IfSome o (IsKind b 2)
leads_to b v None h k = tt
leads_to b v (Some i) h k = subst (IsKind b 2) (sym h.0) (k (λ e. omega (arith, h)))

belt_of : (b : List ℕ) (o : Option ℕ) (e : ℕ) → o ≡ Some e → IfSome o (IsKind b 2) → IsKind b 2 e
belt_of b o e is h = rw is at h

-- the chain from the next belt on, by its first belt
step : (b : List ℕ) → Linked b → (o : Option ℕ) (e : ℕ) → o ≡ Some e → IfSome o (IsKind b 2) → chain b (unwrap_or o 0) ≡ e ∷ chain b (field b e 1)
step b w o e is h = ap (λ (o : Option ℕ). chain b (unwrap_or o 0)) is ∙ belt_step w e (belt_of b o e is h)

pub link-next-requires-clause-record : goal.link-next-requires-clause-record
link-next-requires-clause-record c = let h = header _ c.requires.passed.0.1 in omega arith

pub loop-next-init : goal.loop-next-init
loop-next-init c =
    let b = c.args.plan.bytes.now in
    let j = c.args.j in
    record {
      belt = leads_to b (field b j 1) c.link-next.result c.link-next.ensures (first_belt_lem (linked b c.requires.passed) j c.requires.first c.requires.last);
      decides = ap (λ (i : ℕ). any (not_above b j) (chain b i)) (index_of (field b j 1) c.link-next.result c.link-next.ensures);
    }

pub returns-then-index-j : goal.returns-then-index-j
returns-then-index-j c =
    let b = c.args.plan.bytes.now in
    let j = c.args.j in
    let e = c.in-Some.belt in
    let on = step b (linked b c.requires.passed) c.loop-next.next e c.in-Some.is c.loop-next.invariant.belt in
    let found = c.index.ensures.value in
    sym (ap (any (not_above b j)) on ∙ ap (λ (t : Bool). t || any (not_above b j) (chain b (field b e 1))) (le-leb (field b e 2) j (omega arith)))
    ∙ c.loop-next.invariant.decides

pub loop-next-smaller : goal.loop-next-smaller
loop-next-smaller c =
    let b = c.args.plan.bytes.now in
    let e = c.in-Some.belt in
    let on = ap length (step b (linked b c.requires.passed) c.loop-next.next e c.in-Some.is c.loop-next.invariant.belt) in
    let next = ap (λ (i : ℕ). length (chain b i)) (index_of (field b e 1) c.link-next-in-Some.result c.link-next-in-Some.ensures) in
    let less : length (chain b (unwrap_or c.link-next-in-Some.result 0)) < length (chain b (unwrap_or c.loop-next.next 0)) = omega arith in
    less

pub loop-next-preserved : goal.loop-next-preserved
loop-next-preserved c =
    let b = c.args.plan.bytes.now in
    let j = c.args.j in
    let e = c.in-Some.belt in
    let w = linked b c.requires.passed in
    let held = c.loop-next.invariant.belt in
    let on = step b w c.loop-next.next e c.in-Some.is held in
    let found = c.index.ensures.value in
    record {
      belt = leads_to b (field b e 1) c.link-next-in-Some.result c.link-next-in-Some.ensures (λ d. (next_belt_lem w e (belt_of b c.loop-next.next e c.in-Some.is held) d).1);
      decides = ap (λ (i : ℕ). any (not_above b j) (chain b i)) (index_of (field b e 1) c.link-next-in-Some.result c.link-next-in-Some.ensures)
          ∙ sym (ap (any (not_above b j)) on ∙ ap (λ (t : Bool). t || any (not_above b j) (chain b (field b e 1))) (lt-leb (field b e 2) j (omega arith)))
          ∙ c.loop-next.invariant.decides;
    }
