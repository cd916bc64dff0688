-- The kinds of records as the code has them (src/record.rt), and their numbers, which stand in field 0.
--
--   kind_number k   the number of kind k
--   kinds           the numbers of all kinds
--   Decodes n r     r is the kind that has the number n, or an error where no kind has it
--   kind_of r       the kind that was decoded, if any
--
-- Assumes nothing.
use Rattle.std.specs.Prelude.{◌≡◌, ℕ, false, List, [], ◌∷◌, Result, MatchResult}
use Rattle.plan.specs.declared.record.Kind.{Kind}
use Rattle.plan.specs.declared.record.Kind.TheVariants.{Junction, Belt, Rule, Literal, Header}
use Rattle.plan.specs.declared.record.UnknownKind.{UnknownKind}
use Rattle.plan.specs.Lists.{mem}

abbrev pub kind_number : Kind → ℕ
kind_number Junction = 1
kind_number Belt = 2
kind_number Rule = 3
kind_number Literal = 4
kind_number Header = 7

abbrev pub kinds : List ℕ
kinds = 7 ∷ 1 ∷ 2 ∷ 3 ∷ 4 ∷ []

abbrev pub Decodes : ℕ → Result Kind UnknownKind → Type 0
Decodes n r = MatchResult r (λ kind. kind_number kind ≡ n) (λ e. (e.0 ≡ n) × (mem n kinds ≡ false))
