-- What the numbers of a line come to, by what the next one is for.
--
--   for_field      `changed_by` of numbers of which the next is for a field
--   for_index      `changed_by` of numbers of which the next is an index
--
-- Assumes nothing.
use mathlib.Core.Path.{◌≡◌, refl, ◌∙◌, ap, sym}
use mathlib.Core.Bool.{true, false}
use mathlib.Core.List.{List, [], ◌∷◌}
use Prim.Native.Nat.{ℕ, suc, ◌+◌, ◌<◌}
use native.Mathlib.Numerals.{add-one}
use borrow.Author.Tests.{lt-ltb}
use Rattle.test_cases.specs.Lines.{put_number, changed, changed_by}

-- a number for a field
pub for_field : (b c : List ℕ) (i f n : ℕ) (ns : List ℕ) → f < 6 → c ≡ put_number b i f n → changed_by c i (f + 1) ns ≡ changed_by b i f (n ∷ ns)
for_field b c i f n ns h e =
    ap (λ (x : List ℕ). changed_by x i (f + 1) ns) e
    ∙ ap (λ (g : ℕ). changed_by (put_number b i f n) i g ns) (add-one f)
    ∙ sym (ap (λ t. elim t [ true ↦ changed_by (put_number b i f n) i (suc f) ns | false ↦ changed_by b n 0 ns ]) (lt-ltb f 6 h))

-- behind the fields of a record the next number is an index, whatever the last one was
pub for_index : (b : List ℕ) (i : ℕ) (ns : List ℕ) → changed b ns ≡ changed_by b i 6 ns
for_index b i [] = refl
for_index b i (n ∷ ns) = refl
