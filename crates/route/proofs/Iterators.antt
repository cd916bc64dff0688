-- What std says of iterators, in the words of plan/Lists.
--
--   all_list         `all` is std's
--   iota_range       so are the numbers from i on
--
-- Assumes nothing.
use mathlib.Core.Path.{◌≡◌, refl, ◌∙◌, ap}
use mathlib.Core.Bool.{Bool, ◌&&◌}
use Prim.Native.Nat.{ℕ, zero, suc}
use mathlib.Core.List.{List, [], ◌∷◌}
use native.Mathlib.Numerals.{add-one}
use Rattle.std.specs.List.{list_all, range_with_len}
use Rattle.plan.specs.Lists.{all, iota}

pub all_list : {A : Type 0} (f : A → Bool) (xs : List A) → list_all f xs ≡ all f xs
all_list f [] = refl
all_list f (x ∷ xs) = ap (λ (t : Bool). f x && t) (all_list f xs)

pub iota_range : (i n : ℕ) → range_with_len i n ≡ iota i n
iota_range i zero = refl
iota_range i (suc n) = ap (λ (k : ℕ). i ∷ range_with_len k n) (add-one i) ∙ ap (λ (r : List ℕ). i ∷ r) (iota_range (suc i) n)
