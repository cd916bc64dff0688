-- The indices of a list of belts, one after the other.
--
--   next_id    those from place k on are that of the belt at place k and those behind it
--   id_in      that of the belt at place k is one of them
--
-- Assumes nothing.
use mathlib.Core.Path.{◌≡◌, refl, sym, ◌∙◌}
use Prim.Native.Nat.{ℕ, zero, suc, ◌+◌, ◌<◌}
use mathlib.Core.List.{List, [], ◌∷◌, map, Memᴰ}
use native.Mathlib.Omega.{arith}
use native.Mathlib.Numerals.{add-one}
use lib.ListN.{length, get_or, drop, length-map, get_or-map}
use lib.Seq.{drop-cons}
use Rattle.plan.specs.declared.read.BeltId.{BeltId}

abbrev ids : List BeltId → List ℕ
ids xs = map (λ (e : BeltId). e.0) xs

pub next_id : (xs : List BeltId) (k : ℕ) (d : BeltId) → k < length xs → drop k (ids xs) ≡ (get_or xs k d).0 ∷ drop (k + 1) (ids xs)
next_id xs k d l =
    drop-cons (ids xs) k d.0 (omega (arith, length-map xs (λ (e : BeltId). e.0)))
    ∙ (λ i. get_or-map (λ (e : BeltId). e.0) xs k d i ∷ drop (sym (add-one k) i) (ids xs))

pub id_in : (xs : List BeltId) (k : ℕ) (d : BeltId) → k < length xs → Memᴰ (get_or xs k d).0 (ids xs)
id_in [] k d l = absurd (omega arith)
id_in (x ∷ xs) zero d l = Memᴰ.head refl
id_in (x ∷ xs) (suc k) d l = Memᴰ.tail (id_in xs k d (omega arith))
