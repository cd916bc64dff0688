-- The least way over a row of words, one word after the other.
--
--   least_taken   an open word is looked at: the lesser of what was least and the way over it (min_either: one of the two)
--   least_passed  a word that is not open is passed over
--   least_end     where no word that is left is open, it is the least of the whole row. The loop is not past the row's end, or where the row has none,
--                 at its start
--
-- Assumes nothing.
use mathlib.Core.Path.{◌≡◌, sym, ◌∙◌, subst}
use mathlib.Core.Logic.{◌⊎◌, inl, inr}
use Prim.Native.Nat.{ℕ, ◌+◌, ◌≤◌, ◌<◌, min}
use mathlib.Core.List.{List}
use native.Mathlib.Omega.{arith}
use native.Mathlib.Nat.{eq-or-lt_of_le}
use lib.ListN.{get_or}
use Rattle.plan.proofs.Lists.{lt_or_le}
use Rattle.route.specs.declared.ways.Way.{Way}
use Rattle.route.specs.Ways.{over_word, Hit, Least}

min_either : (a b : ℕ) → (min a b ≡ a) ⊎ (min a b ≡ b)
min_either a b = go (lt_or_le a b)
  where
    go : (a < b) ⊎ (b ≤ a) → (min a b ≡ a) ⊎ (min a b ≡ b)
    go (inl l) = inl (omega arith)
    go (inr l) = inr (omega arith)

-- what holds from `first` on and below i, and at i, holds below i + 1
extended : (P : ℕ → Type 0) {first i : ℕ} → ((j : ℕ) → first ≤ j → j < i → P j) → P i → (j : ℕ) → first ≤ j → j < i + 1 → P j
extended P {first} {i} under at j h k = go (eq-or-lt_of_le (omega arith))
  where
    go : (j ≡ i) ⊎ (j < i) → P j
    go (inl q) = subst P (sym q) at
    go (inr l) = under j h l

module _ {words : List ℕ} {Open : ℕ → Type 0} {first : ℕ} {ways : List Way} where
  wider : {i n v j : ℕ} → (j < i → j < n) → Hit words Open first i ways v j → Hit words Open first n ways v j
  wider l h = record { from = h.from; before = l h.before; is_open = h.is_open; same = h.same }

  module _ {i from v : ℕ} (least : Least words Open first i ways from v) where
    pub least_taken : {w : ℕ} → first ≤ i → Open i → w ≡ min v (over_word ways (get_or words i 0)) → Least words Open first (i + 1) ways from w
    least_taken {w} h o e = record {
      start = omega (arith, least.start);
      below = extended (λ (j : ℕ). Open j → w ≤ over_word ways (get_or words j 0)) (λ j a c q. omega (arith, least.below j a c q)) (λ q. omega arith);
      one = go (subst (λ (n : ℕ). (n ≡ v) ⊎ (n ≡ over_word ways (get_or words i 0))) (sym e) (min_either v (over_word ways (get_or words i 0)))) least.one;
    }
      where
        go : (w ≡ v) ⊎ (w ≡ over_word ways (get_or words i 0)) → (v ≡ from) ⊎ ((j : ℕ) × Hit words Open first i ways v j)
            → (w ≡ from) ⊎ ((j : ℕ) × Hit words Open first (i + 1) ways w j)
        go (inl q) (inl s) = inl (q ∙ s)
        go (inl q) (inr (j, s)) = inr (j, subst (λ (n : ℕ). Hit words Open first (i + 1) ways n j) (sym q) (wider (λ k'. omega arith) s))
        go (inr q) s = inr (i, record { from = h; before = omega arith; is_open = o; same = q })

    pub least_passed : (Open i → ⊥) → Least words Open first (i + 1) ways from v
    least_passed shut = record {
      start = least.start;
      below = extended (λ (j : ℕ). Open j → v ≤ over_word ways (get_or words j 0)) least.below (λ o. absurd (shut o));
      one = go least.one;
    }
      where
        go : (v ≡ from) ⊎ ((j : ℕ) × Hit words Open first i ways v j) → (v ≡ from) ⊎ ((j : ℕ) × Hit words Open first (i + 1) ways v j)
        go (inl s) = inl s
        go (inr (j, s)) = inr (j, wider (λ k. omega arith) s)

    pub least_end : {last : ℕ} → (first ≤ last → i ≤ last) → (last < first → i ≡ first) → ((j : ℕ) → i ≤ j → j < last → Open j → ⊥) → Least words Open first last ways from v
    least_end {last} to none shut = record { start = least.start; below = λ j a c o. under j a c o (lt_or_le j i); one = go least.one }
      where
        -- a place that the loop has passed is a place of the row
        passed : (j : ℕ) → first ≤ j → j < i → (last < first) ⊎ (first ≤ last) → j < last
        passed j h l (inl k) = absurd (omega (arith, none k))
        passed j h l (inr k) = omega (arith, to k)

        under : (j : ℕ) → first ≤ j → j < last → Open j → (j < i) ⊎ (i ≤ j) → v ≤ over_word ways (get_or words j 0)
        under j a c o (inl k) = least.below j a k o
        under j a c o (inr k) = absurd (shut j k c o)

        go : (v ≡ from) ⊎ ((j : ℕ) × Hit words Open first i ways v j) → (v ≡ from) ⊎ ((j : ℕ) × Hit words Open first last ways v j)
        go (inl s) = inl s
        go (inr (j, s)) = inr (j, wider (λ l. passed j s.from l (lt_or_le last first)) s)
