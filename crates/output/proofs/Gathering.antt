-- How text is gathered byte by byte.
--
--   place_in_lem, place_full   where the next byte goes, with room left and without
--   room_next, filled_next
--                          after one byte of a text, what is left of it gathers what was left before
--   gathers_both           one text and then another gather what both in a row do
--   filled_fits            how much is filled by what fits into the room
--   failed_both            what is known of failures after one text and then another
--
-- Assumes nothing.
use mathlib.Core.Path.{◌≡◌, refl, sym, ◌∙◌, ap}
use mathlib.Core.Bool.{Bool, cond}
use mathlib.Core.List.{List, [], ◌∷◌, ◌++◌}
use Prim.Native.Nat.{ℕ, suc, ◌+◌, ◌≤◌, ◌<◌}
use native.Mathlib.Omega.{arith}
use native.Mathlib.Nat.{add-zero}
use native.Mathlib.Numerals.{add-one}
use lib.ListN.{length, get_or, drop, set, length-append}
use lib.Seq.{drop-cons}
use borrow.Author.Tests.{lt-ltb, le-ltb}
use Rattle.output.specs.Gathering.{place_of, filled_after, room_after, Gathers, Failed}

pub place_in_lem : (n : ℕ) → n < 65536 → n ≡ place_of n
place_in_lem n h = sym (ap (λ (t : Bool). cond t n 0) (lt-ltb n 65536 h))

pub place_full : (n : ℕ) → 65536 ≤ n → 0 ≡ place_of n
place_full n h = sym (ap (λ (t : Bool). cond t n 0) (le-ltb n 65536 h))

-- what is left of the text at a place within it
left_at : (text : List ℕ) (i : ℕ) → i < length text → drop i text ≡ get_or text i 0 ∷ drop (i + 1) text
left_at text i h = drop-cons text i 0 h ∙ ap (λ (k : ℕ). get_or text i 0 ∷ drop k text) (sym (add-one i))

pub room_next : (text : List ℕ) (i : ℕ) → i < length text → (room room' : List ℕ) (n n' : ℕ) → Gathers room n (get_or text i 0 ∷ []) room' n'
    → room_after room' n' (drop (i + 1) text) ≡ room_after room n (drop i text)
room_next text i h room room' n n' one =
    (λ k. room_after (one.0 k) (one.1 k) (drop (i + 1) text)) ∙ sym (ap (room_after room n) (left_at text i h))

pub filled_next : (text : List ℕ) (i : ℕ) → i < length text → (n n' : ℕ) → n' ≡ place_of n + 1 → filled_after n' (drop (i + 1) text) ≡ filled_after n (drop i text)
filled_next text i h n n' one = ap (λ (m : ℕ). filled_after m (drop (i + 1) text)) one ∙ sym (ap (filled_after n) (left_at text i h))

room_append : (room : List ℕ) (n : ℕ) (cs ds : List ℕ) → room_after (room_after room n cs) (filled_after n cs) ds ≡ room_after room n (cs ++ ds)
room_append room n [] ds = refl
room_append room n (c ∷ cs) ds = room_append (set room (place_of n) c) (place_of n + 1) cs ds

filled_append : (n : ℕ) (cs ds : List ℕ) → filled_after (filled_after n cs) ds ≡ filled_after n (cs ++ ds)
filled_append n [] ds = refl
filled_append n (c ∷ cs) ds = filled_append (place_of n + 1) cs ds

pub gathers_both : (room room' room'' : List ℕ) (n n' n'' : ℕ) (cs ds : List ℕ) → Gathers room n cs room' n' → Gathers room' n' ds room'' n''
    → Gathers room n (cs ++ ds) room'' n''
gathers_both room room' room'' n n' n'' cs ds first second = (
  second.0 ∙ (λ k. room_after (first.0 k) (first.1 k) ds) ∙ room_append room n cs ds,
  second.1 ∙ ap (λ (m : ℕ). filled_after m ds) first.1 ∙ filled_append n cs ds,
)

-- what fits into the room is filled behind what was
pub filled_fits : (n : ℕ) (cs : List ℕ) → n + length cs ≤ 65536 → filled_after n cs ≡ n + length cs
filled_fits n [] h = sym (add-zero n)
filled_fits n (c ∷ cs) h =
    let at : n ≡ place_of n = place_in_lem n (omega (arith, h)) in
    ap (λ (m : ℕ). filled_after (m + 1) cs) (sym at) ∙ filled_fits (n + 1) cs (omega (arith, h)) ∙ one_more n (length cs)
  where
    one_more : (n m : ℕ) → n + 1 + m ≡ n + suc m
    one_more n m = omega arith

-- nothing fails where two texts in a row fit into the room, and a failure stays one
pub failed_both : (n n' : ℕ) (cs ds : List ℕ) (t t' t'' : Bool) → n' ≡ filled_after n cs → Failed (n + length cs) t t' → Failed (n' + length ds) t' t''
    → Failed (n + length (cs ++ ds)) t t''
failed_both n n' cs ds t t' t'' e first second = (
  λ h.
      let l = length-append cs ds in
      let f : n' ≡ n + length cs = e ∙ filled_fits n cs (omega (arith, h, l)) in
      second.0 (omega (arith, h, l, f)) ∙ first.0 (omega (arith, h, l)),
  λ h. second.1 (first.1 h),
)
