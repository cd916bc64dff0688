-- Following links, and the marks that it leaves (specs/Inner.antt).
--
--   followed_as, -stop, -next                following the same links; two lists of links, one after the other
--   followed_kind                            following the chain fields of a record's kind is following its links
--   pass_stop, -next, marks_next             a loop that follows lists of links, one after the other
--   once_marked                              a record is marked as met once exactly where one link leads to it
--
-- Assumes nothing.
use mathlib.Core.Path.{◌≡◌, refl, sym, ◌∙◌, ap}
use mathlib.Core.Bool.{Bool, true, false, not, ◌||◌, true≢false}
use Prim.Native.Nat.{ℕ, zero, suc, ◌+◌, ◌≤◌, ◌<◌}
use mathlib.Core.List.{List, [], ◌∷◌, ◌++◌}
use native.Mathlib.Omega.{arith}
use lib.ListN.{length, get_or, set, replicate, length-set, length-replicate, get_or-replicate}
use lib.Seq.{get_or-set_same, get_or-set_other}
use lib.Dec.{eqb}
use borrow.Author.Tests.{eqb-true, eqb-false, ne_eqb}
use Rattle.plan.specs.Lists.{any, count_by, joined, upto}
use Rattle.plan.specs.Records.{kind, Link, links_at}
use Rattle.plan.specs.Refusals.{bad_link, pointers}
use Rattle.plan.specs.Inner.{links_by, bump, mark, marked, marked_once, Followed}
use Rattle.plan.proofs.Lists.{any_append, any_cong, upto_step, upto_end, upto_in}
use Rattle.plan.proofs.ChainLinks.{targets, links_at_by}

-- ---- a loop over lists of links

joined_step : (g : ℕ → List Link) (r hi : ℕ) → r < hi → joined g (upto r hi) ≡ g r ++ joined g (upto (r + 1) hi)
joined_step g r hi h = ap (joined g) (upto_step r hi h)

marked_append : (seen : List ℕ) (xs ys : List Link) → marked seen (xs ++ ys) ≡ marked (marked seen xs) ys
marked_append seen [] ys = refl
marked_append seen (x ∷ xs) ys = marked_append (mark seen x.index) xs ys

module _ (b seen later : List ℕ) (xs ys : List Link) where
  pub followed_as : {t : Bool} → xs ≡ ys → Followed b xs seen later t → Followed b ys seen later t
  followed_as e h = (h.0 ∙ ap (any (bad_link b)) e, λ k. h.1 k ∙ ap (marked seen) e)

  pub followed_stop : (mid : List ℕ) {s : Bool} → s ≡ true → Followed b xs seen mid s → Followed b (xs ++ ys) seen later true
  followed_stop mid e h = (
    sym (any_append (bad_link b) xs ys ∙ ap (λ (x : Bool). x || any (bad_link b) ys) (sym h.0 ∙ e)),
    λ k. absurd (true≢false k),
  )

  pub followed_next : (mid : List ℕ) {s t : Bool} → s ≡ false → Followed b xs seen mid s → Followed b ys mid later t → Followed b (xs ++ ys) seen later t
  followed_next mid e h k = (
    k.0 ∙ sym (any_append (bad_link b) xs ys ∙ ap (λ (x : Bool). x || any (bad_link b) ys) (sym h.0 ∙ e)),
    λ u. k.1 u ∙ ap (λ (m : List ℕ). marked m ys) (h.1 e) ∙ sym (marked_append seen xs ys),
  )

-- a record of kind k, whose chain fields have been followed
pub followed_kind : (b seen later : List ℕ) (r k : ℕ) {t : Bool} → kind b r ≡ k → Followed b (links_by b r (targets b k)) seen later t → Followed b (links_at b r) seen later t
followed_kind b seen later r k e = followed_as b seen later (links_by b r (targets b k)) (links_at b r) (sym (links_at_by b r k e))

module _ (f : Link → Bool) (g : ℕ → List Link) (r hi : ℕ) where
  pub pass_stop : r < hi → any f (g r) ≡ true → any f (joined g (upto r hi)) ≡ true
  pass_stop h t = ap (any f) (joined_step g r hi h) ∙ any_append f (g r) (joined g (upto (r + 1) hi)) ∙ ap (λ (x : Bool). x || any f (joined g (upto (r + 1) hi))) t

  pub pass_next : r < hi → any f (g r) ≡ false → any f (joined g (upto (r + 1) hi)) ≡ any f (joined g (upto r hi))
  pass_next h t = sym (ap (any f) (joined_step g r hi h) ∙ any_append f (g r) (joined g (upto (r + 1) hi)) ∙ ap (λ (x : Bool). x || any f (joined g (upto (r + 1) hi))) t)

  pub pass_done : hi ≤ r → any f (joined g (upto r hi)) ≡ false
  pass_done h = ap (λ (l : List ℕ). any f (joined g l)) (upto_end r hi h)

module _ (seen : List ℕ) (g : ℕ → List Link) (r hi : ℕ) where
  pub marks_next : r < hi → marked (marked seen (g r)) (joined g (upto (r + 1) hi)) ≡ marked seen (joined g (upto r hi))
  marks_next h = sym (ap (marked seen) (joined_step g r hi h) ∙ marked_append seen (g r) (joined g (upto (r + 1) hi)))

  pub marks_done : hi ≤ r → marked seen (joined g (upto r hi)) ≡ seen
  marks_done h = ap (λ (l : List ℕ). marked seen (joined g l)) (upto_end r hi h)

-- ---- what the marks say

-- a mark after n more meetings
bumps : ℕ → ℕ → ℕ
bumps zero m = m
bumps (suc n) m = bumps n (bump m)

bumps_two : (n : ℕ) → bumps n 2 ≡ 2
unfolding bumps
bumps_two zero = refl
bumps_two (suc n) = bumps_two n

once_bumped : (n : ℕ) → eqb (bumps n 0) 1 ≡ eqb n 1
unfolding bumps
once_bumped zero = refl
once_bumped (suc zero) = refl
once_bumped (suc (suc n)) = ap (λ (m : ℕ). eqb m 1) (bumps_two n) ∙ sym (ne_eqb (suc (suc n)) 1 (λ e. omega arith))

mark_at_lem : (seen : List ℕ) (i r : ℕ) → r < length seen → (t : Bool) → eqb i r ≡ t → get_or (mark seen i) r 0 ≡ bumps (count_by t 0) (get_or seen r 0)
unfolding bumps
mark_at_lem seen i r h true e =
    let q = eqb-true i r e in
    ap (λ (n : ℕ). get_or (set seen n (bump (get_or seen n 0))) r 0) q ∙ get_or-set_same seen r (bump (get_or seen r 0)) 0 h
mark_at_lem seen i r h false e = get_or-set_other seen i r (bump (get_or seen i 0)) 0 (λ q. eqb-false i r e (sym q))

marks_count : (ls : List Link) (seen : List ℕ) (r : ℕ) → r < length seen → get_or (marked seen ls) r 0 ≡ bumps (pointers ls r) (get_or seen r 0)
unfolding bumps
marks_count [] seen r h = refl
marks_count (l ∷ ls) seen r h =
    marks_count ls (mark seen l.index) r (rw length-set h)
    ∙ ap (bumps (pointers ls r)) (mark_at_lem seen l.index r h (eqb l.index r) refl)
    ∙ later (eqb l.index r) (pointers ls r) (get_or seen r 0)
  where
    later : (t : Bool) (n m : ℕ) → bumps n (bumps (count_by t 0) m) ≡ bumps (count_by t n) m
    later true n m = refl
    later false n m = refl

once_marked : (ls : List Link) (n r : ℕ) → r < n → marked_once (marked (replicate n 0) ls) r ≡ eqb (pointers ls r) 1
once_marked ls n r h =
    ap (λ (m : ℕ). eqb m 1)
    (marks_count ls (replicate n 0) r (rw length-replicate h) ∙ ap (bumps (pointers ls r)) (get_or-replicate n r 0 0 h))
    ∙ once_bumped (pointers ls r)

-- the records that are not marked as met once are those that not just one link leads to
pub unmet_same : (ls : List Link) (n lo hi : ℕ) → hi ≤ n
    → any (λ (r : ℕ). not (marked_once (marked (replicate n 0) ls) r)) (upto lo hi) ≡ any (λ (r : ℕ). not (eqb (pointers ls r) 1)) (upto lo hi)
unmet_same ls n lo hi h =
    any_cong _ _ (upto lo hi) (λ r m. let i = upto_in lo hi r m in ap not (once_marked ls n r (omega (arith, i.1))))
