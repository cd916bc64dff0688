-- Masks over the named belts: which belts they fix.
--
--   fixes ns m e        of the belts ns the mask m fixes belt e
--   has_named           a belt whose place a mask has is a named belt
--   fixed_mem           a belt is fixed exactly when the mask has its place
--   nothing_has         the mask 0 fixes no belt
--   fixed_belt          a fixed belt is a belt of the plan
--   place_low           the place of a belt has a bit in a mask
--   looked_up           what the array of places has for a belt is its place
--   place_equal         two named belts have one place exactly when they are one
--   with_low, with_belt a mask with a named belt in it is of named belts, and has that belt and those that it had
--   masks_equal         masks that have the same named belts are equal
--   joined_fixes        two masks joined have the belts of both; common_fixes: what they have in common, those that both have
--   gathered_from       the mask gathered from some belts has a named belt exactly when it is one of them; gathered_low: it is of named belts
--
-- Every bit that a mask can have is the place of a named belt, so masks are compared belt by belt: they are equal where they have the same
-- named belts. Assumes nothing.
use mathlib.Core.Path.{◌≡◌, refl, sym, ◌∙◌, ap, subst}
use mathlib.Core.Logic.{◌⊎◌, inl, inr}
use mathlib.Core.Bool.{Bool, true, false, ◌&&◌, ◌||◌, or-false, or_assoc}
use Prim.Native.Nat.{ℕ, ◌%◌, ◌^◌, ◌<◌}
use mathlib.Core.List.Memᴰ
use mathlib.Core.List.{List, [], ◌∷◌, Memᴰ}
use native.Mathlib.Omega.{arith}
use native.Mathlib.Nat.{zero-div}
use lib.Pow.{pow-lt, pow_pos}
use lib.Bits.{bit_and, bit_or, or_lt}
use lib.ListN.{length, get_or}
use lib.Dec.{eqb, ltb}
use borrow.Author.Tests.{eqb-true, eq-eqb, ne_eqb}
use Rattle.plan.specs.Plan.{Place}
use Rattle.std.specs.Prelude.{Some, None}
use Rattle.plan.specs.Bounds.{max_records}
use Rattle.plan.specs.Lists.{count, mem}
use Rattle.plan.specs.Plan.{plan_of, indices_of, named, place_by, place_of, places_of, place_in}
use Rattle.plan.specs.Reading.{Accepted}
use Rattle.plan.proofs.Lists.{test, never, alike, in_keep, keep_in, in_mem, mem_in}
use Rattle.plan.proofs.ListRising.{Rises}
use Rattle.plan.proofs.NamedBelts.{named_in, named_rises}
use Rattle.plan.proofs.NamedPlaces.{at_place, place_at, place_in_lem, place_is}
use Rattle.plan.proofs.Reading.{belt_indexed, named_few}
use Rattle.route.specs.Values.{in_mask, fixed_in, named_places, LowPlace, with_place, gathered_in}
use Rattle.route.proofs.MaskBits.{or_set, or_power, and_set, bits_equal}

-- ---- which belts a mask fixes

-- of the belts ns the mask m fixes belt e
abbrev pub fixes : List ℕ → ℕ → ℕ → Bool
fixes ns m e = in_mask m (place_of ns e)

-- then it is one of them
pub has_named : (ns : List ℕ) (m e : ℕ) → fixes ns m e ≡ true → Memᴰ e ns
has_named ns m e h = mem_in ns (go (mem e ns) h)
  where
    go : (t : Bool) → in_mask m (place_by t (count (λ (n : ℕ). ltb n e) ns)) ≡ true → t ≡ true
    go true k = refl
    go false k = k

pub fixed_mem : (ns : List ℕ) (m e : ℕ) → mem e (fixed_in ns m) ≡ in_mask m (place_of ns e)
fixed_mem ns m e =
    alike (mem e (fixed_in ns m)) (fixes ns m e) (λ k. (keep_in (fixes ns m) ns (mem_in (fixed_in ns m) k)).1)
    (λ h. in_mem (fixed_in ns m) (in_keep (fixes ns m) ns (has_named ns m e h) h))

pub nothing_has : (ns : List ℕ) (e : ℕ) → fixes ns 0 e ≡ false
nothing_has ns e = go (mem e ns)
  where
    go : (t : Bool) → in_mask 0 (place_by t (count (λ (n : ℕ). ltb n e) ns)) ≡ false
    go true = ap (λ (n : ℕ). eqb (n % 2) 1) (zero-div (2 ^ count (λ (n : ℕ). ltb n e) ns))
    go false = refl

pub looked_up : (b : List ℕ) {places : List ℕ} {q : Place} (e : ℕ) → places ≡ named_places b → q ≡ place_in places e → e < max_records
    → q ≡ place_of (named (plan_of b)) e
looked_up b e all one low = one ∙ ap (λ (l : List ℕ). place_in l e) all ∙ place_is (named (plan_of b)) e low

module _ {b : List ℕ} (ok : Accepted b) where
  pub fixed_belt : (m e : ℕ) → Memᴰ e (fixed_in (named (plan_of b)) m) → mem e (indices_of (plan_of b).belts) ≡ true
  fixed_belt m e i = belt_indexed ok e (named_in b e (keep_in (fixes (named (plan_of b)) m) (named (plan_of b)) i).0)

  pub place_low : (e : ℕ) → LowPlace (place_of (named (plan_of b)) e)
  place_low e = go (mem e ns) refl
    where
      ns : List ℕ
      ns = named (plan_of b)

      go : (t : Bool) → mem e ns ≡ t → LowPlace (place_by t (count (λ (n : ℕ). ltb n e) ns))
      go true h = omega (arith, (at_place e (named_rises b) (mem_in ns h)).1, named_few ok)
      go false h = tt

-- ---- masks joined, and what they have in common

module _ (ns : List ℕ) (a c e : ℕ) where
  -- what holds of masks at each place, and where there is none, holds of them at the place of a belt
  by_place : (P : Place → Type 0) → ((k : ℕ) → P (Some k)) → P None → P (place_of ns e)
  by_place P at none = go (mem e ns)
    where
      go : (t : Bool) → P (place_by t (count (λ (n : ℕ). ltb n e) ns))
      go true = at (count (λ (n : ℕ). ltb n e) ns)
      go false = none

  pub joined_fixes : fixes ns (bit_or a c) e ≡ (fixes ns a e || fixes ns c e)
  joined_fixes = by_place (λ (q : Place). in_mask (bit_or a c) q ≡ (in_mask a q || in_mask c q)) (or_set a c) refl

  pub common_fixes : fixes ns (bit_and a c) e ≡ (fixes ns a e && fixes ns c e)
  common_fixes = by_place (λ (q : Place). in_mask (bit_and a c) q ≡ (in_mask a q && in_mask c q)) (and_set a c) refl

-- ---- masks of named belts

module _ {ns : List ℕ} (rises : Rises ns) where
  -- the place of a named belt: as many are lower
  abbrev lower : ℕ → ℕ
  lower e = count (λ (n : ℕ). ltb n e) ns

  -- two named belts have one place exactly when they are one
  pub place_equal : (e x : ℕ) → Memᴰ e ns → Memᴰ x ns → eqb (lower e) (lower x) ≡ eqb e x
  place_equal e x i j =
      alike (eqb (lower e) (lower x)) (eqb e x)
      (λ t. eq-eqb e x (sym (at_place e rises i).0 ∙ ap (λ (k : ℕ). get_or ns k 0) (eqb-true (lower e) (lower x) t) ∙ (at_place x rises j).0))
      (λ t. eq-eqb (lower e) (lower x) (ap lower (eqb-true e x t)))

  pub with_low : (m x : ℕ) → Memᴰ x ns → m < 2 ^ length ns → with_place m (place_of ns x) < 2 ^ length ns
  with_low m x j h =
      subst (λ (q : Place). with_place m q < 2 ^ length ns) (sym (place_in_lem x ns j))
      (or_lt (length ns) m (2 ^ lower x) h (pow-lt (at_place x rises j).1))

  pub with_belt : (m x e : ℕ) → Memᴰ x ns → Memᴰ e ns → fixes ns (with_place m (place_of ns x)) e ≡ (fixes ns m e || eqb e x)
  with_belt m x e j i =
      (λ k. in_mask (with_place m (place_in_lem x ns j k)) (place_in_lem e ns i k))
      ∙ or_power m (lower x) (lower e)
      ∙ (λ k. in_mask m (sym (place_in_lem e ns i) k) || place_equal e x i j k)

  -- masks that have the same named belts are equal
  pub masks_equal : (a c : ℕ) → a < 2 ^ length ns → c < 2 ^ length ns
      → ((e : ℕ) → Memᴰ e ns → fixes ns a e ≡ fixes ns c e) → a ≡ c
  masks_equal a c h k same =
      bits_equal (length ns) a c h k (λ j l.
      let (e, m, q) = place_at rises j l in
      let at : place_of ns e ≡ Some j = place_in_lem e ns m ∙ ap (λ (n : ℕ). Some n) q in
      sym (ap (in_mask a) at) ∙ same e m ∙ ap (in_mask c) at)

  -- a mask with any belt in it has that belt, if it is a named one, and those that it had
  with_any : (m x e : ℕ) → Memᴰ e ns → fixes ns (with_place m (place_of ns x)) e ≡ (fixes ns m e || eqb e x)
  with_any m x e i = go (test (mem x ns))
    where
      go : (mem x ns ≡ true) ⊎ (mem x ns ≡ false) → fixes ns (with_place m (place_of ns x)) e ≡ (fixes ns m e || eqb e x)
      go (inl t) = with_belt m x e (mem_in ns t) i
      go (inr t) =
          let apart : eqb e x ≡ false = ne_eqb e x (λ q. never (in_mem ns (Memᴰ.cast (sym q) i)) t) in
          ap (λ (s : Bool). fixes ns (with_place m (place_by s (lower x))) e) t
          ∙ sym (ap (λ (s : Bool). fixes ns m e || s) apart ∙ or-false (fixes ns m e))

  -- gathered to a mask
  gathered_has : {places : List ℕ} → places ≡ places_of ns → (m : ℕ) (es : List ℕ) → ((e : ℕ) → Memᴰ e es → e < max_records)
      → (e : ℕ) → Memᴰ e ns → fixes ns (gathered_in places m es) e ≡ (fixes ns m e || mem e es)
  gathered_has {places} all m [] low e i = sym (or-false (fixes ns m e))
  gathered_has {places} all m (x ∷ es) low e i =
      let there : place_in places x ≡ place_of ns x = ap (λ (ps : List ℕ). place_in ps x) all ∙ place_is ns x (low x (Memᴰ.head refl)) in
      gathered_has all (with_place m (place_in places x)) es (λ y j. low y (Memᴰ.tail j)) e i
      ∙ ap (λ (t : Bool). t || mem e es) (ap (λ (q : Place). fixes ns (with_place m q) e) there ∙ with_any m x e i)
      ∙ or_assoc (fixes ns m e) (eqb e x) (mem e es)

  pub gathered_from : {places : List ℕ} → places ≡ places_of ns → (es : List ℕ) → ((e : ℕ) → Memᴰ e es → e < max_records)
      → (e : ℕ) → Memᴰ e ns → fixes ns (gathered_in places 0 es) e ≡ mem e es
  gathered_from all es low e i = gathered_has all 0 es low e i ∙ ap (λ (t : Bool). t || mem e es) (nothing_has ns e)

  -- and it is of named belts
  with_any_low : (m x : ℕ) → m < 2 ^ length ns → with_place m (place_of ns x) < 2 ^ length ns
  with_any_low m x h = go (test (mem x ns))
    where
      go : (mem x ns ≡ true) ⊎ (mem x ns ≡ false) → with_place m (place_of ns x) < 2 ^ length ns
      go (inl t) = with_low m x (mem_in ns t) h
      go (inr t) = subst (λ (s : Bool). with_place m (place_by s (lower x)) < 2 ^ length ns) (sym t) h

  gathered_below : {places : List ℕ} → places ≡ places_of ns → (m : ℕ) (es : List ℕ) → ((e : ℕ) → Memᴰ e es → e < max_records)
      → m < 2 ^ length ns → gathered_in places m es < 2 ^ length ns
  gathered_below {places} all m [] low h = h
  gathered_below {places} all m (x ∷ es) low h =
      let there : place_in places x ≡ place_of ns x = ap (λ (ps : List ℕ). place_in ps x) all ∙ place_is ns x (low x (Memᴰ.head refl)) in
      gathered_below all (with_place m (place_in places x)) es (λ y j. low y (Memᴰ.tail j))
      (subst (λ (q : Place). with_place m q < 2 ^ length ns) (sym there) (with_any_low m x h))

  pub gathered_low : {places : List ℕ} → places ≡ places_of ns → (es : List ℕ) → ((e : ℕ) → Memᴰ e es → e < max_records)
      → gathered_in places 0 es < 2 ^ length ns
  gathered_low all es low = gathered_below all 0 es low (pow_pos (length ns))
