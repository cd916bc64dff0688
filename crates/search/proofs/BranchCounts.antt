-- Masks of belts, and in how many rules each named belt is.
--
--   stands            at each place below their count stands a named belt, and this is its place
--   gathered_at       a mask gathered from belts has the place of a named belt exactly when the belt is among them
-- The mask of a rule, literal by literal:
--   Gathering b places first o m
--                     Invariant: adding the belts of the literals from o on to the mask m gives the mask of those from `first` on
--   gathering_start, -low, -belt, -other, -end, -shorter
--                     it holds at first; the belt of a literal can be looked up, and is added to the mask; another literal leaves the mask as it
--                     is; at the end no literal is left; the measure falls: the chain gets shorter
-- The counts with one rule more, place by place:
--   with_none, with_same, with_next
--                     they begin as they were; the next place adds one if the mask has it, else nothing
--   with_now          a place that is not looked at yet has its old count
-- The counts of all rules, rule by rule:
--   Tallied b o xs    Invariant: adding the rules from o on to the counts xs gives the counts of all rules
--   tallied_start, -few, -next, -end, -shorter
--                     it holds at first; no count overflows; the next rule adds its belts; at the end xs is counts_of; the measure falls
--   counts_at         the count at a place is that of the belt there
--
-- The invariants of all three loops have one form: folding what is still unread over the value so far gives the result for the whole. Assumes
-- nothing.
use mathlib.Core.Path.{◌≡◌, refl, sym, ◌∙◌, ap, subst}
use mathlib.Core.Logic.{◌⊎◌, inl, inr}
use mathlib.Core.Bool.{Bool, true, false, ◌&&◌, ◌||◌}
use Prim.Native.Nat.{ℕ, zero, suc, ◌+◌, ◌-◌, ◌≤◌, ◌<◌}
use mathlib.Core.List.Memᴰ
use mathlib.Core.List.{List, [], ◌∷◌, ◌++◌, map, Memᴰ}
use native.Mathlib.Omega.{arith}
use lib.ListN.{length, get_or, set, replicate, length-set, length-map, length-replicate, length-append, get_or-replicate, get_or-append, get_or-eq_default}
use lib.Seq.{get_or-set_same, get_or-set_other, get_or-append-add, ext_get_or}
use lib.Dec.{eqb, ltb}
use borrow.Author.Tests.{eqb-true, eqb-false, lt-ltb, le-ltb, ltb-true, ltb-false}
use Rattle.plan.specs.declared.read.BeltId.{BeltId}
use Rattle.plan.specs.declared.read.RuleId.{RuleId}
use Rattle.plan.specs.declared.read.LiteralId.{LiteralId}
use Rattle.plan.specs.declared.read.Literal.{Literal}
use Rattle.plan.specs.declared.read.Literal.TheVariants.{OfBelt, OfMode}
use Rattle.std.specs.Prelude as code
use Rattle.std.specs.Prelude.{Some, None, IfSome}
use Rattle.plan.specs.Bounds.{max_named, max_records}
use Rattle.plan.specs.Lists.{count_by, count, mem, iota}
use Rattle.plan.specs.Plan.{plan_of, literal_at, rule_at, named, in_rule, place_of, places_of, place_in}
use Rattle.plan.specs.Reading.{Accepted, IsRule, IsLiteral, first_rule, next_rule, first_literal, next_literal, rules_from, literals_from, rule_link, literal_link}
use Rattle.plan.proofs.Lists.{test, alike, length_iota, get_d_iota, map_iota}
use Rattle.plan.proofs.ListCounts.{count_few}
use Rattle.plan.proofs.ListRising.{Rises}
use Rattle.plan.proofs.NamedBelts.{named_rises}
use Rattle.plan.proofs.NamedPlaces.{at_place, place_at, place_in_lem}
use Rattle.plan.proofs.Reading.{rules_from_lem, rules_end, rules_next, belt_low, rule_in_lem, rules_few, literal_belt, named_few}
use Rattle.plan.proofs.Reading.{literals_end, literals_next}
use Rattle.route.specs.Values.{in_mask, named_places, with_place, gathered_in}
use Rattle.route.proofs.MaskFixings.{gathered_from}
use Rattle.search.specs.Branching.{rule_count}
use Rattle.search.specs.Values.{counts_of}
use Rattle.search.specs.Inner.{belts_in, with_rule}

-- ---- masks of belts

module _ {ns : List ℕ} (rises : Rises ns) (k : ℕ) (l : k < length ns) where
  pub stands : Memᴰ (get_or ns k 0) ns × (place_of ns (get_or ns k 0) ≡ Some k)
  stands =
      let (e, m, q) = place_at rises k l in
      let same : get_or ns k 0 ≡ e = sym (ap (λ (j : ℕ). get_or ns j 0) q) ∙ (at_place e rises m).0 in
      (Memᴰ.cast same m, ap (place_of ns) same ∙ place_in_lem e ns m ∙ ap (λ (j : ℕ). Some j) q)

  pub gathered_at : {places : List ℕ} → places ≡ places_of ns → (es : List ℕ) → ((e : ℕ) → Memᴰ e es → e < max_records)
      → in_mask (gathered_in places 0 es) (Some k) ≡ mem (get_or ns k 0) es
  gathered_at {places} all es low =
      sym (ap (in_mask (gathered_in places 0 es)) stands.1) ∙ gathered_from rises all es low (get_or ns k 0) stands.0

-- ---- the belts in a rule

-- a belt is in a rule exactly when it is one of them
in_rule_lem : (e : ℕ) (rule : List Literal) → in_rule e rule ≡ mem e (belts_in rule)
in_rule_lem e [] = refl
in_rule_lem e (OfBelt x w ∷ rule) = ap (λ (t : Bool). eqb e x.0 || t) (in_rule_lem e rule)
in_rule_lem e (OfMode m w ∷ rule) = in_rule_lem e rule

-- a belt in a rule is that of a literal
belt_literal : {e : ℕ} (rule : List Literal) → Memᴰ e (belts_in rule) → (x : BeltId) × (w : Bool) × Memᴰ (OfBelt x w) rule × (e ≡ x.0)
belt_literal [] m = absurd (Memᴰ.not-nil m)
belt_literal {e} (OfBelt x w ∷ rule) m = go (Memᴰ.cases_cons m) (belt_literal rule)
  where
    Out : List Literal → Type 0
    Out ls = (y : BeltId) × (v : Bool) × Memᴰ (OfBelt y v) ls × (e ≡ y.0)

    go : (e ≡ x.0) ⊎ Memᴰ e (belts_in rule) → (Memᴰ e (belts_in rule) → Out rule) → Out (OfBelt x w ∷ rule)
    go (inl q) below = (x, w, Memᴰ.head refl, q)
    go (inr i) below = let (y, v, j, q) = below i in (y, v, Memᴰ.tail j, q)
belt_literal (OfMode n w ∷ rule) m = let (y, v, j, q) = belt_literal rule m in (y, v, Memᴰ.tail j, q)

module _ {b : List ℕ} (ok : Accepted b) where
  -- what its literals name can be looked up
  named_low : (r : ℕ) → IsRule b r → (x : BeltId) (w : Bool) → Memᴰ (OfBelt x w) (rule_at b r) → x.0 < max_records
  named_low r o x w m = (belt_low ok x.0 (literal_belt ok (rule_at b r) (rule_in_lem ok r o) x w m)).2

  rule_low : (r : ℕ) → IsRule b r → (e : ℕ) → Memᴰ e (belts_in (rule_at b r)) → e < max_records
  rule_low r o e m = let (x, w, i, q) = belt_literal (rule_at b r) m in subst (λ (n : ℕ). n < max_records) (sym q) (named_low r o x w i)

-- ---- the mask of a rule, literal by literal

pub record Gathering (b places : List ℕ) (first : ℕ) (o : code.Option LiteralId) (m : ℕ) : Type 0 where
  pub is_literal : IfSome o (λ l. IsLiteral b l.0)
  pub low : (x : BeltId) (w : Bool) → Memᴰ (OfBelt x w) (literals_from b (literal_link o)) → x.0 < max_records
  pub whole : gathered_in places m (belts_in (literals_from b (literal_link o))) ≡ gathered_in places 0 (belts_in (literals_from b first))

module _ {b : List ℕ} (ok : Accepted b) {places : List ℕ} where
  pub gathering_start : (r : ℕ) → IsRule b r → (o : code.Option LiteralId) → literal_link o ≡ first_literal b r → IfSome o (λ l. IsLiteral b l.0)
      → Gathering b places (first_literal b r) o 0
  gathering_start r is_rule o e is = record {
    is_literal = is;
    low = λ x w i. named_low ok r is_rule x w (subst (λ (n : ℕ). Memᴰ (OfBelt x w) (literals_from b n)) e i);
    whole = ap (λ (n : ℕ). gathered_in places 0 (belts_in (literals_from b n))) e;
  }

  pub gathering_end : {first m : ℕ} → Gathering b places first None m → m ≡ gathered_in places 0 (belts_in (literals_from b first))
  gathering_end {first} {m} h = sym (ap (λ (ls : List Literal). gathered_in places m (belts_in ls)) (literals_end ok)) ∙ h.whole

  module _ {first m : ℕ} {l : LiteralId} (h : Gathering b places first (Some l) m) where
    here : literals_from b l.0 ≡ literal_at b l.0 ∷ literals_from b (next_literal b l.0)
    here = literals_next ok l.0 h.is_literal

    pub gathering_low : (x : BeltId) (w : Bool) → OfBelt x w ≡ literal_at b l.0 → x.0 < max_records
    gathering_low x w e = h.low x w (subst (Memᴰ (OfBelt x w)) (sym here) (Memᴰ.head e))

    -- what is left behind it
    module _ (o : code.Option LiteralId) (s : literal_link o ≡ next_literal b l.0) where
      pub gathering_shorter : length (literals_from b (literal_link o)) < length (literals_from b l.0)
      gathering_shorter = let left = ap (λ (n : ℕ). length (literals_from b n)) s in let more = ap length here in omega arith

      -- a literal less is left, and the mask has what it names
      next : IfSome o (λ k. IsLiteral b k.0) → (y : Literal) → y ≡ literal_at b l.0 → (m' : ℕ)
          → gathered_in places m' (belts_in (literals_from b (next_literal b l.0))) ≡ gathered_in places m (belts_in (y ∷ literals_from b (next_literal b l.0)))
          → Gathering b places first o m'
      next is y e m' q = record {
        is_literal = is;
        low = λ x w i. h.low x w (subst (Memᴰ (OfBelt x w)) (sym here) (Memᴰ.tail (subst (λ (n : ℕ). Memᴰ (OfBelt x w) (literals_from b n)) s i)));
        whole = ap (λ (n : ℕ). gathered_in places m' (belts_in (literals_from b n))) s
            ∙ q
            ∙ ap (λ (z : Literal). gathered_in places m (belts_in (z ∷ literals_from b (next_literal b l.0)))) e
            ∙ sym (ap (λ (ls : List Literal). gathered_in places m (belts_in ls)) here)
            ∙ h.whole;
      }

      pub gathering_belt : IfSome o (λ k. IsLiteral b k.0) → (x : BeltId) (w : Bool) → OfBelt x w ≡ literal_at b l.0
          → Gathering b places first o (with_place m (place_in places x.0))
      gathering_belt is x w e = next is (OfBelt x w) e (with_place m (place_in places x.0)) refl

      pub gathering_other : IfSome o (λ k. IsLiteral b k.0) → ((x : BeltId) (w : Bool) → literal_at b l.0 ≡ OfBelt x w → ⊥) → Gathering b places first o m
      gathering_other is none = go (literal_at b l.0) refl
        where
          go : (y : Literal) → literal_at b l.0 ≡ y → Gathering b places first o m
          go (OfBelt x w) e = absurd (none x w e)
          go (OfMode x w) e = next is (OfMode x w) (sym e) m refl

-- ---- one rule more

module _ (on : ℕ → Bool) (xs : List ℕ) where
  -- the count at place i, once the places below k are looked at; and an array of them
  abbrev seen : ℕ → ℕ → ℕ
  seen k i = count_by (ltb i k && on i) (get_or xs i 0)

  abbrev seen_to : ℕ → ℕ → List ℕ
  seen_to size k = map (seen k) (iota 0 size)

  -- another place than k stays as it is when k is looked at
  seen_apart : (k i : ℕ) → (i ≡ k → ⊥) → seen k i ≡ seen (k + 1) i
  seen_apart k i d =
      let same : ltb i k ≡ ltb i (k + 1) =
      alike (ltb i k) (ltb i (k + 1)) (λ t. lt-ltb i (k + 1) (omega (arith, ltb-true i k t))) (λ t. lt-ltb i k (omega (arith, ltb-true i (k + 1) t, d))) in
      ap (λ (t : Bool). count_by (t && on i) (get_or xs i 0)) same

  -- a place that is not looked at has its old count, and one that is has one more if it passes
  seen_old : (k i : ℕ) → k ≤ i → seen k i ≡ get_or xs i 0
  seen_old k i l = ap (λ (t : Bool). count_by (t && on i) (get_or xs i 0)) (le-ltb i k l)

  seen_new : (k i : ℕ) → i < k → (t : Bool) → on i ≡ t → seen k i ≡ count_by t (get_or xs i 0)
  seen_new k i l t q = λ j. count_by (lt-ltb i k l j && q j) (get_or xs i 0)

  seen_at : (size k i : ℕ) → i < size → get_or (seen_to size k) i 0 ≡ seen k i
  seen_at size k i l = let z : 0 + i ≡ i = omega arith in get_d_iota (seen k) 0 size i 0 l ∙ ap (seen k) z

  length_seen : (size k : ℕ) → length (seen_to size k) ≡ size
  length_seen size k = length-map (iota 0 size) (seen k) ∙ length_iota 0 size

  -- an array is of that form where it has the counts
  is_seen : (size k : ℕ) (ys : List ℕ) → length ys ≡ size → ((i : ℕ) → i < size → get_or ys i 0 ≡ seen k i) → ys ≡ seen_to size k
  is_seen size k ys e h = map_iota (seen k) 0 size 0 ys e (λ i l. let z : i ≡ 0 + i = omega arith in h i l ∙ ap (seen k) z)

  seen_none : (size : ℕ) → length xs ≡ size → xs ≡ seen_to size 0
  seen_none size e = is_seen size 0 xs e (λ i l. sym (seen_old 0 i (omega arith)))

  seen_same : (size k : ℕ) → on k ≡ false → seen_to size k ≡ seen_to size (k + 1)
  seen_same size k q = is_seen size (k + 1) (seen_to size k) (length_seen size k) (λ i l. seen_at size k i l ∙ go i (test (eqb i k)))
    where
      go : (i : ℕ) → (eqb i k ≡ true) ⊎ (eqb i k ≡ false) → seen k i ≡ seen (k + 1) i
      go i (inl t) =
          subst (λ (j : ℕ). seen k j ≡ seen (k + 1) j) (sym (eqb-true i k t)) (seen_old k k (omega arith) ∙ sym (seen_new (k + 1) k (omega arith) false q))
      go i (inr t) = seen_apart k i (eqb-false i k t)

  seen_next : (size k : ℕ) → k < size → on k ≡ true → set (seen_to size k) k (get_or (seen_to size k) k 0 + 1) ≡ seen_to size (k + 1)
  seen_next size k u q =
      is_seen size (k + 1) (set (seen_to size k) k more) (length-set (seen_to size k) k more ∙ length_seen size k) (λ i l. go i l (test (eqb i k)))
    where
      more : ℕ
      more = get_or (seen_to size k) k 0 + 1

      here : get_or (set (seen_to size k) k more) k 0 ≡ seen (k + 1) k
      here =
          let e : more ≡ suc (get_or xs k 0) = omega (arith, seen_at size k k u, seen_old k k (omega arith)) in
          get_or-set_same (seen_to size k) k more 0 (omega (arith, length_seen size k)) ∙ e ∙ sym (seen_new (k + 1) k (omega arith) true q)

      go : (i : ℕ) → i < size → (eqb i k ≡ true) ⊎ (eqb i k ≡ false) → get_or (set (seen_to size k) k more) i 0 ≡ seen (k + 1) i
      go i l (inl t) = subst (λ (j : ℕ). get_or (set (seen_to size k) k more) j 0 ≡ seen (k + 1) j) (sym (eqb-true i k t)) here
      go i l (inr t) =
          get_or-set_other (seen_to size k) k i more 0 (eqb-false i k t) ∙ seen_at size k i l ∙ seen_apart k i (eqb-false i k t)

  -- from place k on nothing is added
  seen_past : (size k i : ℕ) → k ≤ i → get_or xs i 0 ≡ 0 → get_or (seen_to size k) i 0 ≡ 0
  seen_past size k i l z = go (test (ltb i size))
    where
      go : (ltb i size ≡ true) ⊎ (ltb i size ≡ false) → get_or (seen_to size k) i 0 ≡ 0
      go (inl t) = seen_at size k i (ltb-true i size t) ∙ seen_old k i l ∙ z
      go (inr t) = get_or-eq_default (seen_to size k) 0 (omega (arith, ltb-false i size t, length_seen size k))

abbrev on : ℕ → ℕ → Bool
on m k = in_mask m (Some k)

module _ (m : ℕ) (xs : List ℕ) where
  pub with_none : length xs ≡ max_named → xs ≡ with_rule xs 0 m
  with_none = seen_none (on m) xs max_named

  pub with_same : (k : ℕ) → in_mask m (Some k) ≡ false → with_rule xs k m ≡ with_rule xs (k + 1) m
  with_same = seen_same (on m) xs max_named

  pub with_next : (k : ℕ) → k < max_named → in_mask m (Some k) ≡ true → set (with_rule xs k m) k (get_or (with_rule xs k m) k 0 + 1) ≡ with_rule xs (k + 1) m
  with_next = seen_next (on m) xs max_named

  pub with_now : (k : ℕ) → k < max_named → get_or (with_rule xs k m) k 0 ≡ get_or xs k 0
  with_now k l = seen_at (on m) xs max_named k k l ∙ seen_old (on m) xs k k (omega arith)

-- ---- all rules

-- what a function makes of a list, place by place
mapped_at : (f : ℕ → ℕ) (xs : List ℕ) (k : ℕ) → k < length xs → get_or (map f xs) k 0 ≡ f (get_or xs k 0)
mapped_at f [] k l = absurd (omega arith)
mapped_at f (x ∷ xs) zero l = refl
mapped_at f (x ∷ xs) (suc k) l = mapped_at f xs k (omega arith)

-- one more on either side
counted_sum : (t : Bool) (m n : ℕ) → count_by t m + n ≡ m + count_by t n
counted_sum true m n = omega arith
counted_sum false m n = refl

-- in how many of the rules the belt at place k is
abbrev in_rules : List ℕ → ℕ → List (List Literal) → ℕ
in_rules b k rules = count (in_rule (get_or (named (plan_of b)) k 0)) rules

pub record Tallied (b : List ℕ) (o : code.Option RuleId) (xs : List ℕ) : Type 0 where
  pub is_rule : IfSome o (λ r. IsRule b r.0)
  pub size : length xs ≡ max_named
  pub whole : (k : ℕ) → k < length (named (plan_of b)) → get_or xs k 0 + in_rules b k (rules_from b (rule_link o)) ≡ in_rules b k (plan_of b).rules
  pub spare : (k : ℕ) → length (named (plan_of b)) ≤ k → get_or xs k 0 ≡ 0

pub counts_at : (b : List ℕ) (k : ℕ) → k < length (named (plan_of b)) → get_or (counts_of (plan_of b)) k 0 ≡ rule_count (plan_of b) (get_or (named (plan_of b)) k 0)
counts_at b k l =
    let ns = named (plan_of b) in
    let counts = map (rule_count (plan_of b)) ns in
    get_or-append counts (replicate (max_named - length counts) 0) 0 k (omega (arith, length-map ns (rule_count (plan_of b))))
    ∙ mapped_at (rule_count (plan_of b)) ns k l

-- a fresh array is 0 at each place, and past its end
fresh_at : (n k : ℕ) → get_or {A = ℕ} (replicate n 0) k 0 ≡ 0
fresh_at n k = go (test (ltb k n))
  where
    go : (ltb k n ≡ true) ⊎ (ltb k n ≡ false) → get_or {A = ℕ} (replicate n 0) k 0 ≡ 0
    go (inl t) = get_or-replicate {A = ℕ} n k 0 0 (ltb-true k n t)
    go (inr t) = get_or-eq_default {A = ℕ} (replicate n 0) 0 (omega (arith, ltb-false k n t, length-replicate {A = ℕ} n 0))

-- where no belt is, the count is 0
counts_past : (b : List ℕ) (k : ℕ) → length (named (plan_of b)) ≤ k → get_or (counts_of (plan_of b)) k 0 ≡ 0
counts_past b k l =
    let ns = named (plan_of b) in
    let counts = map (rule_count (plan_of b)) ns in
    let fresh : List ℕ = replicate (max_named - length counts) 0 in
    let past = k - length counts in
    let e : k ≡ length counts + past = omega (arith, length-map ns (rule_count (plan_of b))) in
    ap (λ (j : ℕ). get_or (counts ++ fresh) j 0) e ∙ get_or-append-add counts fresh past 0 ∙ fresh_at (max_named - length counts) past

pub length_counts : {b : List ℕ} → Accepted b → length (counts_of (plan_of b)) ≡ max_named
length_counts {b} ok =
    let ns = named (plan_of b) in
    let counts = map (rule_count (plan_of b)) ns in
    omega (
      arith,
      length-append counts (replicate (max_named - length counts) 0),
      length-map ns (rule_count (plan_of b)),
      length-replicate {A = ℕ} (max_named - length counts) 0,
      named_few ok,
    )

module _ {b : List ℕ} (ok : Accepted b) where
  abbrev ns : List ℕ
  ns = named (plan_of b)

  pub tallied_start : (o : code.Option RuleId) → rule_link o ≡ first_rule b → IfSome o (λ r. IsRule b r.0) → Tallied b o (replicate max_named 0)
  tallied_start o e is = record {
    is_rule = is;
    size = length-replicate {A = ℕ} max_named 0;
    whole = λ k l. omega (arith, fresh_at max_named k, ap (λ (n : ℕ). in_rules b k (rules_from b n)) e, ap (in_rules b k) (rules_from_lem ok));
    spare = λ k l. fresh_at max_named k;
  }

  pub tallied_few : {o : code.Option RuleId} {xs : List ℕ} → Tallied b o xs → (k : ℕ) → get_or xs k 0 < 65535
  tallied_few {o} {xs} h k = go (test (ltb k (length ns)))
    where
      go : (ltb k (length ns) ≡ true) ⊎ (ltb k (length ns) ≡ false) → get_or xs k 0 < 65535
      go (inl t) = omega (arith, h.whole k (ltb-true k (length ns) t), count_few (in_rule (get_or ns k 0)) (plan_of b).rules, rules_few ok)
      go (inr t) = omega (arith, h.spare k (ltb-false k (length ns) t))

  pub tallied_end : {xs : List ℕ} → Tallied b None xs → xs ≡ counts_of (plan_of b)
  tallied_end {xs} h =
      ext_get_or 0 xs (counts_of (plan_of b)) (h.size ∙ sym full) (λ k l. go k (test (ltb k (length ns))))
    where
      full : length (counts_of (plan_of b)) ≡ max_named
      full = length_counts ok

      none : (k : ℕ) → in_rules b k (rules_from b 0) ≡ 0
      none k = ap (in_rules b k) (rules_end ok)

      go : (k : ℕ) → (ltb k (length ns) ≡ true) ⊎ (ltb k (length ns) ≡ false) → get_or xs k 0 ≡ get_or (counts_of (plan_of b)) k 0
      go k (inl t) = let l = ltb-true k (length ns) t in omega (arith, h.whole k l, none k, counts_at b k l)
      go k (inr t) = let l = ltb-false k (length ns) t in h.spare k l ∙ sym (counts_past b k l)

  module _ {r : RuleId} {xs : List ℕ} (h : Tallied b (Some r) xs) (o : code.Option RuleId) (e : rule_link o ≡ next_rule b r.0) where
    pub tallied_shorter : length (rules_from b (rule_link o)) < length (rules_from b r.0)
    tallied_shorter =
        let left = ap (λ (n : ℕ). length (rules_from b n)) e in let more = ap length (rules_next ok r.0 h.is_rule) in omega arith

    pub tallied_next : IfSome o (λ q. IsRule b q.0) → {places : List ℕ} → places ≡ named_places b → (m : ℕ) → m ≡ gathered_in places 0 (belts_in (rule_at b r.0))
        → (ys : List ℕ) → ys ≡ with_rule xs (length ns) m → Tallied b o ys
    tallied_next is {places} all m q ys w = record {
      is_rule = is;
      size = ap length w ∙ length_seen (on m) xs max_named (length ns);
      whole = λ k l. ap (λ (n : ℕ). get_or ys k 0 + in_rules b k (rules_from b n)) e ∙ more k l;
      spare = λ k l. ap (λ (zs : List ℕ). get_or zs k 0) w ∙ seen_past (on m) xs max_named (length ns) k l (h.spare k l);
    }
      where
        -- the mask has a place exactly when the belt there is in the rule
        has : (k : ℕ) → k < length ns → in_mask m (Some k) ≡ in_rule (get_or ns k 0) (rule_at b r.0)
        has k l =
            ap (λ (a : ℕ). in_mask a (Some k)) q
            ∙ gathered_at (named_rises b) k l all (belts_in (rule_at b r.0)) (rule_low ok r.0 h.is_rule)
            ∙ sym (in_rule_lem (get_or ns k 0) (rule_at b r.0))

        more : (k : ℕ) → k < length ns → get_or ys k 0 + in_rules b k (rules_from b (next_rule b r.0)) ≡ in_rules b k (plan_of b).rules
        more k l =
            let x = get_or xs k 0 in
            let t = in_rule (get_or ns k 0) (rule_at b r.0) in
            let rest = in_rules b k (rules_from b (next_rule b r.0)) in
            let now : get_or ys k 0 ≡ count_by t x =
            ap (λ (zs : List ℕ). get_or zs k 0) w
            ∙ seen_at (on m) xs max_named (length ns) k (omega (arith, named_few ok))
            ∙ seen_new (on m) xs (length ns) k l t (has k l) in
            ap (λ (i : ℕ). i + rest) now
            ∙ counted_sum t x rest
            ∙ sym (ap (λ (rules : List (List Literal)). x + in_rules b k rules) (rules_next ok r.0 h.is_rule))
            ∙ h.whole k l
