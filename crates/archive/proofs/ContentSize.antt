-- The content of an accepted plan has as many records as the plan: every record of the plan is record 0, a junction, a belt, a rule or a literal, and stands
-- in its content exactly once.
--
--   Distinct xs              no element stands in xs twice
--   rises_distinct, distinct_append, distinct_joined
--                            rising lists are such; and two of them in a row, or many, that have no element in common
--   same_length              two of them with the same elements are equally long
--   rules_size rules          the rules and all their literals, counted
--   length_rules             how many records the rules have; length_all: and the content
--   one_rule                 a literal record stands on the chain of one rule only
--   size_again               THE LAW
--
-- Assumes nothing.
use mathlib.Core.Path.{◌≡◌, refl, sym, ◌∙◌, ap, subst}
use mathlib.Core.Logic.{◌⊎◌, inl, inr}
use mathlib.Core.Bool.{Bool}
use Prim.Native.Nat.{ℕ, zero, suc, ◌+◌, ◌-◌, ◌≤◌, ◌<◌}
use mathlib.Core.List.Memᴰ
use mathlib.Core.List.{List, [], ◌∷◌, ◌++◌, map, Memᴰ}
use native.Mathlib.Omega.{arith}
use lib.ListN.{length, length-append, length-map}
use lib.Dec.{eqb}
use borrow.Author.Tests.{eqb-true, eq-eqb}
use Rattle.plan.specs.declared.read.Literal.{Literal}
use Rattle.plan.specs.Lists.{keep, count_by, count, joined, upto}
use Rattle.plan.specs.Records.{field, kind, junctions, records, IsKind, row_of, Link, links, chain}
use Rattle.plan.specs.Plan.{plan_of, belt_at, belt_records, literal_at, rule_at, indices_of}
use Rattle.plan.specs.Reading.{Accepted}
use Rattle.plan.proofs.Lists.{joined_in, in_joined, in_keep, keep_in, in_upto, upto_in, length_iota, count_one}
use Rattle.plan.proofs.ListCounts.{length_keep}
use Rattle.plan.proofs.ListRising.{Rises, none, more, upto_rises, keep_rises, from_cases}
use Rattle.plan.proofs.LineForms.{Item, belts, rules, literals}
use Rattle.plan.proofs.ChainLinks.{link, in_links_at, in_links, Linked}
use Rattle.plan.proofs.LinePassed.{linked}
use Rattle.plan.proofs.LineAccepted.{accepted_passed}
use Rattle.plan.proofs.ChainLaws.{of_plan, of_rule, above, chained_at, chain_rises}
use Rattle.plan.proofs.ChainLaws.{rule_chain_in, literal_chain_in, next_literal_lem, rule_reached, literal_reached}
use Rattle.archive.specs.Renaming.{renamed_literal}
use Rattle.archive.specs.Content.{Content, leg_of, place, content_of}
use Rattle.archive.specs.Form.{chain_start, legs_start, rules_start, behind, records_of_rule, rule_records, records_of}
use Rattle.archive.proofs.FormRecords.{length_rule, length_records}

-- ---- lists without repetition

pub data Distinct {A : Type 0} : List A → Type 0 where
  empty : Distinct []
  new : {x : A} {xs : List A} → (Memᴰ x xs → ⊥) → Distinct xs → Distinct (x ∷ xs)

pub rises_distinct : {xs : List ℕ} → Rises xs → Distinct xs
rises_distinct none = empty
rises_distinct (more {x} {xs} h r) = new (λ (m : Memᴰ x xs). omega (arith, h x m)) (rises_distinct r)

pub distinct_append : {A : Type 0} {xs : List A} (ys : List A) → Distinct xs → Distinct ys → ((a : A) → Memᴰ a xs → Memᴰ a ys → ⊥)
    → Distinct (xs ++ ys)
distinct_append ys empty e apart = e
distinct_append ys (new {x} {xs} n d) e apart =
    new (λ m. go (Memᴰ.append_cases xs m)) (distinct_append ys d e (λ a i j. apart a (Memᴰ.tail i) j))
  where
    go : Memᴰ x xs ⊎ Memᴰ x ys → ⊥
    go (inl i) = n i
    go (inr j) = apart x (Memᴰ.head refl) j

pub distinct_joined : {A B : Type 0} (g : A → List B) {xs : List A} → Distinct xs → ((a : A) → Memᴰ a xs → Distinct (g a))
    → ((a c : A) → Memᴰ a xs → Memᴰ c xs → (b : B) → Memᴰ b (g a) → Memᴰ b (g c) → a ≡ c) → Distinct (joined g xs)
distinct_joined g empty each one = empty
distinct_joined g (new {x} {xs} n d) each one =
    distinct_append (joined g xs) (each x (Memᴰ.head refl))
    (distinct_joined g d (λ a m. each a (Memᴰ.tail m)) (λ a c i j. one a c (Memᴰ.tail i) (Memᴰ.tail j)))
    (λ b m k.
    let (a, i, j) = joined_in g xs k in
    n (Memᴰ.cast (one x a (Memᴰ.head refl) (Memᴰ.tail i) b m j) i))

module _ {A : Type 0} where
  -- a list without one of its elements
  abbrev rest : {x : A} {ys : List A} → Memᴰ x ys → List A
  rest (Memᴰ.head {x = y} {xs = ys} e) = ys
  rest (Memᴰ.tail {x = y} {xs = ys} m) = y ∷ rest m

  length_rest : {x : A} {ys : List A} (m : Memᴰ x ys) → length ys ≡ suc (length (rest m))
  length_rest (Memᴰ.head e) = refl
  length_rest (Memᴰ.tail m) = ap suc (length_rest m)

  in_rest : {x a : A} {ys : List A} (m : Memᴰ x ys) → Memᴰ a ys → (a ≡ x → ⊥) → Memᴰ a (rest m)
  in_rest (Memᴰ.head e) (Memᴰ.head q) d = absurd (d (q ∙ sym e))
  in_rest (Memᴰ.head e) (Memᴰ.tail n) d = n
  in_rest (Memᴰ.tail m) (Memᴰ.head q) d = Memᴰ.head q
  in_rest (Memᴰ.tail m) (Memᴰ.tail n) d = Memᴰ.tail (in_rest m n d)

  -- what stands in another list is no more
  distinct_few : {xs : List A} (ys : List A) → Distinct xs → ((a : A) → Memᴰ a xs → Memᴰ a ys) → length xs ≤ length ys
  distinct_few ys empty h = omega arith
  distinct_few ys (new {x} {xs} n d) h =
      let m = h x (Memᴰ.head refl) in
      omega (arith, length_rest m, distinct_few (rest m) d (λ a i. in_rest m (h a (Memᴰ.tail i)) (λ q. n (Memᴰ.cast (sym q) i))))

  pub same_length : (xs ys : List A) → Distinct xs → Distinct ys → ((a : A) → Memᴰ a xs → Memᴰ a ys) → ((a : A) → Memᴰ a ys → Memᴰ a xs)
      → length xs ≡ length ys
  same_length xs ys d e f g = omega (arith, distinct_few ys d f, distinct_few xs e g)

-- ---- the records of a content

-- the rules and all their literals
abbrev pub rules_size : {A : Type 0} → List (List A) → ℕ
rules_size [] = 0
rules_size (x ∷ xs) = suc (length x) + rules_size xs

pub length_rules : (n i : ℕ) (xs : List (List Literal)) → length (rule_records n i xs) ≡ rules_size xs
length_rules n i [] = refl
length_rules n i (x ∷ xs) =
    let next = chain_start (behind i x) xs in
    omega (arith, length-append (records_of_rule n i x next) (rule_records n (behind i x) xs), length_rule n i x next, length_rules n (behind i x) xs)

pub length_all : (c : Content) → length (records_of c) ≡ suc c.junctions + length c.legs + rules_size c.rules
length_all c = omega (arith, length_records c, length_rules (legs_start c) (rules_start c) c.rules)

-- ---- counts of records by kind

abbrev of_kind : List ℕ → ℕ → ℕ → Bool
of_kind b k r = eqb (kind b r) k

abbrev others : List ℕ → List ℕ
others b = upto (suc (junctions b)) (records b)

-- what is of one of three kinds is counted once
counted_once : {k : ℕ} → Item k → (x y z : ℕ) → count_by (eqb k 2) x + count_by (eqb k 3) y + count_by (eqb k 4) z ≡ suc (x + y + z)
counted_once belts x y z = omega arith
counted_once rules x y z = omega arith
counted_once literals x y z = omega arith

counted : (b : List ℕ) (rs : List ℕ) → ((r : ℕ) → Memᴰ r rs → Item (kind b r))
    → count (of_kind b 2) rs + count (of_kind b 3) rs + count (of_kind b 4) rs ≡ length rs
counted b [] h = refl
counted b (r ∷ rs) h =
    counted_once (h r (Memᴰ.head refl)) (count (of_kind b 2) rs) (count (of_kind b 3) rs) (count (of_kind b 4) rs)
    ∙ ap suc (counted b rs (λ x m. h x (Memᴰ.tail m)))

module _ {b : List ℕ} (w : Linked b) where
  -- a list with exactly the records of kind k, each once
  kind_length : {k : ℕ} → Item k → (xs : List ℕ) → Distinct xs → ((r : ℕ) → Memᴰ r xs → IsKind b k r) → ((r : ℕ) → IsKind b k r → Memᴰ r xs)
      → length xs ≡ count (of_kind b k) (others b)
  kind_length {k} t xs d onto into =
      same_length xs (keep (of_kind b k) (others b)) d (rises_distinct (keep_rises (of_kind b k) (upto_rises (suc (junctions b)) (records b))))
      (λ r m. let o = onto r m in
      in_keep (of_kind b k) (others b) (in_upto (suc (junctions b)) (records b) r (above w t r o) o.0) (eq-eqb (kind b r) k o.1))
      (λ r m. let (i, e) = keep_in (of_kind b k) (others b) m in
      into r ((upto_in (suc (junctions b)) (records b) r i).1, eqb-true (kind b r) k e))
      ∙ length_keep (of_kind b k) (others b)

  -- ---- literal records stand on the chain of one rule

  held_first : (r : ℕ) → IsKind b 3 r → (field b r 2 ≡ 0 → ⊥) → Memᴰ (link r (field b r 2) 4) (links b)
  unfolding row_of
  held_first r o d = in_links b r (link r (field b r 2) 4) o.0 (in_links_at b r 3 2 4 o.1 (Memᴰ.tail (Memᴰ.head refl)) d)

  held_next : (l : ℕ) → IsKind b 4 l → (field b l 1 ≡ 0 → ⊥) → Memᴰ (link l (field b l 1) 4) (links b)
  unfolding row_of
  held_next l o d = in_links b l (link l (field b l 1) 4) o.0 (in_links_at b l 4 1 4 o.1 (Memᴰ.head refl) d)

  -- two links to one record have one holder
  one_holder : (e x y : ℕ) → IsKind b 4 e → Memᴰ (link x e 4) (links b) → Memᴰ (link y e 4) (links b) → x ≡ y
  one_holder e x y o m n =
      ap (λ (l : Link). l.holder)
      (count_one (λ (l : Link). eqb l.index e) (links b) (w.once e (above w literals e o) o.0) m (eq-eqb e e refl) n (eq-eqb e e refl))

  -- the start of a chain, or what comes before e on it
  Before : ℕ → ℕ → Type 0
  Before r e = (field b r 2 ≡ e) ⊎ ((x : ℕ) × Memᴰ x (chain b (field b r 2)) × (field b x 1 ≡ e))

  one_below : (r s : ℕ) → IsKind b 3 r → IsKind b 3 s → (B e : ℕ) → e < B → Memᴰ e (chain b (field b r 2)) → Memᴰ e (chain b (field b s 2)) → r ≡ s
  unfolding Before
  one_below r s p q zero e l m n = absurd (omega arith)
  one_below r s p q (suc B) e l m n = go (from_cases (chained_at w (of_rule p)) m) (from_cases (chained_at w (of_rule q)) n) (one_below r s p q B)
    where
      o : IsKind b 4 e
      o = literal_chain_in w r e p m

      some : {v : ℕ} → v ≡ e → v ≡ 0 → ⊥
      some z c = omega (arith, above w literals e o)

      first : (x : ℕ) → IsKind b 3 x → field b x 2 ≡ e → Memᴰ (link x e 4) (links b)
      first x k z = subst (λ (i : ℕ). Memᴰ (link x i 4) (links b)) z (held_first x k (some z))

      next : (x : ℕ) → IsKind b 4 x → field b x 1 ≡ e → Memᴰ (link x e 4) (links b)
      next x k z = subst (λ (i : ℕ). Memᴰ (link x i 4) (links b)) z (held_next x k (some z))

      go : Before r e → Before s e → ((z : ℕ) → z < B → Memᴰ z (chain b (field b r 2)) → Memᴰ z (chain b (field b s 2)) → r ≡ s) → r ≡ s
      go (inl y) (inl z) below = one_holder e r s o (first r p y) (first s q z)
      go (inl y) (inr (x, i, z)) below =
          let k = literal_chain_in w s x q i in
          absurd (omega (arith, p.1, k.1, ap (kind b) (one_holder e r x o (first r p y) (next x k z))))
      go (inr (x, i, y)) (inl z) below =
          let k = literal_chain_in w r x p i in
          absurd (omega (arith, q.1, k.1, ap (kind b) (one_holder e s x o (first s q z) (next x k y))))
      go (inr (x, i, y)) (inr (v, j, z)) below =
          let k = literal_chain_in w r x p i in
          let same = one_holder e x v o (next x k y) (next v (literal_chain_in w s v q j) z) in
          below x (omega (arith, (next_literal_lem w x k (some y)).0)) i (Memᴰ.cast same j)

  pub one_rule : (r s e : ℕ) → IsKind b 3 r → IsKind b 3 s → Memᴰ e (chain b (field b r 2)) → Memᴰ e (chain b (field b s 2)) → r ≡ s
  one_rule r s e p q = one_below r s p q (suc e) e (omega arith)

-- ---- rules and literals of the plan

size_map : {A B : Type 0} (f : A → B) (xs : List (List A)) → rules_size (map (map f) xs) ≡ rules_size xs
size_map f [] = refl
size_map f (x ∷ xs) = omega (arith, length-map x f, size_map f xs)

size_chains : (b : List ℕ) (rs : List ℕ) → rules_size (map (rule_at b) rs) ≡ length rs + length (joined (λ (r : ℕ). chain b (field b r 2)) rs)
size_chains b [] = refl
size_chains b (r ∷ rs) =
    let ls = chain b (field b r 2) in
    omega (arith, length-map ls (literal_at b), size_chains b rs, length-append ls (joined (λ (x : ℕ). chain b (field b x 2)) rs))

module _ {b : List ℕ} (w : Linked b) where
  rules_length : length (chain b (field b 0 3)) ≡ count (of_kind b 3) (others b)
  rules_length = kind_length w rules (chain b (field b 0 3)) (rises_distinct (chain_rises w of_plan)) (rule_chain_in w) (rule_reached w)

  literals_length : length (joined (λ (r : ℕ). chain b (field b r 2)) (chain b (field b 0 3))) ≡ count (of_kind b 4) (others b)
  literals_length =
      kind_length w literals (joined on (chain b (field b 0 3)))
      (distinct_joined on (rises_distinct (chain_rises w of_plan))
      (λ r m. rises_distinct (chain_rises w (of_rule (rule_chain_in w r m))))
      (λ r s m n e i j. one_rule w r s e (rule_chain_in w r m) (rule_chain_in w s n) i j))
      (λ e m. let (r, i, j) = joined_in on (chain b (field b 0 3)) m in literal_chain_in w r e (rule_chain_in w r i) j)
      (λ e o. let (r, p, m) = literal_reached w e o in in_joined on (rule_reached w r p) m)
    where
      on : ℕ → List ℕ
      on r = chain b (field b r 2)

  all_counted : length (belt_records b) + rules_size (map (rule_at b) (chain b (field b 0 3))) ≡ records b - suc (junctions b)
  all_counted =
      omega (
        arith,
        length_keep (of_kind b 2) (others b),
        size_chains b (chain b (field b 0 3)),
        rules_length,
        literals_length,
        counted b (others b) (λ r m. let (l, u) = upto_in (suc (junctions b)) (records b) r m in w.sorted.high r l u),
        length_iota (suc (junctions b)) (records b - suc (junctions b)),
      )

pub size_again : {b : List ℕ} → Accepted b → length (records_of (content_of (plan_of b))) ≡ records b
unfolding plan_of
size_again {b} ok =
    let w = linked b (accepted_passed b ok.unrefused).0.0 in
    let c = content_of (plan_of b) in
    let rs = map (rule_at b) (chain b (field b 0 3)) in
    omega (
      arith,
      length_all c,
      length-map (map (belt_at b) (belt_records b)) leg_of,
      length-map (belt_records b) (belt_at b),
      size_map (renamed_literal (place (indices_of (plan_of b).belts))) rs,
      all_counted w,
      w.sorted.room,
    )
