-- The records of a content that fits are accepted as a plan: they break none of lines 1 to 7.
--
--   pointers_are           as many links of the bytes lead to a record as chain indices of the records are its index
--   sizes_unbroken, header_unbroken, records_unbroken
--                          lines 1, 2 and 3
--   links_unbroken         line 4: links_well: each link leads to a later record of the kind that it wants; pointed_once: one leads to each record
--                          behind the junctions
--   belts_unbroken, literals_unbroken, named_unbroken
--                          lines 5, 6 and 7
--   accepted               so nothing of these bytes is refused; form_accepted: the same as a record
--
-- Assumes nothing.
use mathlib.Core.Path.{◌≡◌, refl, sym, ◌∙◌, ap, subst}
use mathlib.Core.Logic.{◌⊎◌, inl, inr}
use mathlib.Core.Bool.{Bool, true, false, not, ◌&&◌}
use Prim.Native.Nat.{ℕ, zero, suc, ◌+◌, ◌-◌, ◌≤◌, ◌<◌}
use mathlib.Core.List.{List, [], ◌∷◌, ◌++◌, map, Memᴰ}
use native.Mathlib.Omega.{arith}
use lib.ListN.{length, get_or}
use lib.Dec.{eqb, leb}
use borrow.Author.Tests.{eqb-true, eq-eqb, ne_eqb, le-ltb, lt-leb}
use Rattle.plan.specs.Lists.{keep_by, keep, count_by, mem, joined, iota, upto}
use Rattle.plan.specs.Records.{field, kind, junctions, records, row_of, fits, Link, links_at, links, chain}
use Rattle.plan.specs.Bounds.{max_named}
use Rattle.plan.specs.Plan.{Belt, Plan, leaves, belt_at, plan_of, named}
use Rattle.plan.specs.Limits.{picked, chain_fields, held, Names}
use Rattle.plan.specs.Refusals.{broken1, broken2, broken3, broken4, broken5, broken6, broken7, kinds_by, right_kind, pointers, backward, literal_fits, misnames, refusal}
use Rattle.plan.specs.Inner.{Passed4}
use Rattle.plan.specs.Reading.{Accepted}
use Rattle.plan.proofs.Lists.{test, eqb_sym, each, count_append, none_any, upto_in}
use Rattle.plan.proofs.LineForms.{size_fits, header_fits, fields_fit, kind_low, kind_high, Item, belts, rules, literals, item_mem}
use Rattle.plan.proofs.LinePassed.{wrong_none, no_bad_link, linked}
use Rattle.plan.proofs.LineLiterals.{names_fits}
use Rattle.plan.proofs.LineAccepted.{passed_accepted}
use Rattle.plan.proofs.ChainLinks.{target, targets, held_links, link, links_at_in, links_in, Well, Linked}
use Rattle.plan.proofs.ChainLaws.{belt_in_plan, belt_chain_in, leaves_is}
use Rattle.archive.specs.Content.{Leg, Content}
use Rattle.archive.specs.Form.{Fields, bytes_of, legs_start, header_of, records_of}
use Rattle.archive.proofs.ContentFits.{belts_numbered, Fits}
use Rattle.archive.proofs.RecordBytes.{blank, field_at, Holds, holds_at, length_bytes}
use Rattle.archive.proofs.FormRecords.{length_records, record_header, form_of, records_is, junctions_is, modes_is}
use Rattle.archive.proofs.FormPlan.{read_back}
use Rattle.archive.proofs.FormLinks.{tally, held_in, held_once, KindIn, Lead, RecordIs, is_junction, is_leg, is_rule, is_literal, first_leads, each_is}

-- ---- how many links lead to a record

-- what holds of fields 1, 2 and 3 holds of every chain field
module _ (P : ℕ → Type 0) (p1 : P 1) (p2 : P 2) (p3 : P 3) where
  pick : (t : Bool) (fs : List ℕ) → ((g : ℕ) → Memᴰ g fs → P g) → (g : ℕ) → Memᴰ g (picked t fs) → P g
  pick true fs h = h
  pick false fs h = λ g m. absurd (mathlib.Core.List.Memᴰ.not-nil m)

  or : (xs ys : List ℕ) → ((g : ℕ) → Memᴰ g xs → P g) → ((g : ℕ) → Memᴰ g ys → P g) → (g : ℕ) → Memᴰ g (xs ++ ys) → P g
  or xs ys p q g m = go (mathlib.Core.List.Memᴰ.append_cases xs m)
    where
      go : Memᴰ g xs ⊎ Memᴰ g ys → P g
      go (inl k) = p g k
      go (inr k) = q g k

  none : (g : ℕ) → Memᴰ g [] → P g
  none g m = absurd (mathlib.Core.List.Memᴰ.not-nil m)

  of_one : (k n : ℕ) → (g : ℕ) → Memᴰ g (picked (eqb k n) (1 ∷ [])) → P g
  of_one k n = pick (eqb k n) (1 ∷ []) (each P p1 none)

  of_chain : (k g : ℕ) → Memᴰ g (chain_fields k) → P g
  of_chain k =
      or _ (picked (eqb k 4) (1 ∷ []))
      (or _ (picked (eqb k 3) (1 ∷ 2 ∷ []))
      (or _ (picked (eqb k 2) (1 ∷ []))
      (or (picked (eqb k 7) (3 ∷ [])) (picked (eqb k 1) (1 ∷ [])) (pick (eqb k 7) (3 ∷ []) (each P p3 none)) (of_one k 1)) (of_one k 2))
      (pick (eqb k 3) (1 ∷ 2 ∷ []) (each P p1 (each P p2 none))))
      (of_one k 4)

map_same : {A B : Type 0} (g h : A → B) (xs : List A) → ((a : A) → Memᴰ a xs → g a ≡ h a) → map g xs ≡ map h xs
map_same g h [] e = refl
map_same g h (x ∷ xs) e = λ i. e x (mathlib.Core.List.Memᴰ.head refl) i ∷ map_same g h xs (λ a m. e a (mathlib.Core.List.Memᴰ.tail m)) i

-- zeros do not count
tally_kept : (r : ℕ) (xs : List ℕ) → 1 ≤ r → tally r (keep (λ (i : ℕ). not (eqb i 0)) xs) ≡ tally r xs
tally_kept r [] h = refl
tally_kept r (x ∷ xs) h = go (test (eqb x 0)) (tally_kept r xs h)
  where
    rest : List ℕ
    rest = keep (λ (i : ℕ). not (eqb i 0)) xs

    go : (eqb x 0 ≡ true) ⊎ (eqb x 0 ≡ false) → tally r rest ≡ tally r xs → tally r (keep_by (not (eqb x 0)) x rest) ≡ tally r (x ∷ xs)
    go (inl t) e =
        ap (λ (b : Bool). tally r (keep_by (not b) x rest)) t
        ∙ e
        ∙ sym (ap (λ (b : Bool). count_by b (tally r xs)) (ne_eqb r x (λ q. omega (arith, eqb-true x 0 t))))
    go (inr t) e = ap (λ (b : Bool). tally r (keep_by (not b) x rest)) t ∙ ap (λ (n : ℕ). count_by (eqb r x) n) e

-- the links that lead to r are the indices r where they lead
targets_tally : (r : ℕ) (ls : List Link) → pointers ls r ≡ tally r (map target ls)
targets_tally r [] = refl
targets_tally r (l ∷ ls) = λ i. count_by (eqb_sym l.index r i) (targets_tally r ls i)

module _ (rs : List Fields) (r : ℕ) (low : 1 ≤ r) where
  -- those of one record
  held_at : (k : ℕ) → tally r (held (bytes_of rs) k) ≡ tally r (held_in (get_or rs k blank))
  held_at k =
      tally_kept r (map (field (bytes_of rs) k) (chain_fields (kind (bytes_of rs) k))) low
      ∙ ap (tally r)
      (map_same (field (bytes_of rs) k) (λ (g : ℕ). field_at g (get_or rs k blank)) (chain_fields (kind (bytes_of rs) k))
      (of_chain (λ (g : ℕ). field (bytes_of rs) k g ≡ field_at g (get_or rs k blank)) (holds_at rs k).at1 (holds_at rs k).at2 (holds_at rs k).at3
      (kind (bytes_of rs) k)))
      ∙ ap (λ (n : ℕ). tally r (map (λ (g : ℕ). field_at g (get_or rs k blank)) (chain_fields n))) (holds_at rs k).at0

  pointers_at : (k : ℕ) → pointers (links_at (bytes_of rs) k) r ≡ tally r (held_in (get_or rs k blank))
  pointers_at k = targets_tally r (links_at (bytes_of rs) k) ∙ ap (tally r) (sym (held_links (bytes_of rs) k)) ∙ held_at k

  -- those of records in a row
  pointers_row : (i : ℕ) (xs : List Fields) → ((k : ℕ) → k < length xs → get_or rs (i + k) blank ≡ get_or xs k blank)
      → pointers (joined (links_at (bytes_of rs)) (iota i (length xs))) r ≡ tally r (joined held_in xs)
  pointers_row i [] h = refl
  pointers_row i (x ∷ xs) h =
      let b : List ℕ = bytes_of rs in
      let e : i ≡ i + 0 = omega arith in
      let here : pointers (links_at b i) r ≡ tally r (held_in x) =
      pointers_at i ∙ ap (λ (y : Fields). tally r (held_in y)) (ap (λ (n : ℕ). get_or rs n blank) e ∙ h 0 (omega arith)) in
      let later = pointers_row (suc i) xs (λ k l. let q : suc i + k ≡ i + suc k = omega arith in ap (λ (n : ℕ). get_or rs n blank) q ∙ h (suc k) (omega arith)) in
      count_append (λ (l : Link). eqb l.index r) (links_at b i) (joined (links_at b) (iota (suc i) (length xs)))
      ∙ (λ j. here j + later j)
      ∙ sym (count_append (eqb r) (held_in x) (joined held_in xs))

  pointers_are : records (bytes_of rs) ≡ length rs → pointers (links (bytes_of rs)) r ≡ tally r (joined held_in rs)
  unfolding links
  pointers_are n =
      let q : records (bytes_of rs) - 0 ≡ length rs = omega arith in
      ap (λ (m : ℕ). pointers (joined (links_at (bytes_of rs)) (iota 0 m)) r) q
      ∙ pointers_row 0 rs (λ k l. let e : 0 + k ≡ k = omega arith in ap (λ (m : ℕ). get_or rs m blank) e)

-- ---- the lines, one after the other

module _ (c : Content) (f : Fits c) where
  size : records (form_of c) ≡ length (records_of c)
  size = records_is c

  -- what record r of the bytes is
  holds : (r : ℕ) → Holds (form_of c) r (get_or (records_of c) r blank)
  holds r = holds_at (records_of c) r

  top : Holds (form_of c) 0 (header_of c)
  top = subst (Holds (form_of c) 0) (record_header c) (holds 0)

  record_is : (r : ℕ) → 1 ≤ r → r < records (form_of c) → RecordIs (records_of c) c r (get_or (records_of c) r blank)
  record_is r l u = each_is c f r l (omega (arith, size))

  -- ---- lines 1 to 3

  sizes_unbroken : broken1 (form_of c) ≡ false
  sizes_unbroken =
      size_fits (form_of c) (record {
        least = omega (arith, length_bytes (records_of c), length_records c, f.some_junctions);
        most = omega (arith, length_bytes (records_of c), f.few_records);
        whole = omega (arith, length_bytes (records_of c), size);
      })

  header_unbroken : broken2 (form_of c) ≡ false
  header_unbroken =
      header_fits (form_of c) (record {
        kind_7 = top.at0;
        some_junctions = omega (arith, junctions_is c, f.some_junctions);
        few_junctions = omega (arith, junctions_is c, f.few_junctions);
        few_modes = omega (arith, modes_is c, f.few_modes);
        unused = top.at5;
        junctions_fit = omega (arith, size, junctions_is c, length_records c);
      })

  -- a record behind the junctions, of kind k
  high_kind : {k : ℕ} (r : ℕ) → Item k → c.junctions < r → kind (form_of c) r ≡ k → right_kind (form_of c) r ≡ true
  high_kind r t u e = kind_high (form_of c) r (omega (arith, junctions_is c)) ∙ ap (λ (n : ℕ). mem n (kinds_by false)) e ∙ item_mem t

  record_right : (r : ℕ) (x : Fields) → Holds (form_of c) r x → RecordIs (records_of c) c r x
      → (right_kind (form_of c) r ≡ true) × (fits (form_of c) r ≡ true)
  unfolding row_of
  record_right r x h (is_junction j) =
      let e : kind (form_of c) r ≡ 1 = h.at0 ∙ j.kind in (
        kind_low (form_of c) r (omega (arith, junctions_is c, j.low)) ∙ ap (λ (n : ℕ). mem n (kinds_by true)) e,
        fields_fit (form_of c) r 1 e (tt, h.at2 ∙ j.zero2, h.at3 ∙ j.zero3, h.at4 ∙ j.zero4, h.at5 ∙ j.zero5),
      )
  record_right r x h (is_leg j) =
      let e : kind (form_of c) r ≡ 2 = h.at0 ∙ j.kind in (
        high_kind r belts j.high e,
        fields_fit (form_of c) r 2 e (tt, (omega (arith, h.at2, j.from), omega (arith, h.at2, j.to, junctions_is c)), tt, tt, h.at5 ∙ j.zero5),
      )
  record_right r x h (is_rule j) =
      let e : kind (form_of c) r ≡ 3 = h.at0 ∙ j.kind in
      (high_kind r rules j.high e, fields_fit (form_of c) r 3 e (tt, tt, h.at3 ∙ j.zero3, h.at4 ∙ j.zero4, h.at5 ∙ j.zero5))
  record_right r x h (is_literal j) =
      let e : kind (form_of c) r ≡ 4 = h.at0 ∙ j.kind in (
        high_kind r literals j.high e,
        fields_fit (form_of c) r 4 e (tt, (omega arith, omega (arith, h.at2, j.wanted)), (omega arith, omega (arith, h.at3, j.sort)), tt, h.at5 ∙ j.zero5),
      )

  records_unbroken : broken3 (form_of c) ≡ false
  records_unbroken = wrong_none (form_of c) (λ r l u. record_right r (get_or (records_of c) r blank) (holds r) (record_is r l u))

  -- ---- line 4: where links lead

  -- what a record of the list is, of the bytes
  kind_there : (v w : ℕ) → KindIn (records_of c) v w → (v < records (form_of c)) × (kind (form_of c) v ≡ w)
  kind_there v w k = (omega (arith, size, k.0), (holds v).at0 ∙ k.1)

  -- a chain field g of record r that holds v
  leads_well_lem : (r g v w : ℕ) → field (form_of c) r g ≡ v → Lead (records_of c) r v w → (field (form_of c) r g ≡ 0 → ⊥)
      → Well (form_of c) (link r (field (form_of c) r g) w)
  leads_well_lem r g v w e k d =
      let x = k (λ z. d (e ∙ z)) in
      subst (λ (n : ℕ). Well (form_of c) (link r n w)) (sym e) (x.0, (kind_there v w x.1).0, (kind_there v w x.1).1)

  -- a chain field of record r, with the kind that it wants, leads well
  abbrev To : ℕ → ℕ × ℕ → Type 0
  To r t = (field (form_of c) r t.0 ≡ 0 → ⊥) → Well (form_of c) (link r (field (form_of c) r t.0) t.1)

  nowhere : (r : ℕ) (t : ℕ × ℕ) → Memᴰ t [] → To r t
  nowhere r t m = absurd (mathlib.Core.List.Memᴰ.not-nil m)

  by_kind : (r k : ℕ) (l : Link) → kind (form_of c) r ≡ k → ((t : ℕ × ℕ) → Memᴰ t (targets (form_of c) k) → To r t)
      → Memᴰ l (links_at (form_of c) r) → Well (form_of c) l
  by_kind r k l e to m =
      let (t, n, q, d) = links_at_in (form_of c) r k l e m in
      subst (Well (form_of c)) (sym q) (to t n d)

  record_well : (r : ℕ) (x : Fields) (l : Link) → Holds (form_of c) r x → RecordIs (records_of c) c r x
      → Memᴰ l (links_at (form_of c) r) → Well (form_of c) l
  unfolding row_of
  record_well r x l h (is_junction j) = by_kind r 1 l (h.at0 ∙ j.kind) (each (To r) (leads_well_lem r 1 x.f1 2 h.at1 j.first) (nowhere r))
  record_well r x l h (is_leg j) = by_kind r 2 l (h.at0 ∙ j.kind) (each (To r) (leads_well_lem r 1 x.f1 2 h.at1 j.next) (nowhere r))
  record_well r x l h (is_rule j) =
      by_kind r 3 l (h.at0 ∙ j.kind)
      (each (To r) (leads_well_lem r 1 x.f1 3 h.at1 j.next) (each (To r) (leads_well_lem r 2 x.f2 4 h.at2 j.first) (nowhere r)))
  record_well r x l h (is_literal j) = by_kind r 4 l (h.at0 ∙ j.kind) (each (To r) (leads_well_lem r 1 x.f1 4 h.at1 j.next) (nowhere r))

  header_well : (l : Link) → Memᴰ l (links_at (form_of c) 0) → Well (form_of c) l
  unfolding row_of
  header_well l = by_kind 0 7 l top.at0 (each (To 0) (leads_well_lem 0 3 (header_of c).f3 3 top.at3 (first_leads c)) (nowhere 0))

  links_well : (l : Link) → Memᴰ l (links (form_of c)) → Well (form_of c) l
  links_well l m = let (r, u, n) = links_in (form_of c) l m in go r u n
    where
      go : (r : ℕ) → r < records (form_of c) → Memᴰ l (links_at (form_of c) r) → Well (form_of c) l
      go zero u n = header_well l n
      go (suc r) u n = record_well (suc r) (get_or (records_of c) (suc r) blank) l (holds (suc r)) (record_is (suc r) (omega arith) u) n

  -- ---- line 4: how many links lead to a record

  pointed_once : (r : ℕ) → junctions (form_of c) < r → r < records (form_of c) → pointers (links (form_of c)) r ≡ 1
  pointed_once r l u =
      let h : legs_start c ≤ r = omega (arith, junctions_is c) in
      pointers_are (records_of c) r (omega arith) size
      ∙ held_once c (λ e m. let x = f.legs e m in (x.from, omega (arith, x.up, x.to))) r h (omega (arith, size))

  links_unbroken : broken4 (form_of c) ≡ false
  links_unbroken = no_bad_link (form_of c) links_well pointed_once

  passed_four : Passed4 (form_of c)
  passed_four = ((sizes_unbroken, header_unbroken), records_unbroken, links_unbroken)

  -- ---- lines 5 to 7

  -- a belt of the plan leads higher than it leaves
  belt_up : (i : ℕ) (es : List Leg) → ((e : Leg) → Memᴰ e es → e.leaves < e.leads) → (x : Belt) → Memᴰ x (belts_numbered i es) → x.leaves < x.leads
  belt_up i [] h x m = absurd (mathlib.Core.List.Memᴰ.not-nil m)
  belt_up i (e ∷ es) h x m =
      each (λ (y : Belt). y.leaves < y.leads) (h e (mathlib.Core.List.Memᴰ.head refl)) (belt_up (suc i) es (λ y n. h y (mathlib.Core.List.Memᴰ.tail n))) x m

  belts_unbroken : broken5 (form_of c) ≡ false
  unfolding broken5
  belts_unbroken =
      let b : List ℕ = form_of c in
      let w : Linked b = linked b passed_four in
      none_any (backward b) (upto 1 (suc (junctions b))) (λ j m.
      let (l, h) = upto_in 1 (suc (junctions b)) j m in
      let u : j ≤ junctions b = omega arith in
      none_any (λ (e : ℕ). leb (field b e 2) j) (chain b (field b j 1)) (λ e n.
      let k : Memᴰ (belt_at b e) (belts_numbered (legs_start c) c.legs) =
      subst (λ (p : Plan). Memᴰ (belt_at b e) p.belts) (read_back c f) (belt_in_plan w e (belt_chain_in w j e l u n)) in
      let up : leaves b e < field b e 2 = belt_up (legs_start c) c.legs (λ x i. (f.legs x i).up) (belt_at b e) k in
      lt-leb (field b e 2) j (omega (arith, leaves_is w e j l u n))))

  -- a record of another kind names nothing
  other : (r k : ℕ) → kind (form_of c) r ≡ k → (k ≡ 4 → ⊥) → misnames (form_of c) r ≡ false
  other r k e d = ap (λ (t : Bool). t && not (literal_fits (form_of c) r)) (ne_eqb (kind (form_of c) r) 4 (λ z. d (sym e ∙ z)))

  -- what a literal names is there
  names : (r : ℕ) (x : Fields) → Holds (form_of c) r x → RecordIs (records_of c) c r x → misnames (form_of c) r ≡ false
  names r x h (is_junction j) = other r 1 (h.at0 ∙ j.kind) (λ z. omega arith)
  names r x h (is_leg j) = other r 2 (h.at0 ∙ j.kind) (λ z. omega arith)
  names r x h (is_rule j) = other r 3 (h.at0 ∙ j.kind) (λ z. omega arith)
  names r x h (is_literal j) =
      let b : List ℕ = form_of c in
      let k : Names b r = record {
        belt = λ e. subst (λ (n : ℕ). (n < records b) × (kind b n ≡ 2)) (sym h.at4) (kind_there x.f4 2 (j.belt (sym h.at3 ∙ e)));
        mode = λ e. let v = j.mode (sym h.at3 ∙ e) in (omega (arith, v.0, h.at4), omega (arith, v.1, h.at4, modes_is c));
      } in
      let t : eqb (kind b r) 4 ≡ true = eq-eqb (kind b r) 4 (h.at0 ∙ j.kind) in
      λ i. t i && not (names_fits b r (omega (arith, h.at3, j.sort)) k i)

  literals_unbroken : broken6 (form_of c) ≡ false
  unfolding broken6
  literals_unbroken =
      none_any (misnames (form_of c)) (upto (suc (junctions (form_of c))) (records (form_of c))) (λ r m.
      let (l, u) = upto_in (suc (junctions (form_of c))) (records (form_of c)) r m in
      names r (get_or (records_of c) r blank) (holds r) (record_is r (omega arith) u))

  named_unbroken : broken7 (form_of c) ≡ false
  unfolding broken7
  named_unbroken =
      le-ltb max_named (length (named (plan_of (form_of c)))) (omega (arith, ap (λ (p : Plan). length (named p)) (read_back c f), f.few_named))

-- ---- all lines

pub accepted : (c : Content) → Fits c → refusal (bytes_of (records_of c)) ≡ 0
accepted c f =
    passed_accepted (form_of c) (passed_four c f, belts_unbroken c f, literals_unbroken c f) (named_unbroken c f)

pub form_accepted : {c : Content} → Fits c → Accepted (bytes_of (records_of c))
form_accepted {c} f = record { unrefused = accepted c f }
