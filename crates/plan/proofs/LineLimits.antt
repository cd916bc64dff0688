-- The published limits hold exactly when no line is broken, line by line in both directions.
--
--   kinds_unbroken, unbroken_kinds      line 3 and the forms of the records; belt_among, literal_among: the form of one kind
--   rising_well, well_rising            line 4's links and rising chains
--   upward, chains_unbroken             line 4's pointers and reached once
--   higher_unbroken, unbroken_higher    line 5
--   names_unbroken, unbroken_names      line 6
--   limits_accepted, accepted_limits    the whole
--
-- Assumes nothing.
use mathlib.Core.Path.{◌≡◌, refl, sym, ◌∙◌, ap, subst}
use mathlib.Core.Logic.{◌⊎◌, inl, inr}
use mathlib.Core.Bool.{Bool, true, false, not, ◌&&◌}
use Prim.Native.Nat.{ℕ, suc, ◌≤◌, ◌<◌}
use mathlib.Core.List.{List, Memᴰ}
use native.Mathlib.Omega.{arith}
use lib.ListN.{length}
use lib.Dec.{eqb, leb}
use borrow.Author.Tests.{eqb-true, le-ltb, leb-true, leb-false, lt-leb}
use Rattle.plan.specs.Bounds.{max_named}
use Rattle.plan.specs.Lists.{mem, upto, count}
use Rattle.plan.specs.Records.{field, kind, junctions, records, row_of, fits, Link, links, chain}
use Rattle.plan.specs.Plan.{Belt, plan_of, named, belt_at}
use Rattle.plan.specs.Refusals.{broken3, broken4, broken5, broken6, broken7, kinds_by, right_kind, literal_fits, misnames, backward, refusal}
use Rattle.plan.specs.Inner.{Passed2, Passed4}
use Rattle.plan.specs.Limits.{Sizes, Header, JunctionForm, BeltForm, RuleForm, LiteralForm, ItemForm, is_belt, is_rule, is_literal, Kinds, Leads, Rising, Names, reached, Limits}
use Rattle.plan.proofs.Lists.{any_none, none_any, in_upto, upto_in, test}
use Rattle.plan.proofs.LineForms.{sized, few, size_fits, header, header_fits, fits_fields, fields_fit, kind_low, kind_high, Item, belts, rules, literals, item_mem, item_range}
use Rattle.plan.proofs.ChainLinks.{Well, Upward, Sorted, Linked, link, targets, in_links, in_links_at}
use Rattle.plan.proofs.LinePassed.{right, wrong_none, no_bad_link, linked}
use Rattle.plan.proofs.ChainReached.{once_reached, reached_once}
use Rattle.plan.proofs.ChainLaws.{Holds, starts, goes_on, of_junction, of_plan, of_rule, hold_item, holder, above, belt_chain_in, belt_reached, leaves_is, belt_in_plan, plan_belt}
use Rattle.plan.proofs.LineLiterals.{fits_names, names_fits, unbroken_fits}
use Rattle.plan.proofs.NamedBelts.{few_named}
use Rattle.plan.proofs.LineAccepted.{accepted_passed, passed_accepted}

-- ---- line 3: the forms of records

module _ (b : List ℕ) (r : ℕ) where
  junction_form : kind b r ≡ 1 → fits b r ≡ true → JunctionForm b r
  unfolding row_of
  junction_form e h = let f = fits_fields b r 1 e h in record { kind_1 = e; zero_2 = f.1; zero_3 = f.2; zero_4 = f.3; zero_5 = f.4 }

  belt_form : kind b r ≡ 2 → fits b r ≡ true → BeltForm b r
  unfolding row_of
  belt_form e h = let f = fits_fields b r 2 e h in record { kind_2 = e; leads_from = f.1.0; leads_to = f.1.1; zero_5 = f.4 }

  rule_form : kind b r ≡ 3 → fits b r ≡ true → RuleForm b r
  unfolding row_of
  rule_form e h = let f = fits_fields b r 3 e h in record { kind_3 = e; zero_3 = f.2; zero_4 = f.3; zero_5 = f.4 }

  literal_form : kind b r ≡ 4 → fits b r ≡ true → LiteralForm b r
  unfolding row_of
  literal_form e h = let f = fits_fields b r 4 e h in record { kind_4 = e; wanted = f.1.1; sort = f.2.1; zero_5 = f.4 }

  junction_fits : JunctionForm b r → fits b r ≡ true
  unfolding row_of
  junction_fits j = fields_fit b r 1 j.kind_1 (tt, j.zero_2, j.zero_3, j.zero_4, j.zero_5)

  belt_fits : BeltForm b r → fits b r ≡ true
  unfolding row_of
  belt_fits e = fields_fit b r 2 e.kind_2 (tt, (e.leads_from, e.leads_to), tt, tt, e.zero_5)

  rule_fits : RuleForm b r → fits b r ≡ true
  unfolding row_of
  rule_fits e = fields_fit b r 3 e.kind_3 (tt, tt, e.zero_3, e.zero_4, e.zero_5)

  literal_fits_lem : LiteralForm b r → fits b r ≡ true
  unfolding row_of
  literal_fits_lem e = fields_fit b r 4 e.kind_4 (tt, (omega arith, e.wanted), (omega arith, e.sort), tt, e.zero_5)

  low_right : r ≤ junctions b → JunctionForm b r → (right_kind b r ≡ true) × (fits b r ≡ true)
  low_right u j = (kind_low b r u ∙ ap (λ (k : ℕ). mem k (kinds_by true)) j.kind_1, junction_fits j)

  -- a record above the junctions, kind by kind: it fits, it is of a kind that may stand there, and what fits has the form of its kind
  item_fits : ItemForm b r → fits b r ≡ true
  item_fits (is_belt e) = belt_fits e
  item_fits (is_rule e) = rule_fits e
  item_fits (is_literal e) = literal_fits_lem e

  item_kind : ItemForm b r → Item (kind b r)
  item_kind (is_belt e) = subst Item (sym e.kind_2) belts
  item_kind (is_rule e) = subst Item (sym e.kind_3) rules
  item_kind (is_literal e) = subst Item (sym e.kind_4) literals

  item_form : (k : ℕ) → Item k → kind b r ≡ k → fits b r ≡ true → ItemForm b r
  item_form _ belts e h = is_belt (belt_form e h)
  item_form _ rules e h = is_rule (rule_form e h)
  item_form _ literals e h = is_literal (literal_form e h)

  high_right : junctions b < r → ItemForm b r → (right_kind b r ≡ true) × (fits b r ≡ true)
  high_right u e = (kind_high b r u ∙ item_mem (item_kind e), item_fits e)

  -- and where its kind is known, it has the form of that kind
  pub belt_among : kind b r ≡ 2 → ItemForm b r → BeltForm b r
  belt_among k (is_belt e) = e
  belt_among k (is_rule e) = absurd (omega (arith, e.kind_3))
  belt_among k (is_literal e) = absurd (omega (arith, e.kind_4))

  pub literal_among : kind b r ≡ 4 → ItemForm b r → LiteralForm b r
  literal_among k (is_belt e) = absurd (omega (arith, e.kind_2))
  literal_among k (is_rule e) = absurd (omega (arith, e.kind_3))
  literal_among k (is_literal e) = e

kinds_unbroken : (b : List ℕ) → Kinds b → broken3 b ≡ false
kinds_unbroken b k = wrong_none b (λ r l u. go r l u (test (leb r (junctions b))))
  where
    go : (r : ℕ) → 1 ≤ r → r < records b → (leb r (junctions b) ≡ true) ⊎ (leb r (junctions b) ≡ false) → (right_kind b r ≡ true) × (fits b r ≡ true)
    go r l u (inl t) = let h = leb-true r (junctions b) t in low_right b r h (k.low r l h)
    go r l u (inr t) = let h = leb-false r (junctions b) t in high_right b r h (k.high r h u)

unbroken_kinds : (b : List ℕ) → Passed4 b → Kinds b
unbroken_kinds b h =
    let w = (linked b h).sorted in
    record {
      low = λ r l u. junction_form b r (w.low r l u) (right b h.1 r l (omega (arith, w.room))).1;
      high = λ r l u. item_form b r (kind b r) (w.high r l u) refl (right b h.1 r (omega arith) u).1;
    }

-- ---- line 4: rising chains

sorted : (b : List ℕ) → Header b → Kinds b → Sorted b
sorted b h k = record {
  room = h.junctions_fit;
  top = h.kind_7;
  low = λ r l u. (k.low r l u).kind_1;
  high = λ r l u. item_kind b r (k.high r l u);
}

-- a chain index leads as the limits say of its holder's kind
rising_leads : {b : List ℕ} {r f k : ℕ} → Sorted b → Rising b → Holds b r f k → Leads b r (field b r f) k
rising_leads w g (starts (of_junction {j} l h)) = g.first_belt j (omega (arith, w.room)) (w.low j l h)
rising_leads w g (starts of_plan) = g.first_rule
rising_leads w g (starts (of_rule {r} o)) = g.first_literal r o.0 o.1
rising_leads w g (goes_on {r} belts o) = g.next_belt r o.0 o.1
rising_leads w g (goes_on {r} rules o) = g.next_rule r o.0 o.1
rising_leads w g (goes_on {r} literals o) = g.next_literal r o.0 o.1

rising_well : (b : List ℕ) → Sorted b → Rising b → (l : Link) → Memᴰ l (links b) → Well b l
rising_well b w g l m = let h = holder w l m in subst (Well b) (sym h.is) (rising_leads w g h.holds h.some)

module _ (b : List ℕ) (w : Linked b) where
  -- field f, which by its kind n leads to kind k
  leads_by : (r n f k : ℕ) → r < records b → kind b r ≡ n → Memᴰ (f, k) (targets b n) → Leads b r (field b r f) k
  leads_by r n f k u e m d = w.well (link r (field b r f) k) (in_links b r (link r (field b r f) k) u (in_links_at b r n f k e m d))

  well_rising : Rising b
  unfolding row_of
  well_rising = record {
    first_rule = leads_by 0 7 3 3 (omega (arith, w.sorted.room)) w.sorted.top (Memᴰ.head refl);
    first_belt = λ r u e. leads_by r 1 1 2 u e (Memᴰ.head refl);
    next_belt = λ r u e. leads_by r 2 1 2 u e (Memᴰ.head refl);
    next_rule = λ r u e. leads_by r 3 1 3 u e (Memᴰ.head refl);
    first_literal = λ r u e. leads_by r 3 2 4 u e (Memᴰ.tail (Memᴰ.head refl));
    next_literal = λ r u e. leads_by r 4 1 4 u e (Memᴰ.head refl);
  }

-- ---- line 4: reached once

module _ (b : List ℕ) (h : Header b) (k : Kinds b) (g : Rising b) where
  -- no link wants a junction
  wants : (l : Link) → Memᴰ l (links b) → 2 ≤ l.want
  wants l m =
      let x = holder (sorted b h k) l m in
      subst (λ (z : Link). 2 ≤ z.want) (sym x.is) (item_range (hold_item x.holds)).0

  upward : Upward b
  upward l m =
      let w = rising_well b (sorted b h k) g l m in
      (w.0, w.1, go (test (leb l.index (junctions b))))
    where
      go : (leb l.index (junctions b) ≡ true) ⊎ (leb l.index (junctions b) ≡ false) → junctions b < l.index
      go (inl t) =
          let w = rising_well b (sorted b h k) g l m in
          absurd (omega (arith, w.0, w.2, wants l m, (k.low l.index (omega (arith, w.0)) (leb-true l.index (junctions b) t)).kind_1))
      go (inr t) = leb-false l.index (junctions b) t

  -- ---- lines 1 to 4

  chains_unbroken : ((r : ℕ) → junctions b < r → r < records b → count (eqb r) (reached b) ≡ 1) → broken4 b ≡ false
  chains_unbroken o = no_bad_link b (rising_well b (sorted b h k) g) (reached_once b h.junctions_fit upward o)

sizes_passed : (b : List ℕ) → Sizes b → Header b → Passed2 b
sizes_passed b s h = (size_fits b (record { least = omega arith; most = omega arith; whole = s.whole }), header_fits b h)

forms_passed : (b : List ℕ) → Limits b → Passed4 b
forms_passed b l =
    (sizes_passed b l.sizes l.header, kinds_unbroken b l.kinds, chains_unbroken b l.header l.kinds l.rising l.once)

-- ---- line 5

abbrev Rise : List ℕ → Type 0
Rise b = (e : Belt) → Memᴰ e (plan_of b).belts → e.leaves < e.leads

higher_unbroken : (b : List ℕ) → Linked b → Rise b → broken5 b ≡ false
unfolding broken5
higher_unbroken b w h =
    none_any (backward b) (upto 1 (suc (junctions b))) (λ j m.
    let i = upto_in 1 (suc (junctions b)) j m in
    let u : j ≤ junctions b = omega (arith, i.1) in
    none_any (λ (e : ℕ). leb (field b e 2) j) (chain b (field b j 1)) (λ e n.
    lt-leb (field b e 2) j
    (subst (λ (s : ℕ). s < field b e 2) (leaves_is w e j i.0 u n) (h (belt_at b e) (belt_in_plan w e (belt_chain_in w j e i.0 u n))))))

unbroken_higher : (b : List ℕ) → Linked b → broken5 b ≡ false → Rise b
unfolding broken5
unbroken_higher b w h x m =
    let y = plan_belt b x m in
    let e = y.0 in
    let r = belt_reached w e y.1 in
    let j = r.0 in
    let f = any_none (backward b) (upto 1 (suc (junctions b))) h (in_upto 1 (suc (junctions b)) j r.1 (omega (arith, r.2))) in
    let k = leb-false (field b e 2) j (any_none (λ (n : ℕ). leb (field b n 2) j) (chain b (field b j 1)) f r.3) in
    subst (λ (z : Belt). z.leaves < z.leads) (sym y.2) (subst (λ (s : ℕ). s < field b e 2) (sym (leaves_is w e j r.1 r.2 r.3)) k)

-- ---- line 6

names_unbroken : (b : List ℕ) → Kinds b → ((l : ℕ) → l < records b → kind b l ≡ 4 → Names b l) → broken6 b ≡ false
unfolding broken6
names_unbroken b k h =
    none_any (misnames b) (upto (suc (junctions b)) (records b)) (λ l m.
    let i = upto_in (suc (junctions b)) (records b) l m in
    go l i.0 i.1 (test (eqb (kind b l) 4)))
  where
    go : (l : ℕ) → junctions b < l → l < records b → (eqb (kind b l) 4 ≡ true) ⊎ (eqb (kind b l) 4 ≡ false) → misnames b l ≡ false
    go l u v (inr t) = ap (λ (x : Bool). x && not (literal_fits b l)) t
    go l u v (inl t) =
        let e = eqb-true (kind b l) 4 t in
        λ i. t i && not (names_fits b l (literal_among b l e (k.high l u v)).sort (h l v e) i)

unbroken_names : (b : List ℕ) → Linked b → broken6 b ≡ false → (l : ℕ) → l < records b → kind b l ≡ 4 → Names b l
unbroken_names b w h l u e = fits_names b l (unbroken_fits b h l (above w literals l (u, e)) u e)

-- ---- the whole

pub limits_accepted : (b : List ℕ) → Limits b → refusal b ≡ 0
unfolding broken7
limits_accepted b l =
    let h = forms_passed b l in
    passed_accepted b (h, higher_unbroken b (linked b h) l.higher, names_unbroken b l.kinds l.literals) (le-ltb max_named (length (named (plan_of b))) l.few_named)

pub accepted_limits : (b : List ℕ) → refusal b ≡ 0 → Limits b
unfolding broken7
accepted_limits b e =
    let h = accepted_passed b e in
    let first = h.0.0 in
    let w = linked b first in
    let top = header b first.0.1 in
    let s = sized b first.0.0 in
    let k = unbroken_kinds b first in
    let g = well_rising b w in
    record {
      sizes = record { whole = s.whole; few = few b first.0.0 };
      header = top;
      kinds = k;
      rising = g;
      once = once_reached b w.sorted.room (upward b top k g) w.once;
      higher = unbroken_higher b w h.0.1;
      literals = unbroken_names b w h.0.2;
      few_named = few_named b h.1;
    }
