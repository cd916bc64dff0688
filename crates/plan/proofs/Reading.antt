-- What the layers above go by: laws of an accepted plan, each stated once. Every law takes `Accepted b` first, except
--   field_low               a field of bytes, of a plan or not, is below 65,536
--   in_limits               bytes that are within the published limits are accepted; that accepted ones are is `limits`
--   in_leaving, leaving_in  a belt of any plan is among those leaving a junction exactly when it leaves it
--   rule_test, literal_test in any bytes, a number passes the test of rules exactly when it is the index of a rule record, and so with
--                           literals; not_rule: no literal passes that of rules
--
-- Chains, step by step; a law `..-end` for the number 0, `..-next` for a record, `..-is` for what a number on a chain is:
--   leaving_from, belts_end, belts_next, first_belt_is, next_belt_is             the belts leaving a junction
--   rules_from_lem, rules_end, rules_next, first_rule_is, next_rule_is               the rules
--   literals_end, literals_next, first_literal_is, next_literal_is               the literals of a rule
--   belt_chain_end, belt_chain_next, rule_chain_end, rule_chain_next, literal_chain_end, literal_chain_next
--                                                                                the indices of their records
--   chain_next, next_is                                                          the same of any kind of record that stands on chains
--   on_belts, on_rules, on_literals                                              each number on such a chain is a record of its kind
-- Counts:
--   plan_sizes              1 to 256 junctions, at most 10 modes
--   records_few, records_more
--                           at most max_records records, of 12 bytes each, and more of them than junctions
--   rules_few               at most 2,048 rules
-- Belts of the plan:
--   belt_in, belt_of_lem        the belts of the plan are the belt records
--   belts_rise              their indices rise
--   belt_index              two belts of one index are equal
--   belt_indexed, index_belt, not_indexed, indexed_is
--                           a number is the index of a belt of the plan exactly when it is that of a belt record
--   belt_ends               a belt leaves a junction and leads to a higher one
--   belt_leaving            a belt is among those leaving one junction, and that is where it leaves
--   on_chain, one_chain     its record stands on the chain of that junction and of no other
--   leaves_on               a belt leaves a junction exactly when it stands on its chain
--   belt_low                its index is above J, below N and below 2,048
--   belt_cost, belts_cost   THE BOUND of a belt's cost, at a record and in the plan
-- Rules and named belts:
--   rule_low, literal_low   the index of a rule record is above J, below N and below 2,048, and so is that of a literal record
--   rule_on_chain, literal_on_chain
--                           every rule record stands on the chain of rules, every literal record on the chain of a rule
--   rule_in_lem, literal_in     every rule record is a rule of the plan, every literal record is a literal of one
--   literal_belt, literal_mode   what a literal of a rule names
--   named_few               at most 48; that they rise, and are exactly the belts in some rule, is in NamedBelts.antt
--                           (named-rises, in-named, named-of), and their places are in NamedPlaces.antt
--
-- Assumes nothing.
use mathlib.Core.Path.{◌≡◌, refl, sym, ◌∙◌, ap, subst}
use mathlib.Core.Logic.{◌↔◌}
use mathlib.Core.Bool.{Bool, true, false, ◌&&◌}
use Prim.Native.Nat.{ℕ, zero, suc, ◌+◌, ◌*◌, ◌≤◌, ◌<◌}
use mathlib.Core.List.{List, [], ◌∷◌, map, Memᴰ}
use native.Mathlib.Omega.{arith}
use lib.ListN.{length, length-map}
use lib.Dec.{eqb, ltb}
use borrow.Author.Tests.{eqb-true, eqb-false, eq-eqb, lt-ltb, ltb-true}
use Rattle.plan.specs.Bounds.{max_junctions, max_modes, max_named, max_records, field_limit, belt_cost_limit}
use Rattle.plan.specs.declared.read.BeltId.{BeltId}
use Rattle.plan.specs.declared.read.ModeId.{ModeId}
use Rattle.plan.specs.declared.read.Literal.{Literal}
use Rattle.plan.specs.declared.read.Literal.TheVariants.{OfBelt, OfMode}
use Rattle.plan.specs.Lists.{mem}
use Rattle.plan.specs.Records.{field, kind, junctions, modes, records, IsKind, chain}
use Rattle.plan.specs.Plan.{Belt, Plan, plan_of, leaves, belt_at, belt_records, literal_by, literal_at, rule_at, indices_of, leaving, named}
use Rattle.plan.specs.Limits.{Limits}
use Rattle.plan.specs.Reading.{Accepted, Bytes, IsBelt, IsRule, IsLiteral, is_rule_at, is_literal_at}
use Rattle.plan.specs.Reading.{first_belt, next_belt, first_rule, next_rule, first_literal, next_literal, belt_chain, rule_chain, literal_chain, belts_from, rules_from, literals_from}
use Rattle.plan.proofs.Lists.{both, and_is, untrue, alike, in_keep, keep_in, in_map, map_in, in_mem, mem_in}
use Rattle.plan.proofs.LineForms.{Item, belts, rules, literals, few, sized}
use Rattle.plan.proofs.ChainLinks.{Linked}
use Rattle.plan.proofs.ListRising.{Rises}
use Rattle.plan.proofs.LinePassed.{linked}
use Rattle.plan.proofs.ChainLaws.{belt_chain_in, goes_on, leads, chain_step, above, chain_end, chain_few, belt_step, rule_step, literal_step, first_belt_lem, next_belt_lem, first_rule_lem, next_rule_lem, first_literal_lem, next_literal_lem, rule_chain_in, literal_chain_in, belt_reached, rule_reached, literal_reached, leaves_is, records_rise, belt_in_plan, plan_belt, leaving_chain}
use Rattle.plan.proofs.NamedBelts.{indices_back}
use Rattle.plan.proofs.LineAccepted.{accepted_passed, accepted_room}
use Rattle.plan.proofs.LineLimits.{belt_among, literal_among, limits_accepted, accepted_limits}

-- ---- the numbers of literals

by_belt : (t v : Bool) (n : ℕ) (e : BeltId) (w : Bool) → OfBelt e w ≡ literal_by t v n → (t ≡ true) × (e.0 ≡ n)
by_belt true v n e w q = let k : e ≡ record { 0 = n } = cc in (refl, ap (λ (x : BeltId). x.0) k)
by_belt false v n e w q = let z : ◌≡◌ {A = ℕ} 0 1 = cc in absurd (omega arith)

by_mode : (t v : Bool) (n : ℕ) (m : ModeId) (w : Bool) → OfMode m w ≡ literal_by t v n → (t ≡ false) × (m.0 ≡ n)
by_mode true v n m w q = let z : ◌≡◌ {A = ℕ} 0 1 = cc in absurd (omega arith)
by_mode false v n m w q = let k : m ≡ record { 0 = n } = cc in (refl, ap (λ (x : ModeId). x.0) k)

-- ---- any bytes

pub field_low : (b : List ℕ) → Bytes b → (i f : ℕ) → field b i f < field_limit
field_low b bytes i f = omega (arith, bytes (12 * i + 2 * f), bytes (12 * i + 2 * f + 1))

pub in_limits : (b : List ℕ) → Limits b → Accepted b
in_limits b h = record { unrefused = limits_accepted b h }

-- ---- tests of rules and of literals

kind_test : (b : List ℕ) (k i : ℕ) → ((ltb i (records b) && eqb (kind b i) k) ≡ true) ↔ IsKind b k i
kind_test b k i = (to, from)
  where
    to : (ltb i (records b) && eqb (kind b i) k) ≡ true → IsKind b k i
    to h = let (l, e) = both (ltb i (records b)) (eqb (kind b i) k) h in (ltb-true i (records b) l, eqb-true (kind b i) k e)

    from : IsKind b k i → (ltb i (records b) && eqb (kind b i) k) ≡ true
    from o = and_is (ltb i (records b)) (eqb (kind b i) k) (lt-ltb i (records b) o.0) (eq-eqb (kind b i) k o.1)

pub rule_test : (b : List ℕ) (r : ℕ) → (is_rule_at b r ≡ true) ↔ IsRule b r
rule_test b = kind_test b 3

pub literal_test : (b : List ℕ) (l : ℕ) → (is_literal_at b l ≡ true) ↔ IsLiteral b l
literal_test b = kind_test b 4

pub not_rule : (b : List ℕ) (l : ℕ) → IsLiteral b l → is_rule_at b l ≡ false
not_rule b l o = untrue (is_rule_at b l) (λ t. omega (arith, o.1, ((rule_test b l).0 t).1))

-- ---- the belts leaving a junction

pub in_leaving : (p : Plan) (j : ℕ) (x : Belt) → Memᴰ x p.belts → x.leaves ≡ j → Memᴰ x (leaving p j)
in_leaving p j x m e = in_keep (λ (y : Belt). eqb y.leaves j) p.belts m (eq-eqb x.leaves j e)

pub leaving_in : (p : Plan) (j : ℕ) (x : Belt) → Memᴰ x (leaving p j) → Memᴰ x p.belts × (x.leaves ≡ j)
leaving_in p j x m = let (i, e) = keep_in (λ (y : Belt). eqb y.leaves j) p.belts m in (i, eqb-true x.leaves j e)

module _ {b : List ℕ} (ok : Accepted b) where
  -- the links of the plan are right
  links : Linked b
  links = linked b (accepted_passed b ok.unrefused).0.0

  pub limits : Limits b
  limits = accepted_limits b ok.unrefused

  pub plan_sizes : (1 ≤ (plan_of b).junctions) × ((plan_of b).junctions ≤ max_junctions) × ((plan_of b).modes ≤ max_modes)
  unfolding plan_of
  plan_sizes = let top = limits.header in (top.some_junctions, top.few_junctions, top.few_modes)

  pub records_few : (records b ≤ max_records) × (length b ≡ 12 * records b)
  records_few = let one = (accepted_passed b ok.unrefused).0.0.0.0 in (few b one, (sized b one).whole)

  pub records_more : (plan_of b).junctions < records b
  unfolding plan_of
  records_more = accepted_room ok

  -- where a belt, a rule or a literal stands
  item_low : {k : ℕ} → Item k → (i : ℕ) → IsKind b k i → ((plan_of b).junctions < i) × (i < records b) × (i < max_records)
  unfolding plan_of
  item_low t i o = (above links t i o, o.0, omega (arith, o.0, limits.sizes.few))

  -- ---- chains

  -- of any kind of record that stands on chains
  pub chain_next : {k : ℕ} → Item k → (i : ℕ) → IsKind b k i → chain b i ≡ i ∷ chain b (field b i 1)
  chain_next = chain_step links

  pub next_is : {k : ℕ} → Item k → (i : ℕ) → IsKind b k i → (field b i 1 ≡ 0 → ⊥) → IsKind b k (field b i 1)
  next_is t i o some = (leads links (goes_on t o) some).1

  pub belt_chain_end : belt_chain b 0 ≡ []
  belt_chain_end = chain_end b

  pub belt_chain_next : (e : ℕ) → IsBelt b e → belt_chain b e ≡ e ∷ belt_chain b (next_belt b e)
  belt_chain_next = belt_step links

  pub rule_chain_end : rule_chain b 0 ≡ []
  rule_chain_end = chain_end b

  pub rule_chain_next : (r : ℕ) → IsRule b r → rule_chain b r ≡ r ∷ rule_chain b (next_rule b r)
  rule_chain_next = rule_step links

  pub literal_chain_end : literal_chain b 0 ≡ []
  literal_chain_end = chain_end b

  pub literal_chain_next : (l : ℕ) → IsLiteral b l → literal_chain b l ≡ l ∷ literal_chain b (next_literal b l)
  literal_chain_next = literal_step links

  pub leaving_from : (j : ℕ) → 1 ≤ j → j ≤ (plan_of b).junctions → leaving (plan_of b) j ≡ belts_from b (first_belt b j)
  unfolding plan_of
  leaving_from = leaving_chain links

  pub belts_end : belts_from b 0 ≡ []
  belts_end = ap (map (belt_at b)) belt_chain_end

  pub belts_next : (e : ℕ) → IsBelt b e → belts_from b e ≡ belt_at b e ∷ belts_from b (next_belt b e)
  belts_next e o = ap (map (belt_at b)) (belt_chain_next e o)

  pub first_belt_is : (j : ℕ) → 1 ≤ j → j ≤ (plan_of b).junctions → (first_belt b j ≡ 0 → ⊥) → IsBelt b (first_belt b j)
  unfolding plan_of
  first_belt_is = first_belt_lem links

  pub next_belt_is : (e : ℕ) → IsBelt b e → (next_belt b e ≡ 0 → ⊥) → (e < next_belt b e) × IsBelt b (next_belt b e)
  next_belt_is = next_belt_lem links

  pub rules_from_lem : (plan_of b).rules ≡ rules_from b (first_rule b)
  unfolding plan_of
  rules_from_lem = refl

  pub rules_end : rules_from b 0 ≡ []
  rules_end = ap (map (rule_at b)) rule_chain_end

  pub rules_next : (r : ℕ) → IsRule b r → rules_from b r ≡ literals_from b (first_literal b r) ∷ rules_from b (next_rule b r)
  rules_next r o = ap (map (rule_at b)) (rule_chain_next r o)

  pub first_rule_is : (first_rule b ≡ 0 → ⊥) → IsRule b (first_rule b)
  first_rule_is = first_rule_lem links

  pub next_rule_is : (r : ℕ) → IsRule b r → (next_rule b r ≡ 0 → ⊥) → (r < next_rule b r) × IsRule b (next_rule b r)
  next_rule_is = next_rule_lem links

  pub literals_end : literals_from b 0 ≡ []
  literals_end = ap (map (literal_at b)) literal_chain_end

  pub literals_next : (l : ℕ) → IsLiteral b l → literals_from b l ≡ literal_at b l ∷ literals_from b (next_literal b l)
  literals_next l o = ap (map (literal_at b)) (literal_chain_next l o)

  pub first_literal_is : (r : ℕ) → IsRule b r → (first_literal b r ≡ 0 → ⊥) → IsLiteral b (first_literal b r)
  first_literal_is = first_literal_lem links

  pub next_literal_is : (l : ℕ) → IsLiteral b l → (next_literal b l ≡ 0 → ⊥) → (l < next_literal b l) × IsLiteral b (next_literal b l)
  next_literal_is = next_literal_lem links

  -- ---- what stands on a chain

  pub on_belts : (j : ℕ) → 1 ≤ j → j ≤ (plan_of b).junctions → (e : ℕ) → Memᴰ e (belt_chain b (first_belt b j)) → IsBelt b e
  unfolding plan_of
  on_belts j l u e = belt_chain_in links j e l u

  pub on_rules : (r : ℕ) → Memᴰ r (rule_chain b (first_rule b)) → IsRule b r
  on_rules = rule_chain_in links

  pub on_literals : (r : ℕ) → IsRule b r → (l : ℕ) → Memᴰ l (literal_chain b (first_literal b r)) → IsLiteral b l
  on_literals r o l = literal_chain_in links r l o

  -- ---- belts of the plan

  pub belt_in : (e : ℕ) → IsBelt b e → Memᴰ (belt_at b e) (plan_of b).belts
  belt_in = belt_in_plan links

  pub belt_of_lem : (x : Belt) → Memᴰ x (plan_of b).belts → IsBelt b x.index × (x ≡ belt_at b x.index)
  belt_of_lem x m =
      let (e, o, q) = plan_belt b x m in
      let n : x.index ≡ e = ap (λ (y : Belt). y.index) q in
      (subst (IsBelt b) (sym n) o, q ∙ ap (belt_at b) (sym n))

  pub belt_index : (x y : Belt) → Memᴰ x (plan_of b).belts → Memᴰ y (plan_of b).belts → x.index ≡ y.index → x ≡ y
  belt_index x y m n e = (belt_of_lem x m).1 ∙ ap (belt_at b) e ∙ sym (belt_of_lem y n).1

  pub belt_indexed : (e : ℕ) → IsBelt b e → mem e (indices_of (plan_of b).belts) ≡ true
  belt_indexed e o = in_mem (indices_of (plan_of b).belts) (in_map (λ (x : Belt). x.index) (belt_in e o))

  pub index_belt : (e : ℕ) → mem e (indices_of (plan_of b).belts) ≡ true → IsBelt b e
  index_belt e h =
      let k = map_in (λ (x : Belt). x.index) (plan_of b).belts (mem_in (indices_of (plan_of b).belts) h) in
      subst (IsBelt b) (sym k.2) (belt_of_lem k.0 k.1).0

  pub not_indexed : (e : ℕ) → (IsBelt b e → ⊥) → mem e (indices_of (plan_of b).belts) ≡ false
  not_indexed e none = untrue (mem e (indices_of (plan_of b).belts)) (λ t. none (index_belt e t))

  pub indexed_is : (e : ℕ) → e < records b → mem e (indices_of (plan_of b).belts) ≡ eqb (kind b e) 2
  indexed_is e h =
      alike (mem e (indices_of (plan_of b).belts)) (eqb (kind b e) 2)
      (λ t. eq-eqb (kind b e) 2 (index_belt e t).1) (λ t. belt_indexed e (h, eqb-true (kind b e) 2 t))

  pub belts_rise : Rises (map (λ (x : Belt). x.index) (plan_of b).belts)
  unfolding plan_of
  belts_rise = subst Rises (sym (indices_back b (belt_records b))) (records_rise b)

  pub on_chain : (e : ℕ) → IsBelt b e → (1 ≤ leaves b e) × (leaves b e ≤ (plan_of b).junctions) × Memᴰ e (belt_chain b (first_belt b (leaves b e)))
  unfolding plan_of
  on_chain e o =
      let (j, l, u, m) = belt_reached links e o in
      let q = sym (leaves_is links e j l u m) in
      (subst (λ (i : ℕ). 1 ≤ i) q l, subst (λ (i : ℕ). i ≤ junctions b) q u, subst (λ (i : ℕ). Memᴰ e (belt_chain b (first_belt b i))) q m)

  pub one_chain : (e j : ℕ) → 1 ≤ j → j ≤ (plan_of b).junctions → Memᴰ e (belt_chain b (first_belt b j)) → j ≡ leaves b e
  unfolding plan_of
  one_chain e j l u m = sym (leaves_is links e j l u m)

  pub leaves_on : (e j : ℕ) → IsBelt b e → 1 ≤ j → j ≤ (plan_of b).junctions → mem e (belt_chain b (first_belt b j)) ≡ eqb (leaves b e) j
  leaves_on e j o l u =
      alike (mem e (belt_chain b (first_belt b j))) (eqb (leaves b e) j)
      (λ m. eq-eqb (leaves b e) j (sym (one_chain e j l u (mem_in (belt_chain b (first_belt b j)) m))))
      (λ q. in_mem (belt_chain b (first_belt b j)) (subst (λ (i : ℕ). Memᴰ e (belt_chain b (first_belt b i))) (eqb-true (leaves b e) j q) (on_chain e o).2))

  pub belt_ends : (x : Belt) → Memᴰ x (plan_of b).belts → (1 ≤ x.leaves) × (x.leaves < x.leads) × (x.leads ≤ (plan_of b).junctions)
  unfolding plan_of
  belt_ends x m =
      let all = limits in
      let (o, q) = belt_of_lem x m in
      let l : 1 ≤ x.leaves = subst (λ (y : Belt). 1 ≤ y.leaves) (sym q) (on_chain x.index o).0 in
      let form = belt_among b x.index o.1 (all.kinds.high x.index (above links belts x.index o) o.0) in
      (l, all.higher x m, subst (λ (y : Belt). y.leads ≤ junctions b) (sym q) form.leads_to)

  pub belt_leaving : (x : Belt) → Memᴰ x (plan_of b).belts → Memᴰ x (leaving (plan_of b) x.leaves)
  belt_leaving x m = in_leaving (plan_of b) x.leaves x m refl

  pub belt_low : (e : ℕ) → IsBelt b e → ((plan_of b).junctions < e) × (e < records b) × (e < max_records)
  belt_low = item_low belts

  pub belt_cost : Bytes b → (e : ℕ) → (belt_at b e).cost < belt_cost_limit
  belt_cost bytes e = omega (arith, field_low b bytes e 3, field_low b bytes e 4)

  pub belts_cost : Bytes b → (x : Belt) → Memᴰ x (plan_of b).belts → x.cost < belt_cost_limit
  belts_cost bytes x m = subst (λ (y : Belt). y.cost < belt_cost_limit) (sym (belt_of_lem x m).1) (belt_cost bytes x.index)

  -- ---- rules

  pub rule_low : (r : ℕ) → IsRule b r → ((plan_of b).junctions < r) × (r < records b) × (r < max_records)
  rule_low = item_low rules

  pub literal_low : (l : ℕ) → IsLiteral b l → ((plan_of b).junctions < l) × (l < records b) × (l < max_records)
  literal_low = item_low literals

  pub rules_few : length (plan_of b).rules ≤ max_records
  unfolding plan_of
  rules_few = omega (arith, length-map (rule_chain b (first_rule b)) (rule_at b), chain_few b (first_rule b), limits.sizes.few)

  pub rule_on_chain : (r : ℕ) → IsRule b r → Memᴰ r (rule_chain b (first_rule b))
  rule_on_chain = rule_reached links

  pub literal_on_chain : (l : ℕ) → IsLiteral b l → (r : ℕ) × IsRule b r × Memᴰ l (literal_chain b (first_literal b r))
  literal_on_chain = literal_reached links

  pub rule_in_lem : (r : ℕ) → IsRule b r → Memᴰ (rule_at b r) (plan_of b).rules
  rule_in_lem r o = subst (Memᴰ (rule_at b r)) (sym rules_from_lem) (in_map (rule_at b) (rule_on_chain r o))

  pub literal_in : (l : ℕ) → IsLiteral b l → (rule : List Literal) × Memᴰ rule (plan_of b).rules × Memᴰ (literal_at b l) rule
  literal_in l o = let (r, i, k) = literal_on_chain l o in (rule_at b r, rule_in_lem r i, in_map (literal_at b) k)

  -- a literal of a rule, at its record
  literal_at_lem : (rule : List Literal) → Memᴰ rule (plan_of b).rules → (x : Literal) → Memᴰ x rule → (l : ℕ) × IsLiteral b l × (x ≡ literal_at b l)
  unfolding plan_of
  literal_at_lem rule m x k =
      let (r, n, q) = map_in (rule_at b) (rule_chain b (first_rule b)) m in
      let (l, i, s) = map_in (literal_at b) (literal_chain b (first_literal b r)) (subst (Memᴰ x) q k) in
      (l, literal_chain_in links r l (rule_chain_in links r n) i, s)

  pub literal_belt : (rule : List Literal) → Memᴰ rule (plan_of b).rules → (e : BeltId) (wanted : Bool) → Memᴰ (OfBelt e wanted) rule → IsBelt b e.0
  literal_belt rule m e wanted k =
      let (l, o, q) = literal_at_lem rule m (OfBelt e wanted) k in
      let (t, n) = by_belt (eqb (field b l 3) 0) (eqb (field b l 2) 1) (field b l 4) e wanted q in
      subst (IsBelt b) (sym n) ((limits.literals l o.0 o.1).belt (eqb-true (field b l 3) 0 t))

  pub literal_mode : (rule : List Literal) → Memᴰ rule (plan_of b).rules → (m : ModeId) (wanted : Bool) → Memᴰ (OfMode m wanted) rule → (1 ≤ m.0) × (m.0 ≤ (plan_of b).modes)
  unfolding plan_of
  literal_mode rule i m wanted k =
      let all = limits in
      let (l, o, q) = literal_at_lem rule i (OfMode m wanted) k in
      let (t, n) = by_mode (eqb (field b l 3) 0) (eqb (field b l 2) 1) (field b l 4) m wanted q in
      let form = literal_among b l o.1 (all.kinds.high l (above links literals l o) o.0) in
      let one = one_of (field b l 3) form.sort (eqb-false (field b l 3) 0 t) in
      subst (λ (x : ℕ). (1 ≤ x) × (x ≤ modes b)) (sym n) ((all.literals l o.0 o.1).mode one)
    where
      one_of : (n : ℕ) → n ≤ 1 → (n ≡ 0 → ⊥) → n ≡ 1
      one_of zero u d = absurd (d refl)
      one_of (suc n) u d = omega arith

  pub named_few : length (named (plan_of b)) ≤ max_named
  named_few = limits.few_named
