-- Chains of a plan whose links are right (`Linked b`): one law serves belts, rules and literals wherever it can.
--
--   Start b r f k        field f of record r starts a chain of records of kind k
--   Holds b r f k        it starts one or goes on with one; holder: a record that holds a link
--   above                items stand above the junctions
--   leads                a chain index is zero or leads to a larger index, of the right kind
--   chain_end, chain_step
--                        a chain is its first record and the chain from the next one on
--   chain_few            it has no more records than the plan
--   chain_in, chain_rises
--                        the kind of what stands on a chain, and that the chain rises
--   reached              every item stands on a chain
--   one_junction         a belt stands on the chain of one junction only
--   leaves_is            `leaves` finds that junction
--   record_belt, belt_record, belt_in_plan, plan_belt, records_rise
--                        the belt records are the belts of the plan
--   leaving_chain        the belts of the plan that leave a junction are those of its chain
--
-- belt_step, first_rule_lem, next_literal_lem and so on say the same of one kind. Assumes nothing.
use mathlib.Core.Path.{◌≡◌, refl, sym, ◌∙◌, ap, subst}
use mathlib.Core.Logic.{◌⊎◌, inl, inr}
use mathlib.Core.Bool.{Bool, true, false}
use Prim.Native.Nat.{ℕ, zero, suc, ◌≤◌, ◌<◌}
use mathlib.Core.List.Memᴰ
use mathlib.Core.List.{List, [], ◌∷◌, map, Memᴰ}
use native.Mathlib.Omega.{arith}
use lib.ListN.{length}
use lib.Dec.{eqb, leb}
use borrow.Author.Tests.{eqb-true, eq-eqb, leb-true, leb-false}
use Rattle.plan.specs.Lists.{keep, mem, upto}
use Rattle.plan.specs.Records.{field, kind, junctions, records, IsKind, row_of, Link, links_at, links, chain_of, chain}
use Rattle.plan.specs.Plan.{Belt, first_in, leaves, belt_at, belt_records, plan_of, leaving}
use Rattle.plan.proofs.Lists.{test, each, in_keep, keep_in, in_map, map_in, in_upto, upto_in, in_mem, mem_in, count_some, count_one, never, keep_map}
use Rattle.plan.proofs.LineForms.{Item, belts, rules, literals, item_range}
use Rattle.plan.proofs.ChainLinks.{targets, link, in_links_at, links_at_in, in_links, links_in, Sorted, Linked}
use Rattle.plan.proofs.ListRising.{Rises, upto_rises, keep_rises, rises_equal, From, on, from, from_in, from_rises, from_head, from_next, from_cases, from_once}

-- ---- who holds a chain index

-- field f of record r starts a chain of records of kind k
pub data Start (b : List ℕ) : ℕ → ℕ → ℕ → Type 0 where
  of_junction : {j : ℕ} → 1 ≤ j → j ≤ junctions b → Start b j 1 2
  of_plan : Start b 0 3 3
  of_rule : {r : ℕ} → IsKind b 3 r → Start b r 2 4

-- field f of record r starts such a chain or goes on with it
pub data Holds (b : List ℕ) : ℕ → ℕ → ℕ → Type 0 where
  starts : {r f k : ℕ} → Start b r f k → Holds b r f k
  goes_on : {r k : ℕ} → Item k → IsKind b k r → Holds b r 1 k

-- what a chain is started with, and what it goes on with, are items
start_item : {b : List ℕ} {r f k : ℕ} → Start b r f k → Item k
start_item (of_junction l h) = belts
start_item of_plan = rules
start_item (of_rule o) = literals

pub hold_item : {b : List ℕ} {r f k : ℕ} → Holds b r f k → Item k
hold_item (starts s) = start_item s
hold_item (goes_on t o) = t

-- items stand above the junctions
pub above : {b : List ℕ} {k : ℕ} → Linked b → Item k → (i : ℕ) → IsKind b k i → junctions b < i
above {b} {k} w t i o = go i (test (leb i (junctions b))) o.1
  where
    go : (j : ℕ) → (leb j (junctions b) ≡ true) ⊎ (leb j (junctions b) ≡ false) → kind b j ≡ k → junctions b < j
    go zero c e = absurd ((item_range t).1 (sym e ∙ w.sorted.top))
    go (suc j) (inl c) e = absurd (omega (arith, w.sorted.low (suc j) (omega arith) (leb-true (suc j) (junctions b) c), (item_range t).0))
    go (suc j) (inr c) e = leb-false (suc j) (junctions b) c

-- a record that starts a chain is not of the chain's kind
apart : {b : List ℕ} {r f k : ℕ} → Linked b → Start b r f k → kind b r ≡ k → ⊥
apart w (of_junction {j} l h) e = omega (arith, w.sorted.low j l h)
apart w of_plan e = omega (arith, w.sorted.top)
apart w (of_rule o) e = omega (arith, o.1)

-- what a record holds is among the links of the plan: its field is a chain field of its kind
held : {b : List ℕ} {r f k : ℕ} → Sorted b → Holds b r f k → (field b r f ≡ 0 → ⊥) → Memᴰ (link r (field b r f) k) (links b)
unfolding row_of
held {b} {r} {f} {k} w h d = go h d
  where
    among : (r n f k : ℕ) → IsKind b n r → Memᴰ (f, k) (targets b n) → (field b r f ≡ 0 → ⊥) → Memᴰ (link r (field b r f) k) (links b)
    among r n f k o m d = in_links b r (link r (field b r f) k) o.0 (in_links_at b r n f k o.1 m d)

    go : {r f k : ℕ} → Holds b r f k → (field b r f ≡ 0 → ⊥) → Memᴰ (link r (field b r f) k) (links b)
    go (starts (of_junction {j} l h)) = among j 1 1 2 (omega (arith, w.room), w.low j l h) (Memᴰ.head refl)
    go (starts of_plan) = among 0 7 3 3 (omega (arith, w.room), w.top) (Memᴰ.head refl)
    go (starts (of_rule {r} o)) = among r 3 2 4 o (Memᴰ.tail (Memᴰ.head refl))
    go (goes_on {r} belts o) = among r 2 1 2 o (Memᴰ.head refl)
    go (goes_on {r} rules o) = among r 3 1 3 o (Memᴰ.head refl)
    go (goes_on {r} literals o) = among r 4 1 4 o (Memᴰ.head refl)

-- and it leads to a larger index, of the right kind
pub leads : {b : List ℕ} {r f k : ℕ} → Linked b → Holds b r f k → (field b r f ≡ 0 → ⊥) → (r < field b r f) × IsKind b k (field b r f)
leads {b} {r} {f} {k} w h d = let x = w.well (link r (field b r f) k) (held w.sorted h d) in (x.0, (x.1, x.2))

-- each link of the plan is held by a record, in a field that is not 0
pub record Held (b : List ℕ) (l : Link) : Type 0 where
  pub at : ℕ
  pub field_of : ℕ
  pub want : ℕ
  pub holds : Holds b at field_of want
  pub is : l ≡ link at (field b at field_of) want
  pub some : field b at field_of ≡ 0 → ⊥

pub holder : {b : List ℕ} → Sorted b → (l : Link) → Memᴰ l (links b) → Held b l
unfolding row_of
holder {b} w l m = let x = links_in b l m in at x.0 x.1 x.2
  where
    -- what the chain fields of record r are
    By : ℕ → ℕ × ℕ → Type 0
    By r t = Holds b r t.0 t.1

    none : (r : ℕ) (t : ℕ × ℕ) → Memᴰ t [] → By r t
    none r t m = absurd (Memᴰ.not-nil m)

    high : (r k : ℕ) → Item k → IsKind b k r → (t : ℕ × ℕ) → Memᴰ t (targets b k) → By r t
    high r _ belts o = each (By r) (goes_on belts o) (none r)
    high r _ rules o = each (By r) (goes_on rules o) (each (By r) (starts (of_rule o)) (none r))
    high r _ literals o = each (By r) (goes_on literals o) (none r)

    by : (r k : ℕ) → kind b r ≡ k → ((t : ℕ × ℕ) → Memᴰ t (targets b k) → By r t) → Memᴰ l (links_at b r) → Held b l
    by r k e f m =
        let x = links_at_in b r k l e m in
        record { at = r; field_of = x.0.0; want = x.0.1; holds = f x.0 x.1; is = x.2; some = x.3 }

    above_0 : (r : ℕ) → 1 ≤ r → r < records b → Memᴰ l (links_at b r) → (leb r (junctions b) ≡ true) ⊎ (leb r (junctions b) ≡ false) → Held b l
    above_0 r p c m (inl t) =
        let h = leb-true r (junctions b) t in
        by r 1 (w.low r p h) (each (By r) (starts (of_junction p h)) (none r)) m
    above_0 r p c m (inr t) = by r (kind b r) refl (high r (kind b r) (w.high r (leb-false r (junctions b) t) c) (c, refl)) m

    at : (r : ℕ) → r < records b → Memᴰ l (links_at b r) → Held b l
    at zero c m = by 0 7 w.top (each (By 0) (starts of_plan) (none 0)) m
    at (suc r) c m = above_0 (suc r) (omega arith) c m (test (leb (suc r) (junctions b)))

-- two holders of one index are one
one_holder : {b : List ℕ} {r f s g k : ℕ} → Linked b → Holds b r f k → Holds b s g k → (e : ℕ) → IsKind b k e → field b r f ≡ e → field b s g ≡ e → r ≡ s
one_holder {b} {r} {f} {s} {g} {k} w h h' e o p q =
    let up = above w (hold_item h) e o in
    let m = held w.sorted h (λ z. omega (arith, up)) in
    let m' = held w.sorted h' (λ z. omega (arith, up)) in
    ap (λ (l : Link). l.holder) (count_one (λ (l : Link). eqb l.index e) (links b) (w.once e up o.0) m (eq-eqb (field b r f) e p) m' (eq-eqb (field b s g) e q))

-- ---- a chain and its steps

-- zero ends a chain
pub chain_end : (b : List ℕ) → chain b 0 ≡ []
chain_end b = go (records b)
  where
    go : (n : ℕ) → chain_of (λ (r : ℕ). field b r 1) n 0 ≡ []
    go zero = refl
    go (suc n) = refl

-- a chain has no more records than the plan
pub chain_few : (b : List ℕ) (i : ℕ) → length (chain b i) ≤ records b
chain_few b = go (records b)
  where
    go : (n i : ℕ) → length (chain_of (λ (r : ℕ). field b r 1) n i) ≤ n
    go zero i = omega arith
    go (suc n) zero = omega arith
    go (suc n) (suc i) = omega (arith, go n (field b (suc i) 1))

-- xs is the whole chain of records of kind k from i on
abbrev pub Chained : List ℕ → ℕ → ℕ → List ℕ → Type 0
Chained b k i xs = From (λ (r : ℕ). field b r 1) (IsKind b k) i xs

-- from a record of kind k on, or from zero, `chain` gives it
chained : {b : List ℕ} {k : ℕ} → Linked b → Item k → (i : ℕ) → ((i ≡ 0 → ⊥) → IsKind b k i) → Chained b k i (chain b i)
chained {b} {k} w t i h =
    from (λ (r : ℕ). field b r 1) (records b) (IsKind b k) (λ r o. o.0) (λ r o d. leads w (goes_on t o) d) (records b) i (λ d. (omega arith, h d))

-- the chain that a record starts
pub chained_at : {b : List ℕ} {r f k : ℕ} → Linked b → Start b r f k → Chained b k (field b r f) (chain b (field b r f))
chained_at {b} {r} {f} w s = chained w (start_item s) (field b r f) (λ d. (leads w (starts s) d).1)

-- an item comes first on its own chain, and the chain from the next one on follows
pub chain_step : {b : List ℕ} {k : ℕ} → Linked b → Item k → (i : ℕ) → IsKind b k i → chain b i ≡ i ∷ chain b (field b i 1)
chain_step {b} {k} w t i o =
    from_once (chained w t i (λ d. o))
    (on (omega (arith, above w t i o)) o (λ d. (leads w (goes_on t o) d).0) (chained w t (field b i 1) (λ d. (leads w (goes_on t o) d).1)))

-- ---- two laws of lists

-- the first that passes is the only one
first_in_is : (f : ℕ → Bool) (xs : List ℕ) (j : ℕ) → Memᴰ j xs → f j ≡ true → ((i : ℕ) → Memᴰ i xs → f i ≡ true → i ≡ j) → first_in f xs ≡ j
first_in_is f [] j m t only = absurd (Memᴰ.not-nil m)
first_in_is f (x ∷ xs) j m t only = go (f x) refl (Memᴰ.cases_cons m) (λ k. first_in_is f xs j k t (λ i n. only i (Memᴰ.tail n)))
  where
    go : (c : Bool) → f x ≡ c → (j ≡ x) ⊎ Memᴰ j xs → (Memᴰ j xs → first_in f xs ≡ j) → elim c [ true ↦ x | false ↦ first_in f xs ] ≡ j
    go true e k later = only x (Memᴰ.head refl) e
    go false e (inl q) later = absurd (never (ap f (sym q) ∙ t) e)
    go false e (inr k) later = later k

-- ---- the laws, of belts, rules and literals

-- e stands on a chain of records of kind k
abbrev pub OnChain : List ℕ → ℕ → ℕ → Type 0
OnChain b k e = (r f : ℕ) × Start b r f k × Memᴰ e (chain b (field b r f))

-- ---- the belt records

pub record_belt : (b : List ℕ) (e : ℕ) → Memᴰ e (belt_records b) → IsKind b 2 e
record_belt b e m =
    let k = keep_in (λ (r : ℕ). eqb (kind b r) 2) (upto (suc (junctions b)) (records b)) m in
    ((upto_in (suc (junctions b)) (records b) e k.0).1, eqb-true (kind b e) 2 k.1)

pub belt_record : {b : List ℕ} → Linked b → (e : ℕ) → IsKind b 2 e → Memᴰ e (belt_records b)
belt_record {b} w e o =
    in_keep (λ (r : ℕ). eqb (kind b r) 2) (upto (suc (junctions b)) (records b))
    (in_upto (suc (junctions b)) (records b) e (above w belts e o) o.0) (eq-eqb (kind b e) 2 o.1)

pub records_rise : (b : List ℕ) → Rises (belt_records b)
records_rise b = keep_rises (λ (r : ℕ). eqb (kind b r) 2) (upto_rises (suc (junctions b)) (records b))

-- a belt record is a belt of the plan, and a belt of the plan is that of its record
pub belt_in_plan : {b : List ℕ} → Linked b → (e : ℕ) → IsKind b 2 e → Memᴰ (belt_at b e) (plan_of b).belts
unfolding plan_of
belt_in_plan {b} w e o = in_map (belt_at b) (belt_record w e o)

pub plan_belt : (b : List ℕ) (x : Belt) → Memᴰ x (plan_of b).belts → (e : ℕ) × IsKind b 2 e × (x ≡ belt_at b e)
unfolding plan_of
plan_belt b x m = let (e, n, q) = map_in (belt_at b) (belt_records b) m in (e, record_belt b e n, q)

module _ {b : List ℕ} (w : Linked b) where
  pub belt_step : (i : ℕ) → IsKind b 2 i → chain b i ≡ i ∷ chain b (field b i 1)
  belt_step = chain_step w belts

  pub rule_step : (i : ℕ) → IsKind b 3 i → chain b i ≡ i ∷ chain b (field b i 1)
  rule_step = chain_step w rules

  pub literal_step : (i : ℕ) → IsKind b 4 i → chain b i ≡ i ∷ chain b (field b i 1)
  literal_step = chain_step w literals

  -- ---- where chain indices lead

  pub first_rule_lem : (field b 0 3 ≡ 0 → ⊥) → IsKind b 3 (field b 0 3)
  first_rule_lem d = (leads w (starts of_plan) d).1

  pub first_belt_lem : (j : ℕ) → 1 ≤ j → j ≤ junctions b → (field b j 1 ≡ 0 → ⊥) → IsKind b 2 (field b j 1)
  first_belt_lem j l h d = (leads w (starts (of_junction l h)) d).1

  pub first_literal_lem : (r : ℕ) → IsKind b 3 r → (field b r 2 ≡ 0 → ⊥) → IsKind b 4 (field b r 2)
  first_literal_lem r o d = (leads w (starts (of_rule o)) d).1

  pub next_belt_lem : (i : ℕ) → IsKind b 2 i → (field b i 1 ≡ 0 → ⊥) → (i < field b i 1) × IsKind b 2 (field b i 1)
  next_belt_lem i o = leads w (goes_on belts o)

  pub next_rule_lem : (i : ℕ) → IsKind b 3 i → (field b i 1 ≡ 0 → ⊥) → (i < field b i 1) × IsKind b 3 (field b i 1)
  next_rule_lem i o = leads w (goes_on rules o)

  pub next_literal_lem : (i : ℕ) → IsKind b 4 i → (field b i 1 ≡ 0 → ⊥) → (i < field b i 1) × IsKind b 4 (field b i 1)
  next_literal_lem i o = leads w (goes_on literals o)

  -- ---- what stands on a chain

  pub chain_in : {r f k : ℕ} → Start b r f k → (e : ℕ) → Memᴰ e (chain b (field b r f)) → IsKind b k e
  chain_in s e m = (from_in (chained_at w s) m).1

  pub belt_chain_in : (j e : ℕ) → 1 ≤ j → j ≤ junctions b → Memᴰ e (chain b (field b j 1)) → IsKind b 2 e
  belt_chain_in j e l h = chain_in (of_junction l h) e

  pub rule_chain_in : (e : ℕ) → Memᴰ e (chain b (field b 0 3)) → IsKind b 3 e
  rule_chain_in = chain_in of_plan

  pub literal_chain_in : (r e : ℕ) → IsKind b 3 r → Memᴰ e (chain b (field b r 2)) → IsKind b 4 e
  literal_chain_in r e o = chain_in (of_rule o) e

  pub chain_rises : {r f k : ℕ} → Start b r f k → Rises (chain b (field b r f))
  chain_rises s = from_rises (chained_at w s)

  -- ---- every item stands on a chain

  -- by recursion on a bound: the one index that leads to e is held by the start of a chain, or by an item that is reached
  reached_below : {k : ℕ} → Item k → (B e : ℕ) → e < B → IsKind b k e → OnChain b k e
  reached_below t zero e l o = absurd (omega arith)
  reached_below {k} t (suc B) e l o = go (count_some (λ (l : Link). eqb l.index e) (links b) (omega (arith, w.once e up o.0))) (reached_below t B)
    where
      up : junctions b < e
      up = above w t e o

      Below : Type 0
      Below = (x : ℕ) → x < B → IsKind b k x → OnChain b k x

      by : {r f : ℕ} → Holds b r f k → field b r f ≡ e → Below → OnChain b k e
      by (starts {r} {f} s) q below = (r, f, s, Memᴰ.cast (sym q) (from_head (chained_at w s) (λ z. omega (arith, up))))
      by (goes_on {r} t o) q below =
          let d : field b r 1 ≡ 0 → ⊥ = λ z. omega (arith, up) in
          let x = below r (omega (arith, (leads w (goes_on t o) d).0)) o in
          (x.0, x.1, x.2, Memᴰ.cast (sym q) (from_next (chained_at w x.2) x.3 d))

      go : (l : Link) × Memᴰ l (links b) × (eqb l.index e ≡ true) → Below → OnChain b k e
      go x below =
          let h = holder w.sorted x.0 x.1 in
          let q : field b h.at h.field_of ≡ e = ap (λ (l : Link). l.index) (sym h.is) ∙ eqb-true x.0.index e x.2 in
          let same : h.want ≡ k = sym (leads w h.holds h.some).1.1 ∙ ap (kind b) q ∙ o.1 in
          by (subst (Holds b h.at h.field_of) same h.holds) q below

  pub reached : {k : ℕ} → Item k → (e : ℕ) → IsKind b k e → OnChain b k e
  reached t e o = reached_below t (suc e) e (omega arith) o

  pub belt_reached : (e : ℕ) → IsKind b 2 e → (j : ℕ) × (1 ≤ j) × (j ≤ junctions b) × Memᴰ e (chain b (field b j 1))
  belt_reached e o = let (r, f, s, m) = reached belts e o in go s m
    where
      go : {r f : ℕ} → Start b r f 2 → Memᴰ e (chain b (field b r f)) → (j : ℕ) × (1 ≤ j) × (j ≤ junctions b) × Memᴰ e (chain b (field b j 1))
      go (of_junction {j} l h) m = (j, l, h, m)

  pub rule_reached : (e : ℕ) → IsKind b 3 e → Memᴰ e (chain b (field b 0 3))
  rule_reached e o = let (r, f, s, m) = reached rules e o in go s m
    where
      go : {r f : ℕ} → Start b r f 3 → Memᴰ e (chain b (field b r f)) → Memᴰ e (chain b (field b 0 3))
      go of_plan m = m

  pub literal_reached : (e : ℕ) → IsKind b 4 e → (r : ℕ) × IsKind b 3 r × Memᴰ e (chain b (field b r 2))
  literal_reached e o = let (r, f, s, m) = reached literals e o in go s m
    where
      go : {r f : ℕ} → Start b r f 4 → Memᴰ e (chain b (field b r f)) → (r : ℕ) × IsKind b 3 r × Memᴰ e (chain b (field b r 2))
      go (of_rule {r} o) m = (r, o, m)

  -- ---- and on one only

  -- by recursion on a bound: e heads both chains, or comes next after one record on both
  one_below : {r f s g k : ℕ} → Start b r f k → Start b s g k → (B e : ℕ) → e < B → Memᴰ e (chain b (field b r f)) → Memᴰ e (chain b (field b s g)) → r ≡ s
  one_below x y zero e l m n = absurd (omega arith)
  one_below {r} {f} {s} {g} {k} x y (suc B) e l m n = go (from_cases (chained_at w x) m) (from_cases (chained_at w y) n) (one_below x y B)
    where
      On : ℕ → ℕ → Type 0
      On r f = (field b r f ≡ e) ⊎ ((x : ℕ) × Memᴰ x (chain b (field b r f)) × (field b x 1 ≡ e))

      o : IsKind b k e
      o = chain_in x e m

      -- a record on a chain holds its next
      next : {r f : ℕ} → Start b r f k → (z : ℕ) → Memᴰ z (chain b (field b r f)) → Holds b z 1 k
      next x z m = goes_on (start_item x) (chain_in x z m)

      -- a start and a record on a chain do not both hold e
      clash : {r f s g : ℕ} → Start b r f k → field b r f ≡ e → Start b s g k → (z : ℕ) → Memᴰ z (chain b (field b s g)) → field b z 1 ≡ e → ⊥
      clash x p y z i q = apart w x (ap (kind b) (one_holder w (starts x) (next y z i) e o p q) ∙ (chain_in y z i).1)

      go : On r f → On s g → ((z : ℕ) → z < B → Memᴰ z (chain b (field b r f)) → Memᴰ z (chain b (field b s g)) → r ≡ s) → r ≡ s
      go (inl p) (inl q) below = one_holder w (starts x) (starts y) e o p q
      go (inl p) (inr (z, i, q)) below = absurd (clash x p y z i q)
      go (inr (z, i, q)) (inl p) below = absurd (clash y p x z i q)
      go (inr (z, i, p)) (inr (v, j, q)) below =
          let d : field b z 1 ≡ 0 → ⊥ = λ c. omega (arith, above w (start_item x) e o) in
          below z (omega (arith, (leads w (next x z i) d).0)) i (Memᴰ.cast (one_holder w (next x z i) (next y v j) e o p q) j)

  pub one_junction : (e i j : ℕ) → 1 ≤ i → i ≤ junctions b → 1 ≤ j → j ≤ junctions b → Memᴰ e (chain b (field b i 1)) → Memᴰ e (chain b (field b j 1)) → i ≡ j
  one_junction e i j l h l' h' = one_below (of_junction l h) (of_junction l' h') (suc e) e (omega arith)

  -- ---- the junction that a belt leaves

  -- `leaves` finds the junction whose chain has e
  pub leaves_is : (e j : ℕ) → 1 ≤ j → j ≤ junctions b → Memᴰ e (chain b (field b j 1)) → leaves b e ≡ j
  leaves_is e j l h m =
      first_in_is (λ (i : ℕ). mem e (chain b (field b i 1))) (upto 1 (suc (junctions b))) j (in_upto 1 (suc (junctions b)) j l (omega arith)) (in_mem (chain b (field b j 1)) m)
      (λ i k t. let u = upto_in 1 (suc (junctions b)) i k in
      one_junction e i j u.0 (omega (arith, u.1)) l h (mem_in (chain b (field b i 1)) t) m)

  -- the records of the belts that leave j are those on its chain
  leaving_records : (j : ℕ) → 1 ≤ j → j ≤ junctions b → keep (λ (e : ℕ). eqb (leaves b e) j) (belt_records b) ≡ chain b (field b j 1)
  leaving_records j l h =
      rises_equal (keep at (belt_records b)) (chain b (field b j 1)) (keep_rises at (records_rise b)) (chain_rises (of_junction l h)) onto into
    where
      at : ℕ → Bool
      at e = eqb (leaves b e) j

      onto : (e : ℕ) → Memᴰ e (keep at (belt_records b)) → Memᴰ e (chain b (field b j 1))
      onto e m =
          let k = keep_in at (belt_records b) m in
          let (i, p, q, n) = belt_reached e (record_belt b e k.0) in
          let same : i ≡ j = sym (leaves_is e i p q n) ∙ eqb-true (leaves b e) j k.1 in
          subst (λ (c : ℕ). Memᴰ e (chain b (field b c 1))) same n

      into : (e : ℕ) → Memᴰ e (chain b (field b j 1)) → Memᴰ e (keep at (belt_records b))
      into e m = in_keep at (belt_records b) (belt_record w e (belt_chain_in j e l h m)) (eq-eqb (leaves b e) j (leaves_is e j l h m))

  -- the belts of the plan that leave j are those of its chain
  pub leaving_chain : (j : ℕ) → 1 ≤ j → j ≤ junctions b → leaving (plan_of b) j ≡ map (belt_at b) (chain b (field b j 1))
  unfolding plan_of
  leaving_chain j l h = keep_map (λ (e : Belt). eqb e.leaves j) (belt_at b) (belt_records b) ∙ ap (map (belt_at b)) (leaving_records j l h)
