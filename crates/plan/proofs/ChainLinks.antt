-- The links that a record holds, out of the table `rows`; and what lines 1 to 4 say of all links together.
--
--   targets_of row            the chain fields of a row of the table in their order, each with the kind of record that it leads to (target_by)
--   targets b k              those of a record of kind k
--   links_at_by               the links of a record are those of its chain fields; in_links_at, links_at_in: a link among them
--   two_links                the links of two chain fields
--   no_targets               a kind that is not in the table has no chain fields
--   held_links               they lead where the limits' chain fields lead
--   Well, Upward             a link leads to a later record of its kind; every link leads above the junctions
--   Sorted b                 records stand where they may
--   Linked b                 and links rise, one to each record above J: what the laws of chains rest on
--
-- Assumes nothing.
use mathlib.Core.Path.{◌≡◌, refl, sym, ◌∙◌, ap, subst}
use mathlib.Core.Logic.{◌⊎◌, inl, inr}
use mathlib.Core.Bool.{Bool, true, false, not}
use Prim.Native.Nat.{ℕ, zero, suc, ◌≤◌, ◌<◌}
use mathlib.Core.List.Memᴰ
use mathlib.Core.List.{List, [], ◌∷◌, ◌++◌, Memᴰ, append-nil, map}
use native.Mathlib.Omega.{arith}
use lib.Dec.{eqb, eqb-suc-zero}
use Rattle.plan.specs.Lists.{keep_by, keep, mem, joined, upto}
use Rattle.plan.specs.Records.{field, kind, junctions, records, Use, Any, Unused, Between, Chain, Row, rows, row_of, row_at, use_at, fields, Link, link_to, link_by, links_at, links}
use Rattle.plan.specs.Refusals.{pointers}
use Rattle.plan.specs.Limits.{chain_fields, held}
use Rattle.plan.specs.Inner.{links_by}
use Rattle.plan.specs.Kinds.{kinds}
use Rattle.plan.proofs.Lists.{test, neither, each, joined_append, in_joined, joined_in, in_upto, upto_in, mem_in}
use Rattle.plan.proofs.LineForms.{no_row, Item}

-- ---- the links of a record, by its chain fields

abbrev pub target_by : Use → ℕ → List (ℕ × ℕ)
target_by Any f = []
target_by Unused f = []
target_by (Between a z) f = []
target_by (Chain k) f = (f, k) ∷ []

abbrev pub targets_of : Row → List (ℕ × ℕ)
targets_of row = joined (λ (f : ℕ). target_by (use_at row f) f) fields

-- a field by its use
by_use : (b : List ℕ) (r f : ℕ) (u : Use) → link_by u r (field b r f) ≡ links_by b r (target_by u f)
by_use b r f Any = refl
by_use b r f Unused = refl
by_use b r f (Between a z) = refl
by_use b r f (Chain k) = sym (append-nil (link_to r (field b r f) k))

-- several fields, one after the other
by_fields : (b : List ℕ) (r : ℕ) (row : Row) (fs : List ℕ)
    → joined (λ (f : ℕ). link_by (use_at row f) r (field b r f)) fs ≡ links_by b r (joined (λ (f : ℕ). target_by (use_at row f) f) fs)
by_fields b r row [] = refl
by_fields b r row (f ∷ fs) =
    (λ i. by_use b r f (use_at row f) i ++ by_fields b r row fs i)
    ∙ sym (joined_append (λ (t : ℕ × ℕ). link_to r (field b r t.0) t.1) (target_by (use_at row f) f) (joined (λ (g : ℕ). target_by (use_at row g) g) fs))

-- the chain fields of a record of kind k
abbrev pub targets : List ℕ → ℕ → List (ℕ × ℕ)
targets b k = targets_of (row_of (junctions b) k)

pub links_at_by : (b : List ℕ) (r k : ℕ) → kind b r ≡ k → links_at b r ≡ links_by b r (targets b k)
unfolding links_at
links_at_by b r k e = by_fields b r (row_at b r) fields ∙ ap (λ (n : ℕ). links_by b r (targets b n)) e

-- the links of two chain fields
pub two_links : (b : List ℕ) (r : ℕ) (t u : ℕ × ℕ) → links_by b r (t ∷ []) ++ links_by b r (u ∷ []) ≡ links_by b r (t ∷ u ∷ [])
two_links b r t u = sym (joined_append (λ (x : ℕ × ℕ). link_to r (field b r x.0) x.1) (t ∷ []) (u ∷ []))

-- where a link leads
abbrev pub target : Link → ℕ
target l = l.index

abbrev nonzero : ℕ → Bool
nonzero i = not (eqb i 0)

-- the links of some chain fields lead where these fields do
targets_held : (b : List ℕ) (r : ℕ) (ts : List (ℕ × ℕ)) → keep nonzero (map (λ (t : ℕ × ℕ). field b r t.0) ts) ≡ map target (links_by b r ts)
targets_held b r [] = refl
targets_held b r (t ∷ ts) = go (field b r t.0) (map (λ (s : ℕ × ℕ). field b r s.0) ts) (links_by b r ts) (targets_held b r ts)
  where
    go : (v : ℕ) (vs : List ℕ) (ls : List Link) → keep nonzero vs ≡ map target ls → keep nonzero (v ∷ vs) ≡ map target (link_to r v t.1 ++ ls)
    go zero vs ls e = e
    go (suc v) vs ls e = ap (λ (x : Bool). keep_by (not x) (suc v) (keep nonzero vs)) (eqb-suc-zero v) ∙ ap (λ (l : List ℕ). suc v ∷ l) e

-- ---- the table `rows` and the limits' chain fields name the same fields

-- of a kind in the table, by computation
same_known : (j k : ℕ) → Memᴰ k kinds → chain_fields k ≡ map (λ (t : ℕ × ℕ). t.0) (targets_of (row_of j k))
unfolding row_of
same_known j = each Same refl (each Same refl (each Same refl (each Same refl (each Same refl (λ k m. absurd (Memᴰ.not-nil m))))))
  where
    Same : ℕ → Type 0
    Same k = chain_fields k ≡ map (λ (t : ℕ × ℕ). t.0) (targets_of (row_of j k))

-- of any other there are none
no_fields : (k : ℕ) → mem k kinds ≡ false → chain_fields k ≡ []
no_fields k h =
    let s7 = neither (eqb k 7) (mem k (1 ∷ 2 ∷ 3 ∷ 4 ∷ [])) h in
    let s1 = neither (eqb k 1) (mem k (2 ∷ 3 ∷ 4 ∷ [])) s7.1 in
    let s2 = neither (eqb k 2) (mem k (3 ∷ 4 ∷ [])) s1.1 in
    let s3 = neither (eqb k 3) (mem k (4 ∷ [])) s2.1 in
    let s4 = neither (eqb k 4) false s3.1 in
    simp (s7.0, s1.0, s2.0, s3.0, s4.0)

pub no_targets : (j k : ℕ) → mem k kinds ≡ false → targets_of (row_of j k) ≡ []
unfolding row_of
no_targets j k h = ap targets_of (no_row k (rows j) h)

same_fields : (j k : ℕ) → chain_fields k ≡ map (λ (t : ℕ × ℕ). t.0) (targets_of (row_of j k))
same_fields j k = go (test (mem k kinds))
  where
    go : (mem k kinds ≡ true) ⊎ (mem k kinds ≡ false) → chain_fields k ≡ map (λ (t : ℕ × ℕ). t.0) (targets_of (row_of j k))
    go (inl h) = same_known j k (mem_in kinds h)
    go (inr h) = no_fields k h ∙ sym (ap (map (λ (t : ℕ × ℕ). t.0)) (no_targets j k h))

pub held_links : (b : List ℕ) (r : ℕ) → held b r ≡ map target (links_at b r)
held_links b r =
    let k = kind b r in
    ap (λ (fs : List ℕ). keep nonzero (map (field b r) fs)) (same_fields (junctions b) k)
    ∙ ap (keep nonzero) (map_map (field b r) (targets b k))
    ∙ targets_held b r (targets b k)
    ∙ ap (map target) (sym (links_at_by b r k refl))
  where
    map_map : (f : ℕ → ℕ) (ts : List (ℕ × ℕ)) → map f (map (λ (t : ℕ × ℕ). t.0) ts) ≡ map (λ (t : ℕ × ℕ). f t.0) ts
    map_map f [] = refl
    map_map f (t ∷ ts) = ap (λ (l : List ℕ). f t.0 ∷ l) (map_map f ts)

-- ---- links of the plan and of its records

abbrev pub link : ℕ → ℕ → ℕ → Link
link r i k = record { holder = r; index = i; want = k }

pub in_link_to : (r i k : ℕ) → (i ≡ 0 → ⊥) → Memᴰ (link r i k) (link_to r i k)
in_link_to r zero k d = absurd (d refl)
in_link_to r (suc i) k d = Memᴰ.head refl

pub link_to_in : (r i k : ℕ) (l : Link) → Memᴰ l (link_to r i k) → (l ≡ link r i k) × (i ≡ 0 → ⊥)
link_to_in r zero k l m = absurd (Memᴰ.not-nil m)
link_to_in r (suc i) k l m = (Memᴰ.eq_of_singleton m, λ e. omega arith)

-- the link of a chain field of record r, which is of kind k, and what a link of it is
pub in_links_at : (b : List ℕ) (r k f w : ℕ) → kind b r ≡ k → Memᴰ (f, w) (targets b k) → (field b r f ≡ 0 → ⊥) → Memᴰ (link r (field b r f) w) (links_at b r)
in_links_at b r k f w e m d =
    subst (Memᴰ (link r (field b r f) w)) (sym (links_at_by b r k e))
    (in_joined (λ (t : ℕ × ℕ). link_to r (field b r t.0) t.1) m (in_link_to r (field b r f) w d))

pub links_at_in : (b : List ℕ) (r k : ℕ) (l : Link) → kind b r ≡ k → Memᴰ l (links_at b r)
    → (t : ℕ × ℕ) × Memᴰ t (targets b k) × (l ≡ link r (field b r t.0) t.1) × (field b r t.0 ≡ 0 → ⊥)
links_at_in b r k l e m =
    let x = joined_in (λ (t : ℕ × ℕ). link_to r (field b r t.0) t.1) (targets b k) (subst (Memᴰ l) (links_at_by b r k e) m) in
    let y = link_to_in r (field b r x.0.0) x.0.1 l x.2 in
    (x.0, x.1, y.0, y.1)

pub in_links : (b : List ℕ) (r : ℕ) (l : Link) → r < records b → Memᴰ l (links_at b r) → Memᴰ l (links b)
unfolding links
in_links b r l h m = in_joined (links_at b) (in_upto 0 (records b) r (omega arith) h) m

pub links_in : (b : List ℕ) (l : Link) → Memᴰ l (links b) → (r : ℕ) × (r < records b) × Memᴰ l (links_at b r)
unfolding links
links_in b l m = let x = joined_in (links_at b) (upto 0 (records b)) m in (x.0, (upto_in 0 (records b) x.0 x.1).1, x.2)

-- ---- what holds where lines 1 to 4 are unbroken

abbrev pub Well : List ℕ → Link → Type 0
Well b l = (l.holder < l.index) × (l.index < records b) × (kind b l.index ≡ l.want)

abbrev pub Upward : List ℕ → Type 0
Upward b = (l : Link) → Memᴰ l (links b) → (l.holder < l.index) × (l.index < records b) × (junctions b < l.index)

-- records stand where they may
pub record Sorted (b : List ℕ) : Type 0 where
  pub room : junctions b < records b
  pub top : kind b 0 ≡ 7
  pub low : (r : ℕ) → 1 ≤ r → r ≤ junctions b → kind b r ≡ 1
  pub high : (r : ℕ) → junctions b < r → r < records b → Item (kind b r)

pub record Linked (b : List ℕ) : Type 0 where
  pub sorted : Sorted b
  pub well : (l : Link) → Memᴰ l (links b) → Well b l
  pub once : (r : ℕ) → junctions b < r → r < records b → pointers (links b) r ≡ 1
