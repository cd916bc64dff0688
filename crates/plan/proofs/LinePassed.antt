-- Lines 3 and 4 as facts, and `Linked`, on which the laws of chains rest, out of the first four lines.
--
--   right, linked     what unbroken lines say
--   wrong_none        line 3 is unbroken if every record is of a right kind and fits
--   not_above b j e   belt e does not lead above junction j
--   no_bad_link       line 4 is unbroken if every link leads well and every record above J has one
--
-- Assumes nothing.
use mathlib.Core.Path.{◌≡◌, sym, ◌∙◌, ap}
use mathlib.Core.Bool.{Bool, true, false, not, ◌&&◌}
use Prim.Native.Nat.{ℕ, suc, ◌≤◌, ◌<◌}
use mathlib.Core.List.Memᴰ
use mathlib.Core.List.{List, Memᴰ}
use native.Mathlib.Omega.{arith}
use lib.Dec.{eqb, leb, ltb}
use borrow.Author.Tests.{eqb-true, eq-eqb, ltb-true, lt-ltb, not-false}
use Rattle.plan.specs.Lists.{any, upto}
use Rattle.plan.specs.Records.{field, kind, junctions, records, fits, Link, links}
use Rattle.plan.specs.Refusals.{broken3, broken4, kinds_by, right_kind, bad_link, pointers}
use Rattle.plan.specs.Inner.{Passed4}
use Rattle.plan.proofs.Lists.{both, and_is, neither, or_is, any_none, none_any, mem_in, in_upto, upto_in}
use Rattle.plan.proofs.LineForms.{header, kind_low, kind_high, Item, mem_item}
use Rattle.plan.proofs.ChainLinks.{Well, Linked}

-- ---- line 3

abbrev wrong : List ℕ → ℕ → Bool
wrong b r = not (right_kind b r && fits b r)

pub right : (b : List ℕ) → broken3 b ≡ false → (r : ℕ) → 1 ≤ r → r < records b → (right_kind b r ≡ true) × (fits b r ≡ true)
unfolding broken3
right b h r l u = both (right_kind b r) (fits b r) (not-false _ (any_none (wrong b) (upto 1 (records b)) h (in_upto 1 (records b) r l u)))

pub wrong_none : (b : List ℕ) → ((r : ℕ) → 1 ≤ r → r < records b → (right_kind b r ≡ true) × (fits b r ≡ true)) → broken3 b ≡ false
unfolding broken3
wrong_none b h =
    none_any (wrong b) (upto 1 (records b)) (λ r m.
    let i = upto_in 1 (records b) r m in
    let k = h r i.0 i.1 in
    ap not (and_is (right_kind b r) (fits b r) k.0 k.1))

low : (b : List ℕ) (r : ℕ) → r ≤ junctions b → right_kind b r ≡ true → kind b r ≡ 1
low b r u h = Memᴰ.eq_of_singleton (mem_in (kinds_by true) (sym (kind_low b r u) ∙ h))

high : (b : List ℕ) (r : ℕ) → junctions b < r → right_kind b r ≡ true → Item (kind b r)
high b r u h = mem_item (sym (kind_high b r u) ∙ h)

-- ---- line 5

abbrev pub not_above : List ℕ → ℕ → ℕ → Bool
not_above b j e = leb (field b e 2) j

-- ---- line 4

-- a record above the junctions is not pointed at once
abbrev not_once : List ℕ → ℕ → Bool
not_once b r = not (eqb (pointers (links b) r) 1)

well : (b : List ℕ) → broken4 b ≡ false → (l : Link) → Memᴰ l (links b) → Well b l
unfolding broken4
well b h l m =
    let a = (neither (any (bad_link b) (links b)) (any (not_once b) (upto (suc (junctions b)) (records b))) h).0 in
    let k = both (ltb l.index (records b) && ltb l.holder l.index) (eqb (kind b l.index) l.want) (not-false _ (any_none (bad_link b) (links b) a m)) in
    let j = both (ltb l.index (records b)) (ltb l.holder l.index) k.0 in
    (ltb-true l.holder l.index j.1, ltb-true l.index (records b) j.0, eqb-true (kind b l.index) l.want k.1)

once : (b : List ℕ) → broken4 b ≡ false → (r : ℕ) → junctions b < r → r < records b → pointers (links b) r ≡ 1
unfolding broken4
once b h r l u =
    let a = (neither (any (bad_link b) (links b)) (any (not_once b) (upto (suc (junctions b)) (records b))) h).1 in
    eqb-true (pointers (links b) r) 1 (not-false _ (any_none (not_once b) (upto (suc (junctions b)) (records b)) a (in_upto (suc (junctions b)) (records b) r l u)))

pub no_bad_link : (b : List ℕ) → ((l : Link) → Memᴰ l (links b) → Well b l)
    → ((r : ℕ) → junctions b < r → r < records b → pointers (links b) r ≡ 1) → broken4 b ≡ false
unfolding broken4
no_bad_link b w o =
    or_is (any (bad_link b) (links b)) (any (not_once b) (upto (suc (junctions b)) (records b)))
    (none_any (bad_link b) (links b) (λ l m.
    let k = w l m in
    ap not
    (and_is (ltb l.index (records b) && ltb l.holder l.index) (eqb (kind b l.index) l.want)
    (and_is (ltb l.index (records b)) (ltb l.holder l.index) (lt-ltb l.index (records b) k.1) (lt-ltb l.holder l.index k.0))
    (eq-eqb (kind b l.index) l.want k.2))))
    (none_any (not_once b) (upto (suc (junctions b)) (records b)) (λ r m.
    let i = upto_in (suc (junctions b)) (records b) r m in
    ap not (eq-eqb (pointers (links b) r) 1 (o r i.0 i.1))))

-- ---- lines 1 to 4

pub linked : (b : List ℕ) → Passed4 b → Linked b
linked b h =
    let top = header b h.0.1 in
    record {
      sorted = record {
        room = top.junctions_fit;
        top = top.kind_7;
        low = λ r l u. low b r u (right b h.1 r l (omega (arith, top.junctions_fit))).0;
        high = λ r l u. high b r l (right b h.1 r (omega arith) u).0;
      };
      well = well b h.2;
      once = once b h.2;
    }
