-- What the pass left in its table, cleared.
--
--   cleared        where the table is empty but for the places from s on and before t, clearing these leaves it empty
--   spared_next    clearing the first of these leaves it empty but for the others
--
-- Assumes nothing.
use mathlib.Core.Path.{◌≡◌, sym, ◌∙◌, ap}
use mathlib.Core.Logic.{◌⊎◌, inl, inr}
use mathlib.Core.Bool.{true, false}
use Prim.Native.Nat.{ℕ, ◌+◌, ◌-◌, ◌≤◌, ◌<◌}
use mathlib.Core.List.{List, ◌++◌}
use native.Mathlib.Omega.{arith}
use native.Mathlib.Nat.{eq-or-lt_of_le}
use borrow.Rule.Slice.PartMut.{put_mid}
use lib.ListN.{length, get_or, take, drop, set, replicate, length-set, length-drop, length-replicate, get_or-replicate}
use lib.Seq.{ext_get_or, get_or-take, length-take-le, get_or-set_same, get_or-set_other}
use lib.Dec.{eqb}
use borrow.Author.Tests.{eqb-true, eqb-false}
use Rattle.std.proofs.lemmas.List.{replicate-append-replicate, get_or-drop, take-append-drop}
use Rattle.std.proofs.lemmas.Slice.{take-put_mid, drop-put_mid}
use Rattle.plan.specs.Bounds.{max_junctions}
use Rattle.plan.proofs.Lists.{test}
use Rattle.route.specs.declared.ways.Way.{Way}
use Rattle.route.specs.Ways.{no_way, no_ways, Spared}

-- a list that has one thing everywhere
all_same : (ws : List Way) (n : ℕ) → length ws ≡ n → ((j : ℕ) → j < n → get_or ws j no_way ≡ no_way) → ws ≡ replicate n no_way
all_same ws n size same =
    ext_get_or no_way ws (replicate n no_way) (size ∙ sym (length-replicate n no_way))
    (λ j l. same j (omega arith) ∙ sym (get_or-replicate n j no_way no_way (omega arith)))

pub cleared : {s t : ℕ} {ws zs : List Way} → s ≤ t → t ≤ max_junctions → Spared s t ws → zs ≡ replicate (t - s) no_way → put_mid s (t - s) ws zs ≡ no_ways
cleared {s} {t} {ws} {zs} up high k zeros =
    let size = k.size in
    let long : length zs ≡ t - s = ap (length {A = Way}) zeros ∙ length-replicate (t - s) no_way in
    let few : s ≤ length ws = omega arith in
    let before : take s ws ≡ replicate s no_way = all_same (take s ws) s (length-take-le s ws few) (λ j l. get_or-take s ws j no_way l ∙ k.below j l) in
    let behind : drop t ws ≡ replicate (max_junctions - t) no_way = all_same (drop t ws) (max_junctions - t) (omega (arith, length-drop t ws))
    (λ j l. get_or-drop t ws j no_way ∙ k.above (t + j) (omega arith) (omega arith)) in
    let start = take-put_mid s (t - s) ws zs t (omega arith) few in
    let rest = drop-put_mid s (t - s) ws zs t (omega arith) few long in
    let whole = put_mid s (t - s) ws zs in
    let ends : s + (t - s) ≡ t = omega arith in
    let all : t + (max_junctions - t) ≡ max_junctions = omega arith in
    sym (take-append-drop t whole)
    ∙ (λ i. start i ++ rest i)
    ∙ (λ i. (before i ++ zeros i) ++ behind i)
    ∙ ap (λ (l : List Way). l ++ replicate (max_junctions - t) no_way) (replicate-append-replicate s (t - s) no_way ∙ ap (λ (n : ℕ). replicate n no_way) ends)
    ∙ replicate-append-replicate t (max_junctions - t) no_way
    ∙ ap (λ (n : ℕ). replicate n no_way) all

-- where the table is empty but for the places from s on and before t, emptying place s leaves it empty but for those from s + 1 on
pub spared_next : {s t : ℕ} {ws : List Way} → s < t → t ≤ max_junctions → Spared s t ws → Spared (s + 1) t (set ws s no_way)
spared_next {s} {t} {ws} inside high k = record {
  size = length-set ws s no_way ∙ k.size;
  below = λ j i. kept j (go j (eq-or-lt_of_le (low j i)));
  above = λ j i m. kept j (inl (k.above j i m));
}
  where
    low : (j : ℕ) → j < s + 1 → j ≤ s
    low j i = omega arith

    here : get_or (set ws s no_way) s no_way ≡ no_way
    here = get_or-set_same ws s no_way no_way (omega (arith, k.size))

    go : (j : ℕ) → (j ≡ s) ⊎ (j < s) → (get_or ws j no_way ≡ no_way) ⊎ (j ≡ s)
    go j (inl q) = inr q
    go j (inr m) = inl (k.below j m)

    other : (j : ℕ) → get_or ws j no_way ≡ no_way → (eqb j s ≡ true) ⊎ (eqb j s ≡ false) → get_or (set ws s no_way) j no_way ≡ no_way
    other j h (inl q) = ap (λ (n : ℕ). get_or (set ws s no_way) n no_way) (eqb-true j s q) ∙ here
    other j h (inr q) = get_or-set_other ws s j no_way no_way (eqb-false j s q) ∙ h

    kept : (j : ℕ) → (get_or ws j no_way ≡ no_way) ⊎ (j ≡ s) → get_or (set ws s no_way) j no_way ≡ no_way
    kept j (inl h) = other j h (test (eqb j s))
    kept j (inr q) = ap (λ (n : ℕ). get_or (set ws s no_way) n no_way) q ∙ here
