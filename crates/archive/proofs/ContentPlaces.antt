-- Places in lists, and what becomes of plans and contents when belts are named by place, and back again. Nothing here is about bytes.
--
--   get_d_in                   what stands at a place of a list is an element of it
--   get_d_place, place_get_d    the place of an element is where it stands; what stands at a place of a rising list has that place
--   place_rises               of two elements of a rising list the lower has the lower place
--   RulesName P rules         every belt that a literal of the rules names has the property P; names_more: and what follows from it
--   NamesBelts p              every belt that a rule of the plan p names is one of its belts
--   renamed_twice, renamed_fixed
--                             rules renamed twice, and by a function that leaves the belts that they name
--   indices_from              the indices of the belts of the plan of a content are numbers in a row
--   content_again             the content of the plan of a content is that content
--   plan_again, plan_archived the plan of the content of a plan is that plan with its belts renamed
--   plan_shifted              the indices of the plan of a content may be moved up afterwards
--   old p k                   the index of the k-th belt of the plan p, and beyond the last one numbers that rise on
--   old_rises, old_at, old_place
--                             it rises on all numbers; it is the k-th index; that of an index' place is the index
--   plan_old                  a plan is that of its content with its belts renamed back
--   new_old, new_rises, new_one
--                             the new index of the k-th belt; new indices rise as the old ones do, and no two belts have the same
--   named_renamed             the named belts of a renamed plan are the renamed ones
--
-- Assumes nothing.
use mathlib.Core.Path.{◌≡◌, refl, sym, ◌∙◌, ap}
use mathlib.Core.Logic.{◌⊎◌, inl, inr}
use mathlib.Core.Bool.{Bool, true, false, ◌||◌}
use Prim.Native.Nat.{ℕ, zero, suc, ◌+◌, ◌≤◌, ◌<◌}
use mathlib.Core.List.Memᴰ
use mathlib.Core.List.{List, [], ◌∷◌, map, map-map, Memᴰ}
use native.Mathlib.Omega.{arith}
use lib.ListN.{length, get_or, length-map}
use lib.Dec.{eqb}
use borrow.Author.Tests.{eqb-true, eqb-false, eq-eqb, ne_eqb}
use Rattle.plan.specs.declared.read.Literal.{Literal}
use Rattle.plan.specs.declared.read.Literal.TheVariants.{OfBelt, OfMode}
use Rattle.plan.specs.Lists.{any, keep, iota}
use Rattle.plan.specs.Plan.{Belt, Plan, indices_of, names, in_rule, named}
use Rattle.plan.proofs.Lists.{test, alike, any_cong, keep_cong, keep_map}
use Rattle.plan.proofs.ListRising.{Rises, none, more}
use Rattle.archive.specs.Renaming.{renamed_belt, renamed_literal, renamed_rules, renamed}
use Rattle.archive.specs.Content.{Leg, Content, leg_of, place, content_of, new_index}
use Rattle.archive.proofs.ContentFits.{belts_numbered, plan_numbered}

-- ---- places

-- the head stands first, and any other element behind it
place_first : (x e : ℕ) (es : List ℕ) → x ≡ e → place (x ∷ es) e ≡ 0
place_first x e es q = ap (λ (t : Bool). elim t [ true ↦ 0 | false ↦ suc (place es e) ]) (eq-eqb x e q)

place_later : (x e : ℕ) (es : List ℕ) → (x ≡ e → ⊥) → place (x ∷ es) e ≡ suc (place es e)
place_later x e es d = ap (λ (t : Bool). elim t [ true ↦ 0 | false ↦ suc (place es e) ]) (ne_eqb x e d)

-- what stands at a place is an element
pub get_d_in : {A : Type 0} (xs : List A) (k : ℕ) (d : A) → k < length xs → Memᴰ (get_or xs k d) xs
get_d_in [] k d l = absurd (omega arith)
get_d_in (x ∷ xs) zero d l = Memᴰ.head refl
get_d_in (x ∷ xs) (suc k) d l = Memᴰ.tail (get_d_in xs k d (omega arith))

pub get_d_place : (es : List ℕ) (e : ℕ) → Memᴰ e es → (get_or es (place es e) 0 ≡ e) × (place es e < length es)
get_d_place [] e m = absurd (Memᴰ.not-nil m)
get_d_place (x ∷ es) e m = go (test (eqb x e)) (Memᴰ.cases_cons m) (get_d_place es e)
  where
    Out : List ℕ → Type 0
    Out xs = (get_or xs (place xs e) 0 ≡ e) × (place xs e < length xs)

    go : (eqb x e ≡ true) ⊎ (eqb x e ≡ false) → (e ≡ x) ⊎ Memᴰ e es → (Memᴰ e es → Out es) → Out (x ∷ es)
    go (inl t) k below =
        let q = eqb-true x e t in
        let p = place_first x e es q in
        (ap (λ (i : ℕ). get_or (x ∷ es) i 0) p ∙ q, omega (arith, p))
    go (inr t) (inl k) below = absurd (eqb-false x e t (sym k))
    go (inr t) (inr k) below =
        let p = place_later x e es (eqb-false x e t) in
        let r = below k in
        (ap (λ (i : ℕ). get_or (x ∷ es) i 0) p ∙ r.0, omega (arith, p, r.1))

pub place_get_d : {es : List ℕ} → Rises es → (k : ℕ) → k < length es → place es (get_or es k 0) ≡ k
place_get_d none k l = absurd (omega arith)
place_get_d (more {x} {xs} h r) zero l = place_first x x xs refl
place_get_d (more {x} {xs} h r) (suc k) l =
    place_later x (get_or xs k 0) xs (λ q. omega (arith, h (get_or xs k 0) (get_d_in xs k 0 (omega arith)))) ∙ ap suc (place_get_d r k (omega arith))

pub place_rises : {es : List ℕ} → Rises es → (d e : ℕ) → Memᴰ d es → Memᴰ e es → d < e → place es d < place es e
place_rises none d e m n l = absurd (Memᴰ.not-nil m)
place_rises (more {x} {xs} h r) d e m n l = go (Memᴰ.cases_cons m) (Memᴰ.cases_cons n) (place_rises r d e)
  where
    go : (d ≡ x) ⊎ Memᴰ d xs → (e ≡ x) ⊎ Memᴰ e xs → (Memᴰ d xs → Memᴰ e xs → d < e → place xs d < place xs e)
        → place (x ∷ xs) d < place (x ∷ xs) e
    go (inl p) k below = omega (arith, place_first x d xs (sym p), place_later x e xs (λ q. omega arith))
    go (inr i) (inl q) below = absurd (omega (arith, h d i))
    go (inr i) (inr j) below =
        omega (arith, place_later x d xs (λ q. omega (arith, h d i)), place_later x e xs (λ q. omega (arith, h e j)), below i j l)

-- places in a row of numbers
place_iota : (n m k : ℕ) → k < m → place (iota n m) (n + k) ≡ k
place_iota n zero k l = absurd (omega arith)
place_iota n (suc m) zero l = place_first n (n + 0) (iota (suc n) m) (omega arith)
place_iota n (suc m) (suc k) l =
    let e : n + suc k ≡ suc n + k = omega arith in
    place_later n (n + suc k) (iota (suc n) m) (λ q. omega arith)
    ∙ ap (λ (i : ℕ). suc (place (iota (suc n) m) i)) e
    ∙ ap suc (place_iota (suc n) m k (omega arith))

-- ---- the belts that rules name

abbrev pub LiteralNames : (ℕ → Type 0) → Literal → Type 0
LiteralNames P (OfBelt e wanted) = P e.0
LiteralNames P (OfMode m wanted) = Unit {0}

abbrev pub RulesName : (ℕ → Type 0) → List (List Literal) → Type 0
RulesName P rules = (rule : List Literal) → Memᴰ rule rules → (l : Literal) → Memᴰ l rule → LiteralNames P l

abbrev pub NamesBelts : Plan → Type 0
NamesBelts p = RulesName (λ (e : ℕ). Memᴰ e (indices_of p.belts)) p.rules

literal_more : (P Q : ℕ → Type 0) → ((e : ℕ) → P e → Q e) → (l : Literal) → LiteralNames P l → LiteralNames Q l
literal_more P Q f (OfBelt e wanted) h = f e.0 h
literal_more P Q f (OfMode m wanted) h = tt

pub names_more : (P Q : ℕ → Type 0) (rules : List (List Literal)) → ((e : ℕ) → P e → Q e) → RulesName P rules → RulesName Q rules
names_more P Q rules f h rule m l k = literal_more P Q f l (h rule m l k)

-- ---- renamed rules

map_same : {A B : Type 0} (f g : A → B) (xs : List A) → ((a : A) → Memᴰ a xs → f a ≡ g a) → map f xs ≡ map g xs
map_same f g [] h = refl
map_same f g (x ∷ xs) h = λ i. h x (Memᴰ.head refl) i ∷ map_same f g xs (λ a m. h a (Memᴰ.tail m)) i

map_fixed : {A : Type 0} (f : A → A) (xs : List A) → ((a : A) → Memᴰ a xs → f a ≡ a) → map f xs ≡ xs
map_fixed f [] h = refl
map_fixed f (x ∷ xs) h = λ i. h x (Memᴰ.head refl) i ∷ map_fixed f xs (λ a m. h a (Memᴰ.tail m)) i

literal_twice : (f g : ℕ → ℕ) (l : Literal) → renamed_literal f (renamed_literal g l) ≡ renamed_literal (λ (e : ℕ). f (g e)) l
literal_twice f g (OfBelt e wanted) = refl
literal_twice f g (OfMode m wanted) = refl

literal_fixed : (f : ℕ → ℕ) (l : Literal) → LiteralNames (λ (e : ℕ). f e ≡ e) l → renamed_literal f l ≡ l
literal_fixed f (OfBelt e wanted) h = λ i. OfBelt (record { 0 = h i }) wanted
literal_fixed f (OfMode m wanted) h = refl

pub renamed_twice : (f g : ℕ → ℕ) (rules : List (List Literal)) → renamed_rules f (renamed_rules g rules) ≡ renamed_rules (λ (e : ℕ). f (g e)) rules
renamed_twice f g rules =
    map-map (map (renamed_literal f)) (map (renamed_literal g)) rules
    ∙ map_same (λ (rule : List Literal). map (renamed_literal f) (map (renamed_literal g) rule)) (map (renamed_literal (λ (e : ℕ). f (g e)))) rules (λ rule m.
    map-map (renamed_literal f) (renamed_literal g) rule
    ∙ map_same (λ (l : Literal). renamed_literal f (renamed_literal g l)) (renamed_literal (λ (e : ℕ). f (g e))) rule (λ l k. literal_twice f g l))

pub renamed_fixed : (f : ℕ → ℕ) (rules : List (List Literal)) → RulesName (λ (e : ℕ). f e ≡ e) rules → renamed_rules f rules ≡ rules
renamed_fixed f rules h =
    map_fixed (map (renamed_literal f)) rules (λ rule m. map_fixed (renamed_literal f) rule (λ l k. literal_fixed f l (h rule m l k)))

-- ---- the content of the plan of a content

legs_again : (n : ℕ) (legs : List Leg) → map leg_of (belts_numbered n legs) ≡ legs
legs_again n [] = refl
legs_again n (e ∷ es) = ap (λ (l : List Leg). e ∷ l) (legs_again (suc n) es)

pub indices_from : (n : ℕ) (legs : List Leg) → indices_of (belts_numbered n legs) ≡ iota n (length legs)
indices_from n [] = refl
indices_from n (e ∷ es) = ap (λ (l : List ℕ). n ∷ l) (indices_from (suc n) es)

pub content_again : (n : ℕ) (c : Content) → RulesName (λ (k : ℕ). k < length c.legs) c.rules → content_of (plan_numbered n c) ≡ c
content_again n c h = λ i. record { junctions = c.junctions; modes = c.modes; legs = legs_again n c.legs i; rules = again i }
  where
    to : ℕ → ℕ
    to = place (indices_of (belts_numbered n c.legs))

    back : (k : ℕ) → k < length c.legs → to (n + k) ≡ k
    back k l = ap (λ (es : List ℕ). place es (n + k)) (indices_from n c.legs) ∙ place_iota n (length c.legs) k l

    again : renamed_rules to (renamed_rules (λ (k : ℕ). n + k) c.rules) ≡ c.rules
    again =
        renamed_twice to (λ (k : ℕ). n + k) c.rules
        ∙ renamed_fixed (λ (k : ℕ). to (n + k)) c.rules
        (names_more (λ (k : ℕ). k < length c.legs) (λ (k : ℕ). to (n + k) ≡ k) c.rules back h)

-- ---- the plan of the content of a plan

-- the k-th belt gets the index n + k
belts_again : (f : ℕ → ℕ) (n : ℕ) (es : List Belt) → ((k : ℕ) → k < length es → f (get_or (indices_of es) k 0) ≡ n + k)
    → belts_numbered n (map leg_of es) ≡ map (renamed_belt f) es
belts_again f n [] h = refl
belts_again f n (e ∷ es) h =
    let first : n ≡ f e.index = omega (arith, h 0 (omega arith)) in
    let rest : belts_numbered (suc n) (map leg_of es) ≡ map (renamed_belt f) es = belts_again f (suc n) es (λ k l. omega (arith, h (suc k) (omega arith))) in
    λ i. record { index = first i; leaves = e.leaves; leads = e.leads; cost = e.cost } ∷ rest i

pub plan_again : (n : ℕ) (p : Plan) → Rises (indices_of p.belts)
    → plan_numbered n (content_of p) ≡ renamed (λ (e : ℕ). n + place (indices_of p.belts) e) p
plan_again n p r =
    λ i. record {
      junctions = p.junctions;
      modes = p.modes;
      belts = belts_again to n p.belts at i;
      rules = renamed_twice (λ (k : ℕ). n + k) (place (indices_of p.belts)) p.rules i;
    }
  where
    to : ℕ → ℕ
    to e = n + place (indices_of p.belts) e

    at : (k : ℕ) → k < length p.belts → to (get_or (indices_of p.belts) k 0) ≡ n + k
    at k l =
        let size = length-map p.belts (λ (e : Belt). e.index) in
        ap (λ (j : ℕ). n + j) (place_get_d r k (omega arith))

pub plan_archived : (p : Plan) → Rises (indices_of p.belts) → plan_numbered (suc p.junctions) (content_of p) ≡ renamed (new_index p) p
plan_archived p r = plan_again (suc p.junctions) p r

belts_shifted : (n m : ℕ) (legs : List Leg) → map (renamed_belt (λ (k : ℕ). n + k)) (belts_numbered m legs) ≡ belts_numbered (n + m) legs
belts_shifted n m [] = refl
belts_shifted n m (e ∷ es) =
    let s : n + suc m ≡ suc (n + m) = omega arith in
    ap (λ (l : List Belt). record { index = n + m; leaves = e.leaves; leads = e.leads; cost = e.cost } ∷ l)
    (belts_shifted n (suc m) es ∙ ap (λ (k : ℕ). belts_numbered k es) s)

pub plan_shifted : (n : ℕ) (c : Content) → renamed (λ (k : ℕ). n + k) (plan_numbered 0 c) ≡ plan_numbered n c
plan_shifted n c =
    λ i. record {
      junctions = c.junctions;
      modes = c.modes;
      belts = (belts_shifted n 0 c.legs ∙ ap (λ (k : ℕ). belts_numbered k c.legs) none_more) i;
      rules = (renamed_twice (λ (k : ℕ). n + k) (λ (k : ℕ). 0 + k) c.rules ∙ rules_shifted) i;
    }
  where
    none_more : n + 0 ≡ n
    none_more = omega arith

    rules_shifted : renamed_rules (λ (k : ℕ). n + (0 + k)) c.rules ≡ renamed_rules (λ (k : ℕ). n + k) c.rules
    rules_shifted = ap (λ (f : ℕ → ℕ). renamed_rules f c.rules) (λ i k. same k i)
      where
        same : (k : ℕ) → n + (0 + k) ≡ n + k
        same k = omega arith

-- ---- old indices

-- the k-th of the numbers, and beyond the last one what follows it in a row; from low on where there are none
abbrev old_in : ℕ → List ℕ → ℕ → ℕ
old_in low [] k = low + k
old_in low (x ∷ xs) zero = x
old_in low (x ∷ xs) (suc k) = old_in (suc x) xs k

unfoldable pub old : Plan → ℕ → ℕ
old p k = old_in 0 (indices_of p.belts) k

old_in_low : (low : ℕ) {xs : List ℕ} → Rises xs → ((n : ℕ) → Memᴰ n xs → low ≤ n) → (k : ℕ) → low ≤ old_in low xs k
old_in_low low none h k = omega arith
old_in_low low (more {x} {xs} g r) h zero = h x (Memᴰ.head refl)
old_in_low low (more {x} {xs} g r) h (suc k) = omega (arith, h x (Memᴰ.head refl), old_in_low (suc x) r g k)

old_in_rises : (low : ℕ) {xs : List ℕ} → Rises xs → (a b : ℕ) → a < b → old_in low xs a < old_in low xs b
old_in_rises low none a b l = omega arith
old_in_rises low (more {x} {xs} g r) a zero l = absurd (omega arith)
old_in_rises low (more {x} {xs} g r) zero (suc b) l = old_in_low (suc x) r g b
old_in_rises low (more {x} {xs} g r) (suc a) (suc b) l = old_in_rises (suc x) r a b (omega arith)

old_in_at : (low : ℕ) (xs : List ℕ) (k : ℕ) → k < length xs → old_in low xs k ≡ get_or xs k 0
old_in_at low [] k l = absurd (omega arith)
old_in_at low (x ∷ xs) zero l = refl
old_in_at low (x ∷ xs) (suc k) l = old_in_at (suc x) xs k (omega arith)

belts_old : (g : ℕ → ℕ) (n : ℕ) (es : List Belt) → ((k : ℕ) → k < length es → g (n + k) ≡ get_or (indices_of es) k 0)
    → map (renamed_belt g) (belts_numbered n (map leg_of es)) ≡ es
belts_old g n [] h = refl
belts_old g n (e ∷ es) h =
    let z : n ≡ n + 0 = omega arith in
    let first : g n ≡ e.index = ap g z ∙ h 0 (omega arith) in
    let rest : map (renamed_belt g) (belts_numbered (suc n) (map leg_of es)) ≡ es = belts_old g (suc n) es (λ k l.
    let s : suc n + k ≡ n + suc k = omega arith in
    ap g s ∙ h (suc k) (omega arith)) in
    λ i. record { index = first i; leaves = e.leaves; leads = e.leads; cost = e.cost } ∷ rest i

module _ (p : Plan) where
  pub old_at : (k : ℕ) → k < length p.belts → old p k ≡ get_or (indices_of p.belts) k 0
  unfolding old
  old_at k l =
      let size = length-map p.belts (λ (e : Belt). e.index) in
      old_in_at 0 (indices_of p.belts) k (omega arith)

  pub old_place : (e : ℕ) → Memᴰ e (indices_of p.belts) → old p (place (indices_of p.belts) e) ≡ e
  old_place e m =
      let (q, l) = get_d_place (indices_of p.belts) e m in
      let size = length-map p.belts (λ (e : Belt). e.index) in
      old_at (place (indices_of p.belts) e) (omega arith) ∙ q

  pub old_rises : Rises (indices_of p.belts) → (a b : ℕ) → a < b → old p a < old p b
  unfolding old
  old_rises r a b l = old_in_rises 0 r a b l

  pub plan_old : NamesBelts p → p ≡ renamed (old p) (plan_numbered 0 (content_of p))
  plan_old h =
      sym (λ i. record { junctions = p.junctions; modes = p.modes; belts = belts i; rules = rules i })
    where
      belts : map (renamed_belt (old p)) (belts_numbered 0 (map leg_of p.belts)) ≡ p.belts
      belts = belts_old (old p) 0 p.belts (λ k l. let z : 0 + k ≡ k = omega arith in ap (old p) z ∙ old_at k l)

      back : (e : ℕ) → Memᴰ e (indices_of p.belts) → old p (0 + place (indices_of p.belts) e) ≡ e
      back e m =
          let k : ℕ = place (indices_of p.belts) e in
          let z : 0 + k ≡ k = omega arith in
          ap (old p) z ∙ old_place e m

      rules : renamed_rules (old p) (renamed_rules (λ (k : ℕ). 0 + k) (renamed_rules (place (indices_of p.belts)) p.rules)) ≡ p.rules
      rules =
          ap (renamed_rules (old p)) (renamed_twice (λ (k : ℕ). 0 + k) (place (indices_of p.belts)) p.rules)
          ∙ renamed_twice (old p) (λ (e : ℕ). 0 + place (indices_of p.belts) e) p.rules
          ∙ renamed_fixed (λ (e : ℕ). old p (0 + place (indices_of p.belts) e)) p.rules
          (names_more (λ (e : ℕ). Memᴰ e (indices_of p.belts)) (λ (e : ℕ). old p (0 + place (indices_of p.belts) e) ≡ e) p.rules back h)

  pub new_old : Rises (indices_of p.belts) → (k : ℕ) → k < length p.belts → new_index p (old p k) ≡ suc p.junctions + k
  new_old r k l =
      let size = length-map p.belts (λ (e : Belt). e.index) in
      ap (new_index p) (old_at k l) ∙ ap (λ (j : ℕ). suc p.junctions + j) (place_get_d r k (omega arith))

  pub new_rises : Rises (indices_of p.belts) → (d e : ℕ) → Memᴰ d (indices_of p.belts) → Memᴰ e (indices_of p.belts) → d < e
      → new_index p d < new_index p e
  new_rises r d e m n l = omega (arith, place_rises r d e m n l)

  pub new_one : (d e : ℕ) → Memᴰ d (indices_of p.belts) → Memᴰ e (indices_of p.belts) → new_index p d ≡ new_index p e → d ≡ e
  new_one d e m n q =
      let es = indices_of p.belts in
      let same : place es d ≡ place es e = omega arith in
      sym (get_d_place es d m).0 ∙ ap (λ (k : ℕ). get_or es k 0) same ∙ (get_d_place es e n).0

-- ---- named belts

any_map : {A B : Type 0} (f : B → Bool) (g : A → B) (xs : List A) → any f (map g xs) ≡ any (λ (a : A). f (g a)) xs
any_map f g [] = refl
any_map f g (x ∷ xs) = ap (λ (t : Bool). f (g x) || t) (any_map f g xs)

module _ (f : ℕ → ℕ) (p : Plan) (one : (d e : ℕ) → Memᴰ d (indices_of p.belts) → Memᴰ e (indices_of p.belts) → f d ≡ f e → d ≡ e) where
  names_renamed : (e : ℕ) → Memᴰ e (indices_of p.belts) → (l : Literal) → LiteralNames (λ (d : ℕ). Memᴰ d (indices_of p.belts)) l
      → names (f e) (renamed_literal f l) ≡ names e l
  names_renamed e m (OfBelt d wanted) h =
      alike (eqb (f e) (f d.0)) (eqb e d.0)
      (λ t. eq-eqb e d.0 (one e d.0 m h (eqb-true (f e) (f d.0) t)))
      (λ t. eq-eqb (f e) (f d.0) (ap f (eqb-true e d.0 t)))
  names_renamed e m (OfMode n wanted) h = refl

  pub named_renamed : NamesBelts p → named (renamed f p) ≡ map f (named p)
  unfolding named
  named_renamed h =
      ap (keep (λ (e : ℕ). any (in_rule e) (renamed_rules f p.rules))) indices
      ∙ keep_map (λ (e : ℕ). any (in_rule e) (renamed_rules f p.rules)) f (indices_of p.belts)
      ∙ ap (map f) (keep_cong (λ (e : ℕ). any (in_rule (f e)) (renamed_rules f p.rules)) (λ (e : ℕ). any (in_rule e) p.rules) (indices_of p.belts) same)
    where
      indices : indices_of (map (renamed_belt f) p.belts) ≡ map f (indices_of p.belts)
      indices = map-map (λ (e : Belt). e.index) (renamed_belt f) p.belts ∙ sym (map-map f (λ (e : Belt). e.index) p.belts)

      same : (e : ℕ) → Memᴰ e (indices_of p.belts) → any (in_rule (f e)) (renamed_rules f p.rules) ≡ any (in_rule e) p.rules
      same e m =
          any_map (in_rule (f e)) (map (renamed_literal f)) p.rules
          ∙ any_cong (λ (rule : List Literal). in_rule (f e) (map (renamed_literal f) rule)) (in_rule e) p.rules (λ rule k.
          any_map (names (f e)) (renamed_literal f) rule
          ∙ any_cong (λ (l : Literal). names (f e) (renamed_literal f l)) (names e) rule (λ l j. names_renamed e m l (h rule k l j)))
