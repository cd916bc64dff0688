-- The clauses of a plan, entry by entry: what each is, and how they are stored along the chains.
--
--   stores_at         after storing, a place of the list has what is stored there, and any other what it had; stores_append: one list after another
--   next_rule_low, first_literal_low, next_literal_low
--                     what a record of a rule or a literal leads to is below max_records
--   rule_entry_lem, literal_entry_lem
--                     the entry of a rule, and of a literal
--   first_entry, rule_parts, literal_parts
--                     the entry of record 0 in an array of all, and the two parts of that of a rule and of a literal
--   clauses_lent      an array of n entries has one for each record, if there are at most n records; ruled_lent: and the accepted plan is one that
--                     it is of
-- The literals of a rule, one after the other:
--   LiteralsStored b old first now l
--                     Invariant: storing the entries from literal l on in `now` gives the same array as storing those from `first` on in `old`
--   literals_stored, -size, -end
--                     it holds after the next entry is stored; the arrays are of one length; at the end no entry is left
-- The rules, one after the other:
--   records_from b r   the records of the rules from r on: of each its own, and those of its literals
--   RulesStored b n now r
--                     Invariant: storing the entries from rule r on in `now` gives the same array as storing all in n zeros
--   rules_start_lem, -stored, -size, -end
--                     the same of the rules; at the end the array is clauses_in n
--
-- Every rule and every literal of an accepted plan stands on a chain, so nothing else has an entry. Assumes nothing.
use mathlib.Core.Path.{◌≡◌, refl, sym, ◌∙◌, ap, subst}
use mathlib.Core.Logic.{◌⊎◌, inl, inr}
use mathlib.Core.Bool.{Bool, true, false, ◌||◌}
use Prim.Native.Nat.{ℕ, zero, suc, ◌+◌, ◌*◌, ◌-◌, ◌/◌, ◌%◌, ◌≤◌, ◌<◌}
use mathlib.Core.List.{List, [], ◌∷◌, ◌++◌, Memᴰ}
use native.Mathlib.Omega.{arith}
use lib.ListN.{length, get_or, set, replicate, length-set, length-map, length-replicate, get_or-replicate}
use lib.Seq.{get_or-set_same, get_or-set_other}
use lib.Dec.{eqb}
use borrow.Author.Tests.{eqb-true, eqb-false}
use Rattle.plan.specs.Bounds.{field_limit, max_records}
use Rattle.plan.specs.Lists.{mem, joined, iota}
use Rattle.plan.specs.Records.{records}
use Rattle.plan.specs.Plan.{literal_at}
use Rattle.plan.specs.Reading.{Accepted, IsRule, IsLiteral, is_rule_at, is_literal_at, first_rule, next_rule, first_literal, next_literal, rule_chain, literal_chain}
use Rattle.plan.proofs.Lists.{test, never, untrue, in_mem, in_joined, length_iota, get_d_first, map_first}
use Rattle.plan.proofs.Reading.{next_rule_is, first_literal_is, next_literal_is, rule_chain_end, rule_chain_next, literal_chain_end, literal_chain_next}
use Rattle.plan.proofs.Reading.{records_more, rule_test, literal_test, not_rule, rule_low, literal_low, rule_on_chain, literal_on_chain}
use Rattle.route.specs.Values.{named_places, code_in, rule_entry, literal_entry, entry_by, entry_of, clauses_in, Clauses, Ruled}
use Rattle.route.specs.Inner.{stores}

-- ---- storing

abbrev either : Bool → ℕ → ℕ → ℕ
either true x y = x
either false x y = y

either_same : (t : Bool) (x : ℕ) → either t x x ≡ x
either_same true x = refl
either_same false x = refl

module _ (f : ℕ → ℕ) where
  length_stores : (l is : List ℕ) → length (stores f l is) ≡ length l
  length_stores l [] = refl
  length_stores l (i ∷ is) = length_stores (set l i (f i)) is ∙ length-set l i (f i)

  stores_append : (l xs ys : List ℕ) → stores f l (xs ++ ys) ≡ stores f (stores f l xs) ys
  stores_append l [] ys = refl
  stores_append l (x ∷ xs) ys = stores_append (set l x (f x)) xs ys

  stores_at : (l is : List ℕ) (j : ℕ) → j < length l → get_or (stores f l is) j 0 ≡ either (mem j is) (f j) (get_or l j 0)
  stores_at l [] j h = refl
  stores_at l (i ∷ is) j h = stores_at (set l i (f i)) is j (omega (arith, length-set l i (f i))) ∙ go (test (eqb j i))
    where
      go : (eqb j i ≡ true) ⊎ (eqb j i ≡ false) → either (mem j is) (f j) (get_or (set l i (f i)) j 0) ≡ either (eqb j i || mem j is) (f j) (get_or l j 0)
      go (inl t) =
          let q : i ≡ j = sym (eqb-true j i t) in
          ap (λ (k : ℕ). either (mem j is) (f j) (get_or (set l k (f k)) j 0)) q
          ∙ ap (either (mem j is) (f j)) (get_or-set_same l j (f j) 0 h)
          ∙ either_same (mem j is) (f j)
          ∙ sym (ap (λ (s : Bool). either (s || mem j is) (f j) (get_or l j 0)) t)
      go (inr t) =
          ap (either (mem j is) (f j)) (get_or-set_other l i j (f i) 0 (eqb-false j i t))
          ∙ sym (ap (λ (s : Bool). either (s || mem j is) (f j) (get_or l j 0)) t)

-- ---- entries

below : (n : ℕ) → ((n ≡ 0 → ⊥) → n < max_records) → n < max_records
below zero h = omega arith
below (suc n) h = h (λ e. omega arith)

entry_at : (b : List ℕ) (n i : ℕ) → i < n → get_or (clauses_in n b) i 0 ≡ entry_of b i
unfolding clauses_in
entry_at b n i h = get_d_first (entry_of b) (n - 0) i 0 (omega arith)

length_clauses : (b : List ℕ) (n : ℕ) → length (clauses_in n b) ≡ n
unfolding clauses_in
length_clauses b n = omega (arith, length-map (iota 0 (n - 0)) (entry_of b), length_iota 0 (n - 0))

pub clauses_lent : {b : List ℕ} (n : ℕ) {cs : List ℕ} → records b ≤ n → cs ≡ clauses_in n b → Clauses b cs
clauses_lent {b} n {cs} h e =
    let size : length cs ≡ n = ap length e ∙ length_clauses b n in
    record { whole = e ∙ sym (ap (λ (m : ℕ). clauses_in m b) size); records_fit = omega arith }

pub ruled_lent : {b : List ℕ} → Accepted b → (n : ℕ) {cs : List ℕ} → records b ≤ n → cs ≡ clauses_in n b → Ruled b cs
ruled_lent ok n h e = record { accepted = ok; clauses = clauses_lent n h e }

-- a number of two parts
parts : (x y n : ℕ) → n ≡ x + field_limit * y → x < max_records → (n % field_limit ≡ x) × (n / field_limit ≡ y)
parts x y n e h = (omega arith, omega arith)

module _ {b : List ℕ} (ok : Accepted b) where
  pub next_rule_low : (r : ℕ) → IsRule b r → next_rule b r < max_records
  next_rule_low r o = below (next_rule b r) (λ d. (rule_low ok (next_rule b r) (next_rule_is ok r o d).1).2)

  pub first_literal_low : (r : ℕ) → IsRule b r → first_literal b r < max_records
  first_literal_low r o = below (first_literal b r) (λ d. (literal_low ok (first_literal b r) (first_literal_is ok r o d)).2)

  pub next_literal_low : (l : ℕ) → IsLiteral b l → next_literal b l < max_records
  next_literal_low l o = below (next_literal b l) (λ d. (literal_low ok (next_literal b l) (next_literal_is ok l o d).1).2)

  rule_entry_lem : (r : ℕ) → IsRule b r → entry_of b r ≡ rule_entry b r
  unfolding entry_of
  rule_entry_lem zero o = absurd (omega (arith, (rule_low ok 0 o).0))
  rule_entry_lem (suc r) o =
      ap (λ (t : Bool). entry_by t (is_literal_at b (suc r)) (rule_entry b (suc r)) (literal_entry b (suc r))) ((rule_test b (suc r)).1 o)

  literal_entry_lem : (l : ℕ) → IsLiteral b l → entry_of b l ≡ literal_entry b l
  unfolding entry_of
  literal_entry_lem zero o = absurd (omega (arith, (literal_low ok 0 o).0))
  literal_entry_lem (suc l) o =
      λ i. entry_by (not_rule b (suc l) o i) ((literal_test b (suc l)).1 o i) (rule_entry b (suc l)) (literal_entry b (suc l))

  module _ {clauses : List ℕ} (all : Clauses b clauses) where
    entry_in : (i : ℕ) → i < records b → get_or clauses i 0 ≡ entry_of b i
    entry_in i h = ap (λ (l : List ℕ). get_or l i 0) all.whole ∙ entry_at b (length clauses) i (omega (arith, all.records_fit))

    pub first_entry : get_or clauses 0 0 ≡ first_rule b
    unfolding entry_of
    first_entry = entry_in 0 (omega (arith, records_more ok))

    pub rule_parts : (r : ℕ) → IsRule b r → (get_or clauses r 0 % field_limit ≡ next_rule b r) × (get_or clauses r 0 / field_limit ≡ first_literal b r)
    rule_parts r o =
        parts (next_rule b r) (first_literal b r) (get_or clauses r 0)
        (entry_in r (rule_low ok r o).1 ∙ rule_entry_lem r o) (next_rule_low r o)

    pub literal_parts : (l : ℕ) → IsLiteral b l
        → (get_or clauses l 0 % field_limit ≡ next_literal b l) × (get_or clauses l 0 / field_limit ≡ code_in (named_places b) (literal_at b l))
    literal_parts l o =
        parts (next_literal b l) (code_in (named_places b) (literal_at b l)) (get_or clauses l 0)
        (entry_in l (literal_low ok l o).1 ∙ literal_entry_lem l o) (next_literal_low l o)

-- ---- the literals of a rule, one after the other

pub record LiteralsStored (b old : List ℕ) (first : ℕ) (now : List ℕ) (l : ℕ) : Type 0 where
  pub whole : stores (entry_of b) now (literal_chain b l) ≡ stores (entry_of b) old (literal_chain b first)

module _ {b : List ℕ} (ok : Accepted b) {old now : List ℕ} {first l : ℕ} (h : LiteralsStored b old first now l) where
  pub literals_size : length now ≡ length old
  literals_size =
      let f = entry_of b in
      sym (length_stores f now (literal_chain b l)) ∙ ap length h.whole ∙ length_stores f old (literal_chain b first)

  pub literals_end : l ≡ 0 → now ≡ stores (entry_of b) old (literal_chain b first)
  literals_end e = sym (ap (stores (entry_of b) now) (ap (literal_chain b) e ∙ literal_chain_end ok)) ∙ h.whole

  pub literals_stored : IsLiteral b l → (n : ℕ) → n ≡ next_literal b l → {places : List ℕ} → places ≡ named_places b
      → (c : ℕ) → c ≡ code_in places (literal_at b l) → LiteralsStored b old first (set now l (n + field_limit * c)) n
  literals_stored o n s {places} all c q =
      let code : c ≡ code_in (named_places b) (literal_at b l) = q ∙ ap (λ (ps : List ℕ). code_in ps (literal_at b l)) all in
      let entry : n + field_limit * c ≡ entry_of b l = (λ i. s i + field_limit * code i) ∙ sym (literal_entry_lem ok l o) in
      record {
        whole = (λ i. stores (entry_of b) (set now l (entry i)) (literal_chain b (s i)))
            ∙ sym (ap (stores (entry_of b) now) (literal_chain_next ok l o))
            ∙ h.whole;
      }

-- ---- the rules, one after the other

abbrev records_of : List ℕ → ℕ → List ℕ
records_of b r = r ∷ literal_chain b (first_literal b r)

abbrev records_from : List ℕ → ℕ → List ℕ
records_from b r = joined (records_of b) (rule_chain b r)

pub record RulesStored (b : List ℕ) (n : ℕ) (now : List ℕ) (r : ℕ) : Type 0 where
  pub whole : stores (entry_of b) now (records_from b r) ≡ stores (entry_of b) (replicate n 0) (0 ∷ records_from b (first_rule b))

module _ {b : List ℕ} (ok : Accepted b) where
  abbrev stored : List ℕ
  stored = 0 ∷ records_from b (first_rule b)

  rule_stored : (r : ℕ) → IsRule b r → Memᴰ r stored
  rule_stored r o = Memᴰ.tail (in_joined (records_of b) (rule_on_chain ok r o) (Memᴰ.head refl))

  literal_stored : (l : ℕ) → IsLiteral b l → Memᴰ l stored
  literal_stored l o =
      let (r, i, k) = literal_on_chain ok l o in
      Memᴰ.tail (in_joined (records_of b) (rule_on_chain ok r i) (Memᴰ.tail k))

  -- what is not stored has no entry
  unstored : (i : ℕ) → mem i stored ≡ false → entry_of b i ≡ 0
  unfolding entry_of
  unstored zero h = absurd (never (in_mem stored (Memᴰ.head refl)) h)
  unstored (suc i) h =
      let rule = untrue (is_rule_at b (suc i)) (λ t. never (in_mem stored (rule_stored (suc i) ((rule_test b (suc i)).0 t))) h) in
      let literal = untrue (is_literal_at b (suc i)) (λ t. never (in_mem stored (literal_stored (suc i) ((literal_test b (suc i)).0 t))) h) in
      λ j. entry_by (rule j) (literal j) (rule_entry b (suc i)) (literal_entry b (suc i))

  all_stored : (n : ℕ) → stores (entry_of b) (replicate n 0) stored ≡ clauses_in n b
  unfolding clauses_in
  all_stored n =
      let fresh : List ℕ = replicate n 0 in
      let size = length-replicate {A = ℕ} n 0 in
      map_first (entry_of b) (n - 0) 0 (stores (entry_of b) fresh stored) (omega (arith, length_stores (entry_of b) fresh stored, size)) (λ i l.
      stores_at (entry_of b) fresh stored i (omega (arith, size))
      ∙ ap (either (mem i stored) (entry_of b i)) (get_or-replicate n i 0 0 (omega arith))
      ∙ go i (mem i stored) refl)
    where
      go : (i : ℕ) (t : Bool) → mem i stored ≡ t → either t (entry_of b i) 0 ≡ entry_of b i
      go i true h = refl
      go i false h = sym (unstored i h)

  pub rules_start_lem : (n r : ℕ) → r ≡ first_rule b → RulesStored b n (set (replicate n 0) 0 r) r
  unfolding entry_of
  rules_start_lem n r e = subst (λ (i : ℕ). RulesStored b n (set (replicate n 0) 0 i) i) (sym e) (record { whole = refl })

  module _ {n : ℕ} {now : List ℕ} {r : ℕ} (h : RulesStored b n now r) where
    pub rules_size_lem : length now ≡ n
    rules_size_lem =
        let f = entry_of b in
        let fresh : List ℕ = replicate n 0 in
        sym (length_stores f now (records_from b r)) ∙ ap length h.whole ∙ length_stores f fresh stored ∙ length-replicate {A = ℕ} n 0

    pub rules_end : r ≡ 0 → now ≡ clauses_in n b
    rules_end e =
        sym (ap (λ (is : List ℕ). stores (entry_of b) now (joined (records_of b) is)) (ap (rule_chain b) e ∙ rule_chain_end ok)) ∙ h.whole ∙ all_stored n

    pub rules_stored : IsRule b r → (m l : ℕ) → m ≡ next_rule b r → l ≡ first_literal b r
        → (put : List ℕ) → put ≡ stores (entry_of b) (set now r (m + field_limit * l)) (literal_chain b (first_literal b r)) → RulesStored b n put m
    rules_stored o m l s q put w =
        let f = entry_of b in
        let entry : m + field_limit * l ≡ f r = (λ i. s i + field_limit * q i) ∙ sym (rule_entry_lem ok r o) in
        record {
          whole = (λ i. stores f (w i) (records_from b (s i)))
              ∙ (λ i. stores f (stores f (set now r (entry i)) (literal_chain b (first_literal b r))) (records_from b (next_rule b r)))
              ∙ sym (stores_append f (set now r (f r)) (literal_chain b (first_literal b r)) (records_from b (next_rule b r)))
              ∙ sym (ap (λ (is : List ℕ). stores f now (joined (records_of b) is)) (rule_chain_next ok r o))
              ∙ h.whole;
        }
