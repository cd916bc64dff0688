-- Writing the rules of a plan and their literals, along their chains.
--
--   first b           the index of the first belt in the archive form
--   OnChain b k left  what is left of a chain of records of kind k: the indices of its records
--   chain_passed      past a record that is left, those from the next one on
--   literals_of b left, rules_of b left
--                     the literals, or rules, with these indices, with their belts by place
--   literal_names     a literal about a belt names a belt record
--   belt_named, mode_named
--                     the record of a literal about a belt, and about a mode
--   record_at         another record at another place, where both are equal
--   option_link       a link that is 0 where nothing follows
--   literals_link, rules_link
--                     the chain index of the literals, or rules, from a record on: 0 where there is none
-- The literals of a rule, one after the other:
--   LiteralsPut b old at r now left i
--                     Invariant: placing the records of the literals that are left, at record i of `now`, gives the same buffer as placing those of
--                     rule r at record `at` of `old`
--   literals_start, -room, -put, -done
--                     it holds at first; there is room for the record of the next literal; it holds after that is placed; at the end none is left
--   rule_put          a rule's record, placed before those of its literals
-- The rules, one after the other:
--   RulesPut b old now left i
--                     Invariant: placing the records of the rules that are left, at record i of `now`, gives the same buffer as placing those of all
--                     rules behind the belts of `old`
--   rules_start_lem, -room, -put, -done
--                     the same of the rules
--
-- Assumes nothing.
use mathlib.Core.Path.{◌≡◌, refl, sym, ◌∙◌, ap, subst}
use mathlib.Core.Bool.{Bool, true, false}
use Prim.Native.Nat.{ℕ, zero, suc, ◌+◌, ◌*◌, ◌≤◌}
use mathlib.Core.List.{List, [], ◌∷◌, ◌++◌, map, Memᴰ}
use native.Mathlib.Omega.{arith}
use native.Mathlib.Numerals.{add-one}
use lib.ListN.{length, length-map, length-append}
use Rattle.std.specs.Prelude.{Option, Some, None, IfSome, MatchOption}
use Rattle.std.specs.Int.{from_bool}
use Rattle.plan.specs.declared.read.BeltId.{BeltId}
use Rattle.plan.specs.declared.read.ModeId.{ModeId}
use Rattle.plan.specs.declared.read.RuleId.{RuleId}
use Rattle.plan.specs.declared.read.LiteralId.{LiteralId}
use Rattle.plan.specs.declared.read.Literal.{Literal}
use Rattle.plan.specs.declared.read.Literal.TheVariants.{OfBelt, OfMode}
use Rattle.plan.specs.Records.{field, records, IsKind, chain, Item, rules, literals, placed}
use Rattle.plan.specs.Plan.{plan_of, literal_at, rule_at, indices_of}
use Rattle.plan.specs.Reading.{Accepted, IsBelt, IsRule, IsLiteral, first_rule, next_rule, rule_link, rule_chain}
use Rattle.plan.specs.Reading.{first_literal, next_literal, literal_link, literal_chain}
use Rattle.plan.proofs.Reading.{belt_chain_end, chain_next, next_is, rules_from_lem, rules_end, rules_next, first_rule_is}
use Rattle.plan.proofs.Reading.{literals_end, literals_next, first_literal_is, literal_in, literal_belt}
use Rattle.archive.specs.Renaming.{renamed_rules}
use Rattle.archive.specs.Content.{place, content_of, new_index}
use Rattle.archive.specs.Form.{Fields, fields, bytes_of, record_bytes_of, chain_start, legs_start, rules_start}
use Rattle.archive.specs.Form.{flag, literal_record, literal_records, behind, records_of_rule, rule_records}
use Rattle.archive.specs.Inner.{by_place, rule_in, literals_in, rules_in}
use Rattle.archive.proofs.FormRecords.{length_literals, length_rule, length_records}
use Rattle.archive.proofs.ContentSize.{size_again}
use Rattle.archive.proofs.WriteRecords.{put_none, length_put, put_list, put_front}

-- the first belt in the archive form
abbrev pub first : List ℕ → ℕ
first b = legs_start (content_of (plan_of b))

-- ---- what is left of a chain

pub record OnChain (b : List ℕ) (k : ℕ) (left : List ℕ) : Type 0 where
  pub head : ℕ
  pub found : (head ≡ 0 → ⊥) → IsKind b k head
  pub is : left ≡ chain b head

module _ {b : List ℕ} (ok : Accepted b) where
  pub chain_passed : {k : ℕ} → Item k → (i : ℕ) (rest : List ℕ) → OnChain b k (i ∷ rest) → IsKind b k i × (rest ≡ chain b (field b i 1)) × OnChain b k rest
  chain_passed {k} t i rest h = go h.head h.found h.is
    where
      go : (head : ℕ) → ((head ≡ 0 → ⊥) → IsKind b k head) → i ∷ rest ≡ chain b head → IsKind b k i × (rest ≡ chain b (field b i 1)) × OnChain b k rest
      go zero found q = absurd (omega (arith, ap length (q ∙ belt_chain_end ok)))
      go (suc n) found q =
          let o = found (λ z. omega arith) in
          let step : i ∷ rest ≡ suc n ∷ chain b (field b (suc n) 1) = q ∙ chain_next ok t (suc n) o in
          let here : suc n ≡ i = cc in
          let behind : rest ≡ chain b (field b (suc n) 1) = cc in
          let on : rest ≡ chain b (field b i 1) = behind ∙ ap (λ (r : ℕ). chain b (field b r 1)) here in
          let is : IsKind b k i = subst (IsKind b k) here o in
          (is, on, record { head = field b i 1; found = next_is ok t i is; is = on })

-- the literals, and the rules, with these indices
abbrev pub literals_of : List ℕ → List ℕ → List Literal
literals_of b left = map (by_place b) (map (literal_at b) left)

abbrev pub rules_of : List ℕ → List ℕ → List (List Literal)
rules_of b left = renamed_rules (place (indices_of (plan_of b).belts)) (map (rule_at b) left)

-- another record at another place, where both are equal
pub record_at : (old : List ℕ) {out : List ℕ} {i j : ℕ} {r s : Fields} → r ≡ s → j ≡ i → out ≡ placed old (12 * j) (record_bytes_of r) → out ≡ placed old (12 * i) (record_bytes_of s)
record_at old q e put = put ∙ (λ k. placed old (12 * e k) (record_bytes_of (q k)))

-- a link that is 0 where nothing follows, and else leads to i, by what a closure answers
pub option_link : {A : Type 0} (o : Option A) (r i : ℕ) (Q : A → Type 0) → MatchOption o (r ≡ 0) Q → ((x : A) → Q x → r ≡ i) → MatchOption o (r ≡ 0) (λ _. r ≡ i)
option_link None r i Q h w = h
option_link (Some x) r i Q h w = w x h

-- ---- a literal

literal_flag : (wanted : Bool) → from_bool wanted ≡ flag wanted
literal_flag true = refl
literal_flag false = refl

-- its record, by its fields
module _ (b : List ℕ) (wanted : Bool) {next link flag_of : ℕ} (n : link ≡ next) (w : flag_of ≡ from_bool wanted) where
  pub belt_named : (e : BeltId) {number : ℕ} → number ≡ new_index (plan_of b) e.0
      → fields 4 link flag_of 0 number 0 ≡ literal_record (first b) (by_place b (OfBelt e wanted)) next
  belt_named e q = (λ i. fields 4 (n i) ((w ∙ literal_flag wanted) i) 0 (q i) 0)

  pub mode_named : (m : ModeId) → fields 4 link flag_of 1 m.0 0 ≡ literal_record (first b) (by_place b (OfMode m wanted)) next
  mode_named m = (λ i. fields 4 (n i) ((w ∙ literal_flag wanted) i) 1 m.0 0)

module _ {b : List ℕ} (ok : Accepted b) where
  pub literal_names : (l : ℕ) → IsLiteral b l → (e : BeltId) (wanted : Bool) → literal_at b l ≡ OfBelt e wanted → IsBelt b e.0
  literal_names l o e wanted q =
      let (rule, m, n) = literal_in ok l o in
      literal_belt ok rule m e wanted (subst (λ (x : Literal). Memᴰ x rule) q n)

  pub literals_link : (o : Option LiteralId) → IfSome o (λ l. IsLiteral b l.0) → (i r : ℕ) → MatchOption o (r ≡ 0) (λ _. r ≡ i)
      → r ≡ chain_start i (literals_in b (literal_link o))
  literals_link None found i r h = h ∙ sym (ap (λ (ls : List Literal). chain_start i (map (by_place b) ls)) (literals_end ok))
  literals_link (Some l) found i r h = h ∙ sym (ap (λ (ls : List Literal). chain_start i (map (by_place b) ls)) (literals_next ok l.0 found))

-- ---- the literals of a rule

pub record LiteralsPut (b old : List ℕ) (at r : ℕ) (now left : List ℕ) (i : ℕ) : Type 0 where
  pub on : OnChain b 4 left
  pub index : i + length left ≡ at + length (rule_at b r)
  pub size : length now ≡ length old
  pub whole : placed now (12 * i) (bytes_of (literal_records (first b) i (literals_of b left)))
      ≡ placed old (12 * at) (bytes_of (literal_records (first b) at (rule_in b r)))

module _ {b : List ℕ} (ok : Accepted b) where
  pub literals_start : (old : List ℕ) (at r : ℕ) → IsRule b r → (left : List ℕ) → left ≡ literal_chain b (first_literal b r) → LiteralsPut b old at r old left at
  literals_start old at r o left q = record {
    on = record { head = first_literal b r; found = first_literal_is ok r o; is = q };
    index = ap (λ (ls : List ℕ). at + length ls) q ∙ ap (λ (n : ℕ). at + n) (sym (length-map (literal_chain b (first_literal b r)) (literal_at b)));
    size = refl;
    whole = ap (λ (ls : List ℕ). placed old (12 * at) (bytes_of (literal_records (first b) at (literals_of b ls)))) q;
  }

  module _ {old : List ℕ} {at r : ℕ} {now : List ℕ} where
    -- at literal l
    module _ {l : ℕ} {rest : List ℕ} {i : ℕ} (h : LiteralsPut b old at r now (l ∷ rest) i) where
      pub literal_is : IsLiteral b l
      literal_is = (chain_passed ok literals l rest h.on).0

      pub literals_room : i + 1 ≤ at + length (rule_at b r)
      literals_room = omega (arith, h.index)

      pub literals_put : 12 * (at + length (rule_at b r)) ≤ length old
          → (out : List ℕ)
          → out ≡ placed now (12 * i)
          (record_bytes_of (literal_record (first b) (by_place b (literal_at b l)) (chain_start (i + 1) (literals_in b (next_literal b l)))))
          → LiteralsPut b old at r out rest (i + 1)
      literals_put room out put =
          let n = first b in
          let (o, behind, on) = chain_passed ok literals l rest h.on in
          let x : ℕ → Fields = λ k. literal_record n (by_place b (literal_at b l)) (chain_start k (literals_of b rest)) in
          let ys : ℕ → List Fields = λ k. literal_records n k (literals_of b rest) in
          let one : out ≡ placed now (12 * i) (bytes_of (x (i + 1) ∷ [])) =
          put ∙ ap (λ (ls : List ℕ). placed now (12 * i) (record_bytes_of (literal_record n (by_place b (literal_at b l)) (chain_start (i + 1) (literals_of b ls))))) (sym behind) in
          let left : length (ys (i + 1)) ≡ length rest =
          length_literals n (i + 1) (literals_of b rest) ∙ length-map (map (literal_at b) rest) (by_place b) ∙ length-map rest (literal_at b) in
          let at_end = h.index in
          let same = h.size in
          record {
            on = on;
            index = omega arith;
            size = length_put now i (x (i + 1) ∷ []) out one (omega arith) ∙ same;
            whole = put_list now i (x (i + 1) ∷ []) out one (ys (i + 1)) (placed out (12 * (i + 1)) (bytes_of (ys (i + 1)))) (i + 1) refl refl (omega arith)
                ∙ ap (λ (k : ℕ). placed now (12 * i) (bytes_of (x k ∷ ys k))) (add-one i)
                ∙ h.whole;
          }

    pub literals_done : {i : ℕ} → LiteralsPut b old at r now [] i → 12 * (at + length (rule_at b r)) ≤ length old
        → (i ≡ at + length (rule_at b r)) × (now ≡ placed old (12 * at) (bytes_of (literal_records (first b) at (rule_in b r))))
    literals_done {i} h room =
        let at_end = h.index in
        let same = h.size in
        (omega arith, put_none now (12 * i) (omega arith) ∙ h.whole)

-- ---- the rules

module _ {b : List ℕ} (ok : Accepted b) where
  pub rules_link : (o : Option RuleId) → IfSome o (λ r. IsRule b r.0) → (i k : ℕ) → MatchOption o (k ≡ 0) (λ _. k ≡ i)
      → k ≡ chain_start i (rules_in b (rule_link o))
  rules_link None found i k h = h ∙ sym (ap (λ (rs : List (List Literal)). chain_start i (map (map (by_place b)) rs)) (rules_end ok))
  rules_link (Some r) found i k h = h ∙ sym (ap (λ (rs : List (List Literal)). chain_start i (map (map (by_place b)) rs)) (rules_next ok r.0 found))

  -- the record of a rule, before those of its literals; with the index behind them, the two links and the buffer after it
  pub rule_put : (l : List ℕ) (at r : ℕ) (end : ℕ) → end ≡ at + 1 + length (rule_at b r)
      → (mid : List ℕ) → mid ≡ placed l (12 * (at + 1)) (bytes_of (literal_records (first b) (at + 1) (rule_in b r)))
      → (o : Option RuleId) → rule_link o ≡ next_rule b r → IfSome o (λ x. IsRule b x.0) → (f1 : ℕ) → MatchOption o (f1 ≡ 0) (λ _. f1 ≡ end)
      → (p : Option LiteralId) → literal_link p ≡ first_literal b r → IfSome p (λ x. IsLiteral b x.0)
      → (f2 : ℕ) → MatchOption p (f2 ≡ 0) (λ _. f2 ≡ at + 1)
      → (k : ℕ) → k ≡ at → (out : List ℕ) → out ≡ placed mid (12 * k) (record_bytes_of (fields 3 f1 f2 0 0 0)) → 12 * behind at (rule_at b r) ≤ length l
      → (end ≡ behind at (rule_at b r)) × (out ≡ placed l (12 * at)
      (bytes_of (records_of_rule (first b) at (rule_in b r) (chain_start (behind at (rule_at b r)) (rules_in b (next_rule b r))))))
  rule_put l at r end z mid w o q found f1 e1 p s lits f2 e2 k t out put room =
      let n = first b in
      let j : end ≡ behind at (rule_at b r) = z ∙ ap (λ (k : ℕ). k + length (rule_at b r)) (add-one at) in
      let next : f1 ≡ chain_start (behind at (rule_at b r)) (rules_in b (next_rule b r)) =
      rules_link o found end f1 e1 ∙ (λ i. chain_start (j i) (rules_in b (q i))) in
      let head : f2 ≡ chain_start (at + 1) (rule_in b r) =
      literals_link ok p lits (at + 1) f2 e2 ∙ ap (λ (k : ℕ). chain_start (at + 1) (literals_in b k)) s in
      let size = length_literals n (at + 1) (rule_in b r) in
      let count = length-map (rule_at b r) (by_place b) in (
        j,
        put_front l at (fields 3 f1 f2 0 0 0) (literal_records n (at + 1) (rule_in b r)) mid out w (put ∙ (λ i. placed mid (12 * t i) (record_bytes_of (fields 3 f1 f2 0 0 0)))) (omega arith)
            ∙ (λ i. placed l (12 * at) (bytes_of (fields 3 (next i) (head i) 0 0 0 ∷ literal_records n (at + 1) (rule_in b r))))
            ∙ ap
            (λ (k : ℕ). placed l (12 * at)
            (bytes_of (fields 3 (chain_start (behind at (rule_at b r)) (rules_in b (next_rule b r))) (chain_start k (rule_in b r)) 0 0 0 ∷ literal_records n k (rule_in b r))))
            (add-one at),
      )

-- rule r at record i and its literals, with the link to the rule behind it
abbrev rule_there : List ℕ → ℕ → ℕ → List Fields
rule_there b r i = records_of_rule (first b) i (rule_in b r) (chain_start (behind i (rule_at b r)) (rules_in b (next_rule b r)))

-- where its records end
rule_ends : (b : List ℕ) (i r next : ℕ) → i + length (records_of_rule (first b) i (rule_in b r) next) ≡ behind i (rule_at b r)
rule_ends b i r next = omega (arith, length_rule (first b) i (rule_in b r) next, length-map (rule_at b r) (by_place b))

-- the records of the plan's rules
abbrev all_rules : List ℕ → List Fields
all_rules b = rule_records (first b) (rules_start (content_of (plan_of b))) (content_of (plan_of b)).rules

pub record RulesPut (b old now left : List ℕ) (i : ℕ) : Type 0 where
  pub on : OnChain b 3 left
  pub room : i + length (rule_records (first b) i (rules_of b left)) ≤ records b
  pub size : length now ≡ length old
  pub whole : placed now (12 * i) (bytes_of (rule_records (first b) i (rules_of b left)))
      ≡ placed old (12 * rules_start (content_of (plan_of b))) (bytes_of (all_rules b))

module _ {b : List ℕ} (ok : Accepted b) where
  pub rules_start_lem : (old : List ℕ) (at : ℕ) → at ≡ rules_start (content_of (plan_of b)) → (left : List ℕ) → left ≡ rule_chain b (first_rule b)
      → RulesPut b old old left at
  rules_start_lem old at e left q =
      let c = content_of (plan_of b) in
      let same : rules_of b left ≡ c.rules =
      ap (rules_of b) q ∙ ap (λ (rs : List (List Literal)). renamed_rules (place (indices_of (plan_of b).belts)) rs) (sym (rules_from_lem ok)) in
      let all : rule_records (first b) at (rules_of b left) ≡ all_rules b = (λ i. rule_records (first b) (e i) (same i)) in
      let end : rules_start c + length (all_rules b) ≡ records b = sym (length_records c) ∙ size_again ok in
      record {
        on = record { head = first_rule b; found = first_rule_is ok; is = q };
        room = omega (arith, ap length all);
        size = refl;
        whole = (λ i. placed old (12 * e i) (bytes_of (all i)));
      }

  module _ {old now : List ℕ} where
    -- at rule r
    module _ {r : ℕ} {rest : List ℕ} {i : ℕ} (h : RulesPut b old now (r ∷ rest) i) where
      pub rule_is : IsRule b r
      rule_is = (chain_passed ok rules r rest h.on).0

      -- its records, and those of the rules behind it
      others : List Fields
      others = rule_records (first b) (behind i (rule_at b r)) (rules_of b rest)

      parted : rule_records (first b) i (rules_of b (r ∷ rest)) ≡ rule_there b r i ++ others
      unfolding others
      parted =
          let x = rule_in b r in
          let e : behind i x ≡ behind i (rule_at b r) = ap (λ (k : ℕ). suc i + k) (length-map (rule_at b r) (by_place b)) in
          ap (λ (k : ℕ). records_of_rule (first b) i x (chain_start k (rules_of b rest)) ++ rule_records (first b) k (rules_of b rest)) e
          ∙ ap
          (λ (ls : List ℕ). records_of_rule (first b) i x (chain_start (behind i (rule_at b r)) (rules_of b ls)) ++ rule_records (first b) (behind i (rule_at b r)) (rules_of b rest))
          (chain_passed ok rules r rest h.on).1

      ends : i + length (rule_records (first b) i (rules_of b (r ∷ rest))) ≡ behind i (rule_at b r) + length others
      ends =
          let size = rule_ends b i r (chain_start (behind i (rule_at b r)) (rules_in b (next_rule b r))) in
          omega (arith, ap length parted, length-append (rule_there b r i) others)

      pub rules_room : behind i (rule_at b r) ≤ records b
      rules_room = omega (arith, h.room, ends)

      pub rules_put : 12 * records b ≤ length old → (j : ℕ) → j ≡ behind i (rule_at b r) → (out : List ℕ) → out ≡ placed now (12 * i) (bytes_of (rule_there b r i))
          → RulesPut b old out rest j
      unfolding others
      rules_put long j e out put =
          let next = behind i (rule_at b r) in
          let left : rule_records (first b) j (rules_of b rest) ≡ others = (λ k. rule_records (first b) (e k) (rules_of b rest)) in
          let size = rule_ends b i r (chain_start next (rules_in b (next_rule b r))) in
          let all = ends in
          let few = h.room in
          let same = h.size in
          record {
            on = (chain_passed ok rules r rest h.on).2;
            room = omega (arith, ap length left);
            size = length_put now i (rule_there b r i) out put (omega arith) ∙ same;
            whole = (λ k. placed out (12 * e k) (bytes_of (left k)))
                ∙ put_list now i (rule_there b r i) out put others (placed out (12 * next) (bytes_of others)) next refl (sym size) (omega arith)
                ∙ ap (λ (rs : List Fields). placed now (12 * i) (bytes_of rs)) (sym parted)
                ∙ h.whole;
          }

    pub rules_done : {i : ℕ} → RulesPut b old now [] i → 12 * records b ≤ length old
        → now ≡ placed old (12 * rules_start (content_of (plan_of b))) (bytes_of (all_rules b))
    rules_done {i} h long =
        let few = h.room in
        let same = h.size in
        put_none now (12 * i) (omega arith) ∙ h.whole
