-- The archive form, put together from its records, and what is answered.
--
--   header_put        a record 0 of the right fields is that of the plan's content
--   written           record 0, the junctions, the belts and the rules, each behind the one before, are the archive form, as long as the plan
--   plan_refused, refused_16, none_refused
--                     the number of the first broken line: that of the plan, and where the plan is accepted 16 or 0
--   refused_told, written_told
--                     what is answered on a refusal, and where the archive form was written
--   told_fits         what is told of as written lies within the buffer
--   refused_claim     RefusedClaim; unrefused_plan: where nothing is refused, the plan is accepted
--   limits_claim      InLimitsClaim
--
-- Assumes nothing.
use mathlib.Core.Path.{◌≡◌, refl, sym, ◌∙◌, ap}
use mathlib.Core.Logic.{◌⊎◌, inl, inr}
use Prim.Native.Nat.{ℕ, zero, suc, ◌+◌, ◌*◌, ◌≤◌, ◌<◌}
use mathlib.Core.List.{List, [], ◌∷◌, ◌++◌, map}
use native.Mathlib.Omega.{arith}
use lib.ListN.{length, drop, length-append}
use borrow.Author.Tests.{lt-ltb, le-ltb}
use Rattle.std.specs.Prelude.{Ok, Err, Result, Option, IfSome, MatchOption}
use Rattle.plan.specs.declared.refusal.Refusal.{Refusal}
use Rattle.plan.specs.declared.read.RuleId.{RuleId}
use Rattle.plan.specs.declared.read.Literal.{Literal}
use Rattle.plan.specs.Records.{field, records, placed}
use Rattle.plan.specs.Plan.{plan_of, indices_of}
use Rattle.plan.specs.Refusals.{Line, about, plan_lines, first_broken, refusal, refusal_number}
use Rattle.plan.specs.Reading.{Accepted, IsRule, first_rule, rule_link}
use Rattle.plan.proofs.LineFirst.{front_first, on_broken, on_unbroken, past, passed, first_about, first_exactly}
use Rattle.plan.proofs.LineNumbers.{nonzero}
use Rattle.plan.proofs.Lists.{lt_or_le}
use Rattle.plan.proofs.Reading.{in_limits, limits, records_few, rules_from_lem}
use Rattle.archive.specs.Renaming.{renamed_rules}
use Rattle.archive.specs.Content.{Content, content_of, place}
use Rattle.archive.specs.Form.{fields, record_bytes_of, bytes_of, chain_start, legs_start}
use Rattle.archive.specs.Form.{junction_records, leg_records, rule_records, header_of, records_of, archive_of}
use Rattle.archive.specs.Answers.{Lent, lent_of, broken16, line16, archive_lines, archive_refusal, written_or, size_in, Told}
use Rattle.archive.specs.Claims.{RefusedClaim, InLimitsClaim}
use Rattle.archive.specs.Inner.{rules_in}
use Rattle.archive.proofs.RecordBytes.{length_bytes}
use Rattle.archive.proofs.FormRecords.{length_junctions, length_legs, length_records}
use Rattle.archive.proofs.ContentSize.{size_again}
use Rattle.archive.proofs.WriteRecords.{put_list}
use Rattle.archive.proofs.WriteRules.{rules_link}

-- ---- the archive form

module _ {b : List ℕ} (ok : Accepted b) where
  -- the content of the plan, and the index of its first rule
  abbrev content : Content
  content = content_of (plan_of b)

  abbrev start : ℕ
  start = legs_start content + length content.legs

  -- with the first rule, the fields of the record and the buffer after it
  pub header_put : (l : List ℕ) (at : ℕ) → at ≡ start → (o : Option RuleId) → rule_link o ≡ first_rule b → IfSome o (λ r. IsRule b r.0)
      → {f1 f2 f4 : ℕ} (f3 : ℕ) → f1 ≡ field b 0 1 → f2 ≡ field b 0 2 → MatchOption o (f3 ≡ 0) (λ _. f3 ≡ at) → f4 ≡ field b 0 4
      → (out : List ℕ) → out ≡ placed l 0 (record_bytes_of (fields 7 f1 f2 f3 f4 0)) → out ≡ placed l 0 (record_bytes_of (header_of content))
  unfolding plan_of records_of
  header_put l at e o q found {f1} {f2} {f4} f3 e1 e2 m e4 out put =
      let head : f3 ≡ chain_start start content.rules =
      rules_link ok o found at f3 m
      ∙ (λ i. chain_start (e i) (rules_in b (q i)))
      ∙ ap (λ (rs : List (List Literal)). chain_start start (renamed_rules (place (indices_of (plan_of b).belts)) rs)) (sym (rules_from_lem ok)) in
      let count : f4 ≡ length (records_of content) = e4 ∙ sym (size_again ok) in
      put ∙ (λ i. placed l 0 (record_bytes_of (fields 7 (e1 i) (e2 i) (head i) (count i) 0)))

  pub written : (l : List ℕ) → 12 * records b ≤ length l → (headed joined linked out : List ℕ)
      → headed ≡ placed l 0 (record_bytes_of (header_of content))
      → joined ≡ placed headed 12 (bytes_of (junction_records content))
      → linked ≡ placed joined (12 * legs_start content) (bytes_of (leg_records (legs_start content) content.legs))
      → out ≡ placed linked (12 * start) (bytes_of (rule_records (legs_start content) start content.rules))
      → out ≡ archive_of (plan_of b) ++ drop (length b) l
  unfolding records_of
  written l room headed joined linked out p q r s =
      let c = content in
      let n = legs_start c in
      let js = junction_records c in
      let es = leg_records n c.legs in
      let rs = rule_records n start c.rules in
      let top = header_of c in
      let junctions : length js ≡ c.junctions = length_junctions c in
      let legs : length es ≡ length c.legs = length_legs n c.legs in
      let all : length (records_of c) ≡ records b = size_again ok in
      let parts : length (records_of c) ≡ start + length rs = length_records c in
      let both : length (js ++ es) ≡ length js + length es = length-append js es in
      let one : joined ≡ placed l (12 * 0) (bytes_of (top ∷ js)) =
      put_list l 0 (top ∷ []) headed p js joined 1 q (omega arith) (omega arith) in
      let two : linked ≡ placed l (12 * 0) (bytes_of (top ∷ (js ++ es))) =
      put_list l 0 (top ∷ js) joined one es linked n r (omega arith) (omega arith) in
      let three : out ≡ placed l (12 * 0) (bytes_of (records_of c)) =
      put_list l 0 (top ∷ (js ++ es)) linked two rs out start s (omega arith) (omega arith) in
      let size : 0 + length (bytes_of (records_of c)) ≡ length b = omega (arith, length_bytes (records_of c), (records_few ok).1) in
      three ∙ ap (λ (k : ℕ). bytes_of (records_of c) ++ drop k l) size

-- ---- the first broken line

-- the lines of the plan, as lines of a call
abbrev plan_front : List (Line Lent)
plan_front = map (about (λ (k : Lent). k.plan)) plan_lines

module _ (k : Lent) where
  -- as far as the plan goes
  by_plan : first_broken plan_front k ≡ refusal k.plan
  unfolding refusal
  by_plan = first_about (λ (k : Lent). k.plan) plan_lines k

  -- a broken line of the plan decides
  pub plan_refused : (n : ℕ) → (n ≡ 0 → ⊥) → refusal k.plan ≡ n → archive_refusal k ≡ n
  unfolding archive_refusal
  plan_refused n h e = front_first (line16 ∷ []) k plan_front (λ z. h (sym e ∙ sym by_plan ∙ z)) ∙ by_plan ∙ e

  module _ (ok : Accepted k.plan) where
    past_plan : archive_refusal k ≡ first_broken (line16 ∷ []) k
    unfolding archive_refusal
    past_plan = past plan_front (line16 ∷ []) k (passed plan_front k refl (by_plan ∙ ok.unrefused))

    pub refused_16 : k.room < length k.plan → archive_refusal k ≡ 16
    unfolding broken16
    refused_16 h = past_plan ∙ on_broken line16 [] k (lt-ltb k.room (length k.plan) h)

    pub none_refused : length k.plan ≤ k.room → archive_refusal k ≡ 0
    unfolding broken16
    none_refused h = past_plan ∙ on_unbroken line16 [] k (le-ltb k.room (length k.plan) h)

-- where nothing is refused, the plan is accepted
pub unrefused_plan : (k : Lent) → archive_refusal k ≡ 0 → Accepted k.plan
unrefused_plan k e = go (refusal k.plan) refl
  where
    go : (n : ℕ) → refusal k.plan ≡ n → Accepted k.plan
    go zero q = record { unrefused = q }
    go (suc n) q = let z : suc n ≡ 0 = sym (plan_refused k (suc n) (λ s. omega arith) q) ∙ e in absurd (omega arith)

pub refused_claim : RefusedClaim
unfolding archive_refusal
refused_claim k n = first_exactly archive_lines k n

pub limits_claim : InLimitsClaim
limits_claim k = (
  λ e. let ok = unrefused_plan k e in (limits ok, room ok e (lt_or_le k.room (length k.plan))),
  λ (l, h). none_refused k (in_limits k.plan l) h,
)
  where
    room : Accepted k.plan → archive_refusal k ≡ 0 → (k.room < length k.plan) ⊎ (length k.plan ≤ k.room) → length k.plan ≤ k.room
    room ok e (inl h) = let z : ◌≡◌ {A = ℕ} 16 0 = sym (refused_16 k ok h) ∙ e in absurd (omega arith)
    room ok e (inr h) = h

-- ---- what is answered

pub refused_told : (b out : List ℕ) (r : Refusal) → archive_refusal (lent_of b out) ≡ refusal_number r → Told (Err r) b out out
refused_told b out r e = go (refusal_number r) (nonzero r) e
  where
    go : (n : ℕ) → (n ≡ 0 → ⊥) → archive_refusal (lent_of b out) ≡ n → Told (Err r) b out out
    go zero h q = absurd (h refl)
    go (suc n) h q = record {
      number = sym e;
      size = sym (ap (λ (m : ℕ). written_or {A = ℕ} m (length (archive_of (plan_of b))) 0) q);
      out = sym (ap (λ (m : ℕ). written_or {A = List ℕ} m (archive_of (plan_of b) ++ drop (length (archive_of (plan_of b))) out) out) q);
    }

pub written_told : {b : List ℕ} → Accepted b → (out after : List ℕ) → length b ≤ length out → after ≡ archive_of (plan_of b) ++ drop (length b) out
    → Told (Ok (length b)) b out after
written_told {b} ok out after h e =
    let none = none_refused (lent_of b out) ok h in
    let form = archive_of (plan_of b) in
    let size : length b ≡ length form = omega (arith, length_bytes (records_of (content_of (plan_of b))), size_again ok, (records_few ok).1) in
    record {
      number = sym none;
      size = size ∙ sym (ap (λ (m : ℕ). written_or {A = ℕ} m (length form) 0) none);
      out = e
          ∙ ap (λ (m : ℕ). form ++ drop m out) size
          ∙ sym (ap (λ (m : ℕ). written_or {A = List ℕ} m (form ++ drop (length form) out) out) none);
    }

-- what is told of as written lies within the buffer
pub told_fits : (v : Result ℕ Refusal) (b before after : List ℕ) → Told v b before after → size_in v ≤ length after
told_fits v b before after told = go (archive_refusal (lent_of b before)) refl
  where
    go : (n : ℕ) → archive_refusal (lent_of b before) ≡ n → size_in v ≤ length after
    go zero e =
        let form = archive_of (plan_of b) in
        let size : size_in v ≡ length form = told.size ∙ ap (λ (m : ℕ). written_or {A = ℕ} m (length form) 0) e in
        let put : after ≡ form ++ drop (length form) before =
        told.out ∙ ap (λ (m : ℕ). written_or {A = List ℕ} m (form ++ drop (length form) before) before) e in
        omega (arith, size, ap length put, length-append form (drop (length form) before))
    go (suc n) e =
        let size : size_in v ≡ 0 = told.size ∙ ap (λ (m : ℕ). written_or {A = ℕ} m (length (archive_of (plan_of b))) 0) e in
        omega (arith, size)
