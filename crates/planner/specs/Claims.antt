-- What is claimed of the C interface, as types; proofs/Claims.antt proves them all. The contracts of src/lib.rt say that a reply, and every byte
-- of the out buffer, are what `outcome` gives, or for an archive form `archive_reply` and `archive_after`, and that the answer about a sheet is
-- `sheet_refusal`; these say what a caller can tell by them.
--
--   reply_in b q out   the reply to the query q about the plan b, with the out buffer out; out_in b q out: the out buffer afterwards
--   IsFound o         an outcome is a route; IsNone o: it is none
--   Tells k out v after
--                     what the reply v and the buffer after tell of the request k, whose out buffer was out: each sentence in its own field
--   TellsClaim        every reply tells this, with the out buffer
--   ArchiveTells b out v after
--                     what the reply v and the buffer after tell of a call for the archive form of the plan b, whose out buffer was out
--   ArchiveClaim      every reply to such a call tells this, with the out buffer
--   IgnoresClaim      what is not looked at changes nothing: whatever minute is, the reply and the out buffer are the same, and whatever is beside
--                     s, t, mask and values, the answer about a sheet is
--
-- They are about ALL lists of bytes, ALL queries and out buffers; where bytes have to be below 256, it says so (Bytes). Assumes nothing.
use Rattle.std.specs.Prelude.{◌≡◌, ◌⊎◌, ◌↔◌, ℕ, ◌≤◌, List, length, take, drop}
use Rattle.plan.specs.Refusals.{refusal}
use Rattle.plan.specs.Reading.{Bytes}
use Rattle.plan.specs.Claims.{Unbroken, FirstIn}
use Rattle.route.specs.Sheets.{sheet_of}
use Rattle.route.specs.Refusals.{sheet_refusal}
use Rattle.route.specs.Values.{case_of}
use Rattle.search.specs.Answers.{Request, search_lines, Outcome, route, nothing, outcome, reply_to, out_after}
use Rattle.search.specs.Claims.{IsSpent, opened_of}
use Rattle.archive.specs.Answers.{lent_of, archive_lines, archive_in, archive_after}
use Rattle.planner.specs.declared.PlannerQuery.{PlannerQuery}
use Rattle.planner.specs.declared.PlannerReply.{PlannerReply}
use Rattle.planner.specs.Interface.{trip_of, call_of, to_caller, archive_reply}

abbrev pub reply_in : List ℕ → PlannerQuery → List ℕ → PlannerReply
reply_in b q out = to_caller (reply_to (outcome (call_of b q out)))

abbrev pub out_in : List ℕ → PlannerQuery → List ℕ → List ℕ
out_in b q out = out_after (outcome (call_of b q out)) out

abbrev pub IsFound : Outcome → Type 0
IsFound o = (es : List ℕ) × (c : ℕ) × (σ : ℕ) × (n : ℕ) × (o ≡ route es c σ n)

abbrev pub IsNone : Outcome → Type 0
IsNone o = (n : ℕ) × (o ≡ nothing n)

pub record Tells (k : Request) (out : List ℕ) (v : PlannerReply) (after : List ℕ) : Type 0 where
  -- the number is 0 exactly for a route, 100 exactly for none, 101 exactly for spent
  pub zero : (v.number ≡ 0) ↔ IsFound (outcome k)
  pub hundred : (v.number ≡ 100) ↔ IsNone (outcome k)
  pub hundred_one : (v.number ≡ 101) ↔ IsSpent (outcome k)
  -- any other number n exactly where n is that of the first broken line
  pub other : (n : ℕ) → (n ≡ 0 → ⊥) → (n ≡ 100 → ⊥) → (n ≡ 101 → ⊥) → (v.number ≡ n) ↔ FirstIn search_lines k n
  -- and there are no others: not 11 to 14, which are of sheets, and not 102
  pub among : (v.number ≤ 10) ⊎ ((v.number ≡ 15) ⊎ ((v.number ≡ 100) ⊎ (v.number ≡ 101)))
  -- the count is that of the outcome, and 0 on a refusal; no tests are counted
  pub opened : v.opened ≡ opened_of (outcome k)
  pub refused : (n : ℕ) → FirstIn search_lines k n → v.opened ≡ 0
  pub tests : v.tests ≡ 0
  -- on a route the length is that of its sheet, which stands at the start of the buffer; behind it no byte differs
  pub sheet : (es : List ℕ) (c σ n : ℕ) → outcome k ≡ route es c σ n
      → (v.length ≡ length (sheet_of es c σ)) × (take v.length after ≡ sheet_of es c σ) × (drop v.length after ≡ drop v.length out)
  -- and the check of sheets answers 0 to it, with the same plan, s, t and lock
  pub accepted : Bytes k.plan → v.number ≡ 0 → sheet_refusal (case_of k.plan k.query.trip (take v.length after)) ≡ 0
  -- with any number but 0 the length is 0, and every byte of the buffer is as it was
  pub unchanged : (v.number ≡ 0 → ⊥) → (v.length ≡ 0) × (after ≡ out)

abbrev pub TellsClaim : Type 0
TellsClaim = (b : List ℕ) (q : PlannerQuery) (out : List ℕ) → Tells (call_of b q out) out (reply_in b q out) (out_in b q out)

pub record ArchiveTells (b out : List ℕ) (v : PlannerReply) (after : List ℕ) : Type 0 where
  -- the number is 0 exactly where no line is broken, and any other number n exactly where n is that of the first broken line
  pub zero : (v.number ≡ 0) ↔ Unbroken archive_lines (lent_of b out)
  pub other : (n : ℕ) → (n ≡ 0 → ⊥) → (v.number ≡ n) ↔ FirstIn archive_lines (lent_of b out) n
  -- and there are no others: those of the plan, and 16
  pub among : (v.number ≤ 7) ⊎ (v.number ≡ 16)
  -- nothing is opened and no tests are counted
  pub opened : v.opened ≡ 0
  pub tests : v.tests ≡ 0
  -- with 0 the length is that of the plan, and of its archive form, which stands at the start of the buffer; behind it no byte differs
  pub written : Bytes b → v.number ≡ 0
      → (v.length ≡ length b) × (take v.length after ≡ archive_in b) × (drop v.length after ≡ drop v.length out)
  -- what stands there is accepted as a plan, and is its own archive form
  pub accepted : Bytes b → v.number ≡ 0 → refusal (take v.length after) ≡ 0
  pub again : Bytes b → v.number ≡ 0 → archive_in (take v.length after) ≡ take v.length after
  -- with any other number the length is 0, and every byte of the buffer is as it was
  pub kept : (v.number ≡ 0 → ⊥) → (v.length ≡ 0) × (after ≡ out)

abbrev pub ArchiveClaim : Type 0
ArchiveClaim = (b out : List ℕ) → ArchiveTells b out (archive_reply (lent_of b out)) (archive_after (lent_of b out) out)

abbrev pub IgnoresClaim : Type 0
IgnoresClaim = (b : List ℕ) (q r : PlannerQuery) → q.s ≡ r.s → q.t ≡ r.t → q.mask ≡ r.mask → q.values ≡ r.values
    → (q.pick ≡ r.pick → q.order ≡ r.order → q.budget ≡ r.budget
    → (out : List ℕ) → (reply_in b q out ≡ reply_in b r out) × (out_in b q out ≡ out_in b r out))
    × ((h : List ℕ) → sheet_refusal (case_of b (trip_of q) h) ≡ sheet_refusal (case_of b (trip_of r) h))

-- all of them
pub record Claims : Type 0 where
  pub tells : TellsClaim
  pub archive : ArchiveClaim
  pub ignores : IgnoresClaim
