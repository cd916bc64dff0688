-- What is claimed of archive forms, as types; proofs/Claims.antt proves them all. The contract of `entry::archive` says that its answer and every byte
-- of the out buffer are what `archive_refusal`, `archive_size` and `archive_after` give (Answers.antt); these say what that means. RefusedClaim and
-- InLimitsClaim are about all bytes; those on archive forms about ALL bytes that are accepted as plans (Accepted, Bytes), and about all queries.
--
--   RefusedClaim     the number is n exactly when n is that of the first broken one of lines 1 to 7 and 16, and 0 exactly when none is broken
--   InLimitsClaim    nothing is refused exactly when the published limits of a plan hold and the out buffer is at least as long as the plan
--   FormClaim        the archive form is accepted, is as long as the plan, and means the plan with each belt e renamed to new_index e, which leaves the
--                    belts in their order (Means)
--   EqualClaim       two plans have equal archive forms exactly when they have equal contents
--   TwiceClaim       the archive form of an archive form is itself
--   QueryClaim       every request about the archive form comes to the renumbered outcome of the same request about the plan: the same refusal; or the
--                    same cost, setting and count with the renumbered route; or none, or spent, with the same count (request b q room: the request of the
--                    query q about the plan b, with an out buffer of this length)
-- A law that later changes rest on:
--   RenamingClaim    for any problem, and any renaming that rises on all numbers, any number of steps of the renamed search lead to the renamed state, with
--                    the same ending. new_index rises on the belts of the plan alone: for QueryClaim the law is used twice, from the plan whose belts are told
--                    by their places
--
-- Assumes nothing.
use Rattle.std.specs.Prelude.{◌≡◌, ◌⊎◌, ◌↔◌, ℕ, ◌≤◌, ◌<◌, length}
use mathlib.Core.List.{List, Memᴰ}
use Rattle.plan.specs.Plan.{plan_of, indices_of}
use Rattle.plan.specs.Refusals.{refusal}
use Rattle.plan.specs.Limits.{Limits}
use Rattle.plan.specs.Claims.{Unbroken, FirstIn}
use Rattle.plan.specs.Reading.{Accepted, Bytes}
use Rattle.search.specs.declared.query.Query.{Query}
use Rattle.search.specs.Search.{Problem, State, runs}
use Rattle.search.specs.Answers.{Request, outcome}
use Rattle.archive.specs.Renaming.{renamed, renamed_state, renamed_turn, RisesAlways, Renames, renumbered}
use Rattle.archive.specs.Content.{content_of, new_index}
use Rattle.archive.specs.Answers.{Lent, archive_lines, archive_refusal, archive_in}

abbrev pub RefusedClaim : Type 0
RefusedClaim = (k : Lent) (n : ℕ) → (archive_refusal k ≡ n) ↔ (((n ≡ 0) × Unbroken archive_lines k) ⊎ FirstIn archive_lines k n)

abbrev pub InLimitsClaim : Type 0
InLimitsClaim = (k : Lent) → (archive_refusal k ≡ 0) ↔ (Limits k.plan × (length k.plan ≤ k.room))

pub record Means (b : List ℕ) : Type 0 where
  pub accepted : refusal (archive_in b) ≡ 0
  pub bytes : Bytes (archive_in b)
  pub size : length (archive_in b) ≡ length b
  pub plan : plan_of (archive_in b) ≡ renamed (new_index (plan_of b)) (plan_of b)
  pub rises : (d e : ℕ) → Memᴰ d (indices_of (plan_of b).belts) → Memᴰ e (indices_of (plan_of b).belts) → d < e
      → new_index (plan_of b) d < new_index (plan_of b) e

abbrev pub FormClaim : Type 0
FormClaim = (b : List ℕ) → Bytes b → Accepted b → Means b

abbrev pub EqualClaim : Type 0
EqualClaim = (b c : List ℕ) → Bytes b → Accepted b → Bytes c → Accepted c
    → (archive_in b ≡ archive_in c) ↔ (content_of (plan_of b) ≡ content_of (plan_of c))

abbrev pub TwiceClaim : Type 0
TwiceClaim = (b : List ℕ) → Bytes b → Accepted b → archive_in (archive_in b) ≡ archive_in b

abbrev pub request : List ℕ → Query → ℕ → Request
request b q room = record { plan = b; query = q; room = room }

abbrev pub QueryClaim : Type 0
QueryClaim = (b : List ℕ) → Bytes b → Accepted b → (q : Query) (room : ℕ)
    → outcome (request (archive_in b) q room) ≡ renumbered (new_index (plan_of b)) (outcome (request b q room))

abbrev pub RenamingClaim : Type 0
RenamingClaim = (f : ℕ → ℕ) → RisesAlways f → (q w : Problem) → Renames f q w → (budget n : ℕ) (st : State)
    → runs w budget n (renamed_state f st) ≡ renamed_turn f (runs q budget n st)

-- all of them
pub record Claims : Type 0 where
  pub refused : RefusedClaim
  pub limits : InLimitsClaim
  pub form : FormClaim
  pub equal : EqualClaim
  pub twice : TwiceClaim
  pub query : QueryClaim
  pub renaming : RenamingClaim
