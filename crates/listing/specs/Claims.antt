-- What is claimed of the listing, as a type; proofs/Claims.antt proves it. The contract of `line_of` says which values it takes out of an answer
-- and the out buffer; this says that they are those of the outcome.
--
--   line_as o      the values that the outcome o has: its number, its count, and of a route the belts, the cost and the setting
--   Fits o         the belts of the outcome o, if it is a route, are max_steps or fewer, so that a `Route` holds all of them
--   ListedClaim   wherever the planner's answer v is that of a request, and the out buffer is as the planner leaves it, the values that are
--                 printed are those of the request's outcome, which fits
--
-- It is about ALL plans, queries and out buffers. Assumes nothing.
use Rattle.std.specs.Prelude.{◌≡◌, ◌≤◌, ℕ, List, length, Result}
use Rattle.plan.specs.Bounds.{max_steps}
use Rattle.plan.specs.Reading.{Bytes}
use Rattle.route.specs.declared.sheet.Sheet.{Sheet}
use Rattle.route.specs.Values.{packed}
use Rattle.plan.specs.declared.refusal.Refusal.{Refusal}
use Rattle.search.specs.declared.entry.Answer.{Answer}
use Rattle.search.specs.Answers.{Request, Outcome, refused, route, nothing, spent, paused, outcome, reply_to, reply_of, out_after}
use Rattle.listing.specs.declared.Line.{Line}
use Rattle.listing.specs.Lines.{blank, line_of}

abbrev pub line : ℕ → ℕ → Sheet → Line
line n opened sheet = record { number = n; opened = opened; sheet = sheet }

abbrev pub line_as : Outcome → Line
line_as (refused n) = line n 0 blank
line_as (route es c σ n) = line 0 n (record { route = packed es; cost = c; setting = σ })
line_as (nothing n) = line 100 n blank
line_as (spent n) = line 101 n blank
line_as (paused n) = line 102 n blank

abbrev pub Fits : Outcome → Type 0
Fits (refused n) = Unit {0}
Fits (route es c σ n) = length es ≤ max_steps
Fits (nothing n) = Unit {0}
Fits (spent n) = Unit {0}
Fits (paused n) = Unit {0}

abbrev pub ListedClaim : Type 0
ListedClaim = (k : Request) → Bytes k.plan → (out : List ℕ) → length out ≡ k.room → (v : Result Answer Refusal) → reply_of v ≡ reply_to (outcome k)
    → (line_of v (out_after (outcome k) out) ≡ line_as (outcome k)) × Fits (outcome k)
