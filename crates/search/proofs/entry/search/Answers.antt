-- Line by line, in the order of the list, then the search.
use Rattle.std.proofs.Common.{◌≡◌, ℕ, Bool, true, false, List, Ok, sym, ◌∙◌, subst, arith}
use Rattle.std.proofs.lemmas.Result.{err_from_is_err_and}
use Rattle.plan.specs.declared.refusal.Refusal.TheVariants.{WrongEnds, WrongLock, WrongQuery, ShortBuffer}
use Rattle.plan.specs.Plan.{plan_of}
use Rattle.plan.specs.Refusals.{refusal, refusal_number}
use Rattle.plan.specs.Claims.{Unbroken}
use Rattle.plan.specs.Reading.{Accepted, Bytes}
use Rattle.plan.proofs.LineNumbers.{nonzero}
use Rattle.route.specs.Routes.{wrong_ends}
use Rattle.route.specs.Permission.{wrong_lock}
use Rattle.route.specs.Refusals.{PlanTrip, trip_lines}
use Rattle.route.proofs.SheetLines.{trip_plan, trip_8, trip_15, fine_trip, ends_wrong, ends_fine, lock_wrong, lock_right}
use Rattle.search.specs.Answers.{Request, trip_in, asked, unless_refused, reply_of, Told}
use Rattle.search.specs.Values.{request_of}
use Rattle.search.proofs.AnswerReply.{trip_refused, refused_9, refused_10, none_refused, outcome_by, refused_told}
use Rattle.search.proofs.entry.search.Goals as goal
use Rattle.search.proofs.entry.search.Goals.{Start, In_ok-plan}

-- the request that is answered, and its plan and trip
abbrev request : Start → Request
request c = request_of c.args.p.now c.args.query c.args.out.now

abbrev trip : Start → PlanTrip
trip c = trip_in (asked (request c))

-- the plan is refused: its refusal is passed on
pub returns-in_err-plan : goal.returns-in_err-plan
returns-in_err-plan c =
    let start = (goal.at.returns-in_err-plan c).Start in
    let r = c.in_err-plan.field-0.0 in
    let answer : refusal_number r ≡ refusal c.args.p.now = c.in_err-plan.ensures.number in
    let lines = trip_plan (trip start) (λ z. nonzero r (answer ∙ z)) ∙ sym answer in
    let p = err_from_is_err_and c.from_residual.result c.from_residual.ensures.1 in
    rw (p.1, p.2) (refused_told (request start) r c.args.out.now (trip_refused (request start) _ (nonzero r) lines))

-- past the check of the plan: it is accepted, and what is asked of it is asked of the bytes
module _ (c : In_ok-plan) where
  accepted : Accepted c.args.p.now
  accepted = record { unrefused = sym c.in_ok-plan.ensures.number }

  abbrev bytes : List ℕ
  bytes = c.in_ok-plan.plan.bytes.now

  ends : (v : Bool) → v ≡ wrong_ends (plan_of bytes) c.args.query.trip.s c.args.query.trip.t → wrong_ends (plan_of c.args.p.now) c.args.query.trip.s c.args.query.trip.t ≡ v
  ends v e = sym (subst (λ (b : List ℕ). v ≡ wrong_ends (plan_of b) c.args.query.trip.s c.args.query.trip.t) c.in_ok-plan.ensures.bytes e)

  lock : (v : Bool) → v ≡ wrong_lock (plan_of bytes) c.args.query.trip.lock → wrong_lock (plan_of c.args.p.now) c.args.query.trip.lock ≡ v
  lock v e = sym (subst (λ (b : List ℕ). v ≡ wrong_lock (plan_of b) c.args.query.trip.lock) c.in_ok-plan.ensures.bytes e)

  fine : false ≡ wrong_ends (plan_of bytes) c.args.query.trip.s c.args.query.trip.t → false ≡ wrong_lock (plan_of bytes) c.args.query.trip.lock
      → Unbroken trip_lines (trip_in (asked (request_of c.args.p.now c.args.query c.args.out.now)))
  fine e l =
      let k = trip_in (asked (request_of c.args.p.now c.args.query c.args.out.now)) in
      fine_trip k accepted (ends_fine k (ends false e)) (lock_right k (lock false l))

pub returns-then-wrong_ends : goal.returns-then-wrong_ends
returns-then-wrong_ends c =
    let start = (goal.at.returns-then-wrong_ends c).Start in
    let past = (goal.at.returns-then-wrong_ends c).In_ok-plan in
    let lines = trip_8 (trip start) (accepted past) (ends_wrong (trip start) (ends past true c.if-wrong_ends.ensures)) in
    refused_told (request start) WrongEnds c.args.out.now (trip_refused (request start) 8 (nonzero WrongEnds) lines)

pub returns-then-wrong_lock : goal.returns-then-wrong_lock
returns-then-wrong_lock c =
    let start = (goal.at.returns-then-wrong_lock c).Start in
    let past = (goal.at.returns-then-wrong_lock c).In_ok-plan in
    let right = ends_fine (trip start) (ends past false c.if-wrong_ends.ensures) in
    let lines = trip_15 (trip start) (accepted past) right (lock_wrong (trip start) (lock past true c.if-wrong_lock.ensures)) in
    refused_told (request start) WrongLock c.args.out.now (trip_refused (request start) 15 (nonzero WrongLock) lines)

pub returns-then-wrong_query : goal.returns-then-wrong_query
returns-then-wrong_query c =
    let start = (goal.at.returns-then-wrong_query c).Start in
    let right = fine (goal.at.returns-then-wrong_query c).In_ok-plan c.if-wrong_ends.ensures c.if-wrong_lock.ensures in
    refused_told (request start) WrongQuery c.args.out.now (refused_9 (request start) right (sym c.if-wrong_query.ensures))

pub returns-then-out-lt-MAX_SHEET_BYTES : goal.returns-then-out-lt-MAX_SHEET_BYTES
returns-then-out-lt-MAX_SHEET_BYTES c =
    let start = (goal.at.returns-then-out-lt-MAX_SHEET_BYTES c).Start in
    let right = fine (goal.at.returns-then-out-lt-MAX_SHEET_BYTES c).In_ok-plan c.if-wrong_ends.ensures c.if-wrong_lock.ensures in
    refused_told (request start) ShortBuffer c.args.out.now
    (refused_10 (request start) right (sym c.if-wrong_query.ensures) (let short = c.if-out-lt-MAX_SHEET_BYTES.true in omega arith))

pub find_route-requires-clause-bytes : goal.find_route-requires-clause-bytes
find_route-requires-clause-bytes c = subst Bytes (sym c.in_ok-plan.ensures.bytes) (λ i. (c.type_inv.p i).fits)

pub returns : goal.returns
returns c =
    let start = (goal.at.returns c).Start in
    let right = fine (goal.at.returns c).In_ok-plan c.if-wrong_ends.ensures c.if-wrong_lock.ensures in
    let none = none_refused (request start) right (sym c.if-wrong_query.ensures) c.if-out-lt-MAX_SHEET_BYTES.false in
    subst (Told (reply_of (Ok c.find_route.result)) c.args.out.now c.find_route.new.out) (outcome_by (request start) 0 none)
    (subst (λ (b : List ℕ). Told (reply_of (Ok c.find_route.result)) c.args.out.now c.find_route.new.out (unless_refused 0 (request_of b c.args.query c.args.out.now)))
    c.in_ok-plan.ensures.bytes c.find_route.ensures)
