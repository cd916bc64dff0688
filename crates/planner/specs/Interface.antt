-- What the C interface answers. It speaks of the same outcomes as the crates below it: `refusal` of plans, `sheet_refusal` of sheets, `outcome`
-- of requests, `archive_refusal` of archive forms. Here a caller's query becomes one of them, and their numbers the caller's reply.
--
--   trip_of q            the trip that a caller's query asks for: s, t and the lock, whatever the rest of it says
--   query_of q           the query that it is. minute is for later: nothing here looks at it
--   call_of b q out      the request of a call
--   to_caller v          the reply that hands the numbers v out. tests is for later: it is 0
--   archive_reply k      the reply to a call for an archive form
--
-- `PlannerQuery` and `PlannerReply` are declared by the code (src/lib.rt). Assumes nothing.
use Rattle.std.specs.Prelude.{ℕ, List}
use Rattle.route.specs.declared.path.Trip.{Trip}
use Rattle.search.specs.declared.query.Query.{Query}
use Rattle.search.specs.declared.entry.Reply.{Reply}
use Rattle.search.specs.Answers.{Request}
use Rattle.search.specs.Values.{request_of}
use Rattle.archive.specs.Answers.{Lent, archive_refusal, archive_size}
use Rattle.planner.specs.declared.PlannerQuery.{PlannerQuery}
use Rattle.planner.specs.declared.PlannerReply.{PlannerReply}

abbrev pub trip_of : PlannerQuery → Trip
trip_of q = record { s = q.s; t = q.t; lock = record { mask = q.mask; values = q.values } }

abbrev pub query_of : PlannerQuery → Query
query_of q = record { trip = trip_of q; pick = q.pick; order = q.order; budget = q.budget }

abbrev pub call_of : List ℕ → PlannerQuery → List ℕ → Request
call_of b q out = request_of b (query_of q) out

abbrev pub to_caller : Reply → PlannerReply
to_caller v = record { number = v.number; opened = v.opened; length = v.size; tests = 0 }

abbrev pub archive_reply : Lent → PlannerReply
archive_reply k = record { number = archive_refusal k; opened = 0; length = archive_size k; tests = 0 }
