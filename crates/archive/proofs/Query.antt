-- What a request about a plan comes to, where another plan is the same but for the indices of its belts: it comes to the renumbered outcome.
--
--   same_refusal      two accepted plans with as many junctions and modes: a request is refused with the same number
--   query_renamed     the law: both plans are a third one, p, with its belts renamed, by `old` and by `new`, which both rise; what g makes of the old
--                     index of a belt is its new one. A request about the new plan comes to what the same request about the old one does, renumbered by g
--   query_archived    the same of a plan and its archive form, where the third plan has the plan's content and the indices from 0 on
--
-- Only indices of belts of the plan matter to g: a route that was found is one of belts of the plan. Assumes nothing.
use mathlib.Core.Path.{◌≡◌, refl, sym, ◌∙◌, ap, subst}
use mathlib.Core.Bool.{true, false}
use Prim.Native.Nat.{ℕ, zero, suc, ◌+◌, ◌<◌}
use mathlib.Core.List.Memᴰ
use mathlib.Core.List.{List, [], ◌∷◌, map, Memᴰ}
use native.Mathlib.Omega.{arith}
use lib.ListN.{length, length-map}
use lib.Dec.{ltb}
use borrow.Author.Tests.{eqb-true, eq-eqb}
use Rattle.plan.specs.Bounds.{max_sheet_bytes}
use Rattle.plan.specs.Plan.{Belt, Plan, plan_of, indices_of}
use Rattle.plan.specs.Refusals.{Line, about, plan_lines, first_broken, refusal}
use Rattle.plan.specs.Claims.{Unbroken}
use Rattle.plan.specs.Reading.{Accepted}
use Rattle.plan.proofs.Lists.{in_map, map_in}
use Rattle.plan.proofs.LineFirst.{past, passed, unbroken_about}
use Rattle.route.specs.Routes.{wrong_ends, IsRoute}
use Rattle.route.specs.Permission.{wrong_lock, terms_of}
use Rattle.route.specs.Refusals.{broken8, broken15, line8, line15}
use Rattle.route.proofs.RouteIndices.{route_belts}
use Rattle.search.specs.declared.query.Query.{Query}
use Rattle.search.specs.Search.{run, problem_of}
use Rattle.search.specs.Answers.{Request, trip_in, asked, wrong_query, broken9, broken10, line9, line10, search_refusal, Outcome, refused, route, nothing, spent, paused, ended, unless_refused, outcome}
use Rattle.search.specs.Claims.{Cheapest}
use Rattle.search.proofs.AnswerOutcome.{right_claim}
use Rattle.archive.specs.Renaming.{RisesAlways, renamed, renamed_belt, renumbered}
use Rattle.archive.specs.Content.{Leg, leg_of, content_of, new_index}
use Rattle.archive.specs.Answers.{archive_in}
use Rattle.archive.specs.Claims.{request}
use Rattle.archive.proofs.ContentFits.{belts_numbered, plan_numbered}
use Rattle.archive.proofs.RenameRoutes.{eqb_renamed}
use Rattle.archive.proofs.RenameSearch.{run_renamed}

-- ---- refusals

-- the lines behind those of a plan
abbrev later_lines : List (Line Request)
later_lines = about asked (about trip_in line8) ∷ about asked (about trip_in line15) ∷ about asked line9 ∷ line10 ∷ []

-- what they say of a plan, a query and the length of a buffer
abbrev refused_later : Plan → Query → ℕ → ℕ
refused_later p q room =
    elim (wrong_ends p q.trip.s q.trip.t) [
      | true ↦ 8
      | false ↦ elim (wrong_lock p q.trip.lock) [
        | true ↦ 15
        | false ↦ elim (wrong_query q) [ true ↦ 9 | false ↦ elim (ltb room max_sheet_bytes) [ true ↦ 10 | false ↦ 0 ] ]
      ]
    ]

plan_unbroken : {b : List ℕ} → Accepted b → Unbroken plan_lines b
unfolding refusal
plan_unbroken {b} ok = passed plan_lines b refl ok.unrefused

later_only : (k : Request) → Accepted k.plan → search_refusal k ≡ first_broken later_lines k
unfolding search_refusal
later_only k ok =
    past (map (about (λ (r : Request). r.plan)) plan_lines) later_lines k (unbroken_about (λ (r : Request). r.plan) plan_lines k (plan_unbroken ok))

later_lines_lem : (b : List ℕ) (q : Query) (room : ℕ) → first_broken later_lines (request b q room) ≡ refused_later (plan_of b) q room
unfolding broken8 broken15 broken9 broken10
later_lines_lem b q room = refl

refused_by : (b : List ℕ) → Accepted b → (q : Query) (room : ℕ) → search_refusal (request b q room) ≡ refused_later (plan_of b) q room
refused_by b ok q room = later_only (request b q room) ok ∙ later_lines_lem b q room

-- ---- outcomes

-- renumbered by old and then by g, which makes of old indices the new ones
renumbered_twice : (old new g : ℕ → ℕ) (o : Outcome)
    → ((es : List ℕ) (c σ n : ℕ) → o ≡ route es c σ n → (e : ℕ) → Memᴰ e es → g (old e) ≡ new e)
    → renumbered new o ≡ renumbered g (renumbered old o)
renumbered_twice old new g (refused n) h = refl
renumbered_twice old new g (route es c σ n) h = ap (λ (ks : List ℕ). route ks c σ n) (each es (h es c σ n refl))
  where
    each : (ks : List ℕ) → ((e : ℕ) → Memᴰ e ks → g (old e) ≡ new e) → map new ks ≡ map g (map old ks)
    each [] k = refl
    each (e ∷ ks) k = λ i. sym (k e (Memᴰ.head refl)) i ∷ each ks (λ d m. k d (Memᴰ.tail m)) i
renumbered_twice old new g (nothing n) h = refl
renumbered_twice old new g (spent n) h = refl
renumbered_twice old new g (paused n) h = refl

-- a rising function gives no two numbers the same
rises_once : (f : ℕ → ℕ) → RisesAlways f → (d e : ℕ) → f d ≡ f e → d ≡ e
rises_once f up d e h = eqb-true d e (sym (eqb_renamed f up d e) ∙ eq-eqb (f d) (f e) h)

-- the old index of a belt of p is that of no other
old_belt : (old : ℕ → ℕ) → RisesAlways old → (es : List Belt) (d : Belt) → Memᴰ d (map (renamed_belt old) es) → (e : ℕ) → old e ≡ d.index
    → Memᴰ e (indices_of es)
old_belt old up es d m e h = go (map_in (renamed_belt old) es m)
  where
    go : (x : Belt) × Memᴰ x es × (d ≡ renamed_belt old x) → Memᴰ e (indices_of es)
    go (x, k, is_x) =
        let same : e ≡ x.index = rises_once old up e x.index (h ∙ ap (λ (y : Belt). y.index) is_x) in
        subst (λ (n : ℕ). Memᴰ n (indices_of es)) (sym same) (in_map (λ (y : Belt). y.index) k)

-- a route of the renamed plan w is of belts of p
old_belts : (old : ℕ → ℕ) → RisesAlways old → (p w : Plan) → w ≡ renamed old p → (s t : ℕ) (r : List Belt) → IsRoute w s t r
    → (es : List ℕ) → indices_of r ≡ map old es → (e : ℕ) → Memᴰ e es → Memᴰ e (indices_of p.belts)
old_belts old up p w is-old s t r way es indices e m =
    go (map_in (λ (y : Belt). y.index) r (subst (Memᴰ (old e)) (sym indices) (in_map old m)))
  where
    go : (d : Belt) × Memᴰ d r × (old e ≡ d.index) → Memᴰ e (indices_of p.belts)
    go (d, on, is-d) =
        old_belt old up p.belts d (subst (λ (v : Plan). Memᴰ d v.belts) is-old (route_belts w s t r way d on)) e is-d

-- what a run about the plan p comes to
abbrev comes_to : Plan → Query → Outcome
comes_to p q = ended (terms_of p q.trip) (run (problem_of p q.trip q.pick q.order) q.budget)

unrefused_comes : (b : List ℕ) (q : Query) (room : ℕ) → search_refusal (request b q room) ≡ 0 → outcome (request b q room) ≡ comes_to (plan_of b) q
unfolding outcome
unrefused_comes b q room e = ap (λ (n : ℕ). unless_refused n (request b q room)) e

refused_comes : (b : List ℕ) (q : Query) (room n : ℕ) → search_refusal (request b q room) ≡ suc n → outcome (request b q room) ≡ refused (suc n)
unfolding outcome
refused_comes b q room n e = ap (λ (n : ℕ). unless_refused n (request b q room)) e

-- ---- two plans

module _ {a b : List ℕ} (new_ok : Accepted a) (old_ok : Accepted b) (p : Plan) (old new : ℕ → ℕ) (old-up : RisesAlways old) (new-up : RisesAlways new)
    (is-old : plan_of b ≡ renamed old p) (is-new : plan_of a ≡ renamed new p) (q : Query) (room : ℕ) where
  pub same_refusal : search_refusal (request a q room) ≡ search_refusal (request b q room)
  same_refusal =
      refused_by a new_ok q room
      ∙ ap (λ (w : Plan). refused_later w q room) is-new
      ∙ sym (ap (λ (w : Plan). refused_later w q room) is-old)
      ∙ sym (refused_by b old_ok q room)

  -- both runs come to what the run about p comes to, renumbered
  old_comes : comes_to (plan_of b) q ≡ renumbered old (comes_to p q)
  old_comes = ap (λ (w : Plan). comes_to w q) is-old ∙ run_renamed old old-up p q.trip q.pick q.order q.budget

  new_comes : comes_to (plan_of a) q ≡ renumbered new (comes_to p q)
  new_comes = ap (λ (w : Plan). comes_to w q) is-new ∙ run_renamed new new-up p q.trip q.pick q.order q.budget

  -- a route found is of belts of p
  found_belts : search_refusal (request b q room) ≡ 0 → (es : List ℕ) (c σ n : ℕ) → comes_to p q ≡ route es c σ n
      → (e : ℕ) → Memᴰ e es → Memᴰ e (indices_of p.belts)
  found_belts zero_is es c σ n h e m =
      go ((right_claim (request b q room) zero_is).found (map old es) c σ n (unrefused_comes b q room zero_is ∙ old_comes ∙ ap (renumbered old) h))
    where
      go : Cheapest (plan_of b) q.trip (map old es) c σ → Memᴰ e (indices_of p.belts)
      go best = old_belts old old-up p (plan_of b) is-old q.trip.s q.trip.t best.belts best.permitted.0 es best.indices e m

  pub query_renamed : (g : ℕ → ℕ) → ((e : ℕ) → Memᴰ e (indices_of p.belts) → g (old e) ≡ new e)
      → outcome (request a q room) ≡ renumbered g (outcome (request b q room))
  query_renamed g to-new = go (search_refusal (request b q room)) refl
    where
      go : (n : ℕ) → search_refusal (request b q room) ≡ n → outcome (request a q room) ≡ renumbered g (outcome (request b q room))
      go zero e =
          unrefused_comes a q room (same_refusal ∙ e)
          ∙ new_comes
          ∙ renumbered_twice old new g (comes_to p q) (λ es c σ n h k m. to-new k (found_belts e es c σ n h k m))
          ∙ sym (ap (renumbered g) (unrefused_comes b q room e ∙ old_comes))
      go (suc n) e = refused_comes a q room n (same_refusal ∙ e) ∙ sym (ap (renumbered g) (refused_comes b q room n e))

-- ---- a plan and its archive form

indices_below : (i : ℕ) (legs : List Leg) (e : ℕ) → Memᴰ e (indices_of (belts_numbered i legs)) → e < i + length legs
indices_below i [] e m = absurd (Memᴰ.not-nil m)
indices_below i (x ∷ legs) e (Memᴰ.head h) = omega arith
indices_below i (x ∷ legs) e (Memᴰ.tail m) = omega (arith, indices_below (suc i) legs e m)

pub query_archived : (b : List ℕ) → Accepted b → Accepted (archive_in b) → (old : ℕ → ℕ) → RisesAlways old
    → plan_of b ≡ renamed old (plan_numbered 0 (content_of (plan_of b)))
    → plan_of (archive_in b) ≡ renamed (λ (k : ℕ). suc (plan_of b).junctions + k) (plan_numbered 0 (content_of (plan_of b)))
    → ((k : ℕ) → k < length (plan_of b).belts → new_index (plan_of b) (old k) ≡ suc (plan_of b).junctions + k)
    → (q : Query) (room : ℕ) → outcome (request (archive_in b) q room) ≡ renumbered (new_index (plan_of b)) (outcome (request b q room))
query_archived b ok new_ok old up is-old is-new to-new q room =
    let c = content_of (plan_of b) in
    query_renamed new_ok ok (plan_numbered 0 c) old (λ (k : ℕ). suc (plan_of b).junctions + k) up (λ d e l. omega arith) is-old is-new q room
    (new_index (plan_of b)) (λ e m. to-new e (omega (arith, indices_below 0 c.legs e m, length-map (plan_of b).belts leg_of)))
