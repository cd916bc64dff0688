-- The claims of specs/Claims.antt hold; that on archive forms is proved in ArchiveTells. The one idea: no request pauses, and a refusal has a
-- number from 1 to 10 or 15, so that each number belongs to one kind of outcome.
--
--   not_paused        no request comes to paused
--   zero_route, hundred_none, hundred_one_spent, other_refused
--                     the kind of an outcome, by its number
--   tells_claim       TellsClaim
--   ignores_claim     IgnoresClaim
--
-- Assumes nothing.
use mathlib.Core.Path.{◌≡◌, refl, sym, ◌∙◌, ap}
use mathlib.Core.Logic.{◌⊎◌, inl, inr}
use Prim.Native.Nat.{ℕ, zero, suc, ◌≤◌}
use mathlib.Core.List.{List, ◌++◌}
use native.Mathlib.Omega.{arith}
use lib.ListN.{length, take, drop}
use lib.Seq.{take-append_seam, drop-append_seam}
use Rattle.plan.specs.Reading.{Bytes}
use Rattle.route.specs.declared.path.Trip.{Trip}
use Rattle.route.specs.Sheets.{sheet_of}
use Rattle.route.specs.Refusals.{sheet_refusal}
use Rattle.route.specs.Values.{case_of}
use Rattle.search.specs.declared.query.Query.{Query}
use Rattle.search.specs.Answers.{Request, search_refusal, Outcome, refused, route, nothing, spent, paused, outcome, reply_to, out_after}
use Rattle.search.specs.Values.{request_of}
use Rattle.search.specs.Claims.{Answered, IsSpent, opened_of}
use Rattle.search.proofs.AnswerRefusal.{apart, Numbered, refused_claim, refused_numbered}
use Rattle.search.proofs.AnswerOutcome.{ends_claim, accepted_claim}
use Rattle.search.proofs.AnswerReply.{outcome_by}
use Rattle.planner.specs.declared.PlannerQuery.{PlannerQuery}
use Rattle.planner.specs.Interface.{trip_of, query_of, call_of, to_caller}
use Rattle.planner.specs.Claims.{IsFound, IsNone, TellsClaim, IgnoresClaim, Claims}
use Rattle.planner.proofs.ArchiveTells.{archive_claim}

-- ---- what a number tells

between : (n : ℕ) → Numbered n → (1 ≤ n) × (n ≤ 15)
between n (low, inl high) = (low, omega arith)
between n (low, inr is) = (low, omega arith)

module _ (k : Request) where
  not_paused : (n : ℕ) → outcome k ≡ paused n → ⊥
  not_paused n h = go (search_refusal k) refl
    where
      answered : Answered (outcome k) → ⊥
      answered (inl (es, c, σ, m, e)) = apart cc
      answered (inr (inl (m, e))) = apart cc
      answered (inr (inr (m, e))) = apart cc

      go : (m : ℕ) → search_refusal k ≡ m → ⊥
      go zero e = answered (ends_claim k e).0
      go (suc m) e = let q = outcome_by k (suc m) e in apart cc

  abbrev number : Outcome → ℕ
  number o = (reply_to o).number

  zero_route : (o : Outcome) → outcome k ≡ o → number o ≡ 0 → IsFound (outcome k)
  zero_route (refused n) e h = let (low, high) = between n (refused_numbered k n e) in absurd (omega arith)
  zero_route (route es c σ n) e h = (es, c, σ, n, e)
  zero_route (nothing n) e h = absurd (omega arith)
  zero_route (spent n) e h = absurd (omega arith)
  zero_route (paused n) e h = absurd (omega arith)

  hundred_none : (o : Outcome) → outcome k ≡ o → number o ≡ 100 → IsNone (outcome k)
  hundred_none (refused n) e h = let (low, high) = between n (refused_numbered k n e) in absurd (omega arith)
  hundred_none (route es c σ n) e h = absurd (omega arith)
  hundred_none (nothing n) e h = (n, e)
  hundred_none (spent n) e h = absurd (omega arith)
  hundred_none (paused n) e h = absurd (omega arith)

  hundred_one_spent : (o : Outcome) → outcome k ≡ o → number o ≡ 101 → IsSpent (outcome k)
  hundred_one_spent (refused n) e h = let (low, high) = between n (refused_numbered k n e) in absurd (omega arith)
  hundred_one_spent (route es c σ n) e h = absurd (omega arith)
  hundred_one_spent (nothing n) e h = absurd (omega arith)
  hundred_one_spent (spent n) e h = (n, e)
  hundred_one_spent (paused n) e h = absurd (omega arith)

  other_refused : (n : ℕ) → (n ≡ 0 → ⊥) → (n ≡ 100 → ⊥) → (n ≡ 101 → ⊥) → (o : Outcome) → outcome k ≡ o → number o ≡ n → outcome k ≡ refused n
  other_refused n a b c (refused m) e h = e ∙ ap refused h
  other_refused n a b c (route es d σ m) e h = absurd (a (sym h))
  other_refused n a b c (nothing m) e h = absurd (b (sym h))
  other_refused n a b c (spent m) e h = absurd (c (sym h))
  other_refused n a b c (paused m) e h = absurd (not_paused m e)

  among : (o : Outcome) → outcome k ≡ o → (number o ≤ 10) ⊎ ((number o ≡ 15) ⊎ ((number o ≡ 100) ⊎ (number o ≡ 101)))
  among (refused n) e = go (refused_numbered k n e).1
    where
      go : (n ≤ 10) ⊎ (n ≡ 15) → (n ≤ 10) ⊎ ((n ≡ 15) ⊎ ((n ≡ 100) ⊎ (n ≡ 101)))
      go (inl low) = inl low
      go (inr is) = inr (inl is)
  among (route es c σ n) e = inl (omega arith)
  among (nothing n) e = inr (inr (inl refl))
  among (spent n) e = inr (inr (inr refl))
  among (paused n) e = absurd (not_paused n e)

opened : (o : Outcome) → (reply_to o).opened ≡ opened_of o
opened (refused n) = refl
opened (route es c σ n) = refl
opened (nothing n) = refl
opened (spent n) = refl
opened (paused n) = refl

unchanged : (o : Outcome) (out : List ℕ) → ((reply_to o).number ≡ 0 → ⊥) → ((reply_to o).size ≡ 0) × (out_after o out ≡ out)
unchanged (refused n) out h = (refl, refl)
unchanged (route es c σ n) out h = absurd (h refl)
unchanged (nothing n) out h = (refl, refl)
unchanged (spent n) out h = (refl, refl)
unchanged (paused n) out h = (refl, refl)

-- ---- the claims

module _ (b : List ℕ) (q : PlannerQuery) (out : List ℕ) where
  abbrev k : Request
  k = call_of b q out

  module _ (es : List ℕ) (c σ n : ℕ) (h : outcome k ≡ route es c σ n) where
    sized : (reply_to (outcome k)).size ≡ length (sheet_of es c σ)
    sized = ap (λ (o : Outcome). (reply_to o).size) h

    after : out_after (outcome k) out ≡ sheet_of es c σ ++ drop (length (sheet_of es c σ)) out
    after = ap (λ (o : Outcome). out_after o out) h

    front : take (reply_to (outcome k)).size (out_after (outcome k) out) ≡ sheet_of es c σ
    front = (λ i. take (sized i) (after i)) ∙ take-append_seam (sheet_of es c σ) (drop (length (sheet_of es c σ)) out)

    behind : drop (reply_to (outcome k)).size (out_after (outcome k) out) ≡ drop (reply_to (outcome k)).size out
    behind =
        (λ i. drop (sized i) (after i)) ∙ drop-append_seam (sheet_of es c σ) (drop (length (sheet_of es c σ)) out)
        ∙ ap (λ (m : ℕ). drop m out) (sym sized)

    unrefused : Bytes b → sheet_refusal (case_of b (trip_of q) (take (reply_to (outcome k)).size (out_after (outcome k) out))) ≡ 0
    unrefused bytes =
        ap (λ (m : ℕ). sheet_refusal (case_of b (trip_of q) (take m (out_after (outcome k) out)))) sized
        ∙ (accepted_claim k bytes out refl es c σ n h).3

pub tells_claim : TellsClaim
tells_claim b q out =
    let k = call_of b q out in
    record {
      zero = (zero_route k (outcome k) refl, λ (es, c, σ, n, h). ap (λ (o : Outcome). (reply_to o).number) h);
      hundred = (hundred_none k (outcome k) refl, λ (n, h). ap (λ (o : Outcome). (reply_to o).number) h);
      hundred_one = (hundred_one_spent k (outcome k) refl, λ (n, h). ap (λ (o : Outcome). (reply_to o).number) h);
      other = λ n x y z. (
        λ h. (refused_claim k n).0 (other_refused k n x y z (outcome k) refl h),
        λ f. ap (λ (o : Outcome). (reply_to o).number) ((refused_claim k n).1 f),
      );
      among = among k (outcome k) refl;
      opened = opened (outcome k);
      refused = λ n f. ap (λ (o : Outcome). (reply_to o).opened) ((refused_claim k n).1 f);
      tests = refl;
      sheet = λ es c σ n h. (sized b q out es c σ n h, front b q out es c σ n h, behind b q out es c σ n h);
      accepted = λ bytes h. let (es, c, σ, n, e) = zero_route k (outcome k) refl h in unrefused b q out es c σ n e bytes;
      unchanged = unchanged (outcome k) out;
    }

pub ignores_claim : IgnoresClaim
ignores_claim b q r s t mask values =
    let trips : trip_of q ≡ trip_of r = λ i. record { s = s i; t = t i; lock = record { mask = mask i; values = values i } } in (
      λ pick order budget out.
          let queries : query_of q ≡ query_of r = λ i. record { trip = trips i; pick = pick i; order = order i; budget = budget i } in (
            ap (λ (x : Query). to_caller (reply_to (outcome (request_of b x out)))) queries,
            ap (λ (x : Query). out_after (outcome (request_of b x out)) out) queries,
          ),
      λ h. ap (λ (x : Trip). sheet_refusal (case_of b x h)) trips,
    )

pub claims : Claims
claims = record { tells = tells_claim; archive = archive_claim; ignores = ignores_claim }
