-- The claim of specs/Claims.antt holds: what the search wrote reads as the route, and where it wrote nothing there is no sheet. Assumes nothing.
use mathlib.Core.Path.{◌≡◌, refl, sym, ◌∙◌, ap}
use mathlib.Core.Bool.{Bool, true}
use Prim.Native.Nat.{ℕ}
use mathlib.Core.List.{List}
use native.Mathlib.Omega.{arith}
use lib.ListN.{length, take, drop, length-append}
use lib.Dec.{leb}
use borrow.Author.Tests.{le-leb}
use Rattle.plan.specs.Reading.{Bytes}
use Rattle.route.specs.Sheets.{sheet_of, in_form}
use Rattle.route.specs.Values.{packed}
use Rattle.route.proofs.SheetReading.{round_trip}
use Rattle.search.specs.declared.entry.Reply.{Reply}
use Rattle.search.specs.Answers.{Request, Outcome, refused, route, nothing, spent, paused, outcome, reply_to, out_after}
use Rattle.search.proofs.AnswerOutcome.{accepted_claim}
use Rattle.listing.specs.declared.Line.{Line}
use Rattle.listing.specs.Lines.{blank, or_blank, read_sheet, sheet_at}
use Rattle.listing.specs.Claims.{line, line_as, Fits, ListedClaim}

-- no bytes are no sheet
nothing_read : (out : List ℕ) → sheet_at out 0 ≡ blank
unfolding in_form
nothing_read out = ap (λ (t : Bool). or_blank t (read_sheet (take 0 out))) (le-leb 0 (length out) (omega arith))

-- the values, by the numbers of an answer
abbrev line_by : Reply → List ℕ → Line
line_by v out = line v.number v.opened (sheet_at out v.size)

module _ (k : Request) (bytes : Bytes k.plan) (out : List ℕ) (size : length out ≡ k.room) where
  module _ (es : List ℕ) (c σ n : ℕ) (h : outcome k ≡ route es c σ n) where
    abbrev sheet : List ℕ
    sheet = sheet_of es c σ

    abbrev after : List ℕ
    after = out_after (route es c σ n) out

    long : leb (length sheet) (length after) ≡ true
    long = le-leb (length sheet) (length after) (omega (arith, length-append sheet (drop (length sheet) out)))

    front : take (length sheet) after ≡ sheet
    front = ap (λ (o : Outcome). take (length sheet) (out_after o out)) (sym h) ∙ (accepted_claim k bytes out size es c σ n h).1

    says : read_sheet sheet ≡ record { route = packed es; cost = c; setting = σ }
    says =
        let (formed, belts, cost, setting) = round_trip sheet es c σ (accepted_claim k bytes out size es c σ n h).4 in
        λ i. or_blank (formed i) (record { route = packed (belts i); cost = cost i; setting = setting i })

    route_read : sheet_at after (length sheet) ≡ record { route = packed es; cost = c; setting = σ }
    route_read = ap (λ (t : Bool). or_blank t (read_sheet (take (length sheet) after))) long ∙ ap read_sheet front ∙ says

  fits : (o : Outcome) → outcome k ≡ o → Fits o
  fits (refused n) e = tt
  fits (route es c σ n) e = (accepted_claim k bytes out size es c σ n e).4.short
  fits (nothing n) e = tt
  fits (spent n) e = tt
  fits (paused n) e = tt

  listed : (o : Outcome) → outcome k ≡ o → line_by (reply_to o) (out_after o out) ≡ line_as o
  listed (refused n) e = ap (line n 0) (nothing_read out)
  listed (route es c σ n) e = ap (line 0 n) (route_read es c σ n e)
  listed (nothing n) e = ap (line 100 n) (nothing_read out)
  listed (spent n) e = ap (line 101 n) (nothing_read out)
  listed (paused n) e = ap (line 102 n) (nothing_read out)

pub listed_claim : ListedClaim
listed_claim k bytes out size v e =
    (ap (λ (r : Reply). line_by r (out_after (outcome k) out)) e ∙ listed k bytes out size (outcome k) refl, fits k bytes out size (outcome k) refl)
