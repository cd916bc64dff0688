-- Route sheets (paper 01, "Route sheet and check"): how one is written, and how it reads.
--
--   next_of n i            the index behind record i of a sheet with n steps: one higher, and 0 behind the last
--   steps_from n i es      the step records from record i on, one for each of the belts es
--   sheet_of es c σ        THE SHEET of the belts es, the cost c and the setting σ
--   Reads h es c σ        the bytes h are that sheet, and es, c and σ fit its fields: h reads as es, c and σ
--   steps h               how many steps there are in h by its length
--   head_fits h, step_fits h i, in_form h
--                         record 0, record i, and all of h are in the form of a sheet, whatever belts, cost and setting they hold
--   belts_on h, cost_on h, setting_on h
--                         what stands in the fields for belts, cost and setting
--
-- That a list of bytes is in the form exactly when it has a reading, that there is at most one, and that a sheet reads as what was
-- written, are laws (Claims.antt). Assumes nothing.
use Rattle.std.specs.Prelude.{◌≡◌, ℕ, suc, ◌+◌, ◌*◌, ◌-◌, ◌/◌, ◌%◌, ◌≤◌, ◌<◌, Bool, true, false, ◌&&◌, length, eqb, ltb}
use mathlib.Core.List.{List, [], ◌∷◌, ◌++◌, map, Memᴰ}
use Rattle.plan.specs.Bounds.{field_limit, max_sheet_bytes, max_steps, record_bytes}
use Rattle.plan.specs.Lists.{all, upto, within}
use Rattle.plan.specs.Records.{field, record_of}
use Rattle.route.specs.Routes.{cost_limit}

-- ---- writing

abbrev pub next_by : Bool → ℕ → ℕ
next_by true i = suc i
next_by false i = 0

abbrev pub next_of : ℕ → ℕ → ℕ
next_of n i = next_by (ltb i n) i

abbrev pub steps_from : ℕ → ℕ → List ℕ → List ℕ
steps_from n i [] = []
steps_from n i (e ∷ es) = record_of 5 (next_of n i) e 0 0 0 ++ steps_from n (suc i) es

-- the cost has three fields, high first
abbrev pub head_of : ℕ → ℕ → ℕ → List ℕ
head_of n c σ = record_of 8 (next_of n 0) (c / (field_limit * field_limit)) (c / field_limit % field_limit) (c % field_limit) σ

abbrev pub sheet_of : List ℕ → ℕ → ℕ → List ℕ
sheet_of es c σ = head_of (length es) c σ ++ steps_from (length es) 1 es

pub record Reads (h : List ℕ) (es : List ℕ) (c σ : ℕ) : Type 0 where
  pub written : h ≡ sheet_of es c σ
  pub short : length es ≤ max_steps
  pub indices : (e : ℕ) → Memᴰ e es → e < field_limit
  pub cost_fits : c < cost_limit
  pub setting_fits : σ < field_limit

-- ---- reading

abbrev pub steps : List ℕ → ℕ
steps h = length h / record_bytes - 1

abbrev pub head_fits : List ℕ → Bool
head_fits h = eqb (field h 0 0) 8 && eqb (field h 0 1) (next_of (steps h) 0)

abbrev pub step_fits : List ℕ → ℕ → Bool
step_fits h i =
    eqb (field h i 0) 5
    && eqb (field h i 1) (next_of (steps h) i)
    && eqb (field h i 3) 0
    && eqb (field h i 4) 0
    && eqb (field h i 5) 0

-- the places of the steps
abbrev pub places : List ℕ → List ℕ
places h = upto 1 (steps h + 1)

unfoldable pub in_form : List ℕ → Bool
in_form h = within record_bytes (length h) max_sheet_bytes && eqb (length h % record_bytes) 0 && head_fits h && all (step_fits h) (places h)

abbrev pub belts_on : List ℕ → List ℕ
belts_on h = map (λ (i : ℕ). field h i 2) (places h)

abbrev pub cost_on : List ℕ → ℕ
cost_on h = field h 0 2 * (field_limit * field_limit) + field h 0 3 * field_limit + field h 0 4

abbrev pub setting_on : List ℕ → ℕ
setting_on h = field h 0 5
