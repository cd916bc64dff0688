-- Numbers c * link_limit + l, with l below link_limit: the one law over which words are ordered.
--
--   parts        the two parts of such a number
--   ordered      where one such number is not above another, its first part is not above; nor is the second, where the first is not below
--   link_of_lem      the link of a belt of an accepted plan is below link_limit
--   head_of, index_of
--                the head and the index that its word has are its own
--
-- Assumes nothing.
use mathlib.Core.Path.{◌≡◌}
use Prim.Native.Nat.{ℕ, ◌+◌, ◌*◌, ◌-◌, ◌/◌, ◌%◌, ◌≤◌, ◌<◌}
use mathlib.Core.List.{List, Memᴰ}
use native.Mathlib.Omega.{arith}
use Rattle.plan.specs.Bounds.{max_junctions, max_records}
use Rattle.plan.specs.Plan.{Belt, plan_of}
use Rattle.plan.specs.Reading.{Accepted}
use Rattle.plan.specs.Words.{link_limit, link_of, word_of, word_head, word_index}
use Rattle.plan.proofs.Reading.{plan_sizes, belt_of_lem, belt_low, belt_ends}

pub parts : (c l : ℕ) → l < link_limit → ((c * link_limit + l) / link_limit ≡ c) × ((c * link_limit + l) % link_limit ≡ l)
parts c l h = (omega arith, omega arith)

pub ordered : (c l d m : ℕ) → l < link_limit → m < link_limit → c * link_limit + l ≤ d * link_limit + m → (c ≤ d) × (d ≤ c → l ≤ m)
ordered c l d m h k le = (omega arith, λ q. omega arith)

module _ (e : Belt) (low : e.index < max_records) (from : 1 ≤ e.leads) (top : e.leads ≤ max_junctions) where
  link_low : link_of e < link_limit
  link_low = omega arith

  word_head_lem : word_head (word_of e) ≡ e.leads - 1
  word_head_lem = omega arith

  word_index_lem : word_index (word_of e) ≡ e.index
  word_index_lem = omega arith

module _ {b : List ℕ} (ok : Accepted b) (e : Belt) (m : Memᴰ e (plan_of b).belts) where
  index_low : e.index < max_records
  index_low = (belt_low ok e.index (belt_of_lem ok e m).0).2

  first_low : 1 ≤ e.leads
  first_low = omega (arith, (belt_ends ok e m).1)

  last_low : e.leads ≤ max_junctions
  last_low = omega (arith, (belt_ends ok e m).2, (plan_sizes ok).1)

  pub link_of_lem : link_of e < link_limit
  link_of_lem = link_low e index_low first_low last_low

  pub head_of : word_head (word_of e) ≡ e.leads - 1
  head_of = word_head_lem e index_low first_low last_low

  pub index_of : word_index (word_of e) ≡ e.index
  index_of = word_index_lem e index_low first_low last_low
