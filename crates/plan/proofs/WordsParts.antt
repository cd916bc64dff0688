-- The word of a belt (specs/Words.antt): its parts, and how large it is.
--
--   word_parts     the parts of a belt's word are the belt's
--   word_below     a word is below far, where its cost is below belt_cost_limit
--   belt_word      so the word of a belt of the plan is; belt_parts: and its parts are the belt's
--   same_word      belts of the plan with one word are one belt
--
-- Assumes nothing.
use mathlib.Core.Path.{◌≡◌, sym, ◌∙◌, ap}
use Prim.Native.Nat.{ℕ, ◌-◌, ◌≤◌, ◌<◌}
use mathlib.Core.List.{List, Memᴰ}
use native.Mathlib.Omega.{arith}
use Rattle.plan.specs.Bounds.{belt_cost_limit, max_junctions, max_records}
use Rattle.plan.specs.Plan.{Belt, plan_of}
use Rattle.plan.specs.Reading.{Accepted, Bytes}
use Rattle.plan.specs.Words.{word_of, word_cost, word_index, word_head, far}
use Rattle.plan.proofs.Reading.{plan_sizes, belt_of_lem, belt_low, belt_index, belt_ends, belts_cost}

module _ (e : Belt) (low : e.index < max_records) (from : 1 ≤ e.leads) (top : e.leads ≤ max_junctions) where
  pub word_parts : (word_cost (word_of e) ≡ e.cost) × (word_index (word_of e) ≡ e.index) × (word_head (word_of e) ≡ e.leads - 1)
  word_parts = (omega arith, omega arith, omega arith)

  pub word_below : e.cost < belt_cost_limit → word_of e < far
  word_below cost = omega arith

module _ {b : List ℕ} (ok : Accepted b) (e : Belt) (m : Memᴰ e (plan_of b).belts) where
  index_low : e.index < max_records
  index_low = (belt_low ok e.index (belt_of_lem ok e m).0).2

  leads_in : (1 ≤ e.leads) × (e.leads ≤ max_junctions)
  leads_in = let ends = belt_ends ok e m in let top = (plan_sizes ok).1 in (omega (arith, ends.0, ends.1), omega (arith, ends.2))

  pub belt_parts : (word_cost (word_of e) ≡ e.cost) × (word_index (word_of e) ≡ e.index) × (word_head (word_of e) ≡ e.leads - 1)
  belt_parts = word_parts e index_low leads_in.0 leads_in.1

  pub belt_word : Bytes b → word_of e < far
  belt_word bytes = word_below e index_low leads_in.0 leads_in.1 (belts_cost ok bytes e m)

pub same_word : {b : List ℕ} (ok : Accepted b) (d e : Belt) → Memᴰ d (plan_of b).belts → Memᴰ e (plan_of b).belts → word_of d ≡ word_of e → d ≡ e
same_word ok d e m k q = belt_index ok d e m k (sym (belt_parts ok d m).1 ∙ ap word_index q ∙ (belt_parts ok e k).1)
