-- `ways::ways_to` by the turns of WaysTurns.antt.
use Rattle.std.proofs.Common.{◌≡◌, ℕ, suc, ◌*◌, ◌-◌, ◌%◌, ◌^◌, ◌≤◌, ◌<◌, List, get_or, sym, ◌∙◌, ap, subst, arith}
use mathlib.Core.Option.{none}
use native.Mathlib.Nat.{two-pow-succ}
use lib.Pow.{shl_exact}
use Rattle.plan.specs.Bounds.{max_named}
use Rattle.plan.specs.Plan.{plan_of}
use Rattle.plan.specs.Words.{far, word_head}
use Rattle.route.specs.Subproblems.{Subproblem, relaxed}
use Rattle.route.specs.Values.{at_most}
use Rattle.route.specs.Inner.{way_on}
use Rattle.route.specs.Ways.{no_way, way_of, rest_of, Asked, over_word, Parted}
use Rattle.route.proofs.WaysHighest.{top_low}
use Rattle.route.proofs.WaysStanding.{entered, room_entered, spared_entered, ways_clear}
use Rattle.route.proofs.WaysParting.{parted_start, last_piece, last_ready, last_way, bound_dear}
use Rattle.route.proofs.WaysTurns.{turn_start, turn_down, turn_past, turn_piece, turn_dear, turn_next, way_lost, way_found}
use Rattle.route.proofs.ways.ways_to.Goals as goal
use Rattle.route.proofs.ways.ways_to.Goals.{then-tail-s-via-then-tail-s, then-tail-s-via-else-tail-s+then-low-tail, then-tail-s-via-else-tail-s+else-low-tail+then-nearest-low}

pub loop-left-init : goal.loop-left-init
loop-left-init c =
    let a = c.args in
    let (room, spared) = ways_clear a.ways.now c.requires.1 in
    record {
      from = omega arith;
      to = omega arith;
      few = c.requires.4;
      room = room;
      spared = spared a.s a.t;
      parted = λ b x q. parted_start q a.ways.now (ap (λ w. w.cost) ((spared a.t a.t).above a.t (omega arith) (omega arith)));
    }

pub bounds-words-k : goal.bounds-words-k
bounds-words-k c =
    let k = top_low c.loop-left.left c.ilog2-k.result max_named c.ilog2-k.ensures.power_le c.loop-left.invariant.few in
    omega (arith, c.requires.0.words_fit)

pub returns-then-tail-s : goal.returns-then-tail-s
returns-then-tail-s c =
    let a = c.args in
    let loop = c.loop-left in
    let k = c.ilog2-k.result in
    let low = c.ilog2-k.ensures.power_le in
    let high : loop.left < 2 ^ suc k = omega (arith, two-pow-succ k) in
    let lost : (b : List ℕ) (x : Subproblem) → Asked b x a.words.now a.numbers.now a.due a.forbidden a.t → relaxed (plan_of b) (suc a.s) (suc a.t) x ≡ none =
    λ b x q.
    let w = loop.invariant.parted b x q in
    elim c.then-tail-s.branch [
      | then-tail-s-via-then-tail-s d ↦ turn_start q w k low high a.s (omega arith)
      | then-tail-s-via-else-tail-s+then-low-tail d ↦ absurd (omega (arith, turn_down q w k low high))
      | then-tail-s-via-else-tail-s+else-low-tail+then-nearest-low d ↦ turn_past q w k low high a.s (omega arith)
    ] in
    (loop.invariant.spared, λ b x q. way_lost (at_most a.bound (relaxed (plan_of b) (suc a.s) (suc a.t) x)) loop.ways (ap (at_most a.bound) (lost b x q)))

pub returns-then-limit-way : goal.returns-then-limit-way
returns-then-limit-way c =
    let a = c.args in
    let loop = c.loop-left in
    let k = c.ilog2-k.result in
    let low = c.ilog2-k.ensures.power_le in
    let high : loop.left < 2 ^ suc k = omega (arith, two-pow-succ k) in
    let (room, kept, done) = rw c.head-low.ensures at c.piece.ensures in
    let near : word_head (get_or a.words.now k 0) ≤ loop.nearest = omega arith in
    let dear = rw c.head-low.ensures at c.if-limit-way.true in (
      kept a.s a.t (omega arith) loop.invariant.to loop.invariant.spared,
      λ b x q.
          let w = loop.invariant.parted b x q in
          let (p, r) = turn_piece q w k low high near in
          way_lost (at_most a.bound (relaxed (plan_of b) (suc a.s) (suc a.t) x)) c.piece.new.ways
          (turn_dear q w k low high near (done b x a.due a.t p r) a.s a.bound (omega arith) c.requires.5 dear),
    )

pub loop-left-preserved : goal.loop-left-preserved
loop-left-preserved c =
    let a = c.args in
    let loop = c.loop-left in
    let k = c.ilog2-k.result in
    let low = c.ilog2-k.ensures.power_le in
    let high : loop.left < 2 ^ suc k = omega (arith, two-pow-succ k) in
    let (room, kept, done) = rw c.head-low.ensures at c.piece.ensures in
    let near : word_head (get_or a.words.now k 0) ≤ loop.nearest = omega arith in
    let cheap = rw c.head-low.ensures at c.if-limit-way.false in
    let ways' = c.piece.new.ways in
    let tail = c.from-tail.result in
    let way = over_word ways' (get_or a.words.now k 0) in
    let within : way < far = omega arith in
    let stored : c.of.result ≡ way_of way = rw c.head-low.ensures at c.of.ensures in
    let once : 1 * 2 ^ k ≡ 2 ^ k = omega arith in
    let shifted : (1 * 2 ^ k) % 2 ^ 64 ≡ 2 ^ k = shl_exact {a = 1} 1 k 64 (omega arith) (omega arith) ∙ once in
    rw (stored, shifted) (record {
      from = omega arith;
      to = omega arith;
      few = omega arith;
      room = room_entered ways' tail way (omega arith) room;
      spared = spared_entered ways' tail way (omega arith) (omega arith) (omega arith) (kept a.s a.t (omega arith) loop.invariant.to loop.invariant.spared);
      parted = λ b x q.
          let w = loop.invariant.parted b x q in
          let (p, r) = turn_piece q w k low high near in
          subst (λ (n : ℕ). Parted b x a.words.now a.numbers.now a.due a.t (loop.left - 2 ^ k) n (entered ways' n way)) (sym c.from-tail.ensures)
          (turn_next q w k low high near (done b x a.due a.t p r) room.size within);
    })

pub returns-then-limit-cost : goal.returns-then-limit-cost
returns-then-limit-cost c =
    let a = c.args in
    let loop = c.loop-left in
    let (room, kept, done) = c.piece-2.ensures in (
      kept a.s a.t (omega arith) loop.invariant.to loop.invariant.spared,
      λ b x q.
          let w = loop.invariant.parted b x q in
          let ready = done b x a.due a.t (last_piece q w c.loop-left-test.false a.s) (last_ready q w c.loop-left-test.false) a.s (omega arith) loop.invariant.from in
          let same = last_way q w c.loop-left-test.false a.s loop.invariant.from in
          way_lost (at_most a.bound (relaxed (plan_of b) (suc a.s) (suc a.t) x)) c.piece-2.new.ways
          (ap (at_most a.bound) (sym same) ∙ bound_dear a.bound (way_on (plan_of b) x (suc a.t) (suc a.s)) (omega (arith, ready.price))),
    )

pub returns : goal.returns
returns c =
    let a = c.args in
    let loop = c.loop-left in
    let (room, kept, done) = c.piece-2.ensures in (
      kept a.s a.t (omega arith) loop.invariant.to loop.invariant.spared,
      λ b x q.
          let w = loop.invariant.parted b x q in
          let ready = done b x a.due a.t (last_piece q w c.loop-left-test.false a.s) (last_ready q w c.loop-left-test.false) a.s (omega arith) loop.invariant.from in
          let same = last_way q w c.loop-left-test.false a.s loop.invariant.from in
          let (is, priced) = way_found a.bound (relaxed (plan_of b) (suc a.s) (suc a.t) x) (get_or c.piece-2.new.ways a.s no_way).cost c.requires.5
          (ready.price ∙ ap rest_of same) (omega arith) in
          (priced, λ r h. ready.trace r (same ∙ sym is ∙ h)),
    )
