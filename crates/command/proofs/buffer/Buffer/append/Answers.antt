-- As many bytes are put behind as there is room for. Assumes nothing.
use mathlib.Core.Path.{◌≡◌, sym, ap, ◌∙◌}
use mathlib.Core.List.{List, ◌++◌}
use Prim.Native.Nat.{ℕ, ◌+◌, ◌-◌, ◌≤◌, min}
use native.Mathlib.Omega.{arith}
use lib.ListN.{length, take}
use lib.Seq.{length-take-le, take-append-add}
use borrow.Rule.Slice.PartMut.{put_mid}
use Rattle.std.proofs.lemmas.List.{take_min}
use Rattle.std.proofs.lemmas.Slice.{take-put_mid}
use Rattle.command.proofs.buffer.Buffer.append.Goals as goal

module _ (n size k some : ℕ) (room more ys : List ℕ) where
  appended : size ≤ n → length room ≡ n → some ≡ min (length more) (n - size) → ys ≡ take some more
      → take (size + some) (put_mid size k room ys) ≡ take n (take size room ++ more)
  appended within all fits copied =
      let filled : length (take size room) ≡ size = length-take-le size room (omega arith) in
      let new : length ys ≡ some = ap length copied ∙ length-take-le some more (omega arith) in
      let least : some ≡ min (n - size) (length more) = omega (arith, fits) in
      take-put_mid size k room ys (size + some) (omega arith) (omega arith)
      ∙ ap (λ (l : List ℕ). take size room ++ l) (copied ∙ ap (λ (j : ℕ). take j more) least ∙ take_min (n - size) more)
      ∙ sym (take-append-add (take size room) more (n - size))
      ∙ ap (λ (j : ℕ). take j (take size room ++ more)) (omega arith)

pub returns : goal.returns
returns g c =
    let s = c.self.inside in
    appended g.row.N s.size _ _ s.room c.args.more.now _ c.self.invariant (c.self.ranges).0.1.0.1 c.min-some.ensures c.copy_from_slice.ensures.after
    ∙ ap (λ (l : List ℕ). take g.row.N (l ++ c.args.more.now)) c.self.view_is
