-- What is left of the words gathers what all of them do. While all of them fit into the room, nothing is written. A failure stays one.
use Rattle.std.proofs.Common.{length, ◌≡◌, true, ◌+◌, ◌≤◌, drop}
use Rattle.output.specs.Gathering.{filled_after, room_after}
use Rattle.output.proofs.Printer.put.Given as goal

abbrev pub invariant-loop-byte : goal.invariant-loop-byte
invariant-loop-byte g l =
    (room_after l.self.room l.self.filled (drop l.byte-index l.words) ≡ room_after l.fn.self.room l.fn.self.filled l.words)
    × (filled_after l.self.filled (drop l.byte-index l.words) ≡ filled_after l.fn.self.filled l.words)
    × (l.fn.self.filled + length l.words ≤ 65536 → (l.self.failed ≡ l.fn.self.failed) × (l.self.filled ≡ l.fn.self.filled + l.byte-index))
    × (l.fn.self.failed ≡ true → l.self.failed ≡ true)
