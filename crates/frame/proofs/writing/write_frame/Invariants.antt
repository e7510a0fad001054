use Rattle.std.proofs.Common.{◌≡◌, ◌∷◌, take}
use Rattle.frame.specs.Framing.{flag, escaped}
use Rattle.frame.specs.Cursor.{buffer}
use Rattle.frame.proofs.Cursors.{Wrote}
use Rattle.frame.proofs.writing.write_frame.Given as goal

-- the first flag and the bytes so far are written
abbrev pub invariant-loop-byte : goal.invariant-loop-byte
invariant-loop-byte l =
    (buffer l.cursor ≡ buffer l.initial.cursor)
    × Wrote l.cursor (flag ∷ escaped (take l.byte-index l.packet)) l.fn.out
