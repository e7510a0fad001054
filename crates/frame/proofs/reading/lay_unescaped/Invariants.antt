use Rattle.std.proofs.Common.{◌≡◌, take}
use Rattle.frame.specs.Cursor.{buffer}
use Rattle.frame.specs.Escapes.{after_all, unescaped}
use Rattle.frame.specs.declared.escaping.Escaping.TheVariants.{Outside}
use Rattle.frame.proofs.Cursors.{Wrote}
use Rattle.frame.proofs.reading.lay_unescaped.Given as goal

-- the bytes so far are unescaped and written
abbrev pub invariant-loop-byte : goal.invariant-loop-byte
invariant-loop-byte l =
    (l.escaping ≡ after_all Outside (take l.byte-index l.segment))
    × (buffer l.cursor ≡ buffer l.initial.cursor)
    × Wrote l.cursor (unescaped (take l.byte-index l.segment)) l.fn.out
