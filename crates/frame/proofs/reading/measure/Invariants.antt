use Rattle.std.proofs.Common.{◌≡◌, ◌≤◌, false, length, take}
use Rattle.frame.specs.Framing.{has_flag}
use Rattle.frame.specs.Escapes.{after_all, unescaped}
use Rattle.frame.specs.declared.escaping.Escaping.TheVariants.{Outside}
use Rattle.frame.proofs.reading.measure.Given as goal

abbrev pub invariant-loop-byte : goal.invariant-loop-byte
invariant-loop-byte l =
    (l.escaping ≡ after_all Outside (take l.byte-index l.segment))
    × (l.count ≡ length (unescaped (take l.byte-index l.segment)))
    × (l.count ≤ l.byte-index)
    × (has_flag (take l.byte-index l.segment) ≡ false)
