use Rattle.std.proofs.Common.{◌≡◌, ◌-◌}
use Rattle.crc.specs.Crc.{bits_entered}
use Rattle.crc.proofs.bitwise.BitwiseMethod.update.Given as goal

-- the bits that are left give the result
abbrev pub invariant-loop : goal.invariant-loop
invariant-loop l = bits_entered (8 - l.counter) l.next l.rest ≡ bits_entered 8 l.register l.byte
