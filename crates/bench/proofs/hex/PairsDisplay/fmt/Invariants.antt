use Rattle.std.proofs.Common.{take}
use Rattle.std.specs.Fmt.{IsPlainFormatter, HasWritten}
use Rattle.bench.specs.Hex.{spaced_pairs}
use Rattle.bench.proofs.hex.PairsDisplay.fmt.Given as goal

-- the pairs of the bytes so far are written
abbrev pub invariant-loop-byte : goal.invariant-loop-byte
invariant-loop-byte g l = IsPlainFormatter l.initial.f → HasWritten g.W.Write.write_str_gives l.initial.f (spaced_pairs (take l.byte-index l.self.0.now)) l.f
