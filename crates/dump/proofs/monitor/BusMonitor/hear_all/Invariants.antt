use Rattle.std.proofs.Common.{map, take}
use Rattle.frame.specs.Arrivals.Arrival.{byte}
use Rattle.dump.specs.Hearing.{Hears}
use Rattle.dump.proofs.monitor.BusMonitor.hear_all.Given as goal

-- the bytes so far were heard
abbrev pub invariant-loop-byte : goal.invariant-loop-byte
invariant-loop-byte l = Hears l.initial.self (map byte (take l.byte-index l.bytes)) l.self l.out
