use Rattle.std.proofs.Common.{take}
use Rattle.session.specs.Sessions.{TakesBytes}
use Rattle.session.proofs.feeding.Session.feed.Given as goal

-- the bytes so far were taken
abbrev pub invariant-loop-byte : goal.invariant-loop-byte
invariant-loop-byte g l = TakesBytes g.H.Obey.obeyed g.H.Obey.writes l.initial.self (take l.byte-index l.chunk) l.self l.out
