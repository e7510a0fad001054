use Rattle.std.proofs.Common.{refl, subst, rules}
use Rattle.frame.specs.Arrivals.{left_open}
use Rattle.frame.specs.Segment.{no_bytes}
use Rattle.frame.specs.Receiving.{Holds}
use Rattle.frame.specs.declared.receiver.Digest.{Digest}
use Rattle.frame.proofs.Segments.{holds_none}
use Rattle.dump.proofs.monitor.BusMonitor.new.Goals as goal

pub returns : goal.returns
unfolding left_open
returns c = record { room = refl; holds = subst (λ (d : Digest). Holds d _ no_bytes) (search rules) (holds_none _) }
