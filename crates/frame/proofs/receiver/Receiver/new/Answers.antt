use Rattle.frame.proofs.Segments.{holds_none}
use Rattle.frame.proofs.receiver.Receiver.new.Goals as goal

pub returns-clause-segment : goal.returns-clause-segment
returns-clause-segment c = rw c.empty.ensures holds_none
