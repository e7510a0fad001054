use Rattle.std.proofs.Common.{rules}
use Rattle.frame.proofs.Segments.{receives}
use Rattle.frame.proofs.receiver.Receiver.byte.Goals as goal

pub returns-then-byte-eq-FLAG-clause-segment : goal.returns-then-byte-eq-FLAG-clause-segment
returns-then-byte-eq-FLAG-clause-segment c = receives _ _ _ _ _ _ (search rules) (search rules) (search rules)

pub returns-clause-segment : goal.returns-clause-segment
returns-clause-segment c = receives _ _ _ _ _ _ (search rules) (search rules) (search rules)
