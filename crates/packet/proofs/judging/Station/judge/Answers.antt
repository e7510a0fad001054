use Rattle.std.proofs.Common.{rules}
use Rattle.packet.proofs.Judged.{told_segment}
use Rattle.packet.proofs.judging.Station.judge.Goals as goal

pub returns-in-None-clause-segment : goal.returns-in-None-clause-segment
returns-in-None-clause-segment c s h = told_segment c.args.self c.args.digest c.args.memory.now _ s h (search rules)
