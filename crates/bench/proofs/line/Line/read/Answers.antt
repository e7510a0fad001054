use Rattle.bench.proofs.Exact.{reads_exactly}
use Rattle.bench.proofs.line.Line.read.Goals as goal

pub returns-in-10-clause-exact : goal.returns-in-10-clause-exact
returns-in-10-clause-exact c = reads_exactly c.args.text.now

pub returns-in_default-clause-exact : goal.returns-in_default-clause-exact
returns-in_default-clause-exact c = reads_exactly c.args.text.now
