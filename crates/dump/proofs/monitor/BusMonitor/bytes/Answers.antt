use Rattle.bench.specs.Lines.LineValue.{bytes}
use Rattle.dump.proofs.Heard.{obeys_heard}
use Rattle.dump.proofs.monitor.BusMonitor.bytes.Goals as goal

pub returns : goal.returns
returns c = obeys_heard c.args.self.now c.hear_all.new.self (bytes c.args.bytes.now) c.in_ok-out.out c.in_ok-out.ensures
