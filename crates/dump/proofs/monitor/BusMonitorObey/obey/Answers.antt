use Rattle.std.proofs.Common.{refl}
use Rattle.bench.specs.Lines.LineValue.{fault}
use Rattle.dump.proofs.Heard.{hears_fault, obeys_heard}
use Rattle.dump.proofs.monitor.BusMonitorObey.obey.Goals as goal

pub returns-in-Fault : goal.returns-in-Fault
returns-in-Fault c =
    rw c.in-Fault.is (obeys_heard c.args.self.now _ (fault c.in-Fault.field-0) c.new-in-Fault.result
    (hears_fault c.args.self.now _ c.new-in-Fault.result refl (c.fault.ensures.segment _) c.new-in-Fault.ensures.bytes))
