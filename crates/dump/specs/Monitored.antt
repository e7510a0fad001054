-- A monitor that obeyed some lines holds the segment that is open behind them.
use Rattle.std.specs.Prelude.{List}
use Rattle.bench.specs.Lines.{LineValue}
use Rattle.dump.specs.Dumped.{open_segment}
use Rattle.dump.specs.Hearing.{HoldsSegment}
use Rattle.dump.specs.declared.monitor.BusMonitor.{BusMonitor}

abbrev pub Heard : BusMonitor → List LineValue → Type 0
Heard m vs = HoldsSegment m (open_segment vs)
