-- The number of each line fault: the monitoring count that it adds to.
use Rattle.std.specs.Prelude.{ℕ}
use Rattle.frame.specs.declared.faults.LineFault.{LineFault}
use Rattle.frame.specs.declared.faults.LineFault.TheVariants.{Parity, Overrun, Ownership}

abbrev pub fault_number : LineFault → ℕ
fault_number Parity = 0
fault_number Overrun = 1
fault_number Ownership = 5
