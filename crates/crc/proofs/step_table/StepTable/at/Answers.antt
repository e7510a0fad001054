use Rattle.std.proofs.Common.{rules}
use Rattle.crc.proofs.Entries.{entry}
use Rattle.crc.proofs.step_table.StepTable.at.Goals as goal

pub returns : goal.returns
returns g c = entry g.row.SCALE c.args.self.now.entries.now c.args.place c.args.self.now.rule (search (rules, c.args.self.now.whole))
