use Rattle.std.proofs.Common.{Ok, ap, ◌∙◌, rules}
use Rattle.packet.specs.Reading.{shown_in}
use Rattle.dump.proofs.Heard.{hears_segment, hears_byte}
use Rattle.dump.proofs.monitor.BusMonitor.hear.Goals as goal

pub returns-in_ok-format-in-Ok-Some : goal.returns-in_ok-format-in-Ok-Some
returns-in_ok-format-in-Ok-Some c =
    hears_segment c.args.self.now _ c.args.byte _ c.byte.ensures.segment (search rules) c.in-Ok-Some.digest (c.in-Ok-Some.is ∙ ap Ok c.in-Ok-Some.field-0-is)
    (shown_in c.judge.result) c.judge.ensures.segment (Ok c.in_ok-format-in-Ok-Some.field-0) c.in_ok-format-in-Ok-Some.ensures.ok

pub returns-in-Ok-None : goal.returns-in-Ok-None
returns-in-Ok-None c text silent = hears_byte c.args.self.now _ c.args.byte _ c.byte.ensures.segment (search rules) text (search rules) silent
