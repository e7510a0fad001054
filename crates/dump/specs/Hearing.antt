-- A monitor that hears what comes over the line, and what is written of the segments that this closes.
use Rattle.std.specs.Prelude.{◌≡◌, List, [], ◌∷◌, length, string_bytes, Option, String}
use Rattle.std.specs.List.{flat_map}
use Rattle.std.specs.Option.{MatchOption}
use Rattle.std.specs.declared.alloc.Global.{Global}
use Rattle.frame.specs.Limits.{max_packet}
use Rattle.frame.specs.Segment.{Segment}
use Rattle.frame.specs.Arrivals.{Arrival, closed, left_open}
use Rattle.frame.specs.Receiving.{Holds}
use Rattle.dump.specs.Texts.{segment_text}
use Rattle.dump.specs.declared.monitor.BusMonitor.{BusMonitor}

-- it holds the segment
pub record HoldsSegment (m : BusMonitor) (s : Segment) : Type 0 where
  pub room : length m.memory ≡ max_packet
  pub holds : Holds m.receiver m.memory s

-- where it held a segment, it holds the one that is open then, and the text is that of those that were closed
abbrev pub Hears : BusMonitor → List Arrival → BusMonitor → String Global → Type 0
Hears was came is text =
    (s : Segment) → HoldsSegment was s
    → HoldsSegment is (left_open s came) × (string_bytes text ≡ flat_map segment_text (closed s came))

-- one thing came, and the text of the segment that it closed was told, or that it closed none
abbrev pub HearsOne : BusMonitor → Arrival → BusMonitor → Option (String Global) → Type 0
HearsOne was came is told =
    MatchOption told ((text : String Global) → string_bytes text ≡ [] → Hears was (came ∷ []) is text) (Hears was (came ∷ []) is)
