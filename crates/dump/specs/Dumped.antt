-- A recording is dumped: its lines tell what came over the line, flags cut this into segments, and each segment is written.
use Rattle.std.specs.Prelude.{ℕ, List, [], ◌∷◌, map}
use Rattle.std.specs.List.{flat_map}
use Rattle.frame.specs.Segment.{Segment, no_bytes}
use Rattle.frame.specs.Arrivals.{Arrival, closed, left_open}
use Rattle.frame.specs.Arrivals.Arrival.{byte as byte_came, fault as fault_came}
use Rattle.bench.specs.Lines.{LineValue}
use Rattle.bench.specs.Lines.LineValue.{bytes, step, fault}
use Rattle.dump.specs.Texts.{segment_text}

-- what came, by a line: a step of the clock brings nothing
abbrev pub arrivals_of : LineValue → List Arrival
arrivals_of (bytes bs) = map byte_came bs
arrivals_of (step n) = []
arrivals_of (fault f) = fault_came ∷ []

abbrev pub arrivals : List LineValue → List Arrival
arrivals vs = flat_map arrivals_of vs

-- what is written of the lines
abbrev pub dumped : List LineValue → List ℕ
dumped vs = flat_map segment_text (closed no_bytes (arrivals vs))

-- the segment that is open behind them
abbrev pub open_segment : List LineValue → Segment
open_segment vs = left_open no_bytes (arrivals vs)
