-- What is written of a segment: its packet, as destination < source, type and data; or the number of the cause for which it is
-- dropped. Nothing is written of an empty segment.
use Rattle.std.specs.Prelude.{ℕ, List, [], ◌++◌, Ok, Err, codes, decimal, Result}
use Rattle.frame.specs.Segment.{Segment}
use Rattle.packet.specs.Names.{kind_text}
use Rattle.packet.specs.Packets.{Parts}
use Rattle.packet.specs.Causes.{drop_number}
use Rattle.packet.specs.Judging.{judge}
use Rattle.packet.specs.declared.causes.DropCause.{DropCause}
use Rattle.packet.specs.declared.causes.DropCause.TheVariants.{Empty}
use Rattle.packet.specs.declared.judging.Station.TheVariants.{Monitor}
use Rattle.bench.specs.Hex.{hex_pair, spaced_pairs}

-- 05<01 PING/0, with the data bytes behind it, each after a space
abbrev pub packet_text : Parts → List ℕ
packet_text p =
    hex_pair p.dest ++ (codes "<" ++ (hex_pair p.srce ++ (codes " " ++ (kind_text p.kind ++ (spaced_pairs p.content ++ codes "\n")))))

-- drop 6; nothing of an empty segment
abbrev pub drop_text : DropCause → List ℕ
drop_text Empty = []
drop_text cause = codes "drop " ++ (decimal (drop_number cause) ++ codes "\n")

abbrev pub verdict_text : Result Parts DropCause → List ℕ
verdict_text (Ok p) = packet_text p
verdict_text (Err cause) = drop_text cause

-- a segment is judged as one that hears every packet judges it
abbrev pub segment_text : Segment → List ℕ
segment_text s = verdict_text (judge Monitor s)
