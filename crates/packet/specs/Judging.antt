-- Judging a segment: it is dropped for the first cause that applies, or its packet is valid to the station that judges it.
-- A segment is judged by itself.
use Rattle.std.specs.Prelude.{ℕ, Bool, true, not, ◌&&◌, ◌||◌, List, [], ◌∷◌, Ok, Result, is_none, ◌==◌}
use Rattle.frame.specs.Framing.{flag, escape, bad_escape}
use Rattle.frame.specs.Escapes.{unescaped, in_escape}
use Rattle.frame.specs.Segment.{Segment}
use Rattle.frame.specs.declared.receiver.Digest.{Digest}
use Rattle.packet.specs.Numbered.{number_of}
use Rattle.packet.specs.Types.{is_reply}
use Rattle.packet.specs.Packets.{Parts, parts_of}
use Rattle.packet.specs.Causes.{first_cause}
use Rattle.packet.specs.Reading.{none, reading_causes}
use Rattle.packet.specs.declared.causes.DropCause.{DropCause}
use Rattle.packet.specs.declared.causes.DropCause.TheVariants.{LineFault, Empty, BadEscape, TooLong, NullSource, ForbiddenSource, NotForUs, WrongDirection}
use Rattle.packet.specs.declared.judging.Station.{Station}
use Rattle.packet.specs.declared.judging.Station.TheVariants.{Node, Caller, Monitor}

-- a packet is for this station: a caller hears only the process that it spoke to
abbrev pub is_for : Station → ℕ → ℕ → Bool
is_for (Node own) dest srce = dest == number_of own
is_for (Caller own peer) dest srce = dest == number_of own && srce == number_of peer
is_for Monitor dest srce = true

-- its type byte says the right direction: a node takes no replies, and a caller nothing else
abbrev pub right_way : Station → ℕ → Bool
right_way (Node own) kind = not (is_reply kind)
right_way (Caller own peer) kind = is_reply kind
right_way Monitor kind = true

-- ---- the causes, in the order in which they are tried

-- of a segment, before its bytes are read as a packet
abbrev pub segment_causes : Segment → List (Bool × DropCause)
segment_causes s = (s.faulted, LineFault) ∷ (none s.came, Empty) ∷ (bad_escape s.came, BadEscape) ∷ []

-- of a packet that was read
abbrev pub packet_causes : Station → Parts → List (Bool × DropCause)
packet_causes station p =
    ((p.srce == 0), NullSource)
    ∷ (p.srce == flag || (p.srce == escape), ForbiddenSource)
    ∷ (not (is_for station p.dest p.srce), NotForUs)
    ∷ (not (right_way station p.kind), WrongDirection)
    ∷ []

-- of what a receiver kept of a segment
abbrev pub digest_causes : Digest → List (Bool × DropCause)
digest_causes d = (d.faulted, LineFault) ∷ (in_escape d.escaping, BadEscape) ∷ (is_none d.count, TooLong) ∷ []

-- ---- the verdict

-- on a packet that was read
abbrev pub judge_packet : Station → Parts → Result Parts DropCause
judge_packet station p = first_cause (packet_causes station p) (Ok p)

-- on unescaped bytes
unfoldable pub judge_bytes : Station → List ℕ → Result Parts DropCause
judge_bytes station bs = first_cause (reading_causes bs) (judge_packet station (parts_of bs))

-- on a segment
unfoldable pub judge : Station → Segment → Result Parts DropCause
judge station s = first_cause (segment_causes s) (judge_bytes station (unescaped s.came))

-- on a segment by what a receiver kept of it: its digest, and the unescaped bytes up to the longest packet
abbrev pub judge_kept : Station → Digest → List ℕ → Result Parts DropCause
judge_kept station d bs = first_cause (digest_causes d) (judge_bytes station bs)
