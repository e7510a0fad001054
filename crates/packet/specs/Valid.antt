-- What a valid segment is, said without judging: no fault was reported in it, and it is what framing a proper packet writes between
-- its two flags, from a process that may send, for this station and in the right direction.
use Rattle.std.specs.Prelude.{◌≡◌, ◌≤◌, true, false, length, Ok, Result}
use Rattle.frame.specs.Limits.{max_packet}
use Rattle.frame.specs.Framing.{escaped, has_flag}
use Rattle.frame.specs.Segment.{Segment}
use Rattle.packet.specs.Addresses.{forbidden}
use Rattle.packet.specs.Packets.{Parts, packed, Bytes}
use Rattle.packet.specs.Judging.{is_for, right_way}
use Rattle.packet.specs.declared.causes.DropCause.{DropCause}
use Rattle.packet.specs.declared.judging.Station.{Station}

pub record Valid (station : Station) (s : Segment) (p : Parts) : Type 0 where
  pub unharmed : s.faulted ≡ false
  pub framed : s.came ≡ escaped (packed p)
  pub few : length (packed p) ≤ max_packet
  pub from_process : forbidden p.srce ≡ false
  pub for_us : is_for station p.dest p.srce ≡ true
  pub our_way : right_way station p.kind ≡ true

-- the bytes of a segment came over the line between two flags
pub record Came (s : Segment) : Type 0 where
  pub flagless : has_flag s.came ≡ false
  pub bytes : Bytes s.came

-- the verdict on a segment is a packet exactly where the segment is a valid one with that packet
pub record ExactlyValid (station : Station) (s : Segment) (verdict : Result Parts DropCause) : Type 0 where
  pub accepts_only : (p : Parts) → verdict ≡ Ok p → Valid station s p
  pub accepts_all : (p : Parts) → Valid station s p → verdict ≡ Ok p
