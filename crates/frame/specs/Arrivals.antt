-- What comes over the line, in order: bytes, and word of line faults. Flags cut it into segments.
use Rattle.std.specs.Prelude.{ℕ, cond, List, [], ◌∷◌, ◌==◌}
use Rattle.frame.specs.Framing.{flag}
use Rattle.frame.specs.Segment.{Segment, no_bytes, with_byte, with_fault}

pub data Arrival : Type 0 where
  byte : ℕ → Arrival
  fault : Arrival

-- the segments that flags close, where the segment `s` is open at the start
unfoldable pub closed : Segment → List Arrival → List Segment
closed s [] = []
closed s (byte b ∷ more) = cond (b == flag) (s ∷ closed no_bytes more) (closed (with_byte s b) more)
closed s (fault ∷ more) = closed (with_fault s) more

-- the segment that is open at the end
unfoldable pub left_open : Segment → List Arrival → Segment
left_open s [] = s
left_open s (byte b ∷ more) = cond (b == flag) (left_open no_bytes more) (left_open (with_byte s b) more)
left_open s (fault ∷ more) = left_open (with_fault s) more
