-- The sizes of packets and frames. The code's constants MAX_PACKET and MAX_FRAME are these numbers.
use Rattle.std.specs.Prelude.{ℕ}

-- the most bytes that a packet has, CRC included
abbrev pub max_packet : ℕ
max_packet = 128

-- the most bytes that a packet's frame has: two flags, and each byte of the longest packet escaped
abbrev pub max_frame : ℕ
max_frame = 258
