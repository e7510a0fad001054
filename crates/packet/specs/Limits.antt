-- The sizes of packets. The code's constants MIN_PACKET, DATA_OFFSET and MAX_DATA are these numbers; the longest packet is framing's `max_packet`.
use Rattle.std.specs.Prelude.{ℕ}

-- the fewest bytes that a packet has: destination, source, type and two bytes of CRC
abbrev pub min_packet : ℕ
min_packet = 5

-- where a packet's data begins
abbrev pub data_offset : ℕ
data_offset = 3

-- the most data bytes of a packet: the longest packet but for those five
abbrev pub max_data : ℕ
max_data = 123
