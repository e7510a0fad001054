-- A packet: destination, source, type byte and data, and two bytes of CRC over all of these, low byte first.
use Rattle.std.specs.Prelude.{ℕ, ◌+◌, ◌-◌, ◌*◌, ◌/◌, ◌%◌, ◌<◌, Bool, List, [], ◌∷◌, ◌++◌, length, take, drop, ◌==◌, slice_index}
use Rattle.std.specs.List.{AllByRecursion}
use Rattle.crc.specs.Crc.{crc}
use Rattle.packet.specs.Limits.{min_packet, data_offset}
use Rattle.packet.specs.declared.writer.Header.{Header}

-- the parts of a packet
pub record Parts : Type 0 where
  pub dest : ℕ
  pub srce : ℕ
  pub kind : ℕ
  pub content : List ℕ

-- those of a packet with this header and data
abbrev pub headed : Header → List ℕ → Parts
headed h content = record { dest = h.dest; srce = h.srce; kind = h.kind.0; content = content }

-- the bytes that the CRC covers
abbrev pub covered : Parts → List ℕ
covered p = p.dest ∷ p.srce ∷ p.kind ∷ p.content

-- a CRC as it is sent
abbrev pub sent : ℕ → List ℕ
sent register = register % 256 ∷ register / 256 ∷ []

-- the bytes of a packet
unfoldable pub packed : Parts → List ℕ
packed p = covered p ++ sent (crc (covered p))

-- where the data lies in the bytes of a packet
abbrev pub data_in : List ℕ → List ℕ
data_in bs = take (length bs - min_packet) (drop data_offset bs)

-- the parts that at least five bytes stand for
abbrev pub parts_of : List ℕ → Parts
parts_of bs = record { dest = slice_index bs 0; srce = slice_index bs 1; kind = slice_index bs 2; content = data_in bs }

-- the last two of some bytes are the CRC of those before
unfoldable pub crc_right : List ℕ → Bool
crc_right bs = slice_index bs (length bs - 2) + 256 * slice_index bs (length bs - 1) == crc (take (length bs - 2) bs)

-- every number is a byte
abbrev pub Bytes : List ℕ → Type 0
Bytes = AllByRecursion (λ b. b < 256)
