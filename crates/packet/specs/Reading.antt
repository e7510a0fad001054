-- Reading some bytes as a packet.
use Rattle.std.specs.Prelude.{◌≡◌, ℕ, ◌-◌, ◌≤◌, Bool, true, false, not, List, [], ◌∷◌, length, take, drop, is_ok, IfOk, Ok, Err, Result, nat_lt}
use Rattle.crc.specs.Detection.{Damage}
use Rattle.frame.specs.Limits.{max_packet}
use Rattle.packet.specs.Limits.{min_packet, data_offset}
use Rattle.packet.specs.Packets.{Parts, headed, packed, parts_of, crc_right}
use Rattle.packet.specs.Causes.{first_cause}
use Rattle.packet.specs.declared.causes.DropCause.{DropCause}
use Rattle.packet.specs.declared.causes.DropCause.TheVariants.{Empty, TooLong, TooShort, WrongCrc}
use Rattle.packet.specs.declared.reader.Packet.{Packet}
use Rattle.packet.specs.declared.reader.Part.{Part}
use Rattle.packet.specs.declared.writer.Header.{Header}

-- no byte is among them
abbrev pub none : List ℕ → Bool
none [] = true
none (b ∷ bs) = false

-- why bytes are no packet, in the order in which the causes are tried
abbrev pub reading_causes : List ℕ → List (Bool × DropCause)
reading_causes bs =
    (none bs, Empty)
    ∷ (nat_lt max_packet (length bs), TooLong)
    ∷ (nat_lt (length bs) min_packet, TooShort)
    ∷ (not (crc_right bs), WrongCrc)
    ∷ []

abbrev pub read : List ℕ → Result Parts DropCause
read bs = first_cause (reading_causes bs) (Ok (parts_of bs))

-- ---- the reader

-- what a packet shows: its header, and its data as a part of the bytes
abbrev pub header_of : Packet → Header
header_of p = p.header

abbrev pub data_of : Packet → Part
data_of p = p.«data»

-- the parts that it shows
abbrev pub shown : Packet → Parts
shown p = headed (header_of p) (data_of p).bytes.now

abbrev pub shown_in : Result Packet DropCause → Result Parts DropCause
shown_in (Ok p) = Ok (shown p)
shown_in (Err cause) = Err cause

-- the data is shown as a part of the bytes, with its place in them
abbrev pub PartOf : List ℕ → Result Packet DropCause → Type 0
PartOf bs r =
    IfOk r (λ p. ((data_of p).offset ≡ data_offset) × ((data_of p).bytes.now ≡ take (length bs - min_packet) (drop (data_of p).offset bs)))

-- ---- laws

-- the bytes of a packet that is not too long are read as that packet
abbrev pub ReadsBack : List ℕ → Result Packet DropCause → Type 0
ReadsBack bs r = (p : Parts) → bs ≡ packed p → length bs ≤ max_packet → shown_in r ≡ Ok p

-- bytes that are read as a packet are the bytes of that packet
abbrev pub OneForm : List ℕ → Result Packet DropCause → Type 0
OneForm bs r = IfOk r (λ p. bs ≡ packed (shown p))

-- bytes that a packet became by damage that the CRC detects are not read
abbrev pub DamageShows : List ℕ → Result Packet DropCause → Type 0
DamageShows bs r = (p : Parts) → length (packed p) ≡ length bs → Damage (packed p) bs → is_ok r ≡ false
