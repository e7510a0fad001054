-- The type byte: 64 times the supplement ss and the packet type. The listed packet types have names.
use Rattle.std.specs.Prelude.{ℕ, ◌/◌, ◌%◌, Bool, cond, ◌||◌, ◌==◌}
use Rattle.packet.specs.declared.kinds.PacketType.{PacketType}
use Rattle.packet.specs.declared.kinds.PacketType.TheVariants.{Ping, Init, Ack, Nak, Get, Put, Read, Write, Id, Addrt, Delrt, Getrt, Other}

-- the supplement and the packet type of a type byte
abbrev pub ss : ℕ → ℕ
ss kind = kind / 64

abbrev pub pktype : ℕ → ℕ
pktype kind = kind % 64

-- the number of a packet type
abbrev pub type_number : PacketType → ℕ
type_number Ping = 0
type_number Init = 1
type_number Ack = 2
type_number Nak = 3
type_number Get = 4
type_number Put = 5
type_number Read = 6
type_number Write = 7
type_number Id = 8
type_number Addrt = 54
type_number Delrt = 55
type_number Getrt = 56
type_number (Other n) = n

-- the packet type of a number
abbrev pub type_named : ℕ → PacketType
type_named n =
    cond (n == 0) Ping (
    cond (n == 1) Init (
    cond (n == 2) Ack (
    cond (n == 3) Nak (
    cond (n == 4) Get (
    cond (n == 5) Put (
    cond (n == 6) Read (
    cond (n == 7) Write (
    cond (n == 8) Id (
    cond (n == 54) Addrt (
    cond (n == 55) Delrt (
    cond (n == 56) Getrt (Other n))))))))))))

-- a reply is an ACK or a NAK
abbrev pub is_reply : ℕ → Bool
is_reply kind = pktype kind == 2 || pktype kind == 3
