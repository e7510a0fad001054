-- How packet types and type bytes are shown: PING/0, or TYPE17/2 where the packet type has no name.
use Rattle.std.specs.Prelude.{ℕ, List, ◌++◌, codes, decimal}
use Rattle.packet.specs.Types.{ss, pktype, type_named}
use Rattle.packet.specs.declared.kinds.PacketType.{PacketType}
use Rattle.packet.specs.declared.kinds.PacketType.TheVariants.{Ping, Init, Ack, Nak, Get, Put, Read, Write, Id, Addrt, Delrt, Getrt, Other}

abbrev pub type_text : PacketType → List ℕ
type_text Ping = codes "PING"
type_text Init = codes "INIT"
type_text Ack = codes "ACK"
type_text Nak = codes "NAK"
type_text Get = codes "GET"
type_text Put = codes "PUT"
type_text Read = codes "READ"
type_text Write = codes "WRITE"
type_text Id = codes "ID"
type_text Addrt = codes "ADDRT"
type_text Delrt = codes "DELRT"
type_text Getrt = codes "GETRT"
type_text (Other n) = codes "TYPE" ++ decimal n

abbrev pub kind_text : ℕ → List ℕ
kind_text kind = type_text (type_named (pktype kind)) ++ (codes "/" ++ decimal (ss kind))
