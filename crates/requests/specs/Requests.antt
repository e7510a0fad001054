-- What a valid packet asks a node for, by its packet type, its supplement and its data; or the cause of the NAK that it gets.
use Rattle.std.specs.Prelude.{ℕ, ◌+◌, cond, ◌&&◌, List, length, drop, Some, None, Ok, Err, Option, Result, ◌==◌, nat_le, slice_index}
use Rattle.words.specs.Words.{word16, word32}
use Rattle.packet.specs.Types.{ss, pktype, type_named}
use Rattle.packet.specs.Packets.{Parts}
use Rattle.packet.specs.declared.kinds.PacketType.{PacketType}
use Rattle.packet.specs.declared.kinds.PacketType.TheVariants.{Ping, Init, Ack, Nak as NakType, Get, Put, Read, Write, Id, Addrt, Delrt, Getrt, Other}
use Rattle.device.specs.declared.assignments.Assignment.{Assignment}
use Rattle.routes.specs.Entries.{entry_in}
use Rattle.routes.specs.declared.entry.Entry.{Entry}
use Rattle.requests.specs.Limits.{max_get, max_put, max_read, max_write, max_entries}
use Rattle.requests.specs.Items.{items, address_in, assignment_in}
use Rattle.requests.specs.declared.naks.Nak.{Nak}
use Rattle.requests.specs.declared.naks.Nak.TheVariants.{Unknown, Incorrect}

-- a question changes nothing
pub data Query : Type 0 where
  ping : Query
  -- the variables of the device at these addresses
  get : List ℕ → Query
  -- the monitoring counts at these addresses
  get_counts : List ℕ → Query
  -- a memory, an address in it and how many bytes from there on
  read : ℕ → ℕ → ℕ → Query
  identify : Query
  -- a fragment of the identity string, by its number
  fragment : ℕ → Query
  list_routes : Query

pub data Change : Type 0 where
  init : Change
  put : List Assignment → Change
  put_counts : List Assignment → Change
  -- a memory, an address in it and the bytes from there on
  write : ℕ → ℕ → List ℕ → Change
  add_routes : List Entry → Change
  delete_routes : List Entry → Change

pub data Request : Type 0 where
  asks : Query → Request
  does : Change → Request

abbrev pub incorrect : Result Request Nak
incorrect = Err Incorrect

-- a request with supplement 0 and no data
abbrev pub dataless : ℕ → List ℕ → Request → Result Request Nak
dataless s xs q = cond (s == 0 && length xs == 0) (Ok q) incorrect

-- a request made of items that must be there
abbrev pub with_items : {A : Type 0} → (List A → Request) → Option (List A) → Result Request Nak
with_items make None = incorrect
with_items make (Some xs) = Ok (make xs)

-- GET and PUT: the device is address space 0, the counts are 1
abbrev pub by_space : {A : Type 0} → ℕ → (List A → Request) → (List A → Request) → Option (List A) → Result Request Nak
by_space s device counts xs = cond (s == 0) (with_items device xs) (cond (s == 1) (with_items counts xs) incorrect)

-- the four-byte address at the front of a READ's or a WRITE's data, and the two-byte count behind a READ's
abbrev pub start_in : List ℕ → ℕ
start_in xs = word32 (slice_index xs 0) (slice_index xs 1) (slice_index xs 2) (slice_index xs 3)

abbrev pub count_in : List ℕ → ℕ
count_in xs = word16 (slice_index xs 4) (slice_index xs 5)

-- a READ has the address and the count alone, a WRITE the address and the bytes; the supplement is the memory
abbrev pub read_parsed : ℕ → List ℕ → Result Request Nak
read_parsed s xs =
    cond (length xs == 6 && (nat_le 1 (count_in xs) && nat_le (count_in xs) max_read)) (Ok (asks (read s (start_in xs) (count_in xs)))) incorrect

abbrev pub write_parsed : ℕ → List ℕ → Result Request Nak
write_parsed s xs =
    cond (nat_le 5 (length xs) && nat_le (length xs) (4 + max_write)) (Ok (does (write s (start_in xs) (drop 4 xs)))) incorrect

-- ID: phase 0 has no data, phase 1 the number of a fragment
abbrev pub id_parsed : ℕ → List ℕ → Result Request Nak
id_parsed s xs =
    cond (s == 0 && length xs == 0) (Ok (asks identify)) (cond (s == 1 && length xs == 1) (Ok (asks (fragment (slice_index xs 0)))) incorrect)

-- ADDRT and DELRT: entries of eight bytes, with supplement 0
abbrev pub entries_with : ℕ → List ℕ → Option (List Entry)
entries_with s xs = cond (s == 0) (items max_entries 8 entry_in xs) None

abbrev pub routes_parsed : ℕ → (List Entry → Request) → List ℕ → Result Request Nak
routes_parsed s make xs = with_items make (entries_with s xs)

unfoldable pub parsed : PacketType → ℕ → List ℕ → Result Request Nak
parsed Ping s xs = dataless s xs (asks ping)
parsed Init s xs = dataless s xs (does init)
parsed Get s xs = by_space s (λ ads. asks (get ads)) (λ ads. asks (get_counts ads)) (items max_get 2 address_in xs)
parsed Put s xs = by_space s (λ ps. does (put ps)) (λ ps. does (put_counts ps)) (items max_put 6 assignment_in xs)
parsed Read s xs = read_parsed s xs
parsed Write s xs = write_parsed s xs
parsed Id s xs = id_parsed s xs
parsed Addrt s xs = routes_parsed s (λ es. does (add_routes es)) xs
parsed Delrt s xs = routes_parsed s (λ es. does (delete_routes es)) xs
parsed Getrt s xs = dataless s xs (asks list_routes)
parsed Ack s xs = Err Unknown
parsed NakType s xs = Err Unknown
parsed (Other n) s xs = Err Unknown

-- what a packet asks for
unfoldable pub request_of : Parts → Result Request Nak
request_of p = parsed (type_named (pktype p.kind)) (ss p.kind) p.content
