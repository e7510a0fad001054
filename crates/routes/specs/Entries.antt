-- Routes as requests and replies carry them: eight bytes an entry, which are network, mask, flags, port and the life, lowest byte first.
use Rattle.std.specs.Prelude.{ℕ, Bool, ◌&&◌, List, ◌∷◌, ◌==◌, slice_index}
use Rattle.words.specs.Words.{word32, bytes32}
use Rattle.routes.specs.Acceptable.{acceptable}
use Rattle.routes.specs.declared.entry.Entry.{Entry}
use Rattle.routes.specs.declared.route.Route.{Route}

-- the bytes that carry a route: its flags are 0
abbrev pub route_bytes : Route → List ℕ
route_bytes r = r.subnet.network ∷ r.subnet.mask ∷ 0 ∷ r.port ∷ bytes32 r.life

-- the entry that bytes carry
abbrev pub entry_in : List ℕ → Entry
entry_in xs = record {
  flags = slice_index xs 2;
  route = record {
    subnet = record { network = slice_index xs 0; mask = slice_index xs 1 };
    port = slice_index xs 3;
    life = word32 (slice_index xs 4) (slice_index xs 5) (slice_index xs 6) (slice_index xs 7);
  };
}

-- an entry may be added: no flag is set, and the route is acceptable
abbrev pub can_add : Entry → Bool
can_add e = e.flags == 0 && acceptable e.route
