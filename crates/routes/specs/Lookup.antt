-- Looking up the port for a destination: an entry fits where the destination is in its subnet, and the first one that fits gives its port.
use Rattle.std.specs.Prelude.{◌≡◌, ℕ, ◌≤◌, Bool, true, false, ◌⊎◌, List, ◌==◌, bit_and, count_ones}
use Rattle.std.specs.List.{find, Contains}
use Rattle.std.specs.Option.{option_map, unwrap_or}
use Rattle.routes.specs.Limits.{discard}
use Rattle.routes.specs.declared.route.Route.{Route}
use Rattle.routes.specs.declared.route.Subnet.{Subnet}

-- the destination is in the subnet
abbrev pub within : Subnet → ℕ → Bool
within s dest = bit_and dest s.mask == s.network

abbrev pub fits : ℕ → Route → Bool
fits dest r = within r.subnet dest

abbrev pub port_for : List Route → ℕ → ℕ
port_for rs dest = unwrap_or (option_map (λ r. r.port) (find (fits dest) rs)) discard

-- an entry fits, and none that fits has more ones in its mask: the most specific one
pub record Best (rs : List Route) (dest : ℕ) (r : Route) : Type 0 where
  pub there : Contains rs r
  pub fitting : fits dest r ≡ true
  pub most : (x : Route) → Contains rs x → fits dest x ≡ true → count_ones x.subnet.mask ≤ count_ones r.subnet.mask

-- the port of the most specific entry; where none fits, none
abbrev pub MostSpecific : List Route → ℕ → ℕ → Type 0
MostSpecific rs dest port =
    ((r : Route) × Best rs dest r × (port ≡ r.port)) ⊎ (((x : Route) → Contains rs x → fits dest x ≡ false) × (port ≡ discard))
