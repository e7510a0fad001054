-- The order of entries: more ones in the mask first, and among as many the lower network.
use Rattle.std.specs.Prelude.{Bool, ◌&&◌, ◌||◌, ◌==◌, count_ones, nat_lt}
use Rattle.routes.specs.declared.route.Route.{Route}
use Rattle.routes.specs.declared.route.Subnet.{Subnet}

-- an entry is that of this subnet
abbrev pub of_subnet : Subnet → Route → Bool
of_subnet s x = s.network == x.subnet.network && s.mask == x.subnet.mask

abbrev pub same_subnet : Route → Route → Bool
same_subnet r x = of_subnet r.subnet x

-- a subnet's entry stands before that of another one
abbrev pub stands_before : Subnet → Subnet → Bool
stands_before s t =
    nat_lt (count_ones t.mask) (count_ones s.mask) || (count_ones t.mask == count_ones s.mask && nat_lt s.network t.network)

abbrev pub before : Route → Route → Bool
before r x = stands_before r.subnet x.subnet
