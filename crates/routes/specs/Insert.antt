-- Putting an entry among others: the entry for its subnet is updated, or it stands as a new one where it belongs.
use Rattle.std.specs.Prelude.{Bool, cond, List, [], ◌∷◌}
use Rattle.std.specs.List.{list_any}
use Rattle.routes.specs.Order.{of_subnet, same_subnet, before}
use Rattle.routes.specs.declared.route.Route.{Route}
use Rattle.routes.specs.declared.route.Subnet.{Subnet}

-- an entry is there for the subnet
abbrev pub has_subnet : Subnet → List Route → Bool
has_subnet s rs = list_any (of_subnet s) rs

-- the same subnet, with port and life set anew
abbrev pub renewed : Route → Route → Route
renewed x r = record { subnet = x.subnet; port = r.port; life = r.life }

-- the entry for the route's subnet renewed
unfoldable pub updated : Route → List Route → List Route
updated r [] = []
updated r (x ∷ xs) = cond (same_subnet r x) (renewed x r ∷ xs) (x ∷ updated r xs)

-- a new entry, in front of the first one that it stands before
unfoldable pub placed : Route → List Route → List Route
placed r [] = r ∷ []
placed r (x ∷ xs) = cond (before r x) (r ∷ x ∷ xs) (x ∷ placed r xs)

abbrev pub insert : Route → List Route → List Route
insert r rs = cond (has_subnet r.subnet rs) (updated r rs) (placed r rs)
