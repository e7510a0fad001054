-- The table that a node starts with: one entry that fits every destination, at port 0, with no end to its life. A table that was left
-- empty gets it back.
use Rattle.std.specs.Prelude.{List, [], ◌∷◌}
use Rattle.routes.specs.declared.route.Route.{Route}

abbrev pub start_route : Route
start_route = record { subnet = record { network = 0; mask = 0 }; port = 0; life = 0 }

abbrev pub start_routes : List Route
start_routes = start_route ∷ []

abbrev pub refilled : List Route → List Route
refilled [] = start_routes
refilled (r ∷ rs) = r ∷ rs
