-- The routes that a node keeps, in order.
use Rattle.std.specs.Prelude.{List}
use Rattle.routes.specs.Listed.{listed}
use Rattle.routes.specs.declared.route.Route.{Route}
use Rattle.routes.specs.declared.routing.Routes.{Routes}

abbrev pub routes_of : Routes → List Route
routes_of r = listed r.table
