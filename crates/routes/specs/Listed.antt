-- The entries of a table, in order.
use Rattle.std.specs.Prelude.{List}
use Rattle.array_vec.specs.Held.{held}
use Rattle.routes.specs.declared.route.Route.{Route}
use Rattle.routes.specs.declared.table.Table.{Table}

abbrev pub listed : Table → List Route
listed t = held t.entries
