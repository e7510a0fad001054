-- What putting the routes of entries one after another leaves of a table: all of them, unless the table has too many then.
use Rattle.std.specs.Prelude.{cond, List, length, Ok, Err, Result, nat_lt}
use Rattle.routes.specs.Limits.{max_routes}
use Rattle.routes.specs.Listed.{listed}
use Rattle.routes.specs.Several.{insert_all}
use Rattle.routes.specs.declared.entry.Entry.{Entry}
use Rattle.routes.specs.declared.route.Route.{Route}
use Rattle.routes.specs.declared.table.NotPut.{NotPut}
use Rattle.routes.specs.declared.table.NotPut.TheVariants.{Full}
use Rattle.routes.specs.declared.table.Table.{Table}

abbrev pub added : List Entry → List Route → Result (List Route) NotPut
added es rs = cond (nat_lt max_routes (length (insert_all es rs))) (Err Full) (Ok (insert_all es rs))

abbrev pub listed_in : Result Table NotPut → Result (List Route) NotPut
listed_in (Ok t) = Ok (listed t)
listed_in (Err why) = Err why
