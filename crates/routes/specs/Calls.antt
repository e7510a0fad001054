-- What a call on a table answers and leaves.
use Rattle.std.specs.Prelude.{◌≡◌, Bool, true, false, cond, not, ◌&&◌, List, length, is_ok, Some, Ok, Err, Result, nat_le}
use Rattle.routes.specs.Limits.{max_routes}
use Rattle.routes.specs.Acceptable.{acceptable}
use Rattle.routes.specs.Insert.{has_subnet, insert}
use Rattle.routes.specs.Remove.{remove}
use Rattle.routes.specs.declared.route.Route.{Route}
use Rattle.routes.specs.declared.table.NotPut.{NotPut}
use Rattle.routes.specs.declared.table.NotPut.TheVariants.{NotAcceptable, Full}

-- there is no place for a route: its subnet is new, and the table has as many entries as it can hold
abbrev pub no_room : Route → List Route → Bool
no_room r rs = not (has_subnet r.subnet rs) && nat_le max_routes (length rs)

abbrev pub put_answer : Route → List Route → Result (Unit {0}) NotPut
put_answer r rs = cond (not (acceptable r)) (Err NotAcceptable) (cond (no_room r rs) (Err Full) (Ok tt))

abbrev pub put_left : Route → List Route → List Route
put_left r rs = cond (is_ok (put_answer r rs)) (insert r rs) rs

-- a new subnet that was put and is removed leaves what was there before
abbrev pub TakenBack : Route → List Route → Result (Unit {0}) NotPut → List Route → Type 0
TakenBack r was told is = is_ok told ≡ true → has_subnet r.subnet was ≡ false → remove r.subnet is ≡ Some was
