-- Several entries at once: all of them in order, or none.
use Rattle.std.specs.Prelude.{◌≡◌, Bool, true, false, cond, not, List, [], ◌∷◌, length, is_ok, Some, Ok, Err, Option, Result, nat_lt}
use Rattle.std.specs.List.{fold, list_all}
use Rattle.std.specs.Option.{option_and_then, unwrap_or}
use Rattle.routes.specs.Entries.{can_add}
use Rattle.routes.specs.Insert.{has_subnet, insert}
use Rattle.routes.specs.Limits.{max_routes}
use Rattle.routes.specs.Remove.{remove}
use Rattle.routes.specs.Start.{refilled}
use Rattle.routes.specs.declared.entry.Entry.{Entry}
use Rattle.routes.specs.declared.route.Route.{Route}
use Rattle.routes.specs.declared.table.NotPut.{NotPut}
use Rattle.routes.specs.declared.table.NotPut.TheVariants.{NotAcceptable, Full}

-- each entry may be added
abbrev pub can_add_all : List Entry → Bool
can_add_all es = list_all can_add es

-- the routes of entries put among others, one after another
abbrev pub insert_all : List Entry → List Route → List Route
insert_all es rs = fold (λ is e. insert e.route is) rs es

-- the entries for some subnets taken out, one after another, if each is there when its turn comes
unfoldable pub remove_all : List Entry → List Route → Option (List Route)
remove_all [] rs = Some rs
remove_all (e ∷ es) rs = option_and_then (remove_all es) (remove e.route.subnet rs)

-- ---- what the calls answer and leave

-- an entry that may not be added comes first, whatever the room; then there is no place exactly where the table would have too many
abbrev pub add_answer : List Entry → List Route → Result (Unit {0}) NotPut
add_answer es rs =
    cond (not (can_add_all es)) (Err NotAcceptable) (cond (nat_lt max_routes (length (insert_all es rs))) (Err Full) (Ok tt))

abbrev pub add_left : List Entry → List Route → List Route
add_left es rs = cond (is_ok (add_answer es rs)) (insert_all es rs) rs

-- a table that is left empty gets the start entry, behind the last entry of the request and not before
abbrev pub delete_left : List Entry → List Route → List Route
delete_left es rs = refilled (unwrap_or (remove_all es rs) rs)

-- one entry for a new subnet that was added and is deleted again leaves what was there before
abbrev pub OneTakenBack : List Entry → List Route → Result (Unit {0}) NotPut → List Route → Type 0
OneTakenBack es was told is =
    (e : Entry) → es ≡ e ∷ [] → is_ok told ≡ true → has_subnet e.route.subnet was ≡ false → remove_all es is ≡ Some was
