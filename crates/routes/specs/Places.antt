-- Where entries stand in a list of entries.
use Rattle.std.specs.Prelude.{◌≡◌, ℕ, ◌<◌, true, false, List, length, take, Some, None, Option, slice_get, slice_index_or}
use Rattle.std.specs.List.{find, remove as removed}
use Rattle.routes.specs.Start.{start_route}
use Rattle.routes.specs.Order.{of_subnet}
use Rattle.routes.specs.Insert.{has_subnet}
use Rattle.routes.specs.Remove.{remove}
use Rattle.routes.specs.declared.route.Route.{Route}
use Rattle.routes.specs.declared.route.Subnet.{Subnet}

-- the entry at a place
abbrev pub at_place : List Route → ℕ → Route
at_place rs at = slice_index_or rs at start_route

-- the first entry for a subnet stands at the place
pub record First (s : Subnet) (rs : List Route) (at : ℕ) : Type 0 where
  pub within : at < length rs
  pub none_before : has_subnet s (take at rs) ≡ false
  pub here : of_subnet s (at_place rs at) ≡ true

-- no entry is there for the subnet, and so none can be removed
pub record Missing (s : Subnet) (rs : List Route) : Type 0 where
  pub none : has_subnet s rs ≡ false
  pub entry : find (of_subnet s) rs ≡ None
  pub removal : remove s rs ≡ None

-- the entry for the subnet stands at the place, and removing it takes out that one
pub record Stands (s : Subnet) (rs : List Route) (at : ℕ) : Type 0 where
  pub first : First s rs at
  pub there : has_subnet s rs ≡ true
  pub entry : find (of_subnet s) rs ≡ slice_get rs at
  pub removal : remove s rs ≡ Some (removed rs at)

-- what finding the entry for a subnet tells
abbrev pub Tells : Subnet → List Route → Option ℕ → Type 0
Tells s rs None = Missing s rs
Tells s rs (Some at) = Stands s rs at
