-- What always holds of the entries of a table: there are at most 15, each stands before all that follow it, and each is acceptable. So
-- no subnet stands twice.
use Rattle.std.specs.Prelude.{◌≡◌, ℕ, ◌<◌, ◌≤◌, Bool, true, false, ◌&&◌, List, [], ◌∷◌, length, nat_le, slice_index_or}
use Rattle.std.specs.List.{list_all}
use Rattle.routes.specs.Limits.{max_routes}
use Rattle.routes.specs.Acceptable.{acceptable}
use Rattle.routes.specs.Order.{same_subnet, before}
use Rattle.routes.specs.declared.route.Route.{Route}

unfoldable pub sorted : List Route → Bool
sorted [] = true
sorted (r ∷ rs) = list_all (before r) rs && sorted rs

unfoldable pub lawful : List Route → Bool
lawful rs = nat_le (length rs) max_routes && (sorted rs && list_all acceptable rs)

-- the same by places
pub record Lawful (rs : List Route) : Type 0 where
  pub few : length rs ≤ max_routes
  pub order : (i j : ℕ) (d : Route) → i < j → j < length rs → before (slice_index_or rs i d) (slice_index_or rs j d) ≡ true
  pub apart : (i j : ℕ) (d : Route) → i < j → j < length rs → same_subnet (slice_index_or rs i d) (slice_index_or rs j d) ≡ false
  pub accepted : (i : ℕ) (d : Route) → i < length rs → acceptable (slice_index_or rs i d) ≡ true
