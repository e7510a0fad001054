-- Taking out the entry for a subnet, if there is one. Port and life play no part.
use Rattle.std.specs.Prelude.{cond, List, [], ◌∷◌, Some, None, Option}
use Rattle.std.specs.Option.{option_map}
use Rattle.routes.specs.Order.{of_subnet}
use Rattle.routes.specs.declared.route.Route.{Route}
use Rattle.routes.specs.declared.route.Subnet.{Subnet}

unfoldable pub remove : Subnet → List Route → Option (List Route)
remove s [] = None
remove s (x ∷ xs) = cond (of_subnet s x) (Some xs) (option_map (λ ys. x ∷ ys) (remove s xs))
