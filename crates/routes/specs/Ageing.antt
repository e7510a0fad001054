-- A clock step shortens each life. A step as long as the life that is left, or longer, uses it up, and the entry goes. A life of 0 is
-- none, and the entry stays as it is.
use Rattle.std.specs.Prelude.{ℕ, ◌-◌, cond, List, Some, None, Option, ◌==◌, nat_lt}
use Rattle.std.specs.List.{filter_map}
use Rattle.std.specs.Option.{option_map}
use Rattle.routes.specs.declared.route.Route.{Route}

-- the life after a step, unless it is used up
abbrev pub life_left : ℕ → ℕ → Option ℕ
life_left life step = cond (life == 0) (Some 0) (cond (nat_lt step life) (Some (life - step)) None)

abbrev pub with_life : Route → ℕ → Route
with_life r life = record { subnet = r.subnet; port = r.port; life = life }

-- the entry after a step, unless its life is used up
abbrev pub older : ℕ → Route → Option Route
older step r = option_map (with_life r) (life_left r.life step)

abbrev pub aged : ℕ → List Route → List Route
aged step rs = filter_map (older step) rs
