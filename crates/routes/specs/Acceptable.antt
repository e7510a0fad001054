-- Which entries may stand in the table: the mask is one, the network has no bit outside it, the port is there or discards, and the
-- life is not too long.
use Rattle.std.specs.Prelude.{ℕ, Bool, ◌&&◌, ◌||◌, ◌==◌, bit_and, nat_le}
use Rattle.routes.specs.Limits.{max_life, last_port, discard}
use Rattle.routes.specs.Masks.{is_mask}
use Rattle.routes.specs.declared.route.Route.{Route}

abbrev pub is_port : ℕ → Bool
is_port p = nat_le p last_port || p == discard

abbrev pub acceptable : Route → Bool
acceptable r =
    is_mask r.subnet.mask && (bit_and r.subnet.network r.subnet.mask == r.subnet.network && (is_port r.port && nat_le r.life max_life))
