-- Where no line came, nothing is dumped.
use Rattle.std.specs.Prelude.{◌≡◌, [], refl}
use Rattle.frame.specs.Arrivals.{closed}
use Rattle.dump.specs.Dumped.{dumped}

pub silent_start : dumped [] ≡ []
unfolding closed
silent_start = refl
