-- The address spaces of GET and PUT, as a supplement names them.
use Rattle.std.specs.Prelude.{ℕ, cond, Ok, Err, Result, ◌==◌}
use Rattle.requests.specs.declared.naks.Nak.{Nak}
use Rattle.requests.specs.declared.naks.Nak.TheVariants.{Incorrect}
use Rattle.requests.specs.declared.request.Space.{Space}
use Rattle.requests.specs.declared.request.Space.TheVariants.{Device, Counts}

abbrev pub space_named : ℕ → Result Space Nak
space_named ss = cond (ss == 0) (Ok Device) (cond (ss == 1) (Ok Counts) (Err Incorrect))
