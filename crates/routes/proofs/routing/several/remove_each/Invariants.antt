use Rattle.std.proofs.Common.{◌≡◌, drop}
use Rattle.routes.specs.Listed.{listed}
use Rattle.routes.specs.Several.{remove_all}
use Rattle.routes.proofs.routing.several.remove_each.Given as goal

abbrev pub invariant-loop-e : goal.invariant-loop-e
invariant-loop-e l = remove_all (drop l.e-index l.entries) (listed l.shorter) ≡ remove_all l.entries (listed l.initial.shorter)
