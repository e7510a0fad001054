use Rattle.std.proofs.Common.{◌≡◌, true, drop}
use Rattle.routes.specs.Listed.{listed}
use Rattle.routes.specs.Several.{can_add_all, insert_all}
use Rattle.routes.proofs.routing.several.put_each.Given as goal

abbrev pub invariant-loop-e : goal.invariant-loop-e
invariant-loop-e l =
    (insert_all (drop l.e-index l.entries) (listed l.longer) ≡ insert_all l.entries (listed l.initial.longer))
    × (can_add_all (drop l.e-index l.entries) ≡ true)
