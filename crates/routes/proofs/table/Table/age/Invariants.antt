use Rattle.std.proofs.Common.{◌≡◌, take}
use Rattle.array_vec.specs.Held.{held}
use Rattle.routes.specs.Ageing.{aged}
use Rattle.routes.proofs.table.Table.age.Given as goal

-- the entries so far, aged
abbrev pub invariant-loop-route : goal.invariant-loop-route
invariant-loop-route l = held l.left ≡ aged l.step (take l.route-index l.route-items)
