use Rattle.std.proofs.Common.{◌≡◌, take}
use Rattle.device.specs.Assignments.{offered_all}
use Rattle.device.proofs.assignments.offer_each.Given as goal

-- what was offered so far
abbrev pub invariant-loop-a : goal.invariant-loop-a
invariant-loop-a g l =
    let means = g.D.Device.means in
    means l.device ≡ offered_all (means l.initial.device) (take l.a-index l.assignments)
