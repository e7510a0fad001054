use Rattle.std.proofs.Common.{◌≡◌, take}
use Rattle.counts.specs.Putting.{counts_put}
use Rattle.counts.proofs.counts.Counts.set_each.Given as goal

-- what was set so far
abbrev pub invariant-loop-a : goal.invariant-loop-a
invariant-loop-a l = l.self ≡ counts_put (take l.a-index l.assignments) l.initial.self
