use Rattle.std.proofs.Common.{◌≡◌, map, take}
use Rattle.array_vec.specs.Held.{held}
use Rattle.requests.proofs.items.read_items.Given as goal

-- the items so far are those of the chunks so far
abbrev pub invariant-loop-chunk : goal.invariant-loop-chunk
invariant-loop-chunk g l = held l.found ≡ map g.T.Item.item_in (take l.chunk-index l.chunks)
