-- Counts given other values: all of them in order, or none where an address is no count's.
use Rattle.std.specs.Prelude.{ℕ, Bool, cond, List, nat_lt, slice_set, fold}
use Rattle.std.specs.List.{list_all}
use Rattle.device.specs.declared.assignments.Assignment.{Assignment}
use Rattle.counts.specs.Limits.{count_of_counts}

-- there is a count at each address; any value of 32 bits may be put
abbrev pub counts_there : List Assignment → Bool
counts_there ps = list_all (λ p. nat_lt p.address count_of_counts) ps

-- every value put, in order
abbrev pub counts_put : List Assignment → List ℕ → List ℕ
counts_put ps counts = fold (λ before p. slice_set before p.address p.value) counts ps

abbrev pub put_left : List Assignment → List ℕ → List ℕ
put_left ps counts = cond (counts_there ps) (counts_put ps counts) counts
