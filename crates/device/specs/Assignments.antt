-- Several settings at once: all the changes in order, so that of a repeated address the last counts, or none of them.
use Rattle.std.specs.Prelude.{Bool, cond, List, fold}
use Rattle.std.specs.List.{list_all}
use Rattle.device.specs.declared.VariableKind.TheVariants.{Setting}
use Rattle.device.specs.declared.assignments.Assignment.{Assignment}
use Rattle.device.specs.Meaning.{Meaning}
use Rattle.device.specs.Changes.{accepts, change, offered}

-- every value would be accepted
abbrev pub accepts_all : Meaning → List Assignment → Bool
accepts_all m ps = list_all (λ p. accepts Setting m p.address p.value) ps

-- every change made, in order
abbrev pub change_all : Meaning → List Assignment → Meaning
change_all m ps = fold (λ n p. change Setting n p.address p.value) m ps

-- every value offered, in order
abbrev pub offered_all : Meaning → List Assignment → Meaning
offered_all m ps = fold (λ n p. offered Setting n p.address p.value) m ps

-- all the changes made if all are accepted, else none
abbrev pub assigned : Meaning → List Assignment → Meaning
assigned m ps = cond (accepts_all m ps) (change_all m ps) m
