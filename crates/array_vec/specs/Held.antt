-- What a list of at most n items holds.
use Rattle.std.specs.Prelude.{ℕ, List, take}
use Rattle.array_vec.specs.declared.ArrayVec.{ArrayVec}

-- the items, in order: those in use stand in front of the array
abbrev pub held : {T : Type 0} {n : ℕ} → ArrayVec T n → List T
held v = take v.len v.items
