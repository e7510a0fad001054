-- How many items a list holds.
use Rattle.std.proofs.Common.{◌≡◌, ℕ, length, arith}
use Rattle.std.proofs.lemmas.List.{length-take-le}
use Rattle.array_vec.specs.Held.{held}
use Rattle.array_vec.specs.declared.ArrayVec.{ArrayVec}

pub held_length : {T : Type 0} {n : ℕ} (v : ArrayVec T n) → length (held v) ≡ v.len
held_length v = length-take-le v.len v.items (omega (arith, v.whole, v.within))
