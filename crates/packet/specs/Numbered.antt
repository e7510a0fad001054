-- The number of an address.
use Rattle.std.specs.Prelude.{ℕ, Ok, Err, Result}
use Rattle.refusals.specs.declared.Refusal.{Refusal}
use Rattle.packet.specs.declared.address.Address.{Address}

abbrev pub number_of : Address → ℕ
number_of a = a.number

-- of one that was made
abbrev pub number_in : Result Address Refusal → Result ℕ Refusal
number_in (Ok a) = Ok (number_of a)
number_in (Err why) = Err why
