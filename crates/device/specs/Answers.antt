-- What a device tells of itself, and what it answers to a new reading.
use Rattle.std.specs.Prelude.{ℕ, Bool, cond, Ok, Err, Option, Result}
use Rattle.std.specs.List.{slice_get}
use Rattle.std.specs.Option.{option_map}
use Rattle.refusals.specs.declared.Refusal.{Refusal}
use Rattle.refusals.specs.declared.Refusal.TheVariants.{NoSuchReading, ReadingTooWide}
use Rattle.device.specs.declared.VariableKind.TheVariants.{Reading}
use Rattle.device.specs.declared.VariableState.{VariableState}
use Rattle.device.specs.declared.MemoryByte.{MemoryByte}
use Rattle.device.specs.Meaning.{Meaning, Variable, Cell}
use Rattle.device.specs.Lookup.{variable_at, cell_at, there}
use Rattle.device.specs.Changes.{same_kind, accepts}

-- the address of variable number i
abbrev pub address_of : Meaning → ℕ → Option ℕ
address_of m i = option_map (λ (x : Variable). x.address) (slice_get m.variables i)

-- width, kind and present value of the variable at address a
abbrev pub state : Variable → VariableState
state x = record { width = x.width; kind = x.kind; present = x.present }

abbrev pub state_at : Meaning → ℕ → Option VariableState
state_at m a = option_map state (variable_at m a)

-- byte i of memory n, and whether it is writable
abbrev pub shown : Cell → MemoryByte
shown c = record { value = c.present; writable = c.writable }

abbrev pub byte_at : Meaning → ℕ → ℕ → Option MemoryByte
byte_at m n i = option_map shown (cell_at m n i)

-- there is a reading at address a
abbrev pub has_reading : Meaning → ℕ → Bool
has_reading m a = there (λ (x : Variable). same_kind Reading x.kind) (variable_at m a)

-- the answer to a new reading: where it is not accepted, the value is too wide for a reading or there is no such reading
abbrev pub reading_answer : Meaning → ℕ → ℕ → Result (Unit {0}) Refusal
reading_answer m a v = cond (accepts Reading m a v) (Ok tt) (Err (cond (has_reading m a) ReadingTooWide NoSuchReading))
