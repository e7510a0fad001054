-- What is where: the variable at an address, and the byte of a memory at an offset, or that there is none.
use Rattle.std.specs.Prelude.{ℕ, Bool, false, [], Some, None, Option, ◌==◌, slice_index_or, find}
use Rattle.std.specs.List.{slice_get}
use Rattle.device.specs.Meaning.{Meaning, Variable, Cell}

-- a variable is at address a
abbrev pub is_at : ℕ → Variable → Bool
is_at a x = x.address == a

-- the variable at address a
abbrev pub variable_at : Meaning → ℕ → Option Variable
variable_at m a = find (is_at a) m.variables

-- byte i of memory n
abbrev pub cell_at : Meaning → ℕ → ℕ → Option Cell
cell_at m n i = slice_get (slice_index_or m.memories n []) i

-- there is one, and the test holds of it
abbrev pub there : {X : Type 0} → (X → Bool) → Option X → Bool
there test None = false
there test (Some x) = test x
