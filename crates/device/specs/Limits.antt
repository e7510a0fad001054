-- The limits of a device. The code's constants MAX_WIDTH and MAX_MEMORY are these numbers; the bounds on addresses, values, bytes and
-- the estimate are those of the code's types.
use Rattle.std.specs.Prelude.{ℕ, ◌^◌}

-- the most bits of a variable
abbrev pub max_width : ℕ
max_width = 32

-- how many memories a device has
abbrev pub memory_count : ℕ
memory_count = 4

-- the most bytes of a memory
abbrev pub max_memory : ℕ
max_memory = 65536

-- the most bytes of an identity string
abbrev pub max_identity : ℕ
max_identity = 255

-- option numbers are below this
abbrev pub option_bound : ℕ
option_bound = 16

-- addresses of variables, values of variables, bytes and estimates are below these
abbrev pub address_bound : ℕ
address_bound = 2 ^ 16

abbrev pub value_bound : ℕ
value_bound = 2 ^ 32

abbrev pub byte_bound : ℕ
byte_bound = 2 ^ 8

abbrev pub estimate_bound : ℕ
estimate_bound = 2 ^ 16
