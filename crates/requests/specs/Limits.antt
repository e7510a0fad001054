-- The numbers that bound requests. The code's constants of the same names are these numbers.
use Rattle.std.specs.Prelude.{ℕ}

-- the most addresses of a GET
abbrev pub max_get : ℕ
max_get = 30

-- the most pairs of a PUT
abbrev pub max_put : ℕ
max_put = 20

-- the most bytes that a READ asks for
abbrev pub max_read : ℕ
max_read = 123

-- the most bytes that a WRITE carries
abbrev pub max_write : ℕ
max_write = 119

-- the most entries of an ADDRT or a DELRT
abbrev pub max_entries : ℕ
max_entries = 15
