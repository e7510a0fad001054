-- The numbers of the route table. The code's constants MAX_ROUTES, MAX_LIFE, LAST_PORT and DISCARD are these numbers.
use Rattle.std.specs.Prelude.{ℕ}

-- the most entries that the table holds
abbrev pub max_routes : ℕ
max_routes = 15

-- the longest life of an entry, in milliseconds: a day
abbrev pub max_life : ℕ
max_life = 86_400_000

-- ports are numbered from 0 up to this one
abbrev pub last_port : ℕ
last_port = 3

-- the port that stands for none: what is sent there is discarded
abbrev pub discard : ℕ
discard = 255
