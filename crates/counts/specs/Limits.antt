-- The numbers of the monitoring counts. The code's constant COUNTS is the first of these.
use Rattle.std.specs.Prelude.{ℕ}

-- how many counts there are: their addresses are those below
abbrev pub count_of_counts : ℕ
count_of_counts = 9

-- the largest signed number of 32 bits, where counting stops
abbrev pub max_count : ℕ
max_count = 2147483647
