-- How long a line is at most. The code's constant MAX_LINE is this number.
use Rattle.std.specs.Prelude.{ℕ}

-- the most bytes that a line has before its line feed
abbrev pub max_line : ℕ
max_line = 300
