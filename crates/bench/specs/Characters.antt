-- The characters of lines, by their numbers.
use Rattle.std.specs.Prelude.{ℕ}

abbrev pub line_feed : ℕ
line_feed = 10

abbrev pub space : ℕ
space = 32

-- 0, the first digit
abbrev pub digit_zero : ℕ
digit_zero = 48

-- L, T and F, the first characters of lines
abbrev pub bytes_mark : ℕ
bytes_mark = 76

abbrev pub step_mark : ℕ
step_mark = 84

abbrev pub fault_mark : ℕ
fault_mark = 70
