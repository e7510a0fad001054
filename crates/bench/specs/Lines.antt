-- A line tells one thing, and ends in a line feed:
-- L and at least one byte, as a row of hexadecimal pairs: these bytes came over the bus;
-- T, a space and a number in base ten: so many milliseconds passed;
-- F, a space and the number of a fault: the line's hardware reported it.
use Rattle.std.specs.Prelude.{ℕ, ◌+◌, ◌-◌, ◌^◌, ◌<◌, ◌≤◌, cond, ◌&&◌, List, [], ◌∷◌, ◌++◌, length, take, Some, None, decimal, Option, ◌==◌, nat_le, slice_index}
use Rattle.std.specs.Option.{option_map}
use Rattle.std.specs.List.{AllByRecursion}
use Rattle.frame.specs.Faults.{fault_number}
use Rattle.frame.specs.declared.faults.LineFault.{LineFault}
use Rattle.frame.specs.declared.faults.LineFault.TheVariants.{Parity, Overrun, Ownership}
use Rattle.bench.specs.Characters.{line_feed, space, digit_zero, bytes_mark, step_mark, fault_mark}
use Rattle.bench.specs.Hex.{spaced_pairs, pairs_read}
use Rattle.bench.specs.Limits.{max_line}
use Rattle.bench.specs.Numbers.{number_read}

-- what a line tells
pub data LineValue : Type 0 where
  bytes : List ℕ → LineValue
  step : ℕ → LineValue
  fault : LineFault → LineValue

-- ---- writing

-- what stands before the line feed
abbrev pub line_body : LineValue → List ℕ
line_body (bytes bs) = bytes_mark ∷ spaced_pairs bs
line_body (step n) = step_mark ∷ space ∷ decimal n
line_body (fault f) = fault_mark ∷ space ∷ decimal (fault_number f)

abbrev pub line_text : LineValue → List ℕ
line_text v = line_body v ++ line_feed ∷ []

-- a line can tell this: at least one byte and no more than the longest line has room for, or a step of 32 bits, or a fault
abbrev pub LineFits : LineValue → Type 0
LineFits (bytes bs) = (0 < length bs) × AllByRecursion (λ b. b < 256) bs × (length (line_body (bytes bs)) ≤ max_line)
LineFits (step n) = n < 2 ^ 32
LineFits (fault f) = Unit {0}

-- ---- reading: what characters tell, if they tell something

abbrev pub some_bytes : Option (List ℕ) → Option LineValue
some_bytes None = None
some_bytes (Some []) = None
some_bytes (Some (b ∷ bs)) = Some (bytes (b ∷ bs))

abbrev pub bytes_read : List ℕ → Option LineValue
bytes_read rest = some_bytes (pairs_read rest)

abbrev pub step_read : List ℕ → Option LineValue
step_read [] = None
step_read (s ∷ ds) = cond (s == space) (option_map step (number_read ds)) None

-- the digit of a fault, whose number is below ten
abbrev pub fault_digit : LineFault → ℕ
fault_digit f = digit_zero + fault_number f

abbrev pub fault_of : ℕ → Option LineFault
fault_of d =
    cond (d == fault_digit Parity) (Some Parity) (
    cond (d == fault_digit Overrun) (Some Overrun) (
    cond (d == fault_digit Ownership) (Some Ownership) None))

abbrev pub fault_read : List ℕ → Option LineValue
fault_read [] = None
fault_read (s ∷ []) = None
fault_read (s ∷ d ∷ []) = cond (s == space) (option_map fault (fault_of d)) None
fault_read (s ∷ d ∷ e ∷ more) = None

-- the body, by its first character
abbrev pub body_read : List ℕ → Option LineValue
body_read [] = None
body_read (c ∷ rest) =
    cond (c == bytes_mark) (bytes_read rest) (
    cond (c == step_mark) (step_read rest) (
    cond (c == fault_mark) (fault_read rest) None))

-- the text: its last byte is a line feed, and the body before it is not too long
abbrev pub line_read : List ℕ → Option LineValue
line_read text =
    let last = length text - 1 in
    cond (slice_index text last == line_feed && nat_le last max_line) (body_read (take last text)) None
