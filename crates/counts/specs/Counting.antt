-- The nine monitoring counts, by their addresses: 0 framing and parity errors, 1 overruns, 2 packets that are too short, 3 too long, 4 wrong
-- CRCs, 5 ownership errors, 6 unknown formats, 7 wrong directions, 8 response timeouts. Each is a signed number of 32 bits, given by its
-- bits.
use Rattle.std.specs.Prelude.{ℕ, ◌+◌, ◌%◌, ◌^◌, cond, List, replicate, Some, None, Option, ◌==◌, slice_index, slice_set}
use Rattle.frame.specs.Faults.{fault_number}
use Rattle.frame.specs.declared.faults.LineFault.{LineFault}
use Rattle.packet.specs.declared.causes.DropCause.{DropCause}
use Rattle.packet.specs.declared.causes.DropCause.TheVariants.{LineFault as FaultCause, Empty, BadEscape, TooLong, TooShort, WrongCrc, NullSource, ForbiddenSource, NotForUs, WrongDirection}
use Rattle.counts.specs.Limits.{count_of_counts, max_count}

-- at power-up
abbrev pub no_counts : List ℕ
no_counts = replicate count_of_counts 0

-- One more: the largest signed number stays, and a negative one goes on counting up.
abbrev pub one_more : ℕ → ℕ
one_more v = cond (v == max_count) v ((v + 1) % 2 ^ 32)

-- one more of the count at address a
abbrev pub counted : ℕ → List ℕ → List ℕ
counted a counts = slice_set counts a (one_more (slice_index counts a))

-- the count that a dropped segment adds to, if it adds to one
abbrev pub count_of : DropCause → Option ℕ
count_of FaultCause = None
count_of Empty = None
count_of BadEscape = Some 0
count_of TooLong = Some 3
count_of TooShort = Some 2
count_of WrongCrc = Some 4
count_of NullSource = Some 6
count_of ForbiddenSource = None
count_of NotForUs = None
count_of WrongDirection = Some 7

abbrev pub counted_at : Option ℕ → List ℕ → List ℕ
counted_at None counts = counts
counted_at (Some a) counts = counted a counts

-- the counts after a segment was dropped
abbrev pub cause_counted : DropCause → List ℕ → List ℕ
cause_counted cause counts = counted_at (count_of cause) counts

-- the counts after a line fault was reported
abbrev pub fault_counted : LineFault → List ℕ → List ℕ
fault_counted f counts = counted (fault_number f) counts
