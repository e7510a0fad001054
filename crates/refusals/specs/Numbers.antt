-- The number of each refusal.
use Rattle.std.specs.Prelude.{ℕ}
use Rattle.refusals.specs.declared.Refusal.{Refusal}
use Rattle.refusals.specs.declared.Refusal.TheVariants.{OwnAddress, ShortBuffer, Destination, ReplyType, TooMuchData, NoSuchReading, ReadingTooWide, TableFull, BadLine}

abbrev pub refusal_number : Refusal → ℕ
refusal_number OwnAddress = 1
refusal_number ShortBuffer = 2
refusal_number Destination = 3
refusal_number ReplyType = 4
refusal_number TooMuchData = 5
refusal_number NoSuchReading = 6
refusal_number ReadingTooWide = 7
refusal_number TableFull = 8
refusal_number BadLine = 9
