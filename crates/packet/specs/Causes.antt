-- Why a segment is dropped: the number of each cause, in the order in which they are tried.
use Rattle.std.specs.Prelude.{ℕ, Bool, cond, List, [], ◌∷◌, Err, Result}
use Rattle.packet.specs.declared.causes.DropCause.{DropCause}
use Rattle.packet.specs.declared.causes.DropCause.TheVariants.{LineFault, Empty, BadEscape, TooLong, TooShort, WrongCrc, NullSource, ForbiddenSource, NotForUs, WrongDirection}

abbrev pub drop_number : DropCause → ℕ
drop_number LineFault = 1
drop_number Empty = 2
drop_number BadEscape = 3
drop_number TooLong = 4
drop_number TooShort = 5
drop_number WrongCrc = 6
drop_number NullSource = 7
drop_number ForbiddenSource = 8
drop_number NotForUs = 9
drop_number WrongDirection = 10

-- dropped for the first cause whose test holds, or else as the verdict says
abbrev pub first_cause : {A : Type 0} → List (Bool × DropCause) → Result A DropCause → Result A DropCause
first_cause [] verdict = verdict
first_cause (t ∷ ts) verdict = cond t.0 (Err t.1) (first_cause ts verdict)
