-- Why a request gets a NAK: the number of each cause, which is the NAK's supplement.
use Rattle.std.specs.Prelude.{ℕ}
use Rattle.requests.specs.declared.naks.Nak.{Nak}
use Rattle.requests.specs.declared.naks.Nak.TheVariants.{Unknown, Incorrect, Failed}

abbrev pub nak_number : Nak → ℕ
nak_number Unknown = 0
nak_number Incorrect = 1
nak_number Failed = 2
