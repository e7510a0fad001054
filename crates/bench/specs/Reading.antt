-- What reading a text promises.
use Rattle.std.specs.Prelude.{◌≡◌, ℕ, List, Some, None, Ok, Err, Option, Result}
use Rattle.refusals.specs.declared.Refusal.TheVariants.{BadLine}
use Rattle.bench.specs.Lines.{LineValue, line_text, LineFits, line_read}
use Rattle.bench.specs.Values.{value_of}
use Rattle.bench.specs.declared.line.Line.{Line}
use Rattle.bench.specs.declared.line.NotRead.{NotRead}
use Rattle.bench.specs.declared.line.NotRead.TheVariants.{Refused, NoMemory}

-- Where memory lasts, the answer is what the text tells, and a refusal just where it tells nothing.
abbrev pub ReadsAs : Option LineValue → Result Line NotRead → Type 0
ReadsAs told (Ok l) = told ≡ Some (value_of l)
ReadsAs told (Err (Refused why)) = (why ≡ BadLine) × (told ≡ None)
ReadsAs told (Err NoMemory) = Unit {0}

-- A text tells a value exactly where a line can tell this value and is then written as this text.
pub record ReadsExactly (text : List ℕ) : Type 0 where
  pub only : (v : LineValue) → line_read text ≡ Some v → LineFits v × (line_text v ≡ text)
  pub every : (v : LineValue) → LineFits v → line_text v ≡ text → line_read text ≡ Some v
