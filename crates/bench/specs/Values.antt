-- What the code's lines tell.
use Rattle.std.specs.Prelude.{vec_items}
use Rattle.bench.specs.Lines.{LineValue, bytes, step, fault}
use Rattle.bench.specs.declared.line.Line.{Line}
use Rattle.bench.specs.declared.line.Line.TheVariants.{Bytes, Step, Fault}

abbrev pub value_of : Line → LineValue
value_of (Bytes bs) = bytes (vec_items bs)
value_of (Step n) = step n
value_of (Fault f) = fault f
