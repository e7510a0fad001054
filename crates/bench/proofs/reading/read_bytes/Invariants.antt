use Rattle.std.proofs.Common.{◌≡◌, drop, length, vec_items}
use Rattle.bench.proofs.Pairs.{prefixed, rows_read}
use Rattle.bench.proofs.reading.read_bytes.Given as goal

-- the bytes so far and those of the rows that are left are the bytes of all rows
abbrev pub invariant-loop-triple : goal.invariant-loop-triple
invariant-loop-triple l = record {
  read : prefixed (vec_items l.bytes) (rows_read (drop l.triple-index l.triples)) ≡ rows_read l.triples;
  count : length (vec_items l.bytes) ≡ l.triple-index;
}
