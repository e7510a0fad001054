use Rattle.std.proofs.Common.{◌≡◌, ◌+◌, true, [], ◌++◌, get_or, take, is_ok, sym, ap, ◌∙◌, rules}
use Rattle.std.proofs.Output.{has_written_of_eq, has_written_append}
use Rattle.std.proofs.lemmas.List.{flat_map_more, take_more, take_all}
use Rattle.bench.specs.Hex.{spaced_pair, spaced_pairs}
use Rattle.bench.proofs.hex.PairsDisplay.fmt.Goals as goal

pub loop-byte-preserved : goal.loop-byte-preserved
loop-byte-preserved g c plain =
    let was = c.loop-byte.invariant plain in
    let bytes = c.args.self.now.0.now in
    let i = c.loop-byte.byte-index in
    let one_more : spaced_pairs (take i bytes) ++ spaced_pair (get_or bytes i 0) ≡ spaced_pairs (take (i + 1) bytes) =
    flat_map_more spaced_pair [] (take i bytes) (get_or bytes i 0) ∙ ap spaced_pairs (sym (take_more bytes i 0 c.loop-byte-test.true)) in
    let ok : is_ok c.write.result ≡ true = search rules in
    has_written_of_eq g.W.Write.write_str_gives _ _ _ _ one_more
    (has_written_append g.W.Write.write_str_gives c.args.f.now _ c.loop-byte.f (spaced_pair (get_or bytes i 0)) c.write.new.self was (c.write.ensures.writes was.plain ok))

pub returns-clause-writes : goal.returns-clause-writes
returns-clause-writes g c plain ok = has_written_of_eq g.W.Write.write_str_gives _ _ _ _ (ap spaced_pairs (take_all _ _ c.loop-byte-test.false)) (c.loop-byte.invariant plain)
