use Rattle.std.proofs.Common.{◌≡◌, Some, ap, ◌∙◌, subst, rules}
use Rattle.std.specs.Fmt.{DisplaysOnOk, styled_digits_output}
use Rattle.bench.specs.Hex.{hex_pair}
use Rattle.bench.proofs.HexPairs.{pair_shown}
use Rattle.bench.proofs.hex.HexDisplay.fmt.Goals as goal

pub returns-clause-writes : goal.returns-clause-writes
returns-clause-writes g c =
    let shown : styled_digits_output c.in_radix.result c.laid_out.result ≡ Some (hex_pair c.args.self.now.0) =
    ap (styled_digits_output c.in_radix.result) c.laid_out.ensures ∙ pair_shown c.args.self.now.0 _ (search rules) c.in_radix.ensures in
    subst (λ o. DisplaysOnOk g.W.Write.write_str_gives c.args.f.now c.write.result o c.write.new.self) shown c.write.ensures.writes
