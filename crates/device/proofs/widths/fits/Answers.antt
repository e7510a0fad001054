use Rattle.std.proofs.Common.{◌^◌, ◌≤◌, sym, ◌∙◌, arith, pow_mono}
use Rattle.std.proofs.lemmas.Bool.{lt-ltb, le-leb}
use Rattle.device.proofs.widths.fits.Goals as goal

pub returns-then-width-ge-MAX_WIDTH : goal.returns-then-width-ge-MAX_WIDTH
returns-then-width-ge-MAX_WIDTH c =
    let wide : 2 ^ 32 ≤ 2 ^ c.args.width = pow_mono {i = 32} {j = c.args.width} (omega arith) in
    le-leb 32 c.args.width (omega arith) ∙ sym (lt-ltb c.args.value (2 ^ c.args.width) (omega arith))
