use Rattle.std.proofs.Common.{ap, ap₂, ◌∙◌, ℕ, mul-one}
use lib.Bits.{bit_xor, and_mask}
use Rattle.crc.specs.Crc.{bits_entered}
use Rattle.crc.proofs.Steps.{nibbles}
use Rattle.crc.proofs.nibble.NibblesLooksUp.eight_steps.Goals as goal

pub returns : goal.returns
returns c =
    ap₂ bit_xor (c.at.ensures ∙ ap (λ (x : ℕ). bits_entered 8 x 0) (mul-one _ ∙ and_mask c.args.index 4)) c.at-2.ensures
    ∙ nibbles c.args.index
