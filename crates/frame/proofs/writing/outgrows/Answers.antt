use Rattle.std.proofs.Common.{◌≡◌, ◌+◌, ◌<◌, ◌≤◌, ◌-◌, ◌^◌, length, arith, rules}
use Rattle.std.proofs.lemmas.Iterator.{YieldsList-from_slice, YieldsList-from_map}
use Rattle.std.proofs.lemmas.Iterator.Adapters.{fits_from_length, at_most_from_yields_List}
use Rattle.std.proofs.lemmas.Iterator.Consumers.{sum_by_from_yields_List}
use Rattle.std.proofs.lemmas.List.Concat.{length-flat_map}
use Rattle.std.proofs.lemmas.Bool.Decides.{nat_tests}
use Rattle.frame.specs.Framing.{escaped_byte, framed}
use Rattle.frame.proofs.Frames.{escaped_longer, framed_length}
use Rattle.frame.proofs.writing.outgrows.Goals as goal

-- at most 2^63 - 1 bytes, each of which takes two at most
pub sum-inside-requires-clause-fits : goal.sum-inside-requires-clause-fits
sum-inside-requires-clause-fits c =
    let few : length c.args.packet.now ≤ 2 ^ 63 - 1 = omega arith in
    fits_from_length _ _ (2 ^ 63 - 1) (2 ^ 64) (at_most_from_yields_List (YieldsList-from_slice c.args.packet.now cc) few) c.map.ensures.closure (omega arith) (λ x r q k. search rules)

pub returns-else-room-lt2 : goal.returns-else-room-lt2
returns-else-room-lt2 c =
    let p = c.args.packet.now in
    let taken = sum_by_from_yields_List (λ b. length (escaped_byte b)) p c.map.result c.sum-inside.result c.sum-inside.ensures.ran
    (YieldsList-from_map _ _ (YieldsList-from_slice p cc) c.map.ensures.closure (λ x r q k. search rules)) in
    let inside : c.sum-inside.result + 2 ≡ length (framed p) = omega (arith, taken, length-flat_map escaped_byte p, framed_length p) in
    grind (arith, nat_tests, inside)

-- a packet longer than the room
pub returns-then-room-packet : goal.returns-then-room-packet
returns-then-room-packet c =
    let p = c.args.packet.now in
    let longer : c.args.room < length (framed p) = omega (arith, c.if-room-packet.true, escaped_longer p, framed_length p) in
    grind (arith, nat_tests, longer)
