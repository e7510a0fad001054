use Rattle.std.proofs.Common.{rules}
use Rattle.packet.specs.Packets.{packed}
use Rattle.packet.proofs.Forms.{packed_zero, bytes_from, zero_is_right}
use Rattle.packet.proofs.Readings.{reads_back, form_read}
use Rattle.packet.proofs.reader.Packet.read.Goals as goal

pub returns-then-is_empty-clause-reads_back : goal.returns-then-is_empty-clause-reads_back
returns-then-is_empty-clause-reads_back c = reads_back c.args.bytes.now _ (search rules)

pub returns-in_default-clause-reads_back : goal.returns-in_default-clause-reads_back
returns-in_default-clause-reads_back c = reads_back c.args.bytes.now _ (search rules)

pub returns-then-not-intact-clause-reads_back : goal.returns-then-not-intact-clause-reads_back
returns-then-not-intact-clause-reads_back c = reads_back c.args.bytes.now _ (search (rules, zero_is_right, bytes_from))

pub returns-clause-reads_back : goal.returns-clause-reads_back
returns-clause-reads_back c = reads_back c.args.bytes.now _ (search (rules, zero_is_right, bytes_from))

pub returns-clause-one_form : goal.returns-clause-one_form
returns-clause-one_form c = form_read c.args.bytes.now (bytes_from _ c.type_inv.bytes) _ (search (rules, zero_is_right, bytes_from))

pub returns-clause-damage : goal.returns-clause-damage
returns-clause-damage c p long damage = cc (c.intact.ensures.detects.damage (packed p) (packed_zero p) long damage)
