use Rattle.std.proofs.Common.{arith}
use Rattle.packet.specs.Packets.{headed}
use Rattle.packet.proofs.Forms.{packed_length}
use Rattle.packet.proofs.Readings.{packed_read}
use Rattle.packet.proofs.writer.write_packet.Goals as goal

pub returns-clause-reads_back : goal.returns-clause-reads_back
returns-clause-reads_back c =
    let p = headed c.args.header c.args.data.now in
    packed_read p (omega (arith, packed_length p))
