use Rattle.std.proofs.Common.{arith}
use Rattle.requests.proofs.items.read_items.Goals as goal

pub as_chunks-requires : goal.as_chunks-requires
as_chunks-requires g c = (omega (arith, g.met.T.Item.few), g.met.T.Item.some)
