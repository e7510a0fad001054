use Rattle.std.proofs.Common.{arith, rules}
use Rattle.array_vec.proofs.Edits.{removed}
use Rattle.array_vec.proofs.ArrayVec.remove.Goals as goal

pub returns-clause-after : goal.returns-clause-after
returns-clause-after g c =
    let v = c.args.self.now in
    removed v.items c.args.at v.len (search rules) (omega (arith, v.whole, v.within)) c.rotate_left.new.self c.in_ok-item.field-0.now
    c.rotate_left.ensures.len c.rotate_left.ensures.after
