use Rattle.std.proofs.Common.{rules}
use Rattle.session.proofs.Sessions.{runs}
use Rattle.session.proofs.feeding.run.Goals as goal

pub returns : goal.returns
returns g c h =
    runs g.H.Obey.obeyed g.H.Obey.writes c.new.result c.in_ok-session.session c.args.input.now c.in_ok-session.out c.in_ok-last.last c.push_str.new.self g.met.H.Obey.silent
    (c.new.ensures h) (search rules) c.in_ok-session.ensures c.in_ok-last.ensures (search rules)
