use Rattle.std.proofs.Common.{refl}
use Rattle.session.specs.Texts.{cut, uncut}
use Rattle.session.specs.Obeying.{lines_in, first_bad}
use Rattle.session.proofs.feeding.Session.new.Goals as goal

pub returns : goal.returns
unfolding cut uncut lines_in first_bad
returns g c h = record { obeyed_lines = h; reading = record { lines = refl; text = c.new.ensures.items; count = refl } }
