use Rattle.std.proofs.Common.{Some, None, sym, refl, ap, ◌∙◌, subst, arith, Option}
use Rattle.std.specs.Bool.{⊤}
use Rattle.std.specs.Option.{MatchOption, option_map}
use Rattle.bench.specs.Lines.{line_read}
use Rattle.bench.specs.Values.{value_of}
use Rattle.session.specs.Sessions.{EndsText}
use Rattle.session.specs.declared.feeding.Reading.{Reading}
use Rattle.session.specs.declared.feeding.Session.{Session}
use Rattle.session.proofs.Sessions.{obeys_line, stops_at}
use Rattle.session.proofs.feeding.Session.end_text.Goals as goal

pub returns-in_default : goal.returns-in_default
returns-in_default g c =
    let was = c.args.self.now in
    let is : Session g.row.H.Denot = record { heap = was.heap; handler = was.handler; reading = None } in
    subst (λ (o : Option Reading). MatchOption o ⊤ (λ r. EndsText g.H.Obey.obeyed g.H.Obey.writes was.handler r c.bad.result is)) (sym c.in-Some.is)
    (stops_at g.H.Obey.obeyed g.H.Obey.writes was.handler is c.in-Some.reading c.bad.result c.saturating_add-number.result
    (ap line_read (sym c.as_slice.ensures.value) ∙ sym c.in_ok-line-in-Some.ensures ∙ ap (option_map value_of) c.in_default.is)
    refl refl (λ h. c.saturating_add-number.ensures ∙ omega arith) c.bad.ensures)

pub returns-in-Some-2 : goal.returns-in-Some-2
returns-in-Some-2 g c =
    let was = c.args.self.now in
    let next : Reading = record { text = c.clear.new.self; count = c.saturating_add-number.result } in
    let is : Session g.row.H.Denot = record { heap = was.heap; handler = c.obey.new.self; reading = Some next } in
    subst (λ (o : Option Reading). MatchOption o ⊤ (λ r. EndsText g.H.Obey.obeyed g.H.Obey.writes was.handler r c.obey.result is)) (sym c.in-Some.is)
    (obeys_line g.H.Obey.obeyed g.H.Obey.writes was.handler is c.in-Some.reading next (value_of c.in-Some-2.line) c.obey.result c.obey.ensures
    (ap line_read (sym c.as_slice.ensures.value) ∙ sym c.in_ok-line-in-Some.ensures ∙ ap (option_map value_of) c.in-Some-2.is)
    refl c.clear.ensures.items (λ h. c.saturating_add-number.ensures ∙ omega arith))
