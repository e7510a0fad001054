use Rattle.std.proofs.Common.{sym, ◌∙◌, subst, Option}
use Rattle.std.specs.Bool.{⊤}
use Rattle.std.specs.Option.{MatchOption}
use Rattle.session.specs.Sessions.{EndsText}
use Rattle.session.specs.declared.feeding.Reading.{Reading}
use Rattle.std.proofs.lemmas.Bool.{eqb-true, eqb-false}
use Rattle.session.proofs.Sessions.{finishes_stopped, finishes_empty, finishes_text}
use Rattle.session.proofs.feeding.Session.finish.Goals as goal
use Rattle.session.proofs.feeding.Session.finish.Goals.{in_default-via-in-Some+else-not-is_empty, in_default-via-in_default}

pub returns-in-Some : goal.returns-in-Some
returns-in-Some g c =
    let some = eqb-false _ 0 (sym c.is_empty.ensures ∙ c.if-not-is_empty.true) in
    finishes_text g.H.Obey.obeyed g.H.Obey.writes c.args.self c.in-Some.reading c.in-Some.is c.end_text.new.self c.end_text.result
    (λ e. some (c.in-Some.reading.text.ok.0 ∙ e))
    (subst (λ (o : Option Reading). MatchOption o ⊤ (λ r. EndsText g.H.Obey.obeyed g.H.Obey.writes c.args.self.handler r c.end_text.result c.end_text.new.self)) c.in-Some.is c.end_text.ensures)

pub returns : goal.returns
returns g c = elim c.in_default.branch [
  | in_default-via-in-Some+else-not-is_empty w ↦
      (let none = eqb-true _ 0 (sym w.is_empty.ensures ∙ w.if-not-is_empty.false) in
      finishes_empty g.H.Obey.obeyed g.H.Obey.writes c.args.self w.in-Some.reading w.in-Some.is c.new.result c.new.ensures.bytes
      (sym w.in-Some.reading.text.ok.0 ∙ none))
  | in_default-via-in_default w ↦
      finishes_stopped g.H.Obey.obeyed g.H.Obey.writes c.args.self c.new.result c.new.ensures.bytes w.in_default.is
]
