use Rattle.std.proofs.Common.{◌≡◌, ℕ, Ok, length, vec_items, sym, refl, ap, ◌∙◌}
use Rattle.session.specs.Texts.{ends_text}
use Rattle.session.proofs.Sessions.{byte_ends, byte_kept, byte_ignored}
use Rattle.session.proofs.feeding.Session.byte.Given.{Over}
use Rattle.session.proofs.feeding.Session.byte.Goals as goal
use Rattle.session.proofs.feeding.Session.byte.Goals.{After-ends_text-ends}

-- what is tested is whether the byte ends the text
tested : (g : Over) (c : After-ends_text-ends g) → ends_text (length (vec_items c.in-Some.reading.text)) c.args.byte ≡ c.ends_text-ends.result
tested g c = ap (λ (n : ℕ). ends_text n c.args.byte) (sym (c.len.ensures ∙ c.in-Some.reading.text.ok.0)) ∙ sym c.ends_text-ends.ensures

pub returns-then-not-ends : goal.returns-then-not-ends
returns-then-not-ends g c out silent =
    byte_kept g.H.Obey.obeyed g.H.Obey.writes c.args.self.now c.args.byte c.in-Some.reading _ c.in-Some.is c.in_ok-push-in-Some.ensures.items refl
    _ out silent
    (tested g (goal.at.returns-then-not-ends g c).After-ends_text-ends ∙ c.if-not-ends.true)
    refl refl

pub returns-in-None : goal.returns-in-None
returns-in-None g c out silent =
    byte_ignored g.H.Obey.obeyed g.H.Obey.writes c.args.self.now _ c.args.byte out silent c.in-None.is refl c.in-None.is

pub returns : goal.returns
returns g c =
    byte_ends g.H.Obey.obeyed g.H.Obey.writes c.args.self.now c.args.byte c.in-Some.reading _ c.in-Some.is c.in_ok-push-in-Some.ensures.items refl
    c.end_text.new.self (Ok c.in_ok-end_text.field-0)
    (tested g (goal.at.returns g c).After-ends_text-ends ∙ c.if-not-ends.false)
    c.in_ok-end_text.ensures
