use Rattle.std.proofs.Common.{◌≡◌, ℕ, ◌+◌, List, String, Global, [], ◌∷◌, ◌++◌, get_or, take, sym, ap, ◌∙◌, append-nil, subst, arith, string_bytes}
use Rattle.std.proofs.lemmas.List.{take_more, take_all}
use Rattle.session.specs.Sessions.{TakesBytes, TakesByte}
use Rattle.session.proofs.Sessions.{takes_nothing, takes_on, feeds}
use Rattle.session.proofs.feeding.Session.feed.Goals as goal
use Rattle.session.proofs.feeding.Session.feed.Goals.{in-Some+in_ok-push_str, in_default}

pub loop-byte-init : goal.loop-byte-init
loop-byte-init g c = takes_nothing g.H.Obey.obeyed g.H.Obey.writes c.args.self c.new-out.result c.new-out.ensures.bytes

pub loop-byte-preserved : goal.loop-byte-preserved
loop-byte-preserved g c =
    let o = g.H.Obey.obeyed in
    let w = g.H.Obey.writes in
    let bytes = c.args.chunk.now in
    let i = c.loop-byte.byte-index in
    let b = get_or bytes i 0 in
    let told : TakesByte o w c.loop-byte.self b c.byte.new.self c.in_ok-text.field-0 = c.in_ok-text.ensures in
    let one_more : (text : String Global) → TakesBytes o w c.loop-byte.self (b ∷ []) c.byte.new.self text
    → string_bytes c.match-branch-2.out ≡ string_bytes c.loop-byte.out ++ string_bytes text
    → TakesBytes o w c.args.self (take (i + 1) bytes) c.byte.new.self c.match-branch-2.out =
    λ text takes is.
    subst (λ (l : List ℕ). TakesBytes o w c.args.self l c.byte.new.self c.match-branch-2.out) (sym (take_more bytes i 0 (omega arith)))
    (takes_on o w c.args.self c.loop-byte.self c.byte.new.self (take i bytes) (b ∷ []) c.loop-byte.out text c.match-branch-2.out c.loop-byte.invariant takes is) in
    elim c.match-branch-2.branch [
      | in-Some+in_ok-push_str k ↦
          one_more k.in-Some.text (subst (TakesByte o w c.loop-byte.self b c.byte.new.self) k.in-Some.is told)
          (ap string_bytes k.out-is ∙ k.in_ok-push_str.ensures.bytes ∙ ap (λ (l : List ℕ). string_bytes c.loop-byte.out ++ l) k.as_str.ensures.value)
      | in_default k ↦
          one_more c.new-out.result
          (subst (TakesByte o w c.loop-byte.self b c.byte.new.self) k.in_default.is told c.new-out.result c.new-out.ensures.bytes)
          (ap string_bytes k.out-is ∙ sym (append-nil (string_bytes c.loop-byte.out)) ∙ ap (λ (l : List ℕ). string_bytes c.loop-byte.out ++ l) (sym c.new-out.ensures.bytes))
    ]

pub returns : goal.returns
returns g c =
    let bytes = c.args.chunk.now in
    feeds g.H.Obey.obeyed g.H.Obey.writes c.args.self c.loop-byte.self bytes c.loop-byte.out
    (subst (λ (l : List ℕ). TakesBytes g.H.Obey.obeyed g.H.Obey.writes c.args.self l c.loop-byte.self c.loop-byte.out)
    (take_all c.loop-byte.byte-index bytes (omega arith)) c.loop-byte.invariant)
