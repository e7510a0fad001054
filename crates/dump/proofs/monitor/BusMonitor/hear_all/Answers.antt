use Rattle.std.proofs.Common.{◌≡◌, ℕ, ◌+◌, List, [], ◌∷◌, ◌++◌, String, Global, map, get_or, take, sym, ap, ◌∙◌, subst, append-nil, arith, rules, string_bytes}
use Rattle.std.proofs.lemmas.List.{map_more, take_all}
use Rattle.frame.specs.Arrivals.Arrival.{byte}
use Rattle.dump.specs.Hearing.{Hears, HearsOne}
use Rattle.dump.proofs.Heard.{hears_none, hears_on}
use Rattle.dump.proofs.monitor.BusMonitor.hear_all.Goals as goal
use Rattle.dump.proofs.monitor.BusMonitor.hear_all.Goals.{in-Some+in_ok-push_str, in_default}

pub loop-byte-init : goal.loop-byte-init
loop-byte-init c = hears_none c.args.self.now c.new-out.result c.new-out.ensures.bytes

pub loop-byte-preserved : goal.loop-byte-preserved
loop-byte-preserved c =
    let bytes = c.args.bytes.now in
    let i = c.loop-byte.byte-index in
    let came = byte (get_or bytes i 0) in
    let told : HearsOne c.loop-byte.self came c.hear.new.self c.in_ok-text.field-0 = c.in_ok-text.ensures in
    let one_more : (text : String Global) → Hears c.loop-byte.self (came ∷ []) c.hear.new.self text
    → string_bytes c.match-branch-2.out ≡ string_bytes c.loop-byte.out ++ string_bytes text
    → Hears c.args.self.now (map byte (take (i + 1) bytes)) c.hear.new.self c.match-branch-2.out =
    λ text hears is.
    rw (map_more byte bytes i 0 (omega arith))
    (hears_on c.args.self.now c.loop-byte.self c.hear.new.self (map byte (take i bytes)) (came ∷ []) c.loop-byte.out text c.match-branch-2.out c.loop-byte.invariant hears is) in
    elim c.match-branch-2.branch [
      | in-Some+in_ok-push_str k ↦ one_more k.in-Some.text (subst (HearsOne c.loop-byte.self came c.hear.new.self) k.in-Some.is told) (ap string_bytes k.out-is ∙ search rules)
      | in_default k ↦
          one_more c.new-out.result
          (subst (HearsOne c.loop-byte.self came c.hear.new.self) k.in_default.is told c.new-out.result c.new-out.ensures.bytes)
          (ap string_bytes k.out-is ∙ sym (append-nil (string_bytes c.loop-byte.out)) ∙ ap (λ (l : List ℕ). string_bytes c.loop-byte.out ++ l) (sym c.new-out.ensures.bytes))
    ]

pub returns : goal.returns
returns c = rw⁻¹ (take_all c.loop-byte.byte-index c.args.bytes.now (omega arith)) c.loop-byte.invariant
