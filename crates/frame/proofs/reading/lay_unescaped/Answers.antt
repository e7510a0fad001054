use Rattle.std.proofs.Common.{◌↔◌, IsOk, OnOk, Result, append-nil, ◌≡◌, ℕ, ◌+◌, ◌<◌, ◌≤◌, List, [], ◌∷◌, ◌++◌, length, get_or, take, Option, Some, sym, refl, ap, ◌∙◌, subst, arith, rules, length-append}
use Rattle.std.specs.Option.{option_to_list}
use Rattle.std.proofs.lemmas.List.{take_all}
use Rattle.frame.specs.Cursor.{buffer, rest, Puts}
use Rattle.frame.specs.declared.cursor.Cursor.{Cursor}
use Rattle.refusals.specs.declared.Refusal.{Refusal}
use Rattle.frame.specs.Escapes.{after, meant, after_all, meant_by, unescaped}
use Rattle.frame.specs.declared.escaping.Escaping.{Escaping}
use Rattle.frame.specs.declared.escaping.Escaping.TheVariants.{Outside}
use Rattle.frame.proofs.Cursors.{Wrote, wrote_none, wrote_then, wrote_room, wrote_left, on_ok}
use Rattle.frame.proofs.Escaped.{after_more, meant_more, meant_front}
use Rattle.frame.proofs.reading.lay_unescaped.Goals as goal
use Rattle.frame.proofs.reading.lay_unescaped.Goals.{in-Some, in_default}

pub loop-byte-init : goal.loop-byte-init
unfolding after_all meant_by
loop-byte-init c = (refl, refl, wrote_none _ _ c.new-cursor.ensures.written c.new-cursor.ensures.rest)

-- the buffer has room for one more byte that is meant, so the cursor puts it
put_one : (c c' : Cursor) (o : Option ℕ) (b : ℕ) (front whole was : List ℕ) (told : Result (Unit {0}) Refusal) → o ≡ Some b
    → length (front ++ option_to_list o) ≤ length whole → length whole ≤ length was → Wrote c front was
    → IsOk told ↔ (1 ≤ length (rest c)) → OnOk told (Puts c (b ∷ []) c') → Wrote c' (front ++ option_to_list o) was
put_one c c' o b front whole was told is some room wrote fits puts =
    let one : option_to_list o ≡ b ∷ [] = ap option_to_list is in
    let left : 1 ≤ length (rest c) = omega (arith, ap length one, length-append front (option_to_list o), wrote_room c front was wrote) in
    subst (λ (l : List ℕ). Wrote c' (front ++ l) was) (sym one) (wrote_then c c' front (b ∷ []) was wrote (on_ok told (fits.1 left) puts))

pub loop-byte-preserved : goal.loop-byte-preserved
loop-byte-preserved c =
    let i = c.loop-byte.byte-index in
    let s = c.args.segment.now in
    let h : i < length s = omega arith in
    let inv = c.loop-byte.invariant in
    let was = c.args.out.now in
    let front = unescaped (take i s) in
    let o : c.step-next.result.1 ≡ meant (after_all Outside (take i s)) (get_or s i 0) =
    c.step-next.ensures.meant ∙ ap (λ (x : Escaping). meant x (get_or s i 0)) inv.0 in
    let more : unescaped (take (i + 1) s) ≡ front ++ option_to_list c.step-next.result.1 =
    meant_more s i h ∙ ap (λ (x : Option ℕ). front ++ option_to_list x) (sym o) in
    let read : c.step-next.result.0 ≡ after_all Outside (take (i + 1) s) =
    c.step-next.ensures.after ∙ ap (λ (x : Escaping). after x (get_or s i 0)) inv.0 ∙ sym (after_more s i h) in
    let some : length (front ++ option_to_list c.step-next.result.1) ≤ length (unescaped s) = omega (arith, ap length more, meant_front s (i + 1)) in
    elim c.match-meant.branch [
      | in-Some w ↦ (
        read,
        ap buffer w.cursor-is ∙ w.put.ensures.same_buffer ∙ inv.1,
        subst (λ (l : List ℕ). Wrote c.match-meant.cursor l was) (sym more)
            (subst (λ (k : Cursor). Wrote k (front ++ option_to_list c.step-next.result.1) was) (sym w.cursor-is)
            (put_one c.loop-byte.cursor w.put.new.self c.step-next.result.1 w.in-Some.unescaped front (unescaped s) was w.put.result w.in-Some.is some c.requires inv.2
            w.put.ensures.fits w.put.ensures.puts)),
      )
      | in_default w ↦ (
        read,
        ap buffer w.cursor-is ∙ inv.1,
        subst (λ (l : List ℕ). Wrote c.match-meant.cursor l was) (sym (more ∙ ap (λ (x : Option ℕ). front ++ option_to_list x) w.in_default.is ∙ append-nil front))
            (subst (λ (k : Cursor). Wrote k front was) (sym w.cursor-is) inv.2),
      )
    ]

pub returns : goal.returns
returns c =
    let s = c.args.segment.now in
    let all : unescaped (take c.loop-byte.byte-index s) ≡ unescaped s = ap unescaped (take_all c.loop-byte.byte-index s (omega arith)) in
    let left = wrote_left c.loop-byte.cursor (unescaped s) c.args.out.now (subst (λ (l : List ℕ). Wrote c.loop-byte.cursor l c.args.out.now) all c.loop-byte.invariant.2) in
    search (rules, left)
