-- Judging the bytes of a segment, and what a receiver kept of it.
use Rattle.std.proofs.Common.{◌≡◌, ℕ, cond, ltb, List, [], ◌∷◌, length, take, Some, None, Ok, Err, Result, is_none, sym, refl, ap, ◌∙◌, ⊎_elim}
use Rattle.std.proofs.lemmas.List.{take_all}
use Rattle.std.proofs.lemmas.Bool.{lt-ltb, le-ltb, cases_lt, cond-false, cond_both}
use Rattle.frame.specs.Limits.{max_packet}
use Rattle.frame.specs.Framing.{bad_escape}
use Rattle.frame.specs.Escapes.{in_escape, meant_by, unescaped}
use Rattle.frame.specs.Segment.{Segment}
use Rattle.frame.specs.Receiving.{kept, few, Holds}
use Rattle.frame.specs.declared.receiver.Digest.{Digest}
use Rattle.frame.proofs.Escaped.{bad_is}
use Rattle.packet.specs.Packets.{Parts, parts_of}
use Rattle.packet.specs.Reading.{none, reading_causes, read}
use Rattle.packet.specs.Judging.{judge_packet, judge_bytes, judge, judge_kept}
use Rattle.packet.specs.declared.causes.DropCause.{DropCause}
use Rattle.packet.specs.declared.causes.DropCause.TheVariants.{LineFault, Empty, BadEscape, TooLong}
use Rattle.packet.specs.declared.judging.Station.{Station}
use Rattle.packet.proofs.Verdicts.{dropped_anyway, none_applied}

-- bytes that are read as no packet are dropped for that cause, and others are judged by their packet
module _ (station : Station) (bs : List ℕ) where
  pub judged_err : (cause : DropCause) → read bs ≡ Err cause → judge_bytes station bs ≡ Err cause
  unfolding judge_bytes
  judged_err cause e =
      dropped_anyway (reading_causes bs) (Ok (parts_of bs)) (judge_packet station (parts_of bs)) cause (parts_of bs) refl e

  pub judged_ok : (p : Parts) → read bs ≡ Ok p → judge_bytes station bs ≡ judge_packet station p
  unfolding judge_bytes
  judged_ok p e =
      let h = none_applied (reading_causes bs) (Ok (parts_of bs)) (judge_packet station (parts_of bs)) p e in
      let same : parts_of bs ≡ p = cc h.0 in
      h.1 ∙ ap (judge_packet station) same

-- ---- what a receiver kept

-- bytes past the longest packet make it too long, so none of them matters otherwise
clipped : (station : Station) (u : List ℕ)
    → cond (ltb max_packet (length u)) (Err TooLong) (judge_bytes station (take max_packet u)) ≡ judge_bytes station u
unfolding judge_bytes
clipped station [] = refl
clipped station (b ∷ u) =
    ⊎_elim
    (λ over. rw (lt-ltb max_packet (length (b ∷ u)) over) refl)
    (λ fits. cond-false _ _ _ (le-ltb max_packet (length (b ∷ u)) fits) ∙ ap (judge_bytes station) (take_all max_packet (b ∷ u) fits))
    (cases_lt max_packet (length (b ∷ u)))

-- no byte is a cause of its own only where there is no fault, and no escape then
empty_first : (station : Station) (came : List ℕ)
    → cond (bad_escape came) (Err BadEscape) (judge_bytes station (unescaped came))
    ≡ cond (none came) (Err Empty) (cond (bad_escape came) (Err BadEscape) (judge_bytes station (unescaped came)))
unfolding judge_bytes bad_escape meant_by
empty_first station [] = refl
empty_first station (b ∷ bs) = refl

-- a count is missing exactly where there are too many bytes
few_is_none : (u : List ℕ) → is_none (few u) ≡ ltb max_packet (length u)
few_is_none u = cond_both (ltb max_packet (length u)) None (Some (length u)) (λ o. is_none o ≡ ltb max_packet (length u)) sym sym

-- what a receiver kept is judged as the segment itself
pub kept_is_judged : (station : Station) (d : Digest) (memory : List ℕ) (s : Segment) → Holds d memory s
    → judge_kept station d (take (kept d) memory) ≡ judge station s
unfolding judge
kept_is_judged station d memory s h =
    let u = unescaped s.came in
    let more : is_none d.count ≡ ltb max_packet (length u) = ap is_none h.count ∙ few_is_none u in
    let bad : in_escape d.escaping ≡ bad_escape s.came = ap in_escape h.escaping ∙ sym (bad_is s.came) in
    (λ i. cond (h.faulted i) (Err LineFault) (cond (bad i) (Err BadEscape) (cond (more i) (Err TooLong) (judge_bytes station (h.front i)))))
    ∙ ap (λ (v : Result Parts DropCause). cond s.faulted (Err LineFault) (cond (bad_escape s.came) (Err BadEscape) v)) (clipped station u)
    ∙ ap (cond s.faulted (Err LineFault)) (empty_first station s.came)

-- so a verdict on what was kept is the one on the segment
pub told_segment : (station : Station) (d : Digest) (memory : List ℕ) (told : Result Parts DropCause) (s : Segment) → Holds d memory s
    → told ≡ judge_kept station d (take (kept d) memory) → told ≡ judge station s
told_segment station d memory told s h is = is ∙ kept_is_judged station d memory s h
