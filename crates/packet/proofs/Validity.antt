-- A segment is judged to be a packet exactly where it is a valid one with that packet.
use Rattle.std.proofs.Common.{◌≡◌, ℕ, ◌<◌, ◌≤◌, false, cond, not, ◌||◌, eqb, List, [], ◌∷◌, ◌++◌, length, take, Some, None, Ok, Err, Result, sym, refl, ap, ◌∙◌, subst, arith}
use Rattle.std.specs.Option.{option_to_list}
use Rattle.std.proofs.lemmas.Bool.{ltb-false, not-false, or_parts, or_from, cond_both}
use Rattle.frame.specs.Limits.{max_packet}
use Rattle.frame.specs.Framing.{flag, escape, escaped_flag, escaped_escape, escaped, bad_escape}
use Rattle.frame.specs.Escapes.{after, meant, meant_by, unescaped}
use Rattle.frame.specs.Segment.{Segment}
use Rattle.frame.specs.Receiving.{kept, Holds}
use Rattle.frame.specs.declared.receiver.Digest.{Digest}
use Rattle.frame.specs.declared.escaping.Escaping.{Escaping}
use Rattle.frame.specs.declared.escaping.Escaping.TheVariants.{Outside, Pending, Broken}
use Rattle.frame.proofs.Escaped.{reads_back, only_frames_read}
use Rattle.packet.specs.Limits.{min_packet}
use Rattle.packet.specs.Packets.{Parts, packed, parts_of, Bytes}
use Rattle.packet.specs.Reading.{none}
use Rattle.packet.specs.Judging.{is_for, right_way, judge_packet, judge_bytes, judge, judge_kept}
use Rattle.packet.specs.Valid.{Valid, Came, ExactlyValid}
use Rattle.packet.specs.declared.causes.DropCause.{DropCause}
use Rattle.packet.specs.declared.causes.DropCause.TheVariants.{LineFault, Empty, BadEscape, NullSource, ForbiddenSource, NotForUs, WrongDirection}
use Rattle.packet.specs.declared.judging.Station.{Station}
use Rattle.packet.proofs.Forms.{packed_length}
use Rattle.packet.proofs.Verdicts.{past}
use Rattle.packet.proofs.Readings.{Readable, readable_from, readable_form, packed_read}
use Rattle.packet.proofs.Judged.{judged_ok, told_segment}

-- ---- bytes stay bytes

meant_byte : (e : Escaping) (b : ℕ) (bs : List ℕ) → b < 256 → Bytes bs → Bytes (option_to_list (meant e b) ++ bs)
meant_byte Outside b bs h rest =
    cond_both (eqb b escape) None (Some b) (λ o. Bytes (option_to_list o ++ bs)) (λ _. rest) (λ _. (h, rest))
meant_byte Pending b bs h rest =
    cond_both (eqb b escaped_flag) (Some flag) _ (λ o. Bytes (option_to_list o ++ bs)) (λ _. (omega arith, rest))
    (λ _. cond_both (eqb b escaped_escape) (Some escape) None (λ o. Bytes (option_to_list o ++ bs)) (λ _. (omega arith, rest)) (λ _. rest))
meant_byte Broken b bs h rest = rest

meant_bytes : (e : Escaping) (bs : List ℕ) → Bytes bs → Bytes (meant_by e bs)
unfolding meant_by
meant_bytes e [] h = tt
meant_bytes e (b ∷ bs) h = meant_byte e b (meant_by (after e b) bs) h.0 (meant_bytes (after e b) bs h.1)

-- ---- the causes of a packet

record Passed (station : Station) (p : Parts) : Type 0 where
  some_source : eqb p.srce 0 ≡ false
  plain_source : (eqb p.srce flag || eqb p.srce escape) ≡ false
  for_us : not (is_for station p.dest p.srce) ≡ false
  our_way : not (right_way station p.kind) ≡ false

passes : (station : Station) (q p : Parts) → judge_packet station q ≡ Ok p → Passed station q × (q ≡ p)
passes station q p e =
    let a = past (eqb q.srce 0) NullSource _ p e in
    let b = past (eqb q.srce flag || eqb q.srce escape) ForbiddenSource _ p a.1 in
    let c = past (not (is_for station q.dest q.srce)) NotForUs _ p b.1 in
    let d = past (not (right_way station q.kind)) WrongDirection _ p c.1 in
    (record { some_source = a.0; plain_source = b.0; for_us = c.0; our_way = d.0 }, (let k : q ≡ p = cc d.1 in k))

accepted : (station : Station) (p : Parts) → Passed station p → judge_packet station p ≡ Ok p
accepted station p h =
    λ i. cond (h.some_source i) (Err NullSource) (cond (h.plain_source i) (Err ForbiddenSource) (cond (h.for_us i) (Err NotForUs) (cond (h.our_way i) (Err WrongDirection) (Ok p))))

-- ---- the two directions

bytes_pass : (station : Station) (bs : List ℕ) (p : Parts) → judge_bytes station bs ≡ Ok p → Readable bs × Passed station (parts_of bs) × (parts_of bs ≡ p)
unfolding judge_bytes
bytes_pass station bs p e =
    let r = readable_from bs (judge_packet station (parts_of bs)) p e in
    let q = passes station (parts_of bs) p r.1 in
    (r.0, q.0, q.1)

some_came : (came : List ℕ) → min_packet ≤ length (unescaped came) → none came ≡ false
unfolding meant_by
some_came [] h = absurd (omega arith)
some_came (b ∷ bs) h = refl

module _ (station : Station) (s : Segment) where
  accepts_only : Came s → (p : Parts) → judge station s ≡ Ok p → Valid station s p
  unfolding judge
  accepts_only came p e =
      let u = unescaped s.came in
      let a = past s.faulted LineFault _ p e in
      let b = past (none s.came) Empty _ p a.1 in
      let c = past (bad_escape s.came) BadEscape _ p b.1 in
      let r = bytes_pass station u p c.1 in
      let form : u ≡ packed p = readable_form u (meant_bytes Outside s.came came.bytes) r.0 ∙ ap packed r.2 in
      let passed : Passed station p = subst (Passed station) r.2 r.1 in
      record {
        unharmed = a.0;
        framed = only_frames_read s.came came.flagless c.0 ∙ ap escaped form;
        few = subst (λ (l : List ℕ). length l ≤ max_packet) form (ltb-false max_packet (length u) r.0.few);
        from_process = or_from (eqb p.srce 0) _ passed.some_source passed.plain_source;
        for_us = not-false (is_for station p.dest p.srce) passed.for_us;
        our_way = not-false (right_way station p.kind) passed.our_way;
      }

  accepts_all : (p : Parts) → Valid station s p → judge station s ≡ Ok p
  unfolding judge
  accepts_all p v =
      let back = reads_back (packed p) in
      let u : unescaped s.came ≡ packed p = ap unescaped v.framed ∙ back.back in
      let some : none s.came ≡ false = some_came s.came (omega (arith, ap length u, packed_length p)) in
      let good : bad_escape s.came ≡ false = ap bad_escape v.framed ∙ back.well_escaped in
      let source = or_parts (eqb p.srce 0) (eqb p.srce flag || eqb p.srce escape) v.from_process in
      (λ i. cond (v.unharmed i) (Err LineFault) (cond (some i) (Err Empty) (cond (good i) (Err BadEscape) (judge_bytes station (u i)))))
      ∙ judged_ok station (packed p) p (packed_read p v.few)
      ∙ accepted station p (record { some_source = source.0; plain_source = source.1; for_us = ap not v.for_us; our_way = ap not v.our_way })

  pub exactly_valid : Came s → (verdict : Result Parts DropCause) → verdict ≡ judge station s → ExactlyValid station s verdict
  exactly_valid came verdict is = record {
    accepts_only = λ p e. accepts_only came p (sym is ∙ e);
    accepts_all = λ p v. is ∙ accepts_all p v;
  }

-- a verdict on what a receiver kept is a packet exactly where the segment is a valid one with that packet
pub told_valid : (station : Station) (d : Digest) (memory : List ℕ) (told : Result Parts DropCause) (s : Segment) → Came s → Holds d memory s
    → told ≡ judge_kept station d (take (kept d) memory) → ExactlyValid station s told
told_valid station d memory told s came h is = exactly_valid station s came told (told_segment station d memory told s h is)
