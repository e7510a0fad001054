use Rattle.std.proofs.Common.{◌≡◌, [], ◌∷◌, List, ℕ, length, take, get_or, sym, refl, ap, ◌∙◌, nat_lt, false, Ok, ◌≤◌, arith, rules}
use Rattle.std.proofs.lemmas.List.{take_all}
use Rattle.std.proofs.lemmas.Bool.Decides.{nat_tests}
use Rattle.frame.specs.Framing.{flag, escaped, escaped_byte, framed}
use Rattle.frame.specs.declared.cursor.Cursor.{Cursor}
use Rattle.frame.proofs.Escaped.{reads_back}
use Rattle.frame.proofs.Cursors.{Wrote, wrote_none, wrote_then, wrote_left}
use Rattle.frame.proofs.Frames.{escaped_more, room_for_byte, room_for_flag}
use Rattle.frame.proofs.writing.write_frame.Goals as goal

pub returns-then-outgrows-clause-reads_back : goal.returns-then-outgrows-clause-reads_back
returns-then-outgrows-clause-reads_back c = reads_back c.args.packet.now

pub loop-byte-init : goal.loop-byte-init
loop-byte-init c =
    let new = c.new-cursor.ensures in
    (refl, wrote_then c.new-cursor.result c.put.new.self [] (flag ∷ []) c.args.out.now (wrote_none _ _ new.written new.rest) c.in_ok-put.ensures.puts)

-- the buffer has room for what is missing
pub returns-in_err-put_escaped : goal.returns-in_err-put_escaped
returns-in_err-put_escaped c =
    let fits = room_for_byte c.loop-byte.cursor c.args.packet.now c.args.out.now (search (rules, nat_tests)) c.loop-byte.byte-index (omega arith) c.loop-byte.invariant.1 in
    absurd (cc (c.in_err-put_escaped.ensures.fits.1 fits))

pub loop-byte-preserved : goal.loop-byte-preserved
loop-byte-preserved c =
    let i = c.loop-byte.byte-index in
    let p = c.args.packet.now in (
      c.in_ok-put_escaped.ensures.same_buffer ∙ c.loop-byte.invariant.0,
      rw (escaped_more p i (omega arith))
          (wrote_then c.loop-byte.cursor c.put_escaped.new.cursor (flag ∷ escaped (take i p)) (escaped_byte (get_or p i 0)) c.args.out.now c.loop-byte.invariant.1 c.in_ok-put_escaped.ensures.puts),
    )

-- behind the loop
all_bytes : (p : List ℕ) (i : ℕ) (c : Cursor) (was : List ℕ) → length p ≤ i → Wrote c (flag ∷ escaped (take i p)) was → Wrote c (flag ∷ escaped p) was
all_bytes p i c was end w = rw⁻¹ (take_all i p end) w

pub returns-in_err-put-2 : goal.returns-in_err-put-2
returns-in_err-put-2 c =
    let p = c.args.packet.now in
    let was = c.args.out.now in
    let all = all_bytes p c.loop-byte.byte-index c.loop-byte.cursor was (omega arith) c.loop-byte.invariant.1 in
    absurd (cc (c.in_err-put-2.ensures.fits.1 (room_for_flag c.loop-byte.cursor p was (search (rules, nat_tests)) all)))

pub returns : goal.returns
returns c =
    let p = c.args.packet.now in
    let was = c.args.out.now in
    let all = all_bytes p c.loop-byte.byte-index c.loop-byte.cursor was (omega arith) c.loop-byte.invariant.1 in
    let whole = wrote_then c.loop-byte.cursor c.put-2.new.self (flag ∷ escaped p) (flag ∷ []) was all c.in_ok-put-2.ensures.puts in
    let fits : nat_lt (length was) (length (framed p)) ≡ false = sym c.outgrows.ensures ∙ c.if-outgrows.false in
    record {
      told = rw fits (ap (λ (l : List ℕ). Ok (length l)) (c.written.ensures ∙ whole.front_is));
      written = let left = wrote_left c.put-2.new.self (framed p) was whole in rw fits (search (rules, left));
      reads_back = reads_back p;
    }
