-- What writing a frame and unescaping a segment answer and leave in a buffer of some length.
use Rattle.std.specs.Prelude.{◌≡◌, ℕ, false, cond, List, length, is_ok, Ok, Err, Result, nat_lt}
use Rattle.refusals.specs.declared.Refusal.{Refusal}
use Rattle.refusals.specs.declared.Refusal.TheVariants.{ShortBuffer}
use Rattle.frame.specs.Framing.{framed, escaped, has_flag, bad_escape}
use Rattle.frame.specs.Escapes.{unescaped}
use Rattle.frame.specs.Buffer.{laid}
use Rattle.frame.specs.declared.reading.NotUnescaped.{NotUnescaped}
use Rattle.frame.specs.declared.reading.NotUnescaped.TheVariants.{HasFlag, BadEscape, NoRoom}

-- a frame is refused where the buffer is shorter than it
abbrev pub frame_answer : List ℕ → ℕ → Result ℕ Refusal
frame_answer packet room = cond (nat_lt room (length (framed packet))) (Err ShortBuffer) (Ok (length (framed packet)))

abbrev pub frame_left : List ℕ → List ℕ → List ℕ
frame_left packet buffer = cond (nat_lt (length buffer) (length (framed packet))) buffer (laid (framed packet) buffer)

-- bytes are unescaped where no flag is among them, each escape is a good one and the buffer has room
abbrev pub measured : List ℕ → Result ℕ NotUnescaped
measured segment =
    cond (has_flag segment) (Err HasFlag) (cond (bad_escape segment) (Err BadEscape) (Ok (length (unescaped segment))))

abbrev pub with_room : ℕ → Result ℕ NotUnescaped → Result ℕ NotUnescaped
with_room room (Ok n) = cond (nat_lt room n) (Err NoRoom) (Ok n)
with_room room (Err why) = Err why

abbrev pub unescape_answer : List ℕ → ℕ → Result ℕ NotUnescaped
unescape_answer segment room = with_room room (measured segment)

abbrev pub unescape_left : List ℕ → List ℕ → List ℕ
unescape_left segment buffer = cond (is_ok (unescape_answer segment (length buffer))) (laid (unescaped segment) buffer) buffer

-- ---- laws

-- what stands between the flags of a packet's frame is a segment that stands for this packet
pub record ReadsBack (packet : List ℕ) : Type 0 where
  pub flagless : has_flag (escaped packet) ≡ false
  pub well_escaped : bad_escape (escaped packet) ≡ false
  pub back : unescaped (escaped packet) ≡ packet

-- and only that segment does: bytes that can be unescaped are the escaped form of what they stand for
abbrev pub OnlyFramesRead : List ℕ → Type 0
OnlyFramesRead segment = has_flag segment ≡ false → bad_escape segment ≡ false → segment ≡ escaped (unescaped segment)
