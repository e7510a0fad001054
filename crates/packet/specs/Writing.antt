-- What writing a packet answers and leaves in a buffer of some length.
use Rattle.std.specs.Prelude.{◌≡◌, ℕ, ◌+◌, cond, List, length, is_ok, Ok, Err, Result, OnOk, nat_lt}
use Rattle.refusals.specs.declared.Refusal.{Refusal}
use Rattle.refusals.specs.declared.Refusal.TheVariants.{ShortBuffer, TooMuchData}
use Rattle.frame.specs.Buffer.{laid}
use Rattle.packet.specs.Limits.{min_packet, max_data}
use Rattle.packet.specs.Packets.{packed}
pub use Rattle.packet.specs.Packets.{headed}
use Rattle.packet.specs.Reading.{read}
use Rattle.packet.specs.declared.writer.Header.{Header}

-- a packet is refused where the buffer is shorter than it, and where it has too much data
abbrev pub write_answer : ℕ → ℕ → Result ℕ Refusal
write_answer size room =
    cond (nat_lt room (size + min_packet)) (Err ShortBuffer) (cond (nat_lt max_data size) (Err TooMuchData) (Ok (size + min_packet)))

abbrev pub write_left : Header → List ℕ → List ℕ → List ℕ
write_left h content buffer =
    cond (is_ok (write_answer (length content) (length buffer))) (laid (packed (headed h content)) buffer) buffer

-- a packet that was written is read as what it was made of
abbrev pub WrittenReads : Header → List ℕ → Result ℕ Refusal → Type 0
WrittenReads h content r = OnOk r (read (packed (headed h content)) ≡ Ok (headed h content))
