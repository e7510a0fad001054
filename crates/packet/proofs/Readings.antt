-- What is read as a packet.
use Rattle.std.proofs.Common.{◌≡◌, ℕ, ◌≤◌, false, cond, not, ltb, List, [], ◌∷◌, length, Ok, Err, Result, sym, refl, ap, ◌∙◌, arith}
use Rattle.std.proofs.lemmas.Bool.{ltb-false, le-ltb, not-false}
use Rattle.frame.specs.Limits.{max_packet}
use Rattle.packet.specs.Limits.{min_packet}
use Rattle.packet.specs.Packets.{Parts, packed, parts_of, crc_right, Bytes}
use Rattle.packet.specs.Causes.{first_cause}
use Rattle.packet.specs.Reading.{none, reading_causes, read}
use Rattle.packet.specs.declared.causes.DropCause.{DropCause}
use Rattle.packet.specs.declared.causes.DropCause.TheVariants.{Empty, TooLong, TooShort, WrongCrc}
use Rattle.packet.proofs.Verdicts.{past}
use Rattle.packet.proofs.Forms.{packed_parts, packed_right, packed_length, one_form}

-- bytes of which no cause of reading applies
pub record Readable (bs : List ℕ) : Type 0 where
  pub some : none bs ≡ false
  pub few : ltb max_packet (length bs) ≡ false
  pub enough : ltb (length bs) min_packet ≡ false
  pub right : not (crc_right bs) ≡ false

pub readable_from : {A : Type 0} (bs : List ℕ) (v : Result A DropCause) (a : A) → first_cause (reading_causes bs) v ≡ Ok a → Readable bs × (v ≡ Ok a)
readable_from bs v a e =
    let p = past (none bs) Empty _ a e in
    let q = past (ltb max_packet (length bs)) TooLong _ a p.1 in
    let r = past (ltb (length bs) min_packet) TooShort _ a q.1 in
    let s = past (not (crc_right bs)) WrongCrc _ a r.1 in
    (record { some = p.0; few = q.0; enough = r.0; right = s.0 }, s.1)

pub read_from : (bs : List ℕ) → Readable bs → read bs ≡ Ok (parts_of bs)
read_from bs h =
    λ i. cond (h.some i) (Err Empty) (cond (h.few i) (Err TooLong) (cond (h.enough i) (Err TooShort) (cond (h.right i) (Err WrongCrc) (Ok (parts_of bs)))))

some_from : (bs : List ℕ) → min_packet ≤ length bs → none bs ≡ false
some_from [] h = absurd (omega arith)
some_from (b ∷ bs) h = refl

pub packed_readable : (p : Parts) → length (packed p) ≤ max_packet → Readable (packed p)
packed_readable p h =
    let n = packed_length p in
    record {
      some = some_from (packed p) (omega arith);
      few = le-ltb max_packet (length (packed p)) h;
      enough = le-ltb (length (packed p)) min_packet (omega arith);
      right = ap not (packed_right p);
    }

pub packed_read : (p : Parts) → length (packed p) ≤ max_packet → read (packed p) ≡ Ok p
packed_read p h = read_from (packed p) (packed_readable p h) ∙ ap Ok (packed_parts p)

pub readable_form : (bs : List ℕ) → Bytes bs → Readable bs → bs ≡ packed (parts_of bs)
readable_form bs small h =
    sym (one_form bs (ltb-false (length bs) min_packet h.enough) small (not-false (crc_right bs) h.right))

-- ---- the reader's laws, from what it answers

module _ (bs : List ℕ) (told : Result Parts DropCause) (is : told ≡ read bs) where
  pub reads_back : (p : Parts) → bs ≡ packed p → length bs ≤ max_packet → told ≡ Ok p
  reads_back p e few = is ∙ ap read e ∙ packed_read p (omega (arith, ap length e))

pub form_read : (bs : List ℕ) → Bytes bs → (p : Parts) → Ok p ≡ read bs → bs ≡ packed p
form_read bs small p is =
    let h = readable_from bs (Ok (parts_of bs)) p (sym is) in
    let same : parts_of bs ≡ p = cc h.1 in
    readable_form bs small h.0 ∙ ap packed same
