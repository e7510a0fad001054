use Rattle.std.proofs.Common.{◌≡◌, ℕ, ◌+◌, ◌-◌, List, [], ◌∷◌, ◌++◌, length, take, drop, refl, ap, ◌∙◌, arith}
use Rattle.std.proofs.lemmas.List.{take_at}
use borrow.Rule.Slice.PartMut.{put_mid}
use Rattle.crc.specs.Crc.{crc}
use Rattle.frame.specs.Buffer.{laid}
use Rattle.packet.specs.Packets.{covered, headed, sent, packed}
use Rattle.packet.proofs.Copies.{put_mid-laid}
use Rattle.packet.proofs.Forms.{sent_le}
use Rattle.packet.proofs.writer.lay.Goals as goal

pub returns-clause-written : goal.returns-clause-written
unfolding packed
returns-clause-written c =
    let out = c.args.out.now in
    let xs = c.args.data.now in
    let p = headed c.args.header xs in
    let n = 3 + length xs in
    let out' = put_mid 3 (n - 3) (c.copy_from_slice.new.self ++ drop 3 out) c.copy_from_slice-2.new.self in
    let so_far : out' ≡ laid (covered p) out =
    rw (c.copy_from_slice.ensures.after, c.copy_from_slice-2.ensures.after)
    (put_mid-laid (p.dest ∷ p.srce ∷ p.kind ∷ []) xs out 3 (n - 3) refl (omega arith)) in
    let register : c.checksum-crc.result ≡ crc (covered p) =
    c.checksum-crc.ensures ∙ ap (λ (l : List ℕ). crc (take n l)) so_far ∙ ap crc (take_at (covered p) (drop (length (covered p)) out) n (omega arith)) in
    let behind : c.copy_from_slice-3.new.self ≡ sent (crc (covered p)) =
    c.copy_from_slice-3.ensures.after ∙ c.to_le_bytes.ensures ∙ sent_le c.checksum-crc.result (omega arith) ∙ ap sent register in
    (λ i. put_mid n (n + 2 - n) (so_far i) (behind i)) ∙ put_mid-laid (covered p) (sent (crc (covered p))) out n (n + 2 - n) (omega arith) (omega arith)
