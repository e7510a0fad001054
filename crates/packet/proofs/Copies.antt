-- Bytes that are copied into a buffer right behind those that were laid over its front.
use Rattle.std.proofs.Common.{◌≡◌, ℕ, List, ◌++◌, length, drop, ap, ◌∙◌, sym, append_assoc, arith, length-append}
use borrow.Rule.Slice.PartMut.{put_mid}
use Rattle.std.proofs.lemmas.List.{take_at, drop_at, drop-drop}
use Rattle.frame.specs.Buffer.{laid}

pub put_mid-laid : (front bytes buffer : List ℕ) (at k : ℕ) → length front ≡ at → k ≡ length bytes
    → put_mid at k (laid front buffer) bytes ≡ laid (front ++ bytes) buffer
put_mid-laid front bytes buffer at k h n =
    let behind = drop (length front) buffer in
    let rest : drop k (drop at (laid front buffer)) ≡ drop (length (front ++ bytes)) buffer =
    ap (drop k) (drop_at front behind at h) ∙ drop-drop k (length front) buffer ∙ ap (λ (m : ℕ). drop m buffer) (omega (arith, length-append front bytes)) in
    (λ i. take_at front behind at h i ++ (bytes ++ rest i)) ∙ sym (append_assoc front bytes (drop (length (front ++ bytes)) buffer))
