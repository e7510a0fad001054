-- Frames, part by part: their bytes and how many there are.
use Rattle.std.proofs.Common.{◌≡◌, ℕ, ◌+◌, ◌<◌, ◌≤◌, ◌==◌, Bool, true, false, cond, [], ◌∷◌, ◌++◌, List, length, get_or, take, drop, sym, ap, ◌∙◌, append-nil, arith, length-append}
use Rattle.std.proofs.lemmas.List.{take_more, take-append-drop}
use Rattle.std.proofs.lemmas.List.Concat.{flat_map-append}
use Rattle.frame.specs.Framing.{flag, escape, escaped_flag, escaped_escape, escaped_byte, escaped, framed}
use Rattle.frame.specs.Cursor.{rest}
use Rattle.frame.specs.declared.cursor.Cursor.{Cursor}
use Rattle.frame.proofs.Cursors.{Wrote, wrote_room}

pub escaped_more : (xs : List ℕ) (i : ℕ) → i < length xs → escaped (take (i + 1) xs) ≡ escaped (take i xs) ++ escaped_byte (get_or xs i 0)
escaped_more xs i h =
    ap escaped (take_more xs i 0 h) ∙ flat_map-append escaped_byte (take i xs) (get_or xs i 0 ∷ [])
    ∙ ap (λ (l : List ℕ). escaped (take i xs) ++ l) (append-nil (escaped_byte (get_or xs i 0)))

-- the front of some bytes takes no more room than all of them
pub escaped_front : (xs : List ℕ) (i : ℕ) → length (escaped (take i xs)) ≤ length (escaped xs)
escaped_front xs i =
    omega (arith, ap length (sym (flat_map-append escaped_byte (take i xs) (drop i xs)) ∙ ap escaped (take-append-drop i xs)), length-append (escaped (take i xs)) (escaped (drop i xs)))

-- a byte takes one byte at least
takes_one : (x y : Bool) (b : ℕ) → 1 ≤ length (cond x (escape ∷ escaped_flag ∷ []) (cond y (escape ∷ escaped_escape ∷ []) (b ∷ [])))
takes_one true y b = omega arith
takes_one false true b = omega arith
takes_one false false b = omega arith

pub escaped_longer : (p : List ℕ) → length p ≤ length (escaped p)
escaped_longer [] = omega arith
escaped_longer (b ∷ p) =
    let both : length (escaped (b ∷ p)) ≡ length (escaped_byte b) + length (escaped p) = length-append (escaped_byte b) (escaped p) in
    omega (arith, both, takes_one (b == flag) (b == escape) b, escaped_longer p)

pub framed_length : (p : List ℕ) → length (framed p) ≡ length (escaped p) + 2
framed_length p = omega (arith, length-append (escaped p) (flag ∷ []))

-- a cursor that wrote the frame's front has room for what is missing, where the buffer has room for the frame
module _ (c : Cursor) (p was : List ℕ) (room : length (framed p) ≤ length was) where
  pub room_for_byte : (i : ℕ) → i < length p → Wrote c (flag ∷ escaped (take i p)) was → length (escaped_byte (get_or p i 0)) ≤ length (rest c)
  room_for_byte i h w =
      omega (arith, ap length (escaped_more p i h), length-append (escaped (take i p)) (escaped_byte (get_or p i 0)), escaped_front p (i + 1), framed_length p, wrote_room c _ was w)

  pub room_for_flag : Wrote c (flag ∷ escaped p) was → 1 ≤ length (rest c)
  room_for_flag w = omega (arith, framed_length p, wrote_room c _ was w)
