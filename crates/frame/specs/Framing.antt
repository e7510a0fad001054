-- Framing: a flag, C0, stands before and behind the packet. Inside, C0 is sent as DB DC and DB as DB DD; every other byte is itself.
use Rattle.std.specs.Prelude.{ℕ, Bool, false, cond, not, ◌&&◌, ◌||◌, List, [], ◌∷◌, ◌++◌, ◌==◌}
use Rattle.std.specs.List.{flat_map, list_any}

abbrev pub flag : ℕ
flag = 0xC0

abbrev pub escape : ℕ
escape = 0xDB

-- behind an escape: what stands for a flag, and what for an escape
abbrev pub escaped_flag : ℕ
escaped_flag = 0xDC

abbrev pub escaped_escape : ℕ
escaped_escape = 0xDD

-- ---- writing

abbrev pub escaped_byte : ℕ → List ℕ
escaped_byte b =
    cond (b == flag) (escape ∷ escaped_flag ∷ []) (cond (b == escape) (escape ∷ escaped_escape ∷ []) (b ∷ []))

abbrev pub escaped : List ℕ → List ℕ
escaped bs = flat_map escaped_byte bs

abbrev pub framed : List ℕ → List ℕ
framed packet = flag ∷ (escaped packet ++ (flag ∷ []))

-- ---- what can be wrong with bytes that stand between two flags

-- the first of the bytes may follow an escape
abbrev pub resolves : List ℕ → Bool
resolves [] = false
resolves (b ∷ bs) = b == escaped_flag || b == escaped_escape

-- an escape among the bytes is not followed by DC or DD
unfoldable pub bad_escape : List ℕ → Bool
bad_escape [] = false
bad_escape (b ∷ bs) = (b == escape && not (resolves bs)) || bad_escape bs

-- a flag is among the bytes, so they are no segment
abbrev pub has_flag : List ℕ → Bool
has_flag bs = list_any (λ b. b == flag) bs
