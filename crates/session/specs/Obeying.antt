-- Texts are read as lines and obeyed in their order. The first text that is no line ends this: its number, from 1, is written, and
-- nothing behind it counts.
use Rattle.std.specs.Prelude.{◌≡◌, ℕ, List, [], ◌∷◌, ◌++◌, map, is_none, Some, None, Ok, Err, string_bytes, codes, decimal, Option, Result, String}
use Rattle.std.specs.List.{position_from}
use Rattle.std.specs.Option.{some_prefix}
use Rattle.std.specs.declared.alloc.AllocError.{AllocError}
use Rattle.std.specs.declared.alloc.Global.{Global}
use Rattle.bench.specs.Lines.{LineValue, line_read}

-- ---- what texts tell

-- the lines before the first text that is none
unfoldable pub lines_in : List (List ℕ) → List LineValue
lines_in ts = some_prefix (map line_read ts)

-- the number of the first text that is no line, where the first text has the number n
unfoldable pub first_bad : ℕ → List (List ℕ) → Option ℕ
first_bad n ts = position_from is_none n (map line_read ts)

-- ---- what is written

abbrev pub bad_text : Option ℕ → List ℕ
bad_text None = []
bad_text (Some n) = codes "bad " ++ (decimal n ++ codes "\n")

-- where obeying some lines writes `writes` of them
abbrev pub output : (List LineValue → List ℕ) → List (List ℕ) → List ℕ
output writes ts = writes (lines_in ts) ++ bad_text (first_bad 1 ts)

-- ---- what obeys lines

-- One more line was obeyed: this adds to what was written. Where memory ran out, nothing changed.
abbrev pub Obeys : {H : Type 0} → (H → List LineValue → Type 0) → (List LineValue → List ℕ) → H → LineValue → Result (String Global) AllocError → H → Type 0
Obeys obeyed writes was v (Ok text) is =
    (vs : List LineValue) → obeyed was vs → obeyed is (vs ++ v ∷ []) × (writes (vs ++ v ∷ []) ≡ writes vs ++ string_bytes text)
Obeys obeyed writes was v (Err none) is = is ≡ was
