-- What a buffer holds after bytes were written over its front.
use Rattle.std.specs.Prelude.{ℕ, List, ◌++◌, length, drop}

-- `front` first, and behind it what stood there before
abbrev pub laid : List ℕ → List ℕ → List ℕ
laid front buffer = front ++ drop (length front) buffer
