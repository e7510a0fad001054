-- A cursor over a buffer: the bytes that it wrote over the buffer's front, and what stands behind them.
use Rattle.std.specs.Prelude.{◌≡◌, ℕ, List, ◌++◌, length, take, drop}
use Rattle.frame.specs.declared.cursor.Cursor.{Cursor}

-- which buffer it is
abbrev pub buffer : Cursor → ℕ
buffer c = c.out.ghost_name

abbrev pub written : Cursor → List ℕ
written c = take c.at c.out.now

abbrev pub rest : Cursor → List ℕ
rest c = drop c.at c.out.now

-- bytes were written behind those that were
pub record Puts (was : Cursor) (bytes : List ℕ) (is : Cursor) : Type 0 where
  pub more : written is ≡ written was ++ bytes
  pub left : rest is ≡ drop (length bytes) (rest was)
