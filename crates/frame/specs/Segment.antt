-- A segment is what comes between one flag and the next: its bytes, and whether a line fault was reported in it.
use Rattle.std.specs.Prelude.{ℕ, Bool, true, false, List, [], ◌∷◌, ◌++◌}

pub record Segment : Type 0 where
  pub came : List ℕ
  pub faulted : Bool

-- where a flag came, or the power, and nothing since
abbrev pub no_bytes : Segment
no_bytes = record { came = []; faulted = false }

abbrev pub with_byte : Segment → ℕ → Segment
with_byte s b = record { came = s.came ++ b ∷ []; faulted = s.faulted }

abbrev pub with_fault : Segment → Segment
with_fault s = record { came = s.came; faulted = true }
