-- What holds of every device, whatever it holds.
use Rattle.std.specs.Prelude.{◌≡◌, ℕ, ◌+◌, ◌<◌, ◌≤◌, List, [], ◌∷◌, length, All}
use Rattle.device.specs.Limits.{max_width, memory_count, max_memory, max_identity, option_bound, address_bound, value_bound, byte_bound, estimate_bound}
use Rattle.device.specs.Meaning.{Meaning, Variable, Cell}

-- addresses strictly ascend, from n on
abbrev pub Ascending : ℕ → List Variable → Type 0
Ascending n [] = Unit {0}
Ascending n (x ∷ xs) = (n ≤ x.address) × Ascending (x.address + 1) xs

pub record VariableFits (x : Variable) : Type 0 where
  pub address : x.address < address_bound
  pub some_bits : 1 ≤ x.width
  pub few_bits : x.width ≤ max_width
  pub power_up : x.power_up < value_bound
  pub present : x.present < value_bound

pub record CellFits (c : Cell) : Type 0 where
  pub power_up : c.power_up < byte_bound
  pub present : c.present < byte_bound

pub record MemoryFits (cells : List Cell) : Type 0 where
  pub size : length cells ≤ max_memory
  pub each : All CellFits cells

pub record WellFormed (m : Meaning) : Type 0 where
  pub ascending : Ascending 0 m.variables
  pub variables : All VariableFits m.variables
  pub four : length m.memories ≡ memory_count
  pub memories : All MemoryFits m.memories
  pub identity_size : length m.identity ≤ max_identity
  pub identity : All (λ b. b < byte_bound) m.identity
  pub option : m.option < option_bound
  pub implementation : m.implementation < byte_bound
  pub estimate : m.estimate < estimate_bound
