-- What a device means: its variables, its four memories, and what never changes. This is all that a node can learn of a device or
-- change in it.
use Rattle.std.specs.Prelude.{ℕ, Bool, List}
use Rattle.device.specs.declared.VariableKind.{VariableKind}

-- a variable: its address, how many bits a new value may have, who may change it, and what it holds at power-up and now
pub record Variable : Type 0 where
  pub address : ℕ
  pub width : ℕ
  pub kind : VariableKind
  pub power_up : ℕ
  pub present : ℕ

-- a byte of a memory: what it holds at power-up and now, and whether a request may change it
pub record Cell : Type 0 where
  pub power_up : ℕ
  pub present : ℕ
  pub writable : Bool

-- a device: its variables by ascending address, its memories from 0 on, each a list of its bytes from offset 0 on, its identity
-- string, its option and implementation numbers, and the estimated time of a restart
pub record Meaning : Type 0 where
  pub variables : List Variable
  pub memories : List (List Cell)
  pub identity : List ℕ
  pub option : ℕ
  pub implementation : ℕ
  pub estimate : ℕ
