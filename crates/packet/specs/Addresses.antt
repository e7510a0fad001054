-- Which addresses a process may have, by their numbers.
use Rattle.std.specs.Prelude.{ℕ, Bool, cond, ◌||◌, Ok, Err, Result, ◌==◌}
use Rattle.refusals.specs.declared.Refusal.{Refusal}
use Rattle.refusals.specs.declared.Refusal.TheVariants.{OwnAddress}
use Rattle.frame.specs.Framing.{flag, escape}

-- no process has the address 0, nor the flag or the escape as its address
abbrev pub forbidden : ℕ → Bool
forbidden a = a == 0 || (a == flag || a == escape)

-- the address that a number is accepted as
abbrev pub accepted : ℕ → Result ℕ Refusal
accepted a = cond (forbidden a) (Err OwnAddress) (Ok a)
