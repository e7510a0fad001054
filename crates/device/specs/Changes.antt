-- How a device changes. An accepted change makes one present value the given one and leaves all else; a refused one leaves everything.
use Rattle.std.specs.Prelude.{ℕ, ◌^◌, Bool, true, false, cond, ◌&&◌, map, ◌==◌, nat_lt}
use Rattle.device.specs.declared.VariableKind.{VariableKind}
use Rattle.device.specs.declared.VariableKind.TheVariants.{Setting, Reading}
use Rattle.device.specs.Places.{map_at}
use Rattle.device.specs.Meaning.{Meaning, Variable, Cell}
use Rattle.device.specs.Lookup.{variable_at, cell_at, there}

-- ---- present values

-- a variable, and a byte, that holds v now
abbrev pub holding : ℕ → Variable → Variable
holding v x = record { address = x.address; width = x.width; kind = x.kind; power_up = x.power_up; present = v }

abbrev pub holding_byte : ℕ → Cell → Cell
holding_byte v c = record { power_up = c.power_up; present = v; writable = c.writable }

-- a device with each variable changed by a rule
abbrev pub each_variable : (Variable → Variable) → Meaning → Meaning
each_variable f m =
    record {
      variables = map f m.variables;
      memories = m.memories;
      identity = m.identity;
      option = m.option;
      implementation = m.implementation;
      estimate = m.estimate;
    }

-- a device with each byte changed by a rule that sees its memory and its offset
abbrev pub each_byte : (ℕ → ℕ → Cell → Cell) → Meaning → Meaning
each_byte f m =
    record {
      variables = m.variables;
      memories = map_at 0 (λ n cells. map_at 0 (f n) cells) m.memories;
      identity = m.identity;
      option = m.option;
      implementation = m.implementation;
      estimate = m.estimate;
    }

-- ---- variables

abbrev pub same_kind : VariableKind → VariableKind → Bool
same_kind Setting Setting = true
same_kind Setting Reading = false
same_kind Reading Setting = false
same_kind Reading Reading = true

-- a variable of kind k takes the values below 2 to its width
abbrev pub takes : VariableKind → ℕ → Variable → Bool
takes k v x = same_kind k x.kind && nat_lt v (2 ^ x.width)

-- a new value v is accepted at address a
abbrev pub accepts : VariableKind → Meaning → ℕ → ℕ → Bool
accepts k m a v = there (takes k v) (variable_at m a)

-- the rule that gives v to the variable of kind k at address a, and to no other
abbrev pub changed : VariableKind → ℕ → ℕ → Variable → Variable
changed k a v x = cond (same_kind k x.kind && x.address == a) (holding v x) x

-- a device with that variable changed
abbrev pub change : VariableKind → Meaning → ℕ → ℕ → Meaning
change k m a v = each_variable (changed k a v) m

-- a device after v was offered to the variable of kind k at address a
abbrev pub offered : VariableKind → Meaning → ℕ → ℕ → Meaning
offered k m a v = cond (accepts k m a v) (change k m a v) m

-- ---- bytes

-- byte i of memory n can be stored
abbrev pub can_store : Meaning → ℕ → ℕ → Bool
can_store m n i = there (λ (c : Cell). c.writable) (cell_at m n i)

-- the rule that gives v to byte i of memory n, and to no other: it sees byte j of memory o
abbrev pub written : ℕ → ℕ → ℕ → ℕ → ℕ → Cell → Cell
written n i v o j c = cond (o == n && j == i) (holding_byte v c) c

-- a device with that byte changed
abbrev pub write : Meaning → ℕ → ℕ → ℕ → Meaning
write m n i v = each_byte (written n i v) m

-- a device after v was offered to byte i of memory n
abbrev pub stored : Meaning → ℕ → ℕ → ℕ → Meaning
stored m n i v = cond (can_store m n i) (write m n i v) m

-- ---- restart

abbrev pub reset : Variable → Variable
reset x = holding x.power_up x

abbrev pub reset_byte : Cell → Cell
reset_byte c = holding_byte c.power_up c

-- every present value made its power-up value
abbrev pub restarted : Meaning → Meaning
restarted m = each_byte (λ n i c. reset_byte c) (each_variable reset m)
