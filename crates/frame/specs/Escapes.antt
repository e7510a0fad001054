-- Reading the bytes between two flags, one after another.
use Rattle.std.specs.Prelude.{ℕ, Bool, true, false, cond, ◌||◌, List, [], ◌∷◌, ◌++◌, Some, None, Option, fold, ◌==◌}
use Rattle.std.specs.Option.{option_to_list}
use Rattle.frame.specs.Framing.{flag, escape, escaped_flag, escaped_escape}
use Rattle.frame.specs.declared.escaping.Escaping.{Escaping}
use Rattle.frame.specs.declared.escaping.Escaping.TheVariants.{Outside, Pending, Broken}

-- where the reading stands after one more byte: behind a bad escape nothing counts any more
abbrev pub after : Escaping → ℕ → Escaping
after Outside b = cond (b == escape) Pending Outside
after Pending b = cond (b == escaped_flag || b == escaped_escape) Outside Broken
after Broken b = Broken

-- the byte that this byte stands for, if it stands for one
abbrev pub meant : Escaping → ℕ → Option ℕ
meant Outside b = cond (b == escape) None (Some b)
meant Pending b = cond (b == escaped_flag) (Some flag) (cond (b == escaped_escape) (Some escape) None)
meant Broken b = None

-- a segment that ends here ends in a bad escape, or had one before
abbrev pub in_escape : Escaping → Bool
in_escape Outside = false
in_escape Pending = true
in_escape Broken = true

-- where the reading stands after some bytes
unfoldable pub after_all : Escaping → List ℕ → Escaping
after_all e bs = fold after e bs

-- the bytes that some bytes stand for
unfoldable pub meant_by : Escaping → List ℕ → List ℕ
meant_by e [] = []
meant_by e (b ∷ bs) = option_to_list (meant e b) ++ meant_by (after e b) bs

-- the bytes that a segment stands for, up to its first bad escape
abbrev pub unescaped : List ℕ → List ℕ
unescaped came = meant_by Outside came
