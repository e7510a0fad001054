-- A byte is written as two hexadecimal digits, the high one first. The digits are 0 to 9 (48 to 57) and A to F (65 to 70), in
-- upper case alone. In a row of bytes a space stands before each pair.
use Rattle.std.specs.Prelude.{ℕ, ◌+◌, ◌-◌, ◌*◌, ◌/◌, ◌%◌, cond, List, [], ◌∷◌, Some, None, Option, ◌==◌, nat_lt}
use Rattle.std.specs.List.{flat_map}
use Rattle.std.specs.Int.{is_in_range}
use Rattle.bench.specs.Characters.{space}

-- ---- writing

-- the character that writes a digit below 16
abbrev pub hex_digit : ℕ → ℕ
hex_digit n = cond (nat_lt n 10) (48 + n) (55 + n)

abbrev pub hex_pair : ℕ → List ℕ
hex_pair b = hex_digit (b / 16) ∷ hex_digit (b % 16) ∷ []

abbrev pub spaced_pair : ℕ → List ℕ
spaced_pair b = space ∷ hex_pair b

abbrev pub spaced_pairs : List ℕ → List ℕ
spaced_pairs bs = flat_map spaced_pair bs

-- ---- reading: what characters write, if they write something

abbrev pub hex_value : ℕ → Option ℕ
hex_value c = cond (is_in_range 48 57 c) (Some (c - 48)) (cond (is_in_range 65 70 c) (Some (c - 55)) None)

-- where two readings write something, this of both
abbrev pub both : {X Y Z : Type 0} → (X → Y → Z) → Option X → Option Y → Option Z
both f (Some x) (Some y) = Some (f x y)
both f (Some x) None = None
both f None o = None

abbrev pub pair_value : ℕ → ℕ → Option ℕ
pair_value high low = both (λ h l. 16 * h + l) (hex_value high) (hex_value low)

-- the byte that a space and two characters write
abbrev pub spaced_value : List ℕ → Option ℕ
spaced_value (s ∷ high ∷ low ∷ []) = cond (s == space) (pair_value high low) None
spaced_value other = None

-- the bytes of a row
unfoldable pub pairs_read : List ℕ → Option (List ℕ)
pairs_read [] = Some []
pairs_read (s ∷ []) = None
pairs_read (s ∷ high ∷ []) = None
pairs_read (s ∷ high ∷ low ∷ more) = both (λ b bs. b ∷ bs) (spaced_value (s ∷ high ∷ low ∷ [])) (pairs_read more)
