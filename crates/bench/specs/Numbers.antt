-- Numbers of 32 bits are read in base ten, with no needless zero in front.
use Rattle.std.specs.Prelude.{ℕ, ◌^◌, Bool, true, false, cond, not, ◌&&◌, List, [], ◌∷◌, Some, None, Option, ◌==◌, nat_lt}
use Rattle.std.specs.Str.Parse.{digits_value}
use Rattle.std.specs.Str.{all_ascii_digits}
use Rattle.bench.specs.Characters.{digit_zero}

-- there is a digit, and where there are more, the first is not zero
abbrev pub unpadded : List ℕ → Bool
unpadded [] = false
unpadded (d ∷ []) = true
unpadded (d ∷ e ∷ more) = not (d == digit_zero)

-- the number that characters write, if they write one
abbrev pub number_read : List ℕ → Option ℕ
number_read ds = cond (all_ascii_digits ds && (unpadded ds && nat_lt (digits_value 10 ds) (2 ^ 32))) (Some (digits_value 10 ds)) None
