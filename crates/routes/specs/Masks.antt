-- A mask is a byte of ones followed by zeros: read from the lowest bit on, zeros and then ones.
use Rattle.std.specs.Prelude.{◌≡◌, ℕ, zero, suc, ◌-◌, ◌/◌, ◌%◌, Bool, true, ◌&&◌, List, [], ◌∷◌, drop, ◌==◌, count_ones, nat_lt}
use Rattle.std.specs.List.{list_all, count_by, prefix_len, range_with_len}
use Rattle.std.specs.Int.Count.{count_leading_zeros}

-- the lowest bits of a number, so many of them, lowest first
unfoldable pub bits : ℕ → ℕ → List ℕ
bits zero n = []
bits (suc k) n = n % 2 ∷ bits k (n / 2)

-- behind the zeros in front there are only ones
unfoldable pub zeros_then_ones : List ℕ → Bool
zeros_then_ones bs = list_all (λ b. b == 1) (drop (prefix_len (λ b. b == 0) bs) bs)

unfoldable pub is_mask : ℕ → Bool
is_mask m = nat_lt m 256 && zeros_then_ones (bits 8 m)

-- all ones of a byte lead it: another form of the same, which the code tests
abbrev pub ones_lead : ℕ → Bool
ones_lead m = count_leading_zeros 8 (255 - m) == count_ones m

-- how many numbers below n pass a test
unfoldable pub count_below : ℕ → (ℕ → Bool) → ℕ
count_below n test = count_by test (range_with_len 0 n)

-- of the 256 bytes nine are masks, and 0 and 255 are among them
pub record NineMasks : Type 0 where
  pub nine : count_below 256 is_mask ≡ 9
  pub none : is_mask 0 ≡ true
  pub all : is_mask 255 ≡ true
