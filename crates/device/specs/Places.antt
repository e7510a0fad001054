-- Lists by places: made from numbers, and changed place by place.
use Rattle.std.specs.Prelude.{ℕ, List, map}
use Rattle.std.specs.List.{range_with_len, enumerate_from}

-- what f makes of each of the n numbers from a on
abbrev pub numbered : {X : Type 0} → ℕ → ℕ → (ℕ → X) → List X
numbered a n f = map f (range_with_len a n)

-- each element changed by a rule that sees its place, the first one's being k
abbrev pub map_at : {X : Type 0} → ℕ → (ℕ → X → X) → List X → List X
map_at k f xs = map (λ p. f p.0 p.1) (enumerate_from k xs)
