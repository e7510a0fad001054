-- An input is cut into texts: behind each line feed, and behind a byte with which a text is longer than a line may be before its
-- line feed. So an over-long line is never held whole; its first part is no line already.
use Rattle.std.specs.Prelude.{ℕ, ◌+◌, Bool, cond, ◌||◌, List, [], ◌∷◌, ◌++◌, length, ◌==◌, nat_lt}
use Rattle.bench.specs.Characters.{line_feed}
use Rattle.bench.specs.Limits.{max_line}

-- a text of n bytes ends with the byte b behind them
abbrev pub ends_text : ℕ → ℕ → Bool
ends_text n b = b == line_feed || nat_lt max_line (n + 1)

-- the texts that an input ends, where the bytes `t` of a text stand before it
unfoldable pub cut : List ℕ → List ℕ → List (List ℕ)
cut t [] = []
cut t (b ∷ more) = cond (ends_text (length t) b) ((t ++ b ∷ []) ∷ cut [] more) (cut (t ++ b ∷ []) more)

-- what it leaves of a text that is not ended
unfoldable pub uncut : List ℕ → List ℕ → List ℕ
uncut t [] = t
uncut t (b ∷ more) = cond (ends_text (length t) b) (uncut [] more) (uncut (t ++ b ∷ []) more)

-- at the end of the input, what is left is a text too
abbrev pub last_text : List ℕ → List (List ℕ)
last_text [] = []
last_text (b ∷ bs) = (b ∷ bs) ∷ []

abbrev pub texts : List ℕ → List (List ℕ)
texts input = cut [] input ++ last_text (uncut [] input)
