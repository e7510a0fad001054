-- A line ends in its line feed.
use Rattle.std.proofs.Common.{◌≡◌, ℕ, ◌+◌, ◌-◌, ◌<◌, ◌≤◌, List, [], ◌∷◌, ◌++◌, length, get_or, take, sym, ap, ◌∙◌, arith}
use Rattle.std.proofs.lemmas.List.{length_push, take_more, take_all, take_at, get_or_at}
use Rattle.std.proofs.lemmas.Bool.{cond-true, and_from, eq-eqb, le-leb}
use Rattle.bench.specs.Characters.{line_feed}
use Rattle.bench.specs.Limits.{max_line}
use Rattle.bench.specs.Lines.{body_read, line_read}

-- a text with no last byte ends in none
not_empty : (text : List ℕ) → get_or text (length text - 1) 0 ≡ line_feed → 0 < length text
not_empty [] feed = absurd (omega arith)
not_empty (c ∷ more) feed = omega arith

-- the text is its body and the line feed
pub ended : (text : List ℕ) → get_or text (length text - 1) 0 ≡ line_feed → take (length text - 1) text ++ line_feed ∷ [] ≡ text
ended text feed =
    let n = length text - 1 in
    let some = not_empty text feed in
    ap (λ c. take n text ++ c ∷ []) (sym feed) ∙ sym (take_more text n 0 (omega arith)) ∙ take_all (n + 1) text (omega arith)

-- a body with a line feed behind it is read as the body
pub with_feed : (body : List ℕ) → length body ≤ max_line → line_read (body ++ line_feed ∷ []) ≡ body_read body
with_feed body short =
    let n : length (body ++ line_feed ∷ []) - 1 ≡ length body = omega (arith, length_push body line_feed) in
    let last : get_or (body ++ line_feed ∷ []) (length (body ++ line_feed ∷ []) - 1) 0 ≡ line_feed = get_or_at body line_feed [] 0 _ (sym n) in
    cond-true _ _ _ (and_from _ _ (eq-eqb _ line_feed last) (le-leb _ max_line (omega (arith, n)))) ∙ ap body_read (take_at body (line_feed ∷ []) _ (sym n))
