-- What texts tell, one part after another.
use Rattle.std.proofs.Common.{◌≡◌, ℕ, ◌+◌, true, false, List, [], ◌∷◌, ◌++◌, length, map, is_some, is_none, Some, None, Option, sym, refl, ap, ◌∙◌, arith}
use Rattle.std.specs.List.{position_from}
use Rattle.std.specs.Option.{some_prefix}
use Rattle.std.proofs.lemmas.Bool.{true≢false}
use Rattle.std.proofs.lemmas.List.{map-append, length-map}
use Rattle.bench.specs.Lines.{line_read}
use Rattle.session.specs.Obeying.{lines_in, first_bad}

module _ {T : Type 0} where
  -- ---- all are there, and more behind them

  prefix_append : (n : ℕ) (os ps : List (Option T)) → is_some (position_from is_none n os) ≡ false → some_prefix (os ++ ps) ≡ some_prefix os ++ some_prefix ps
  prefix_append n [] ps e = refl
  prefix_append n (None ∷ os) ps e = absurd (true≢false e)
  prefix_append n (Some x ∷ os) ps e = ap (λ (l : List T). x ∷ l) (prefix_append (n + 1) os ps e)

  position_append : (n : ℕ) (os ps : List (Option T)) → is_some (position_from is_none n os) ≡ false → position_from is_none n (os ++ ps) ≡ position_from is_none (n + length os) ps
  position_append n [] ps e = let k : n ≡ n + 0 = omega arith in ap (λ (m : ℕ). position_from is_none m ps) k
  position_append n (None ∷ os) ps e = absurd (true≢false e)
  position_append n (Some x ∷ os) ps e =
      let k : n + 1 + length os ≡ n + length (Some x ∷ os) = omega arith in position_append (n + 1) os ps e ∙ ap (λ (m : ℕ). position_from is_none m ps) k

  -- ---- behind one that is not there nothing counts

  prefix_stop : (n : ℕ) (os ps : List (Option T)) → is_some (position_from is_none n os) ≡ true → some_prefix (os ++ ps) ≡ some_prefix os
  prefix_stop n [] ps e = absurd (true≢false (sym e))
  prefix_stop n (None ∷ os) ps e = refl
  prefix_stop n (Some x ∷ os) ps e = ap (λ (l : List T). x ∷ l) (prefix_stop (n + 1) os ps e)

  position_stop : (n : ℕ) (os ps : List (Option T)) → is_some (position_from is_none n os) ≡ true → position_from is_none n (os ++ ps) ≡ position_from is_none n os
  position_stop n [] ps e = absurd (true≢false (sym e))
  position_stop n (None ∷ os) ps e = refl
  position_stop n (Some x ∷ os) ps e = position_stop (n + 1) os ps e

-- ---- texts that are all lines, and more behind them

pub lines_append : (n : ℕ) (ts us : List (List ℕ)) → is_some (first_bad n ts) ≡ false → lines_in (ts ++ us) ≡ lines_in ts ++ lines_in us
unfolding lines_in first_bad
lines_append n ts us e = ap some_prefix (map-append line_read ts us) ∙ prefix_append n (map line_read ts) (map line_read us) e

pub bad_append : (n : ℕ) (ts us : List (List ℕ)) → is_some (first_bad n ts) ≡ false → first_bad n (ts ++ us) ≡ first_bad (n + length ts) us
unfolding first_bad
bad_append n ts us e =
    ap (position_from is_none n) (map-append line_read ts us) ∙ position_append n (map line_read ts) (map line_read us) e
    ∙ ap (λ (m : ℕ). position_from is_none (n + m) (map line_read us)) (length-map ts line_read)

-- ---- behind a text that is no line nothing counts

pub lines_stop : (n : ℕ) (ts us : List (List ℕ)) → is_some (first_bad n ts) ≡ true → lines_in (ts ++ us) ≡ lines_in ts
unfolding lines_in first_bad
lines_stop n ts us e = ap some_prefix (map-append line_read ts us) ∙ prefix_stop n (map line_read ts) (map line_read us) e

pub bad_stop : (n : ℕ) (ts us : List (List ℕ)) → is_some (first_bad n ts) ≡ true → first_bad n (ts ++ us) ≡ first_bad n ts
unfolding first_bad
bad_stop n ts us e = ap (position_from is_none n) (map-append line_read ts us) ∙ position_stop n (map line_read ts) (map line_read us) e
