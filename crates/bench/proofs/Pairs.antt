-- Reading pairs one after another.
use Rattle.std.proofs.Common.{◌≡◌, ℕ, suc, zero, ◌*◌, ◌/◌, ◌%◌, ◌<◌, eqb, List, [], ◌∷◌, ◌++◌, length, Some, None, Option, sym, refl, ap, ◌∙◌, subst, arith}
use Rattle.std.specs.List.{AllByRecursion}
use Rattle.std.specs.Option.{option_map}
use Rattle.std.specs.Simd.{first_chunks}
use Rattle.std.proofs.lemmas.Bool.{eqb-true}
use Rattle.std.proofs.lemmas.Option.{same_Some, none-some}
use Rattle.bench.specs.Characters.{space}
use Rattle.bench.specs.Hex.{spaced_pairs, pair_value, spaced_value, both, pairs_read}
use Rattle.bench.specs.Lines.{bytes, some_bytes, bytes_read}
use Rattle.bench.proofs.Options.{passed, both_some}
use Rattle.bench.proofs.HexPairs.{pair_exact, pair_back}

abbrev prepended : ℕ → List ℕ → List ℕ
prepended b bs = b ∷ bs

-- ---- row by row, where a row is a space and two characters

abbrev pub rows_read : List (List ℕ) → Option (List ℕ)
rows_read [] = Some []
rows_read (row ∷ rows) = both prepended (spaced_value row) (rows_read rows)

-- the rows of a text are read as the text
pub rows_are : (k : ℕ) (xs : List ℕ) → length xs ≡ k * 3 → rows_read (first_chunks 3 k xs) ≡ pairs_read xs
unfolding pairs_read
rows_are zero [] whole = refl
rows_are zero (s ∷ xs) whole = absurd (omega arith)
rows_are (suc k) [] whole = absurd (omega arith)
rows_are (suc k) (s ∷ []) whole = absurd (omega arith)
rows_are (suc k) (s ∷ high ∷ []) whole = absurd (omega arith)
rows_are (suc k) (s ∷ high ∷ low ∷ more) whole =
    ap (both prepended (spaced_value (s ∷ high ∷ low ∷ []))) (rows_are k more (omega arith))

-- a text with no row, or with some characters behind its rows, has no bytes
pub no_row : (xs : List ℕ) → length xs / 3 ≡ 0 → bytes_read xs ≡ None
unfolding pairs_read
no_row [] none = refl
no_row (s ∷ []) none = refl
no_row (s ∷ high ∷ []) none = refl
no_row (s ∷ high ∷ low ∷ more) none = absurd (omega arith)

pub not_whole : (xs : List ℕ) → 0 < length xs % 3 → pairs_read xs ≡ None
unfolding pairs_read
not_whole [] some = absurd (omega arith)
not_whole (s ∷ []) some = refl
not_whole (s ∷ high ∷ []) some = refl
not_whole (s ∷ high ∷ low ∷ more) some =
    ap (both prepended (spaced_value (s ∷ high ∷ low ∷ []))) (not_whole more (omega arith)) ∙ both_none (spaced_value (s ∷ high ∷ low ∷ []))
  where
    both_none : (o : Option ℕ) → both prepended o None ≡ None
    both_none None = refl
    both_none (Some b) = refl

pub no_row_read : (row : List ℕ) (rows : List (List ℕ)) → spaced_value row ≡ None → rows_read (row ∷ rows) ≡ None
no_row_read row rows is = ap (λ o. both prepended o (rows_read rows)) is

-- bytes that were read, and those that are to come
abbrev pub prefixed : List ℕ → Option (List ℕ) → Option (List ℕ)
prefixed front o = option_map (λ bs. front ++ bs) o

pub at_least_one : (bs : List ℕ) → 0 < length bs → some_bytes (Some bs) ≡ Some (bytes bs)
at_least_one [] some = absurd (omega arith)
at_least_one (b ∷ bs) some = refl

-- ---- what is read is what is written

pub pairs_exact : (xs bs : List ℕ) → pairs_read xs ≡ Some bs → AllByRecursion (λ b. b < 256) bs × (spaced_pairs bs ≡ xs)
unfolding pairs_read
pairs_exact [] bs e = let same = same_Some [] bs e in (subst (AllByRecursion (λ b. b < 256)) same tt, ap spaced_pairs (sym same))
pairs_exact (s ∷ []) bs e = absurd (none-some bs e)
pairs_exact (s ∷ high ∷ []) bs e = absurd (none-some bs e)
pairs_exact (s ∷ high ∷ low ∷ more) bs e =
    let q = both_some prepended (spaced_value (s ∷ high ∷ low ∷ [])) (pairs_read more) bs e in
    let p = passed (eqb s space) (pair_value high low) q.0 q.2 in
    let first = pair_exact high low q.0 p.1 in
    let later = pairs_exact more q.1 q.3 in
    let spaced = sym (eqb-true s space p.0) in (
      subst (AllByRecursion (λ b. b < 256)) q.4 (first.0, later.0),
      ap spaced_pairs (sym q.4) ∙ (λ i. spaced i ∷ (first.1 i ++ later.1 i)),
    )

pub pairs_back : (bs : List ℕ) → AllByRecursion (λ b. b < 256) bs → pairs_read (spaced_pairs bs) ≡ Some bs
unfolding pairs_read
pairs_back [] small = refl
pairs_back (b ∷ bs) small = λ i. both prepended (pair_back b small.0 i) (pairs_back bs small.1 i)
