-- Bytes by memory and offset.
use Rattle.std.proofs.Common.{◌≡◌, ℕ, zero, suc, ◌+◌, ◌<◌, List, [], ◌∷◌, ◌++◌, length, get_or, Some, sym, refl, ap, ◌∙◌, arith}
use Rattle.std.specs.List.{slice_get, All}
use Rattle.std.specs.Option.{option_map}
use Rattle.std.proofs.lemmas.List.Elements.{All-nil, All-from_recursion}
use Rattle.device.specs.Places.{map_at}
use Rattle.device.specs.Meaning.{Meaning, Cell}
use Rattle.device.specs.Lookup.{cell_at}
use Rattle.device.specs.Changes.{each_byte}
use Rattle.device.specs.Laws.{MemoryFits, CellFits}

-- a memory with no bytes
pub no_bytes : MemoryFits []
no_bytes = record { size = omega arith; each = All-nil CellFits }

pub all_four : {a b c d : List Cell} → MemoryFits a → MemoryFits b → MemoryFits c → MemoryFits d → All MemoryFits (a ∷ b ∷ c ∷ d ∷ [])
all_four {a} {b} {c} {d} fa fb fc fd = All-from_recursion MemoryFits (a ∷ b ∷ c ∷ d ∷ []) (fa, (fb, (fc, (fd, tt))))

-- ---- lists of two parts

module _ {X : Type 0} where
  pub nth_front : (xs ys : List X) (i : ℕ) → i < length xs → slice_get (xs ++ ys) i ≡ slice_get xs i
  nth_front [] ys i h = absurd (omega arith)
  nth_front (x ∷ xs) ys zero h = refl
  nth_front (x ∷ xs) ys (suc i) h = nth_front xs ys i (omega arith)

  -- element i, which is element j of the second part
  pub nth_back : (xs ys : List X) (i j : ℕ) → length xs + j ≡ i → slice_get (xs ++ ys) i ≡ slice_get ys j
  nth_back [] ys i j e = let z : i ≡ j = omega arith in ap (slice_get ys) z
  nth_back (x ∷ xs) ys zero j e = absurd (omega arith)
  nth_back (x ∷ xs) ys (suc i) j e = nth_back xs ys i j (omega arith)

  pub map_at_append : (r : ℕ → X → X) (k n : ℕ) (xs ys : List X) → k + length xs ≡ n → map_at k r (xs ++ ys) ≡ map_at k r xs ++ map_at n r ys
  map_at_append r k n [] ys e = let z : k ≡ n = omega arith in ap (λ j. map_at j r ys) z
  map_at_append r k n (x ∷ xs) ys e = ap (λ zs. r k x ∷ zs) (map_at_append r (k + 1) n xs ys (omega arith))

  -- ---- the byte that is found after a change

  nth_map_at : (r : ℕ → X → X) (k : ℕ) (xs : List X) (i j : ℕ) → k + i ≡ j → slice_get (map_at k r xs) i ≡ option_map (r j) (slice_get xs i)
  nth_map_at r k [] i j e = refl
  nth_map_at r k (x ∷ xs) zero j e = let z : k ≡ j = omega arith in ap (λ l. Some (r l x)) z
  nth_map_at r k (x ∷ xs) (suc i) j e = nth_map_at r (k + 1) xs i j (omega arith)

memory_at : (r : ℕ → List Cell → List Cell) → ((n : ℕ) → r n [] ≡ []) → (k : ℕ) (ms : List (List Cell)) (i j : ℕ) → k + i ≡ j → get_or (map_at k r ms) i [] ≡ r j (get_or ms i [])
memory_at r none k [] i j e = sym (none j)
memory_at r none k (m ∷ ms) zero j e = let z : k ≡ j = omega arith in ap (λ l. r l m) z
memory_at r none k (m ∷ ms) (suc i) j e = memory_at r none (k + 1) ms i j (omega arith)

pub cell_each : (f : ℕ → ℕ → Cell → Cell) (m : Meaning) (n i : ℕ) → cell_at (each_byte f m) n i ≡ option_map (f n i) (cell_at m n i)
cell_each f m n i =
    ap (λ cells. slice_get cells i) (memory_at (λ o cells. map_at 0 (f o) cells) (λ o. refl) 0 m.memories n n (omega arith))
    ∙ nth_map_at (f n) 0 (get_or m.memories n []) i i (omega arith)
