-- Lists that are made from numbers.
use Rattle.std.proofs.Common.{◌≡◌, ℕ, zero, suc, ◌+◌, ◌<◌, ◌≤◌, ◌∷◌, map, length, Some, None, refl, ap, ◌∙◌, arith}
use Rattle.std.specs.List.{slice_get, All, range_with_len}
use Rattle.std.proofs.lemmas.List.Elements.{All-nil, All-cons}
use Rattle.std.proofs.lemmas.List.FromFn.{length-map-range_with_len, get_or-map-range_with_len}
use Rattle.std.proofs.lemmas.Simd.{map-map}
use Rattle.std.proofs.lemmas.Option.{slice_get-get_or, slice_get_past}
use Rattle.device.specs.Places.{numbered, map_at}

-- P holds of each of the n numbers from a on
abbrev pub Each : ℕ → ℕ → (ℕ → Type 0) → Type 0
Each a n P = (i : ℕ) → a ≤ i → i < a + n → P i

-- by rules that agree
pub numbered_same : {X : Type 0} (a n : ℕ) (f g : ℕ → X) → Each a n (λ i. f i ≡ g i) → numbered a n f ≡ numbered a n g
numbered_same a zero f g h = refl
numbered_same a (suc n) f g h =
    λ j. h a (omega arith) (omega arith) j ∷ numbered_same (a + 1) n f g (λ i l b. h i (omega arith) (omega arith)) j

-- changed element by element
pub map_numbered : {X Y : Type 0} (r : X → Y) (a n : ℕ) (f : ℕ → X) (g : ℕ → Y) → Each a n (λ i. r (f i) ≡ g i) → map r (numbered a n f) ≡ numbered a n g
map_numbered r a n f g h = map-map r f (range_with_len a n) ∙ numbered_same a n (λ i. r (f i)) g h

-- changed place by place
pub map_at_numbered : {X : Type 0} (r : ℕ → X → X) (a n : ℕ) (f g : ℕ → X) → Each a n (λ i. r i (f i) ≡ g i) → map_at a r (numbered a n f) ≡ numbered a n g
map_at_numbered r a zero f g h = refl
map_at_numbered r a (suc n) f g h =
    λ j. h a (omega arith) (omega arith) j ∷ map_at_numbered r (a + 1) n f g (λ i l b. h i (omega arith) (omega arith)) j

pub all_numbered : {X : Type 0} (P : X → Type 0) (a n : ℕ) (f : ℕ → X) → Each a n (λ i. P (f i)) → All P (numbered a n f)
all_numbered P a zero f h = All-nil P
all_numbered P a (suc n) f h =
    All-cons P (f a) (numbered (a + 1) n f) (h a (omega arith) (omega arith)) (all_numbered P (a + 1) n f (λ i l b. h i (omega arith) (omega arith)))

-- element i, which is made from j
pub nth_numbered : {X : Type 0} (a n : ℕ) (f : ℕ → X) (i j : ℕ) → i < n → a + i ≡ j → slice_get (numbered a n f) i ≡ Some (f j)
nth_numbered a n f i j h e =
    let inside : i < length (numbered a n f) = simp length-map-range_with_len h in
    slice_get-get_or (numbered a n f) i (f j) inside ∙ ap Some (get_or-map-range_with_len f a n i j (f j) h e)

-- no element past the end
pub nth_numbered_past : {X : Type 0} (a n : ℕ) (f : ℕ → X) (i : ℕ) → n ≤ i → slice_get (numbered a n f) i ≡ None
nth_numbered_past a n f i h = slice_get_past (numbered a n f) i (simp length-map-range_with_len h)
