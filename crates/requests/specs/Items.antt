-- Data made of items of equal size: addresses of two bytes, pairs of an address and a value of four bytes, entries of eight bytes.
use Rattle.std.specs.Prelude.{ℕ, ◌/◌, ◌%◌, cond, ◌&&◌, List, length, map, Some, None, Option, ◌==◌, nat_le, slice_index}
use Rattle.std.specs.Simd.{first_chunks}
use Rattle.words.specs.Words.{word16, word32}
use Rattle.device.specs.declared.assignments.Assignment.{Assignment}

-- 1 to `most` items of k bytes each, and no byte left over, where `item` reads the bytes of one
abbrev pub items : {A : Type 0} → ℕ → ℕ → (List ℕ → A) → List ℕ → Option (List A)
items most k item xs =
    cond (length xs % k == 0 && (nat_le 1 (length xs / k) && nat_le (length xs / k) most)) (Some (map item (first_chunks k (length xs / k) xs))) None

-- ---- the item that some bytes are

abbrev pub address_in : List ℕ → ℕ
address_in xs = word16 (slice_index xs 0) (slice_index xs 1)

abbrev pub assignment_in : List ℕ → Assignment
assignment_in xs =
    record { address = address_in xs; value = word32 (slice_index xs 2) (slice_index xs 3) (slice_index xs 4) (slice_index xs 5) }
