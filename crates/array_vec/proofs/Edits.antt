-- The items in use after a change of the array that holds them.
use Rattle.std.proofs.Common.{◌≡◌, ℕ, zero, suc, ◌+◌, ◌-◌, ◌<◌, ◌≤◌, List, [], ◌∷◌, ◌++◌, length, get_or, take, drop, set, sym, refl, ap, ◌∙◌, add-one, append_assoc, arith, length-append, length-drop}
use borrow.Rule.Slice.PartMut.{put_mid}
use Rattle.std.specs.List.{insert, remove, between}
use Rattle.std.proofs.lemmas.List.{take_at, drop_at, take-take, take-append-le, drop-append-le, drop_more, length-take-le}
use Rattle.std.proofs.lemmas.List.Edits.{length-between}
use Rattle.std.proofs.lemmas.Slice.{between_is, take-put_mid}

-- one item set, with others behind
pub take_set : {R : Type 0} (n : ℕ) (xs : List R) (i : ℕ) (y : R) → take n (set xs i y) ≡ set (take n xs) i y
take_set zero xs i y = refl
take_set (suc n) [] i y = refl
take_set (suc n) (x ∷ xs) zero y = refl
take_set (suc n) (x ∷ xs) (suc i) y = ap (λ zs. x ∷ zs) (take_set n xs i y)

-- a list whose last item is brought to the front
last_first : {R : Type 0} (m : List R) (x : R) → drop (length (m ++ x ∷ []) - 1) (m ++ x ∷ []) ++ take (length (m ++ x ∷ []) - 1) (m ++ x ∷ []) ≡ x ∷ m
last_first m x =
    let n : length m ≡ length (m ++ x ∷ []) - 1 = omega (arith, length-append m (x ∷ [])) in
    rw (drop_at m (x ∷ []) (length (m ++ x ∷ []) - 1) n, take_at m (x ∷ []) (length (m ++ x ∷ []) - 1) n)

-- the part from a place up to the end of those in use was turned by one
module _ {R : Type 0} (xs : List R) (at n : ℕ) (within : at < n) (room : n ≤ length xs) where
  abbrev part : List R
  part = between at n xs

  part_size : length part ≡ n - at
  part_size = length-between xs at n room

  -- the last item is now the first of the part
  pub inserted : (was ys : List R) (x : R) → take n xs ≡ was ++ x ∷ [] → length ys ≡ length part
      → ys ≡ drop (length part - 1) part ++ take (length part - 1) part → take n (put_mid at (n - at) xs ys) ≡ insert was at x
  inserted was ys x e long turned =
      let size : n ≡ length was + 1 = sym (length-take-le n xs room) ∙ ap length e ∙ length-append was (x ∷ []) in
      let is : part ≡ drop at was ++ x ∷ [] = between_is xs at n ∙ ap (drop at) e ∙ drop-append-le at was (x ∷ []) (omega arith) in
      let ys_is : ys ≡ x ∷ drop at was = turned ∙ ap (λ (p : List R). drop (length p - 1) p ++ take (length p - 1) p) is ∙ last_first (drop at was) x in
      let front : take at xs ≡ take at was = sym (take-take at n xs (omega arith)) ∙ ap (take at) e ∙ take-append-le at was (x ∷ []) (omega arith) in
      take-put_mid at (n - at) xs ys n (omega (arith, part_size)) (omega arith) ∙ (λ i. front i ++ ys_is i)

  -- the first item of the part is now the last of those in use, and not counted any more
  pub removed : (ys : List R) (d : R) → length ys ≡ length part → ys ≡ drop 1 part ++ take 1 part → take (n - 1) (put_mid at (n - at) xs ys) ≡ remove (take n xs) at
  removed ys d long turned =
      let size : length (take n xs) ≡ n = length-take-le n xs room in
      let rest : List R = drop (suc at) (take n xs) in
      let is : part ≡ get_or (take n xs) at d ∷ rest = between_is xs at n ∙ drop_more (take n xs) at d (omega arith) ∙ ap (λ (k : ℕ). get_or (take n xs) at d ∷ drop k (take n xs)) (add-one at) in
      let ys_is : ys ≡ rest ++ get_or (take n xs) at d ∷ [] = turned ∙ ap (λ (p : List R). drop 1 p ++ take 1 p) is in
      let front : take at xs ≡ take at (take n xs) = sym (take-take at n xs (omega arith)) in
      let all : take n (put_mid at (n - at) xs ys) ≡ (take at (take n xs) ++ rest) ++ get_or (take n xs) at d ∷ [] =
      take-put_mid at (n - at) xs ys n (omega (arith, part_size)) (omega arith) ∙ (λ i. front i ++ ys_is i)
      ∙ sym (append_assoc (take at (take n xs)) rest (get_or (take n xs) at d ∷ [])) in
      let front_size : length (take at (take n xs)) ≡ at = length-take-le at (take n xs) (omega arith) in
      sym (take-take (n - 1) n (put_mid at (n - at) xs ys) (omega arith)) ∙ ap (take (n - 1)) all
      ∙ take_at (take at (take n xs) ++ rest) (get_or (take n xs) at d ∷ []) (n - 1)
      (omega (arith, length-append (take at (take n xs)) rest, length-drop (suc at) (take n xs)))
