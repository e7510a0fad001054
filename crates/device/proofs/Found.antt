-- Variables by address.
use Rattle.std.proofs.Common.{◌≡◌, ℕ, zero, suc, ◌+◌, ◌<◌, ◌≤◌, Bool, false, cond, ◌&&◌, ltb, leb, List, [], ◌∷◌, map, Some, None, Option, sym, refl, ap, ◌∙◌, ⊎_elim, arith}
use Rattle.std.specs.List.{find}
use Rattle.std.specs.Option.{option_map}
use Rattle.std.proofs.lemmas.Bool.{eq-eqb, ne_eqb, lt-ltb, le-ltb, le-leb, lt-leb, cond-true, cond-false, and_from, and_left, and_right, cases_lt}
use Rattle.device.specs.Places.{numbered}
use Rattle.device.specs.Meaning.{Variable}
use Rattle.device.specs.Lookup.{is_at, there}
use Rattle.device.proofs.Choices.{cond_ap}

-- after a change that the test does not see
pub find_map : {X : Type 0} (test : X → Bool) (f : X → X) → ((x : X) → test (f x) ≡ test x) → (xs : List X) → find test (map f xs) ≡ option_map f (find test xs)
find_map test f keeps [] = refl
find_map test f keeps (x ∷ xs) =
    (λ i. cond (keeps x i) (Some (f x)) (find_map test f keeps xs i)) ∙ sym (cond_ap (option_map f) (test x) (Some x) (find test xs))

pub there_mapped : {X : Type 0} (test : X → Bool) (f : X → X) (o : Option X) → there test (option_map f o) ≡ there (λ x. test (f x)) o
there_mapped test f None = refl
there_mapped test f (Some x) = refl

-- ---- variables that are made from their addresses

module _ (f : ℕ → Variable) (at : (i : ℕ) → (f i).address ≡ i) where
  elsewhere : (a x : ℕ) → (a ≡ x → ⊥) → is_at x (f a) ≡ false
  elsewhere a x ne = ne_eqb _ _ (λ e. ne (sym (at a) ∙ e))

  find_inside : (a n x : ℕ) → a ≤ x → x < a + n → find (is_at x) (numbered a n f) ≡ Some (f x)
  find_inside a zero x l h = absurd (omega arith)
  find_inside a (suc n) x l h =
      ⊎_elim
      (λ b. cond-false _ _ _ (elsewhere a x (λ e. omega arith)) ∙ find_inside (a + 1) n x (omega arith) (omega arith))
      (λ b. let here : a ≡ x = omega arith in cond-true _ _ _ (eq-eqb _ _ (at a ∙ here)) ∙ ap (λ i. Some (f i)) here)
      (cases_lt a x)

  find_outside : (a n x : ℕ) → (a ≤ x → a + n ≤ x) → find (is_at x) (numbered a n f) ≡ None
  find_outside a zero x h = refl
  find_outside a (suc n) x h =
      cond-false _ _ _ (elsewhere a x (λ e. omega (arith, h (omega arith))))
      ∙ find_outside (a + 1) n x (λ l. omega (arith, h (omega arith)))

  abbrev found : ℕ → ℕ → ℕ → Option Variable
  found a n x = cond (leb a x && ltb x (a + n)) (Some (f x)) None

  pub find_numbered : (a n x : ℕ) → find (is_at x) (numbered a n f) ≡ found a n x
  find_numbered a n x = ⊎_elim below (λ l. ⊎_elim (inside l) above (cases_lt x (a + n))) (cases_lt x a)
    where
      below : x < a → find (is_at x) (numbered a n f) ≡ found a n x
      below l = find_outside a n x (λ b. omega arith) ∙ sym (cond-false _ _ _ (and_left _ _ (lt-leb a x l)))

      inside : a ≤ x → x < a + n → find (is_at x) (numbered a n f) ≡ found a n x
      inside l h = find_inside a n x l h ∙ sym (cond-true _ _ _ (and_from _ _ (le-leb a x l) (lt-ltb x (a + n) h)))

      above : a + n ≤ x → find (is_at x) (numbered a n f) ≡ found a n x
      above h = find_outside a n x (λ b. h) ∙ sym (cond-false _ _ _ (and_right (leb a x) _ (le-ltb x (a + n) h)))
