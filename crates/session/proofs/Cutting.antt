-- Texts of an input, one part of it after another.
use Rattle.std.proofs.Common.{◌≡◌, ℕ, ◌+◌, ◌≤◌, List, [], ◌∷◌, ◌++◌, length, refl, ap, ⊎_elim, arith}
use Rattle.std.proofs.lemmas.List.{length_push}
use Rattle.std.proofs.lemmas.Bool.{cases_Bool}
use Rattle.session.specs.Texts.{ends_text, cut, uncut}

pub uncut_append : (t xs ys : List ℕ) → uncut t (xs ++ ys) ≡ uncut (uncut t xs) ys
unfolding uncut
uncut_append t [] ys = refl
uncut_append t (b ∷ xs) ys =
    ⊎_elim (λ e. rw e (uncut_append [] xs ys)) (λ e. rw e (uncut_append (t ++ b ∷ []) xs ys)) (cases_Bool (ends_text (length t) b))

pub cut_append : (t xs ys : List ℕ) → cut t (xs ++ ys) ≡ cut t xs ++ cut (uncut t xs) ys
unfolding cut uncut
cut_append t [] ys = refl
cut_append t (b ∷ xs) ys =
    ⊎_elim
    (λ e. rw e (ap (λ (l : List (List ℕ)). (t ++ b ∷ []) ∷ l) (cut_append [] xs ys)))
    (λ e. rw e (cut_append (t ++ b ∷ []) xs ys))
    (cases_Bool (ends_text (length t) b))

-- each text is ended by a byte
pub cut_few : (t xs : List ℕ) → length (cut t xs) ≤ length xs
unfolding cut
cut_few t [] = omega arith
cut_few t (b ∷ xs) =
    ⊎_elim (λ e. rw e (let h = cut_few [] xs in omega arith)) (λ e. rw e (let h = cut_few (t ++ b ∷ []) xs in omega arith)) (cases_Bool (ends_text (length t) b))

-- and what is left has bytes of its own
pub few_texts : (t xs : List ℕ) → length (cut t xs) + length (uncut t xs) ≤ length t + length xs
unfolding cut uncut
few_texts t [] = omega arith
few_texts t (b ∷ xs) =
    ⊎_elim
    (λ e. rw e (let h = few_texts [] xs in omega arith))
    (λ e. rw e (let h = few_texts (t ++ b ∷ []) xs in omega (arith, length_push t b)))
    (cases_Bool (ends_text (length t) b))
