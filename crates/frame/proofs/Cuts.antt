-- Segments, one part of what came after another.
use Rattle.std.proofs.Common.{◌≡◌, eqb, List, [], ◌∷◌, ◌++◌, refl, ap, ⊎_elim}
use Rattle.std.proofs.lemmas.Bool.{cases_Bool}
use Rattle.frame.specs.Framing.{flag}
use Rattle.frame.specs.Segment.{Segment, no_bytes, with_byte, with_fault}
use Rattle.frame.specs.Arrivals.{Arrival, closed, left_open}
use Rattle.frame.specs.Arrivals.Arrival.{byte, fault}

pub left_open_append : (s : Segment) (xs ys : List Arrival) → left_open s (xs ++ ys) ≡ left_open (left_open s xs) ys
unfolding left_open
left_open_append s [] ys = refl
left_open_append s (byte b ∷ xs) ys =
    ⊎_elim (λ e. rw e (left_open_append no_bytes xs ys)) (λ e. rw e (left_open_append (with_byte s b) xs ys)) (cases_Bool (eqb b flag))
left_open_append s (fault ∷ xs) ys = left_open_append (with_fault s) xs ys

pub closed_append : (s : Segment) (xs ys : List Arrival) → closed s (xs ++ ys) ≡ closed s xs ++ closed (left_open s xs) ys
unfolding left_open closed
closed_append s [] ys = refl
closed_append s (byte b ∷ xs) ys =
    ⊎_elim
    (λ e. rw e (ap (λ (l : List Segment). s ∷ l) (closed_append no_bytes xs ys)))
    (λ e. rw e (closed_append (with_byte s b) xs ys))
    (cases_Bool (eqb b flag))
closed_append s (fault ∷ xs) ys = closed_append (with_fault s) xs ys
