-- The first cause that applies, or none.
use Rattle.std.proofs.Common.{◌≡◌, Bool, true, false, cond, List, [], ◌∷◌, Ok, Err, Result, refl}
use Rattle.packet.specs.Causes.{first_cause}
use Rattle.packet.specs.declared.causes.DropCause.{DropCause}

-- one cause that did not apply
pub past : {A : Type 0} (t : Bool) (cause : DropCause) (v : Result A DropCause) (a : A) → cond t (Err cause) v ≡ Ok a → (t ≡ false) × (v ≡ Ok a)
past true cause v a e = absurd (cc e)
past false cause v a e = (refl, e)

-- causes of which one applied drop whatever the verdict would have been
pub dropped_anyway : {A : Type 0} (ts : List (Bool × DropCause)) (v w : Result A DropCause) (cause : DropCause) (a : A) → v ≡ Ok a
    → first_cause ts v ≡ Err cause → first_cause ts w ≡ Err cause
dropped_anyway [] v w cause a is e = absurd (cc (is, e))
dropped_anyway ((true, c) ∷ ts) v w cause a is e = e
dropped_anyway ((false, c) ∷ ts) v w cause a is e = dropped_anyway ts v w cause a is e

-- and causes of which none did leave it as it is
pub none_applied : {A : Type 0} (ts : List (Bool × DropCause)) (v w : Result A DropCause) (a : A) → first_cause ts v ≡ Ok a
    → (v ≡ Ok a) × (first_cause ts w ≡ w)
none_applied [] v w a e = (e, refl)
none_applied ((true, c) ∷ ts) v w a e = absurd (cc e)
none_applied ((false, c) ∷ ts) v w a e = none_applied ts v w a e
