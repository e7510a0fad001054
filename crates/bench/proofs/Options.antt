-- What can be said where something came of a reading.
use Rattle.std.proofs.Common.{◌≡◌, Bool, true, false, cond, Some, None, Option, refl}
use Rattle.std.specs.Option.{option_map}
use Rattle.std.proofs.lemmas.Option.{same_Some, none-some}
use Rattle.bench.specs.Hex.{both}

module _ {X : Type 0} where
  -- it came one way or the other
  pub either : {Q : Type 0} (b : Bool) (o p : Option X) (x : X) → (b ≡ true → o ≡ Some x → Q) → (p ≡ Some x → Q) → cond b o p ≡ Some x → Q
  either true o p x f g e = f refl e
  either false o p x f g e = g e

  -- it came behind a test, so the test held
  pub passed : (b : Bool) (o : Option X) (x : X) → cond b o None ≡ Some x → (b ≡ true) × (o ≡ Some x)
  passed b o x = either b o None x (λ is e. (is, e)) (λ e. absurd (none-some x e))

  -- nothing came behind a test that failed
  pub failed : (b : Bool) (o : Option X) → (b ≡ true → ⊥) → cond b o None ≡ None
  failed true o held = absurd (held refl)
  failed false o held = refl

pub mapped_some : {X Y : Type 0} (f : X → Y) (o : Option X) (y : Y) → option_map f o ≡ Some y → (x : X) × (o ≡ Some x) × (f x ≡ y)
mapped_some f None y e = absurd (none-some y e)
mapped_some f (Some x) y e = (x, refl, same_Some (f x) y e)

pub both_some : {X Y Z : Type 0} (f : X → Y → Z) (o : Option X) (p : Option Y) (z : Z) → both f o p ≡ Some z
    → (x : X) × (y : Y) × (o ≡ Some x) × (p ≡ Some y) × (f x y ≡ z)
both_some f None p z e = absurd (none-some z e)
both_some f (Some x) None z e = absurd (none-some z e)
both_some f (Some x) (Some y) z e = (x, y, refl, refl, same_Some (f x y) z e)
