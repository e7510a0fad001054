-- A value that a test chooses.
use Rattle.std.proofs.Common.{◌≡◌, Bool, true, false, cond, refl}

pub cond_ap : {X Y : Type 0} (f : X → Y) (b : Bool) (x y : X) → f (cond b x y) ≡ cond b (f x) (f y)
cond_ap f true x y = refl
cond_ap f false x y = refl
