-- The order of entries: it is transitive, entries in order are of two subnets, and of two acceptable entries for two subnets one stands
-- before the other.
use Rattle.std.proofs.Common.{◌≡◌, true, false, arith}
use Rattle.std.proofs.lemmas.Bool.Decides.{nat_tests}
use Rattle.routes.specs.Masks.{is_mask}
use Rattle.routes.specs.Order.{same_subnet, before}
use Rattle.routes.specs.declared.route.Route.{Route}
use Rattle.routes.proofs.Masks.{same_mask}

pub before_trans : (a b c : Route) → before a b ≡ true → before b c ≡ true → before a c ≡ true
before_trans a b c p q = grind (arith, nat_tests)

pub before_apart : (a b : Route) → before a b ≡ true → same_subnet a b ≡ false
before_apart a b p = grind (arith, nat_tests)

pub before_other : (a b : Route) → is_mask a.subnet.mask ≡ true → is_mask b.subnet.mask ≡ true → same_subnet a b ≡ false → before a b ≡ false → before b a ≡ true
before_other a b p q s t =
    let same = same_mask a.subnet.mask b.subnet.mask p q in
    grind (arith, nat_tests)
