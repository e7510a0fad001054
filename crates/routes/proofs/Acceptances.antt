-- What an acceptable entry is made of, and which changes of it are acceptable too.
use Rattle.std.proofs.Common.{◌≡◌, ℕ, ◌≤◌, Bool, true, ◌&&◌, eqb, leb, Some, refl, arith}
use lib.Bits.{bit_and}
use Rattle.std.proofs.lemmas.Bool.{and_parts, and_from, leb-true, le-leb}
use Rattle.std.proofs.lemmas.Bool.Decides.{nat_tests}
use Rattle.routes.specs.Limits.{max_life}
use Rattle.routes.specs.Masks.{bits, zeros_then_ones, is_mask}
use Rattle.routes.specs.Acceptable.{is_port, acceptable}
use Rattle.routes.specs.Ageing.{life_left, with_life}
use Rattle.routes.specs.Start.{start_route}
use Rattle.routes.specs.declared.route.Route.{Route}

-- the network has no bit outside the mask
abbrev inside : Route → Bool
inside r = eqb (bit_and r.subnet.network r.subnet.mask) r.subnet.network

pub record Parts (r : Route) : Type 0 where
  pub mask : is_mask r.subnet.mask ≡ true
  pub network : inside r ≡ true
  pub port : is_port r.port ≡ true
  pub life : leb r.life max_life ≡ true

pub parts : (r : Route) → acceptable r ≡ true → Parts r
parts r e =
    let rest = and_parts (is_mask r.subnet.mask) (inside r && (is_port r.port && leb r.life max_life)) e in
    let last = and_parts (inside r) (is_port r.port && leb r.life max_life) rest.1 in
    let ends = and_parts (is_port r.port) (leb r.life max_life) last.1 in
    record { mask = rest.0; network = last.0; port = ends.0; life = ends.1 }

pub from_parts : (r : Route) → Parts r → acceptable r ≡ true
from_parts r p =
    and_from (is_mask r.subnet.mask) (inside r && (is_port r.port && leb r.life max_life)) p.mask
    (and_from (inside r) (is_port r.port && leb r.life max_life) p.network (and_from (is_port r.port) (leb r.life max_life) p.port p.life))

-- a life that is left is not longer than it was
pub not_longer : (life step left : ℕ) → life_left life step ≡ Some left → left ≤ life
not_longer life step left e = grind (arith, nat_tests)

-- with a shorter life
pub shorter_acceptable : (r : Route) (life : ℕ) → life ≤ r.life → acceptable r ≡ true → acceptable (with_life r life) ≡ true
shorter_acceptable r life h e =
    let p = parts r e in
    let few = leb-true r.life max_life p.life in
    from_parts (with_life r life) (record { mask = p.mask; network = p.network; port = p.port; life = le-leb life max_life (omega arith) })

pub start_acceptable : acceptable start_route ≡ true
unfolding is_mask zeros_then_ones bits
start_acceptable = refl
