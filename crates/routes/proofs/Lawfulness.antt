-- What is done to the entries of a table keeps them lawful.
use Rattle.std.proofs.Common.{◌≡◌, ℕ, zero, suc, ◌+◌, ◌<◌, ◌≤◌, Bool, true, false, cond, ◌&&◌, leb, ltb, List, [], ◌∷◌, length, get_or, set, Some, None, sym, refl, ap, ◌∙◌, subst, arith, length-set}
use Rattle.std.specs.List.{list_all, cons_option, remove}
use Rattle.std.specs.Option.{option_map}
use Rattle.std.proofs.lemmas.List.Edits.{length-remove}
use Rattle.std.proofs.lemmas.List.Recursion.{and_at, and_set}
use Rattle.std.proofs.lemmas.Bool.{and_parts, and_from, leb-true, le-leb, ltb-true}
use Rattle.routes.specs.Limits.{max_routes}
use Rattle.routes.specs.Acceptable.{acceptable}
use Rattle.routes.specs.Order.{stands_before, before}
use Rattle.routes.specs.Insert.{has_subnet, updated, placed}
use Rattle.routes.specs.Ageing.{life_left, with_life, older, aged}
use Rattle.routes.specs.Places.{at_place, First}
use Rattle.routes.specs.Start.{start_route}
use Rattle.routes.specs.Lawful.{sorted, lawful, Lawful}
use Rattle.routes.specs.declared.route.Route.{Route}
use Rattle.routes.specs.declared.route.Subnet.{Subnet}
use Rattle.routes.proofs.Acceptances.{parts, not_longer, shorter_acceptable}
use Rattle.routes.proofs.Order.{before_trans, before_apart, before_other}
use Rattle.routes.proofs.Subnets.{same_subnet_is, not_first, updated_at}

-- ---- the parts of what is lawful

pub record Kept (rs : List Route) : Type 0 where
  pub few : length rs ≤ max_routes
  pub order : sorted rs ≡ true
  pub accepted : list_all acceptable rs ≡ true

pub kept : (rs : List Route) → lawful rs ≡ true → Kept rs
unfolding lawful
kept rs e =
    let all = and_parts (leb (length rs) max_routes) (sorted rs && list_all acceptable rs) e in
    let both = and_parts (sorted rs) (list_all acceptable rs) all.1 in
    record { few = leb-true (length rs) max_routes all.0; order = both.0; accepted = both.1 }

pub lawful_from : (rs : List Route) → Kept rs → lawful rs ≡ true
unfolding lawful
lawful_from rs k =
    and_from (leb (length rs) max_routes) (sorted rs && list_all acceptable rs) (le-leb (length rs) max_routes k.few)
    (and_from (sorted rs) (list_all acceptable rs) k.order k.accepted)

-- the test passes at the first entry and at those behind
pub first_passes : (test : Route → Bool) (r : Route) (rs : List Route) → list_all test (r ∷ rs) ≡ true → (test r ≡ true) × (list_all test rs ≡ true)
first_passes test r rs e = and_parts (test r) (list_all test rs) e

all_pass : (test : Route → Bool) (r : Route) (rs : List Route) → test r ≡ true → list_all test rs ≡ true → list_all test (r ∷ rs) ≡ true
all_pass test r rs p q = and_from (test r) (list_all test rs) p q

-- the first entry stands before those behind, which are sorted
pub first_sorted : (r : Route) (rs : List Route) → sorted (r ∷ rs) ≡ true → (list_all (before r) rs ≡ true) × (sorted rs ≡ true)
unfolding sorted
first_sorted r rs e = and_parts (list_all (before r) rs) (sorted rs) e

all_sorted : (r : Route) (rs : List Route) → list_all (before r) rs ≡ true → sorted rs ≡ true → sorted (r ∷ rs) ≡ true
unfolding sorted
all_sorted r rs p q = and_from (list_all (before r) rs) (sorted rs) p q

-- ---- by places

pub passes_at : (test : Route → Bool) (rs : List Route) (i : ℕ) (d : Route) → list_all test rs ≡ true → i < length rs → test (get_or rs i d) ≡ true
passes_at test rs i d e h = and_at (list_all test) test refl (λ _ _. refl) rs i d h e

pub in_order : (rs : List Route) (i j : ℕ) (d : Route) → sorted rs ≡ true → i < j → j < length rs → before (get_or rs i d) (get_or rs j d) ≡ true
in_order [] i j d e l h = absurd (omega arith)
in_order (r ∷ rs) i zero d e l h = absurd (omega arith)
in_order (r ∷ rs) zero (suc j) d e l h = passes_at (before r) rs j d (first_sorted r rs e).0 (omega arith)
in_order (r ∷ rs) (suc i) (suc j) d e l h = in_order rs i j d (first_sorted r rs e).1 (omega arith) (omega arith)

pub by_places : (rs : List Route) → lawful rs ≡ true → Lawful rs
by_places rs e =
    let k = kept rs e in
    record {
      few = k.few;
      order = λ i j d l h. in_order rs i j d k.order l h;
      apart = λ i j d l h. before_apart (get_or rs i d) (get_or rs j d) (in_order rs i j d k.order l h);
      accepted = λ i d h. passes_at acceptable rs i d k.accepted h;
    }

-- ---- an entry taken out

every_removed : (test : Route → Bool) (rs : List Route) (i : ℕ) → list_all test rs ≡ true → list_all test (remove rs i) ≡ true
every_removed test [] zero e = e
every_removed test [] (suc i) e = e
every_removed test (r ∷ rs) zero e = (first_passes test r rs e).1
every_removed test (r ∷ rs) (suc i) e =
    let p = first_passes test r rs e in all_pass test r (remove rs i) p.0 (every_removed test rs i p.1)

sorted_removed : (rs : List Route) (i : ℕ) → sorted rs ≡ true → sorted (remove rs i) ≡ true
sorted_removed [] zero e = e
sorted_removed [] (suc i) e = e
sorted_removed (r ∷ rs) zero e = (first_sorted r rs e).1
sorted_removed (r ∷ rs) (suc i) e =
    let p = first_sorted r rs e in all_sorted r (remove rs i) (every_removed (before r) rs i p.0) (sorted_removed rs i p.1)

pub lawful_removed : (rs : List Route) (i : ℕ) → i < length rs → lawful rs ≡ true → lawful (remove rs i) ≡ true
lawful_removed rs i h e =
    let k = kept rs e in
    lawful_from (remove rs i) (record {
      few = omega (arith, length-remove rs i h, k.few);
      order = sorted_removed rs i k.order;
      accepted = every_removed acceptable rs i k.accepted;
    })

-- ---- an entry replaced by one for the same subnet

every_set : (test : Route → Bool) (rs : List Route) (i : ℕ) (y : Route) → test y ≡ true → list_all test rs ≡ true → list_all test (set rs i y) ≡ true
every_set test rs i y p e = and_set (list_all test) test refl (λ _ _. refl) rs i y p e

-- an entry for the same subnet stands before the same entries, and behind the same
sorted_set : (rs : List Route) (i : ℕ) (y d : Route) → i < length rs → y.subnet ≡ (get_or rs i d).subnet → sorted rs ≡ true → sorted (set rs i y) ≡ true
sorted_set [] i y d h p e = absurd (omega arith)
sorted_set (r ∷ rs) zero y d h p e =
    let f = first_sorted r rs e in
    all_sorted y rs (subst (λ (s : Subnet). list_all (λ x. stands_before s x.subnet) rs ≡ true) (sym p) f.0) f.1
sorted_set (r ∷ rs) (suc i) y d h p e =
    let f = first_sorted r rs e in
    let lt : i < length rs = omega arith in
    let first : before r y ≡ true = subst (λ (s : Subnet). stands_before r.subnet s ≡ true) (sym p) (passes_at (before r) rs i d f.0 lt) in
    all_sorted r (set rs i y) (every_set (before r) rs i y first f.0) (sorted_set rs i y d lt p f.1)

-- the entry for the subnet of an acceptable route
pub lawful_updated : (r : Route) (rs : List Route) (at : ℕ) → First r.subnet rs at → acceptable r ≡ true → lawful rs ≡ true → lawful (updated r rs) ≡ true
lawful_updated r rs at f a e =
    let k = kept rs e in
    ap lawful (updated_at r rs at f)
    ∙ lawful_from (set rs at r) (record {
      few = omega (arith, length-set rs at r, k.few);
      order = sorted_set rs at r start_route f.within (same_subnet_is r (at_place rs at) f.here) k.order;
      accepted = every_set acceptable rs at r a k.accepted;
    })

-- ---- one entry

pub lawful_one : (r : Route) → acceptable r ≡ true → lawful (r ∷ []) ≡ true
unfolding sorted
lawful_one r a = lawful_from (r ∷ []) (record { few = omega arith; order = refl; accepted = all_pass acceptable r [] a refl })

-- ---- a new entry

pub length_placed : (r : Route) (rs : List Route) → length (placed r rs) ≡ length rs + 1
unfolding placed
length_placed r [] = refl
length_placed r (x ∷ xs) =
    let rest = length_placed r xs in
    elim (before r x) as (λ t. length (cond t (r ∷ x ∷ xs) (x ∷ placed r xs)) ≡ length (x ∷ xs) + 1) [
      | true ↦ omega arith
      | false ↦ omega arith
    ]

every_placed : (test : Route → Bool) (r : Route) (rs : List Route) → test r ≡ true → list_all test rs ≡ true → list_all test (placed r rs) ≡ true
unfolding placed
every_placed test r [] p e = all_pass test r [] p e
every_placed test r (x ∷ xs) p e =
    let q = first_passes test x xs e in
    elim (before r x) as (λ t. list_all test (cond t (r ∷ x ∷ xs) (x ∷ placed r xs)) ≡ true) [
      | true ↦ all_pass test r (x ∷ xs) p e
      | false ↦ all_pass test x (placed r xs) q.0 (every_placed test r xs p q.1)
    ]

before_all : (r x : Route) (rs : List Route) → before r x ≡ true → list_all (before x) rs ≡ true → list_all (before r) rs ≡ true
before_all r x [] p e = refl
before_all r x (y ∷ ys) p e =
    let q = first_passes (before x) y ys e in
    all_pass (before r) y ys (before_trans r x y p q.0) (before_all r x ys p q.1)

sorted_placed : (r : Route) (rs : List Route) → acceptable r ≡ true → list_all acceptable rs ≡ true → has_subnet r.subnet rs ≡ false → sorted rs ≡ true → sorted (placed r rs) ≡ true
unfolding placed sorted
sorted_placed r [] a b n e = refl
sorted_placed r (x ∷ xs) a b n e =
    let f = first_sorted x xs e in
    let g = first_passes acceptable x xs b in
    let new = not_first r.subnet x xs n in
    let rest = sorted_placed r xs a g.1 new.1 f.1 in
    elim (before r x) as (λ t. before r x ≡ t → sorted (cond t (r ∷ x ∷ xs) (x ∷ placed r xs)) ≡ true) [
      | true ↦ λ p. all_sorted r (x ∷ xs) (all_pass (before r) x xs p (before_all r x xs p f.0)) e
      | false ↦ λ p. all_sorted x (placed r xs)
          (every_placed (before x) r xs (before_other r x (parts r a).mask (parts x g.0).mask new.0 p) f.0) rest
    ] refl

pub lawful_placed : (r : Route) (rs : List Route) → acceptable r ≡ true → has_subnet r.subnet rs ≡ false → length rs < max_routes → lawful rs ≡ true → lawful (placed r rs) ≡ true
lawful_placed r rs a n h e =
    let k = kept rs e in
    lawful_from (placed r rs) (record {
      few = omega (arith, length_placed r rs);
      order = sorted_placed r rs a k.accepted n k.order;
      accepted = every_placed acceptable r rs a k.accepted;
    })

-- a new entry where there is room for it
pub lawful_put : (r : Route) (rs : List Route) (room : Bool) → room ≡ ltb (length rs) max_routes → acceptable r ≡ true → has_subnet r.subnet rs ≡ false → lawful rs ≡ true → lawful (cond room (placed r rs) rs) ≡ true
lawful_put r rs true t a n e = lawful_placed r rs a n (ltb-true (length rs) max_routes (sym t)) e
lawful_put r rs false t a n e = e

-- ---- entries aged

-- a test that an entry passes with a shorter life too
abbrev Lasts : (Route → Bool) → Type 0
Lasts test = (r : Route) (life : ℕ) → life ≤ r.life → test r ≡ true → test (with_life r life) ≡ true

every_aged : (test : Route → Bool) → Lasts test → (step : ℕ) (rs : List Route) → list_all test rs ≡ true → list_all test (aged step rs) ≡ true
every_aged test lasts step [] e = e
every_aged test lasts step (r ∷ rs) e =
    let f = first_passes test r rs e in
    let rest = every_aged test lasts step rs f.1 in
    elim (life_left r.life step) as (λ o. ((left : ℕ) → o ≡ Some left → left ≤ r.life) → list_all test (cons_option (option_map (with_life r) o) (aged step rs)) ≡ true) [
      | None ↦ λ h. rest
      | Some life ↦ λ h. all_pass test (with_life r life) (aged step rs) (lasts r life (h life refl) f.0) rest
    ] (not_longer r.life step)

sorted_aged : (step : ℕ) (rs : List Route) → sorted rs ≡ true → sorted (aged step rs) ≡ true
sorted_aged step [] e = e
sorted_aged step (r ∷ rs) e =
    let f = first_sorted r rs e in
    let rest = sorted_aged step rs f.1 in
    elim (life_left r.life step) as (λ o. sorted (cons_option (option_map (with_life r) o) (aged step rs)) ≡ true) [
      | None ↦ rest
      | Some life ↦ all_sorted (with_life r life) (aged step rs) (every_aged (before r) (λ x l h p. p) step rs f.0) rest
    ]

pub length_aged : (step : ℕ) (rs : List Route) → length (aged step rs) ≤ length rs
length_aged step [] = omega arith
length_aged step (r ∷ rs) =
    let rest = length_aged step rs in
    elim (older step r) as (λ o. length (cons_option o (aged step rs)) ≤ length (r ∷ rs)) [ None ↦ omega arith | Some x ↦ omega arith ]

pub lawful_aged : (step : ℕ) (rs : List Route) → lawful rs ≡ true → lawful (aged step rs) ≡ true
lawful_aged step rs e =
    let k = kept rs e in
    lawful_from (aged step rs) (record {
      few = omega (arith, length_aged step rs, k.few);
      order = sorted_aged step rs k.order;
      accepted = every_aged acceptable (λ r life h a. shorter_acceptable r life h a) step rs k.accepted;
    })
