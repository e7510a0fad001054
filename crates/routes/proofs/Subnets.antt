-- The entry for a subnet: where it stands, what its removal and its update leave, and that a new one can be taken back.
use Rattle.std.proofs.Common.{◌≡◌, ℕ, zero, suc, ◌<◌, ◌≤◌, true, false, cond, eqb, ltb, List, [], ◌∷◌, length, take, set, is_ok, Some, None, Option, Result, slice_get, sym, refl, ap, ◌∙◌, arith}
use Rattle.std.specs.List.{position, position_or_len, remove as removed}
use Rattle.std.specs.Option.{option_map, option_and_then, MatchOption}
use Rattle.std.proofs.lemmas.List.{get_or-take, length-take-le}
use Rattle.std.proofs.lemmas.List.Folds.{find_at, list_any_at, list_any_none}
use Rattle.std.proofs.lemmas.List.Sums.{fails_before_first}
use Rattle.std.proofs.lemmas.Option.{slice_get_past}
use Rattle.std.proofs.lemmas.List.Quantifiers.{position-Some}
use Rattle.std.proofs.lemmas.List.Recursion.{or_from_places}
use Rattle.std.proofs.lemmas.Bool.{and_parts, or_parts, and_from, eqb-true, eq-eqb, ltb-false, cond-true, cond-false}
use Rattle.routes.specs.Start.{start_route}
use Rattle.routes.specs.Order.{of_subnet, same_subnet, before}
use Rattle.routes.specs.Insert.{has_subnet, updated, placed}
use Rattle.routes.specs.Remove.{remove}
use Rattle.routes.specs.Places.{at_place, First, Tells}
use Rattle.routes.specs.Calls.{put_answer, put_left, TakenBack}
use Rattle.routes.specs.Several.{remove_all, add_answer, add_left, OneTakenBack}
use Rattle.routes.specs.declared.entry.Entry.{Entry}
use Rattle.routes.specs.declared.route.Route.{Route}
use Rattle.routes.specs.declared.route.Subnet.{Subnet}
use Rattle.routes.specs.declared.table.NotPut.{NotPut}

pub not_first : (s : Subnet) (x : Route) (xs : List Route) → has_subnet s (x ∷ xs) ≡ false → (of_subnet s x ≡ false) × (has_subnet s xs ≡ false)
not_first s x xs e = or_parts (of_subnet s x) (has_subnet s xs) e

-- an entry that is for a route's subnet has that subnet
pub same_subnet_is : (r x : Route) → same_subnet r x ≡ true → r.subnet ≡ x.subnet
same_subnet_is r x e =
    let both = and_parts (eqb r.subnet.network x.subnet.network) (eqb r.subnet.mask x.subnet.mask) e in
    λ i. record { network = eqb-true r.subnet.network x.subnet.network both.0 i; mask = eqb-true r.subnet.mask x.subnet.mask both.1 i }

-- ---- the first entry for a subnet, at a place

first_removes : (s : Subnet) (rs : List Route) (at : ℕ) → at < length rs → has_subnet s (take at rs) ≡ false → of_subnet s (at_place rs at) ≡ true → remove s rs ≡ Some (removed rs at)
unfolding remove
first_removes s [] at h e f = absurd (omega arith)
first_removes s (x ∷ xs) zero h e f = cond-true _ _ _ f
first_removes s (x ∷ xs) (suc at) h e f =
    let n = not_first s x (take at xs) e in
    cond-false _ _ _ n.0 ∙ ap (option_map (λ ys. x ∷ ys)) (first_removes s xs at (omega arith) n.1 f)

first_updates : (r : Route) (rs : List Route) (at : ℕ) → at < length rs → has_subnet r.subnet (take at rs) ≡ false → same_subnet r (at_place rs at) ≡ true → updated r rs ≡ set rs at r
unfolding updated
first_updates r [] at h e f = absurd (omega arith)
first_updates r (x ∷ xs) zero h e f =
    cond-true _ _ _ f ∙ ap (λ (s : Subnet). record { subnet = s; port = r.port; life = r.life } ∷ xs) (sym (same_subnet_is r x f))
first_updates r (x ∷ xs) (suc at) h e f =
    let n = not_first r.subnet x (take at xs) e in
    cond-false _ _ _ n.0 ∙ ap (λ (ys : List Route). x ∷ ys) (first_updates r xs at (omega arith) n.1 f)

-- the entry that is updated becomes the route itself
pub updated_at : (r : Route) (rs : List Route) (at : ℕ) → First r.subnet rs at → updated r rs ≡ set rs at r
updated_at r rs at f = first_updates r rs at f.within f.none_before f.here

none_removes : (s : Subnet) (rs : List Route) → has_subnet s rs ≡ false → remove s rs ≡ None
unfolding remove
none_removes s [] e = refl
none_removes s (x ∷ xs) e =
    let n = not_first s x xs e in
    cond-false _ _ _ n.0 ∙ ap (option_map (λ ys. x ∷ ys)) (none_removes s xs n.1)

-- the place that `position` looks for: the length stands for none
found_at : (n l : ℕ) (o : Option ℕ) → o ≡ cond (ltb n l) (Some n) None → MatchOption o (l ≤ n) (λ at. at ≡ n)
found_at n l o e =
    rw e (elim (ltb n l) as (λ t. ltb n l ≡ t → MatchOption (cond t (Some n) None) (l ≤ n) (λ at. at ≡ n)) [
      | true ↦ λ t. refl
      | false ↦ λ t. ltb-false n l t
    ] refl)

pub tells : (s : Subnet) (rs : List Route) (o : Option ℕ) → o ≡ position (of_subnet s) rs → Tells s rs o
tells s rs None e =
    let far : length rs ≤ position_or_len (of_subnet s) rs = found_at _ _ None e in
    let none : has_subnet s rs ≡ false = list_any_none (of_subnet s) rs (λ k d h. fails_before_first (of_subnet s) rs k d (omega arith)) in
    record {
      none = none;
      entry = find_at (of_subnet s) rs ∙ slice_get_past rs (position_or_len (of_subnet s) rs) far;
      removal = none_removes s rs none;
    }
tells s rs (Some at) e =
    let p = position-Some (of_subnet s) rs at start_route (sym e) in
    let is : at ≡ position_or_len (of_subnet s) rs = found_at _ _ (Some at) e in
    let size : length (take at rs) ≡ at = length-take-le at rs (omega (arith, p.0)) in
    let before : has_subnet s (take at rs) ≡ false = or_from_places (has_subnet s) (of_subnet s) refl (λ _ _. refl) (take at rs) start_route
    (λ i h. let lt : i < at = omega arith in ap (of_subnet s) (get_or-take at rs i start_route lt) ∙ p.2 i lt) in
    record {
      first = record { within = p.0; none_before = before; here = p.1 };
      there = list_any_at (of_subnet s) rs at start_route p.0 p.1;
      entry = find_at (of_subnet s) rs ∙ ap (slice_get rs) (sym is);
      removal = first_removes s rs at p.0 before p.1;
    }

-- ---- a new entry, taken back

own_subnet : (r : Route) → same_subnet r r ≡ true
own_subnet r =
    and_from (eqb r.subnet.network r.subnet.network) (eqb r.subnet.mask r.subnet.mask) (eq-eqb r.subnet.network r.subnet.network refl) (eq-eqb r.subnet.mask r.subnet.mask refl)

pub removes_placed : (r : Route) (rs : List Route) → has_subnet r.subnet rs ≡ false → remove r.subnet (placed r rs) ≡ Some rs
unfolding placed remove
removes_placed r [] e = cond-true _ _ _ (own_subnet r)
removes_placed r (x ∷ xs) e =
    let n = not_first r.subnet x xs e in
    let rest = removes_placed r xs n.1 in
    elim (before r x) as (λ t. remove r.subnet (cond t (r ∷ x ∷ xs) (x ∷ placed r xs)) ≡ Some (x ∷ xs)) [
      | true ↦ cond-true _ _ _ (own_subnet r)
      | false ↦ cond-false _ _ _ n.0 ∙ ap (option_map (λ ys. x ∷ ys)) rest
    ]

pub taken_back : (r : Route) (was is : List Route) (told : Result (Unit {0}) NotPut) → told ≡ put_answer r was → is ≡ put_left r was → TakenBack r was told is
taken_back r was is told e f ok new =
    let done : is_ok (put_answer r was) ≡ true = ap is_ok (sym e) ∙ ok in
    ap (remove r.subnet) (f ∙ cond-true _ _ _ done ∙ cond-false _ _ _ new) ∙ removes_placed r was new

-- a new entry that is added and deleted again leaves what was there before
pub entry_taken_back : (e : Entry) (was is : List Route) (told : Result (Unit {0}) NotPut) → told ≡ add_answer (e ∷ []) was → is ≡ add_left (e ∷ []) was → is_ok told ≡ true → has_subnet e.route.subnet was ≡ false → remove_all (e ∷ []) is ≡ Some was
unfolding remove_all
entry_taken_back e was is told t l ok new =
    let done : is_ok (add_answer (e ∷ []) was) ≡ true = ap is_ok (sym t) ∙ ok in
    let placed_is : is ≡ placed e.route was = l ∙ cond-true _ _ _ done ∙ cond-false _ _ _ new in
    ap (λ (o : Option (List Route)). option_and_then (remove_all []) o) (ap (remove e.route.subnet) placed_is ∙ removes_placed e.route was new)

pub one_taken_back : (es : List Entry) (was is : List Route) (told : Result (Unit {0}) NotPut) → told ≡ add_answer es was → is ≡ add_left es was → OneTakenBack es was told is
one_taken_back es was is told t l e one ok new =
    ap (λ (xs : List Entry). remove_all xs is) one
    ∙ entry_taken_back e was is told (t ∙ ap (λ (xs : List Entry). add_answer xs was) one) (l ∙ ap (λ (xs : List Entry). add_left xs was) one) ok new
