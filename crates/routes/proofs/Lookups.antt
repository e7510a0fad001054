-- Looking up: the port is one that there is, and in a sorted list the first entry that fits is the most specific one.
use Rattle.std.proofs.Common.{◌≡◌, ℕ, zero, suc, ◌≤◌, true, false, cond, ◌⊎◌, List, [], ◌∷◌, Some, None, Option, Bor, sym, refl, ap, ◌∙◌, subst, inl, inr, arith}
use lib.Count.{ones}
use Rattle.std.specs.List.{list_all, find, Contains}
use Rattle.std.specs.Option.{option_map, option_copied, unwrap_or, MatchOption}
use Rattle.std.proofs.lemmas.Bool.{both_ways}
use Rattle.std.proofs.lemmas.Bool.Decides.{nat_tests}
use Rattle.routes.specs.Limits.{discard}
use Rattle.routes.specs.Acceptable.{is_port, acceptable}
use Rattle.routes.specs.Order.{before}
use Rattle.routes.specs.Lookup.{fits, port_for, Best, MostSpecific}
use Rattle.routes.specs.Lawful.{sorted, lawful}
use Rattle.routes.specs.declared.route.Route.{Route}
use Rattle.routes.proofs.Acceptances.{parts}
use Rattle.routes.proofs.Lawfulness.{kept, first_passes, first_sorted, passes_at}

abbrev port_of : Option Route → ℕ
port_of o = unwrap_or (option_map (λ (r : Route). r.port) o) discard

-- ---- the port is one that there is

pub gives_port : (rs : List Route) (dest : ℕ) → list_all acceptable rs ≡ true → is_port (port_for rs dest) ≡ true
gives_port [] dest e = refl
gives_port (r ∷ rs) dest e =
    let f = first_passes acceptable r rs e in
    let rest = gives_port rs dest f.1 in
    elim (fits dest r) as (λ t. is_port (port_of (cond t (Some r) (find (fits dest) rs))) ≡ true) [ true ↦ (parts r f.0).port | false ↦ rest ]

-- ---- the most specific entry

first_or_later : (r : Route) (rs : List Route) (x : Route) → Contains (r ∷ rs) x → (r ≡ x) ⊎ Contains rs x
first_or_later r rs x (zero, h, e) = inl e
first_or_later r rs x (suc k, h, e) = inr (k, omega arith, e)

later : (r : Route) (rs : List Route) (x : Route) → Contains rs x → Contains (r ∷ rs) x
later r rs x (k, h, e) = (suc k, omega arith, e)

has_before : (r : Route) (rs : List Route) (x : Route) → list_all (before r) rs ≡ true → Contains rs x → ones x.subnet.mask ≤ ones r.subnet.mask
has_before r rs x e (k, h, f) =
    let b : before r x ≡ true = subst (λ (y : Route). before r y ≡ true) f (passes_at (before r) rs k x e h) in
    grind (arith, nat_tests)

best_first : (r : Route) (rs : List Route) (dest : ℕ) → list_all (before r) rs ≡ true → fits dest r ≡ true → Best (r ∷ rs) dest r
best_first r rs dest e f = record {
  there = (0, omega arith, refl);
  fitting = f;
  most = λ x h g.
      elim (first_or_later r rs x h) [
        | inl z ↦ subst (λ (y : Route). ones y.subnet.mask ≤ ones r.subnet.mask) z (omega arith)
        | inr k ↦ has_before r rs x e k
      ];
}

best_later : (r : Route) (rs : List Route) (dest : ℕ) (y : Route) → fits dest r ≡ false → Best rs dest y → Best (r ∷ rs) dest y
best_later r rs dest y f b = record {
  there = later r rs y b.there;
  fitting = b.fitting;
  most = λ x h g.
      elim (first_or_later r rs x h) [
        | inl z ↦ absurd (both_ways (fits dest r) f (subst (λ (y : Route). fits dest y ≡ true) (sym z) g))
        | inr k ↦ b.most x k g
      ];
}

pub most_specific : (rs : List Route) (dest : ℕ) → sorted rs ≡ true → MostSpecific rs dest (port_for rs dest)
most_specific [] dest e = inr (λ x h. absurd (omega (arith, h.1)), refl)
most_specific (r ∷ rs) dest e =
    let s = first_sorted r rs e in
    let rest = most_specific rs dest s.1 in
    elim (fits dest r) as (λ t. fits dest r ≡ t → MostSpecific (r ∷ rs) dest (port_of (cond t (Some r) (find (fits dest) rs)))) [
      | true ↦ λ f. inl (r, best_first r rs dest s.0 f, refl)
      | false ↦ λ f.
          elim rest [
            | inl b ↦ inl (b.0, best_later r rs dest b.0 f b.1, b.2)
            | inr n ↦ inr (
              λ x h. elim (first_or_later r rs x h) [ inl z ↦ subst (λ (y : Route). fits dest y ≡ false) z f | inr k ↦ n.0 x k ],
              n.1,
            )
          ]
    ] refl

-- the port of the entry that was found, or none
port_found : (P : Bor Route → Type 0) (o : Option (Bor Route)) (port : ℕ) → MatchOption o (port ≡ discard) P → ((x : Bor Route) → P x → port ≡ x.now.port) → port ≡ port_of (option_copied o)
port_found P None port e f = e
port_found P (Some x) port e f = f x e

pub best_port : {P : Bor Route → Type 0} (rs : List Route) (dest port : ℕ) (o : Option (Bor Route)) → lawful rs ≡ true → option_copied o ≡ find (fits dest) rs → MatchOption o (port ≡ discard) P → ((x : Bor Route) → P x → port ≡ x.now.port) → MostSpecific rs dest port
best_port {P} rs dest port o e f p g =
    subst (MostSpecific rs dest) (sym (port_found P o port p g ∙ ap port_of f)) (most_specific rs dest (kept rs e).order)
