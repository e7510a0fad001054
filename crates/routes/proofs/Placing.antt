-- Where a new entry belongs: at the place of the first one that it stands before, or behind all.
use Rattle.std.proofs.Common.{◌≡◌, ℕ, suc, ◌+◌, ◌≤◌, true, false, cond, not, ltb, List, [], ◌∷◌, length, Some, None, unwrap_or, sym, refl, ap, ◌∙◌, arith}
use Rattle.std.specs.List.{insert, position, position_or_len}
use Rattle.std.proofs.lemmas.List.Sums.{prefix_len-le-length}
use Rattle.std.proofs.lemmas.Bool.{ltb-false}
use Rattle.routes.specs.Order.{before}
use Rattle.routes.specs.Insert.{placed}
use Rattle.routes.specs.declared.route.Route.{Route}

placed_at : (r : Route) (rs : List Route) → placed r rs ≡ insert rs (position_or_len (before r) rs) r
unfolding placed
placed_at r [] = refl
placed_at r (x ∷ xs) =
    let i : ℕ = position_or_len (before r) xs in
    let next : suc i ≡ 1 + i = omega arith in
    let rest = ap (λ (ys : List Route). x ∷ ys) (placed_at r xs) ∙ ap (λ (n : ℕ). insert (x ∷ xs) n r) next in
    elim (before r x) as (λ t. cond t (r ∷ x ∷ xs) (x ∷ placed r xs) ≡ insert (x ∷ xs) (cond (not t) (1 + i) 0) r) [ true ↦ refl | false ↦ rest ]

-- the place as it is looked for
looked_for : (n l : ℕ) → n ≤ l → unwrap_or (cond (ltb n l) (Some n) None) l ≡ n
looked_for n l h =
    elim (ltb n l) as (λ t. ltb n l ≡ t → unwrap_or (cond t (Some n) None) l ≡ n) [
      | true ↦ λ t. refl
      | false ↦ λ t. let k = ltb-false n l t in omega arith
    ] refl

pub placed_in : (r : Route) (rs : List Route) (at : ℕ) → at ≡ unwrap_or (position (before r) rs) (length rs) → placed r rs ≡ insert rs at r
placed_in r rs at e =
    placed_at r rs
    ∙ ap (λ (n : ℕ). insert rs n r) (sym (e ∙ looked_for (position_or_len (before r) rs) (length rs) (prefix_len-le-length (λ x. not (before r x)) rs)))
