-- Ageing the entries from the front on, one after another.
use Rattle.std.proofs.Common.{◌≡◌, ℕ, ◌+◌, ◌<◌, List, [], ◌∷◌, ◌++◌, length, take, Option, sym, ap, ◌∙◌}
use Rattle.std.specs.List.{cons_option}
use Rattle.std.proofs.lemmas.List.{take_more}
use Rattle.std.proofs.lemmas.List.Elements.{filter_map-append}
use Rattle.routes.specs.Start.{start_route}
use Rattle.routes.specs.Places.{at_place}
use Rattle.routes.specs.Ageing.{older, aged}
use Rattle.routes.specs.declared.route.Route.{Route}
pub use Rattle.routes.proofs.Acceptances.{not_longer}

-- one entry more, if it stays
pub aged_more : (step : ℕ) (rs : List Route) (i : ℕ) (left : List Route) (o : Option Route) → i < length rs → left ≡ aged step (take i rs) → o ≡ older step (at_place rs i)
    → left ++ cons_option o [] ≡ aged step (take (i + 1) rs)
aged_more step rs i left o h e is =
    (λ j. e j ++ cons_option (is j) []) ∙ sym (filter_map-append (older step) (take i rs) (at_place rs i ∷ []))
    ∙ ap (aged step) (sym (take_more rs i start_route h))
