use Rattle.std.proofs.Common.{◌≡◌, List, Option, ℕ, length, unwrap_or, ap, ◌∙◌, rules}
use borrow.Author.Tests.{tests}
use Rattle.std.specs.List.{position}
use Rattle.std.proofs.lemmas.Iterator.{YieldsList-from_slice}
use Rattle.std.proofs.lemmas.Iterator.Search.{position_from_yields_List}
use Rattle.routes.specs.Listed.{listed}
use Rattle.routes.specs.Order.{before}
use Rattle.routes.specs.declared.route.Route.{Route}
use Rattle.routes.proofs.Placing.{placed_in}
use Rattle.routes.proofs.table.Table.place_for.Goals as goal

pub returns-clause-is : goal.returns-clause-is
returns-clause-is c =
    let r = c.args.new in
    let all = c.entries-entries.result.now in
    let found : c.position.result ≡ position (before r) all =
    position_from_yields_List (before r) _ _ c.position.result c.position.ensures.ran (YieldsList-from_slice _ c.iter.ensures.rest) (λ x b q k. search (rules, tests)) in
    placed_in r (listed c.args.self.now) c.unwrap_or.result
    (c.unwrap_or.ensures ∙ ap (λ (o : Option ℕ). unwrap_or o (length all)) found
    ∙ ap (λ (rs : List Route). unwrap_or (position (before r) rs) (length rs)) c.entries-entries.ensures.value)
