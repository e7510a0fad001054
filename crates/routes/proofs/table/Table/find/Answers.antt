use Rattle.std.proofs.Common.{ap, ◌∙◌, rules}
use borrow.Author.Tests.{tests}
use Rattle.std.specs.List.{position}
use Rattle.std.proofs.lemmas.Iterator.{YieldsList-from_slice}
use Rattle.std.proofs.lemmas.Iterator.Search.{position_from_yields_List}
use Rattle.routes.specs.Listed.{listed}
use Rattle.routes.specs.Order.{of_subnet}
use Rattle.routes.proofs.Subnets.{tells}
use Rattle.routes.proofs.table.Table.find.Goals as goal

pub returns : goal.returns
returns c =
    let s = c.args.subnet in
    tells s (listed c.args.self.now) c.position.result
    (position_from_yields_List (of_subnet s) _ _ c.position.result c.position.ensures.ran (YieldsList-from_slice _ c.iter.ensures.rest) (λ x b q k. search (rules, tests))
    ∙ ap (position (of_subnet s)) c.entries.ensures.value)
