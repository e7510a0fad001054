use Rattle.std.proofs.Common.{ap, ◌∙◌, rules}
use borrow.Author.Tests.{tests}
use Rattle.std.specs.List.{find}
use Rattle.std.proofs.lemmas.Iterator.{YieldsList-from_slice}
use Rattle.std.proofs.lemmas.Iterator.Search.{find_from_yields_List}
use Rattle.routes.specs.Listed.{listed}
use Rattle.routes.specs.Lookup.{fits}
use Rattle.routes.proofs.Lookups.{best_port}
use Rattle.routes.proofs.table.Table.port_for.Goals as goal

pub returns-clause-best : goal.returns-clause-best
returns-clause-best c =
    let dest = c.args.dest in
    best_port (listed c.args.self.now) dest c.map_or.result c.find.result c.args.self.now.rules
    (find_from_yields_List (fits dest) _ _ c.find.result c.find.ensures.ran (YieldsList-from_slice _ c.iter.ensures.rest) (λ x b q k. search (rules, tests)) ∙ ap (find (fits dest)) c.entries.ensures.value)
    c.map_or.ensures (λ x k. search rules)
