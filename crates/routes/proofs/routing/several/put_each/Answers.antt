use Rattle.std.proofs.Common.{◌+◌, ◌<◌, List, length, drop, is_ok, Err, sym, ap, ◌∙◌, arith}
use Rattle.std.proofs.lemmas.List.{at_drop_all}
use Rattle.std.proofs.lemmas.Result.{err_from_is_err_and}
use Rattle.routes.specs.Insert.{insert}
use Rattle.routes.specs.Limits.{max_routes}
use Rattle.routes.specs.Listed.{listed}
use Rattle.routes.specs.Several.{insert_all}
use Rattle.routes.specs.declared.entry.Entry.{Entry}
use Rattle.routes.proofs.Lawfulness.{kept}
use Rattle.routes.proofs.Several.{next_entry, next_can, insert_more, insert_all_grows, was_put, adds_none, adds_all}
use Rattle.routes.proofs.routing.several.put_each.Goals as goal

pub returns-in_err-put : goal.returns-in_err-put
returns-in_err-put c =
    let es = c.args.entries.now in
    let i = c.loop-e.e-index in
    let h = c.loop-e-test.true in
    let rs = listed c.loop-e.longer in
    let one = was_put (next_entry es i h).route rs c.put.result (listed c.put.new.self) (next_can es i h c.loop-e.invariant.1).0 c.put.ensures.told c.put.ensures.left in
    let why = one.full c.in_err-put.field-0.0 c.in_err-put.was in
    let p = err_from_is_err_and c.from_residual.result c.from_residual.ensures.1 in
    let many : max_routes < length (insert_all es (listed c.args.table)) =
    omega (arith, why.1, insert_all_grows (drop (i + 1) es) (insert (next_entry es i h).route rs), ap length (insert_more es i h rs), ap length c.loop-e.invariant.0) in
    rw (p.1, p.2) (ap Err why.0 ∙ sym (adds_none es (listed c.args.table) many))

pub loop-e-preserved : goal.loop-e-preserved
loop-e-preserved c =
    let es = c.args.entries.now in
    let i = c.loop-e.e-index in
    let h = c.loop-e-test.true in
    let rs = listed c.loop-e.longer in
    let can = next_can es i h c.loop-e.invariant.1 in
    let one = was_put (next_entry es i h).route rs c.put.result (listed c.put.new.self) can.0 c.put.ensures.told c.put.ensures.left in
    (ap (insert_all (drop (i + 1) es)) (one.done (ap is_ok c.in_ok-put.was)) ∙ sym (insert_more es i h rs) ∙ c.loop-e.invariant.0, can.1)

pub returns : goal.returns
returns c =
    let es = c.args.entries.now in
    let t = c.loop-e.longer in
    let all = at_drop_all (λ (xs : List Entry). insert_all xs (listed t)) es c.loop-e.e-index c.loop-e-test.false in
    sym (adds_all es (listed c.args.table) (listed t) (sym all ∙ c.loop-e.invariant.0) (kept (listed t) t.rules).few)
