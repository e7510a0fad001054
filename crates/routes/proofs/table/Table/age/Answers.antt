use Rattle.std.proofs.Common.{◌≡◌, ◌<◌, length, take, is_ok, Some, None, sym, ap, ◌∙◌, append-nil, arith}
use Rattle.std.proofs.lemmas.Bool.{cond-true, lt-ltb}
use Rattle.std.proofs.lemmas.List.{take_all, length-take-le}
use Rattle.array_vec.specs.Held.{held}
use Rattle.routes.specs.Ageing.{aged}
use Rattle.routes.specs.Lawful.{lawful}
use Rattle.routes.specs.Limits.{max_routes}
use Rattle.routes.specs.Listed.{listed}
use Rattle.routes.proofs.Ageing.{aged_more}
use Rattle.routes.proofs.Lawfulness.{lawful_aged, length_aged}
use Rattle.routes.proofs.table.Table.age.Goals.{in-Some, in_default}
use Rattle.routes.proofs.table.Table.age.Goals as goal

pub loop-route-preserved : goal.loop-route-preserved
loop-route-preserved c =
    let rs = c.entries-route-items.result.now in
    let i = c.loop-route.route-index in
    let left = held c.loop-route.left in
    let h = c.loop-route-test.true in
    let few = length_aged c.args.step (take i rs) in
    let room : length left < max_routes = omega (arith, few, ap length c.loop-route.invariant, length-take-le i rs (omega arith), c.entries-route-items.ensures.rules.few) in
    elim c.match-older.branch [
      | in-Some w ↦ ap held w.left-is ∙ w.push.ensures.after ∙ cond-true (is_ok w.push.result) _ _ (w.push.ensures.told ∙ lt-ltb (length left) max_routes room)
          ∙ aged_more c.args.step rs i left (Some w.in-Some.older) h c.loop-route.invariant (sym w.in-Some.is ∙ c.older.ensures)
      | in_default w ↦ ap held w.left-is ∙ sym (append-nil left)
          ∙ aged_more c.args.step rs i left None h c.loop-route.invariant (sym w.in_default.is ∙ c.older.ensures)
    ]

pub invariant_of-self : goal.invariant_of-self
invariant_of-self c =
    let self = c.args.self.now in
    let all : held c.loop-route.left ≡ aged c.args.step (listed self) =
    c.loop-route.invariant
    ∙ ap (aged c.args.step) (take_all c.loop-route.route-index c.entries-route-items.result.now (omega (arith, c.loop-route-test.false)) ∙ c.entries-route-items.ensures.value) in
    record { rules = ap lawful all ∙ lawful_aged c.args.step (listed self) self.rules }
