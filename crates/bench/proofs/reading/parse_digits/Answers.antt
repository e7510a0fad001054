use Rattle.std.proofs.Common.{◌≡◌, ◌∙◌, subst, rules}
use Rattle.std.specs.Str.Parse.{ParsesUnsigned}
use Rattle.bench.proofs.Numbers.{not_text, parsed}
use Rattle.bench.proofs.reading.parse_digits.Goals as goal

pub returns-in_err-ok : goal.returns-in_err-ok
returns-in_err-ok c = search (rules, not_text)

pub returns : goal.returns
returns c =
    let text : c.in_ok-ok.field-0.now ≡ c.args.digits.now = search rules in
    let reads = subst (λ bs. ParsesUnsigned 32 10 bs c.parse.result) text c.parse.ensures.value.0 in
    c.ok-2.ensures.value ∙ parsed c.args.digits.now c.parse.result c.requires reads
