use Rattle.std.proofs.Common.{Err, sym, ap, ◌∙◌}
use Rattle.std.proofs.lemmas.Result.{err_from_is_err_and}
use Rattle.packet.specs.Reading.{shown, shown_in}
use Rattle.packet.proofs.Judged.{judged_err, judged_ok}
use Rattle.packet.proofs.judging.Station.judge_bytes.Goals as goal

pub returns-in_err-packet : goal.returns-in_err-packet
returns-in_err-packet c =
    let p = err_from_is_err_and c.from_residual.result c.from_residual.ensures.1 in
    ap shown_in (p.1 ∙ ap Err p.2) ∙ sym (judged_err c.args.self c.args.bytes.now c.in_err-packet.field-0.0 (sym c.in_err-packet.ensures.value))

pub returns : goal.returns
returns c =
    c.sift.ensures
    ∙ sym (judged_ok c.args.self c.args.bytes.now (shown c.in_ok-packet.packet) (sym c.in_ok-packet.ensures.value))
