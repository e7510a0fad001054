use Rattle.std.proofs.Common.{◌≡◌, ℕ, ◌+◌, ◌/◌, [], length, get_or, drop, Option, Some, None, Err, vec_items, sym, refl, ap, ◌∙◌, append-nil, arith, rules}
use Rattle.std.proofs.lemmas.Result.{err_from_is_err_and}
use Rattle.std.specs.Option.{ok_or}
use Rattle.refusals.specs.declared.Refusal.{Refusal}
use Rattle.refusals.specs.declared.Refusal.TheVariants.{BadLine}
use Rattle.std.proofs.lemmas.List.{at_drop_more, at_drop_all}
use Rattle.bench.specs.Hex.{pairs_read}
use Rattle.bench.specs.Lines.{some_bytes}
use Rattle.bench.proofs.Pairs.{prefixed, rows_read, rows_are, no_row, no_row_read, not_whole, at_least_one}
use Rattle.bench.proofs.reading.read_bytes.Goals as goal
use Rattle.bench.proofs.reading.read_bytes.Goals.{In_ok-bytes, then-is_empty-via-then-is_empty, then-is_empty-via-else-is_empty+then-not-is_empty}

pub returns-then-is_empty : goal.returns-then-is_empty
returns-then-is_empty c = (
  refl,
  elim c.then-is_empty.branch [
    | then-is_empty-via-then-is_empty w ↦ no_row c.args.pairs.now (search rules)
    | then-is_empty-via-else-is_empty+then-not-is_empty w ↦ ap some_bytes (not_whole c.args.pairs.now (search rules))
  ],
)

-- the text is its rows
whole : (c : In_ok-bytes) → rows_read c.as_chunks.result.0.now ≡ pairs_read c.args.pairs.now
whole c =
    let pairs = c.args.pairs.now in
    ap rows_read c.as_chunks.ensures.front ∙ rows_are (length pairs / 3) pairs (search rules)

-- where an absent value gives an error, it was absent
was_none : (o : Option ℕ) (why e : Refusal) → Err e ≡ ok_or o why → o ≡ None
was_none None why e h = refl
was_none (Some n) why e h = cc

pub returns-in_err-byte : goal.returns-in_err-byte
returns-in_err-byte c =
    let p = err_from_is_err_and c.from_residual-in_err-byte.result c.from_residual-in_err-byte.ensures.1 in
    let rows = c.as_chunks.result.0.now in
    let i = c.loop-triple.triple-index in
    let absent = was_none c.spaced_byte.result BadLine c.in_err-byte.field-0.0 c.in_err-byte.ensures.value in
    let none = no_row_read (get_or rows i []) (drop (i + 1) rows) (sym c.spaced_byte.ensures ∙ absent) in
    let rest : rows_read (drop i rows) ≡ None = at_drop_more rows_read rows i [] c.loop-triple-test.true ∙ none in
    let all = sym (whole (goal.at.returns-in_err-byte c).In_ok-bytes) ∙ sym c.loop-triple.invariant.read in
    let bad : c.in_err-byte.field-0.0 ≡ BadLine = grind arith in
    rw (p.1, p.2) (bad, ap some_bytes (all ∙ ap (prefixed (vec_items c.loop-triple.bytes)) rest))

pub returns : goal.returns
returns c =
    let bytes = vec_items c.loop-triple.bytes in
    let rest = at_drop_all rows_read c.as_chunks.result.0.now c.loop-triple.triple-index c.loop-triple-test.false in
    let all = sym (whole (goal.at.returns c).In_ok-bytes) ∙ sym c.loop-triple.invariant.read in
    ap some_bytes (all ∙ ap (prefixed bytes) rest ∙ ap (λ l. Some l) (append-nil bytes)) ∙ at_least_one bytes (search rules)
