-- Reading accepts exactly what writing writes.
use Rattle.std.proofs.Common.{◌≡◌, ℕ, ◌-◌, eqb, leb, List, [], ◌∷◌, ◌++◌, length, get_or, take, Some, sym, ap, ◌∙◌, arith}
use Rattle.std.proofs.lemmas.List.{length_push}
use Rattle.std.proofs.lemmas.Bool.{and_parts, eqb-true, leb-true}
use Rattle.bench.specs.Characters.{line_feed}
use Rattle.bench.specs.Limits.{max_line}
use Rattle.bench.specs.Lines.{LineValue, line_body, line_text, LineFits, body_read, line_read}
use Rattle.bench.specs.Reading.{ReadsExactly}
use Rattle.bench.proofs.Bodies.{body_exact, body_back, body_short}
use Rattle.bench.proofs.Options.{passed}
use Rattle.bench.proofs.Ends.{ended, with_feed}

pub reads_exactly : (text : List ℕ) → ReadsExactly text
reads_exactly text = record { only = only; every = every }
  where
    only : (v : LineValue) → line_read text ≡ Some v → LineFits v × (line_text v ≡ text)
    only v e =
        let n = length text - 1 in
        let body = take n text in
        let p = passed _ (body_read body) v e in
        let tests = and_parts (eqb (get_or text n 0) line_feed) (leb n max_line) p.0 in
        let feed = eqb-true (get_or text n 0) line_feed tests.0 in
        let w = body_exact body v p.1 in
        let whole = ap (λ l. l ++ line_feed ∷ []) w.same ∙ ended text feed in
        (w.fits (omega (arith, leb-true n max_line tests.1, length_push (line_body v) line_feed, ap length whole)), whole)

    every : (v : LineValue) → LineFits v → line_text v ≡ text → line_read text ≡ Some v
    every v fits same = ap line_read (sym same) ∙ with_feed (line_body v) (body_short v fits) ∙ body_back v fits
