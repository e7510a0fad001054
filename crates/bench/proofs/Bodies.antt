-- What is read before a line feed is what is written there, for each kind of line.
use Rattle.std.proofs.Common.{◌≡◌, ℕ, ◌≤◌, true, eqb, List, [], ◌∷◌, length, Some, None, decimal, Option, sym, refl, ap, ◌∙◌, subst, arith}
use Rattle.std.specs.Option.{option_map}
use Rattle.std.proofs.lemmas.Fmt.{decimal_digit, length-decimal-le}
use Rattle.std.proofs.lemmas.Bool.{eqb-true}
use Rattle.frame.specs.Faults.{fault_number}
use Rattle.frame.specs.declared.faults.LineFault.{LineFault}
use Rattle.frame.specs.declared.faults.LineFault.TheVariants.{Parity, Overrun, Ownership}
use Rattle.std.proofs.lemmas.Option.{same_Some, none-some}
use Rattle.bench.specs.Characters.{space, bytes_mark, step_mark, fault_mark}
use Rattle.bench.specs.Hex.{pairs_read}
use Rattle.bench.specs.Limits.{max_line}
use Rattle.bench.specs.Lines.{LineValue, bytes, step, fault, line_body, LineFits, bytes_read, some_bytes, step_read, fault_digit, fault_of, fault_read, body_read}
use Rattle.bench.specs.Numbers.{number_read}
use Rattle.bench.proofs.Options.{either, passed, mapped_some}
use Rattle.bench.proofs.Numbers.{number_exact, number_back}
use Rattle.bench.proofs.Pairs.{pairs_exact, pairs_back, at_least_one}

-- ---- what is read is written so

-- the value is one that a line can tell, where its text is short enough, and is written so
pub record WrittenSo (body : List ℕ) (v : LineValue) : Type 0 where
  pub fits : length (line_body v) ≤ max_line → LineFits v
  pub same : line_body v ≡ body

bytes_exact : (rest : List ℕ) (v : LineValue) → bytes_read rest ≡ Some v → WrittenSo (bytes_mark ∷ rest) v
bytes_exact rest v e = from (pairs_read rest) refl e
  where
    from : (o : Option (List ℕ)) → pairs_read rest ≡ o → some_bytes o ≡ Some v → WrittenSo (bytes_mark ∷ rest) v
    from None is e = absurd (none-some v e)
    from (Some []) is e = absurd (none-some v e)
    from (Some (b ∷ bs)) is e =
        let p = pairs_exact rest (b ∷ bs) is in
        subst (WrittenSo (bytes_mark ∷ rest)) (same_Some _ _ e)
        (record { fits = λ short. (omega arith, p.0, short); same = ap (λ l. bytes_mark ∷ l) p.1 })

step_exact : (rest : List ℕ) (v : LineValue) → step_read rest ≡ Some v → WrittenSo (step_mark ∷ rest) v
step_exact [] v e = absurd (none-some v e)
step_exact (s ∷ ds) v e =
    let p = passed (eqb s space) (option_map (λ n. step n) (number_read ds)) v e in
    let q = mapped_some (λ n. step n) (number_read ds) v p.1 in
    let n = number_exact ds q.0 q.1 in
    let spaced = sym (eqb-true s space p.0) in
    subst (WrittenSo (step_mark ∷ s ∷ ds)) q.2 (record { fits = λ _. n.0; same = λ i. step_mark ∷ spaced i ∷ n.1 i })

one_digit : (f : LineFault) → decimal (fault_number f) ≡ fault_digit f ∷ []
one_digit Parity = decimal_digit 0 (omega arith)
one_digit Overrun = decimal_digit 1 (omega arith)
one_digit Ownership = decimal_digit 5 (omega arith)

digit_exact : (d : ℕ) (f : LineFault) → fault_of d ≡ Some f → fault_digit f ≡ d
digit_exact d f =
    either (eqb d (fault_digit Parity)) _ _ f (same Parity) (
    either (eqb d (fault_digit Overrun)) _ _ f (same Overrun) (
    either (eqb d (fault_digit Ownership)) _ _ f (same Ownership) (λ e. absurd (none-some f e))))
  where
    same : (g : LineFault) → eqb d (fault_digit g) ≡ true → Some g ≡ Some f → fault_digit f ≡ d
    same g is e = ap fault_digit (sym (same_Some g f e)) ∙ sym (eqb-true d (fault_digit g) is)

fault_exact : (rest : List ℕ) (v : LineValue) → fault_read rest ≡ Some v → WrittenSo (fault_mark ∷ rest) v
fault_exact [] v e = absurd (none-some v e)
fault_exact (s ∷ []) v e = absurd (none-some v e)
fault_exact (s ∷ d ∷ []) v e =
    let p = passed (eqb s space) (option_map (λ f. fault f) (fault_of d)) v e in
    let q = mapped_some (λ f. fault f) (fault_of d) v p.1 in
    let number = one_digit q.0 ∙ ap (λ c. c ∷ []) (digit_exact d q.0 q.1) in
    let spaced = sym (eqb-true s space p.0) in
    subst (WrittenSo (fault_mark ∷ s ∷ d ∷ [])) q.2 (record { fits = λ _. tt; same = λ i. fault_mark ∷ spaced i ∷ number i })
fault_exact (s ∷ d ∷ c ∷ more) v e = absurd (none-some v e)

pub body_exact : (body : List ℕ) (v : LineValue) → body_read body ≡ Some v → WrittenSo body v
body_exact [] v = λ e. absurd (none-some v e)
body_exact (c ∷ rest) v =
    either (eqb c bytes_mark) _ _ v (λ is e. marked bytes_mark is (bytes_exact rest v e)) (
    either (eqb c step_mark) _ _ v (λ is e. marked step_mark is (step_exact rest v e)) (
    either (eqb c fault_mark) _ _ v (λ is e. marked fault_mark is (fault_exact rest v e)) (λ e. absurd (none-some v e))))
  where
    marked : (mark : ℕ) → eqb c mark ≡ true → WrittenSo (mark ∷ rest) v → WrittenSo (c ∷ rest) v
    marked mark is = subst (λ x. WrittenSo (x ∷ rest) v) (sym (eqb-true c mark is))

-- ---- what is written is read back

digit_back : (f : LineFault) → fault_of (fault_digit f) ≡ Some f
digit_back Parity = refl
digit_back Overrun = refl
digit_back Ownership = refl

pub body_back : (v : LineValue) → LineFits v → body_read (line_body v) ≡ Some v
body_back (bytes bs) fits = ap some_bytes (pairs_back bs fits.1) ∙ at_least_one bs fits.0
body_back (step n) fits = ap (option_map (λ m. step m)) (number_back n fits)
body_back (fault f) fits = ap (λ ds. fault_read (space ∷ ds)) (one_digit f) ∙ ap (option_map (λ g. fault g)) (digit_back f)

pub body_short : (v : LineValue) → LineFits v → length (line_body v) ≤ max_line
body_short (bytes bs) fits = fits.2
body_short (step n) fits = omega (arith, length-decimal-le 10 n (omega arith) (omega arith) (omega arith))
body_short (fault f) fits = omega (arith, ap length (one_digit f))
