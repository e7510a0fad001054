-- Reading a number is the inverse of writing it in base ten.
use Rattle.std.proofs.Common.{◌≡◌, ℕ, ◌^◌, ◌<◌, ◌≤◌, true, ◌&&◌, eqb, ltb, List, [], ◌∷◌, length, get_or, Some, None, Ok, Err, IsUtf8, decimal, Result, sym, refl, ap, ◌∙◌, subst, ⊎_elim, arith}
use Rattle.std.specs.Str.Parse.{digits_value, ParsesUnsigned}
use Rattle.std.specs.Result.{OkIff, result_ok}
use Rattle.std.specs.Int.{IsInRange}
use Rattle.std.specs.Str.{all_ascii_digits}
use Rattle.std.proofs.lemmas.Fmt.{decimal_digit, decimal_nonempty, first_decimal, digits_decimal, digits_value-decimal, decimal-digits_value, IsAscii-from_digits}
use Rattle.std.proofs.lemmas.Str.Parse.{IsNumeralModel, numerals_by_value, tells_all_ascii_digits, parse_plain}
use Rattle.std.proofs.lemmas.Bool.{false≢true, and_parts, and_from, cases_lt, eqb-false, ne_eqb, not-true, not_from_false, ltb-true, lt-ltb, cond-true}
use Rattle.std.proofs.lemmas.Str.{IsUtf8-from_ascii}
use Rattle.std.proofs.lemmas.Option.{same_Some}
use Rattle.bench.specs.Characters.{digit_zero}
use Rattle.bench.specs.Numbers.{unpadded, number_read}
use Rattle.bench.proofs.Options.{passed, failed}

own : IsNumeralModel (λ ds. all_ascii_digits ds ≡ true) (digits_value 10)
own = numerals_by_value _ tells_all_ascii_digits

-- what `unpadded` tests
unpadded_parts : (ds : List ℕ) → unpadded ds ≡ true → (0 < length ds) × (get_or ds 0 0 ≡ digit_zero → length ds ≡ 1)
unpadded_parts [] e = absurd (false≢true e)
unpadded_parts (d ∷ []) e = (omega arith, λ _. refl)
unpadded_parts (d ∷ c ∷ more) e = (omega arith, λ zero_first. absurd (eqb-false d digit_zero (not-true (eqb d digit_zero) e) zero_first))

unpadded_from : (ds : List ℕ) → 0 < length ds → (get_or ds 0 0 ≡ digit_zero → length ds ≡ 1) → unpadded ds ≡ true
unpadded_from [] some lone = absurd (omega arith)
unpadded_from (d ∷ []) some lone = refl
unpadded_from (d ∷ c ∷ more) some lone = not_from_false (eqb d digit_zero) (ne_eqb d digit_zero (λ zero_first. omega (arith, lone zero_first)))

-- what `number_read` tests
pub record Number (ds : List ℕ) : Type 0 where
  pub digits : all_ascii_digits ds ≡ true
  pub plain : unpadded ds ≡ true
  pub small : digits_value 10 ds < 2 ^ 32

tested : (ds : List ℕ) → (all_ascii_digits ds && (unpadded ds && ltb (digits_value 10 ds) (2 ^ 32))) ≡ true → Number ds
tested ds e =
    let p = and_parts (all_ascii_digits ds) _ e in
    let q = and_parts (unpadded ds) _ p.1 in
    record { digits = p.0; plain = q.0; small = ltb-true _ _ q.1 }

number_is : (ds : List ℕ) → Number ds → number_read ds ≡ Some (digits_value 10 ds)
number_is ds h =
    cond-true _ _ _ (and_from (all_ascii_digits ds) _ h.digits (and_from (unpadded ds) _ h.plain (lt-ltb _ _ h.small)))

-- what is read is a number that is written so
pub number_exact : (ds : List ℕ) (n : ℕ) → number_read ds ≡ Some n → (n < 2 ^ 32) × (decimal n ≡ ds)
number_exact ds n e =
    let p = passed _ (Some (digits_value 10 ds)) n e in
    let h = tested ds p.0 in
    let same : digits_value 10 ds ≡ n = same_Some _ _ p.1 in
    let u = unpadded_parts ds h.plain in
    (subst (λ m. m < 2 ^ 32) same h.small, ap decimal (sym same) ∙ decimal-digits_value own ds h.digits u.0 u.1 (omega (arith, h.small)))

-- what is written is read back
pub number_back : (n : ℕ) → n < 2 ^ 32 → number_read (decimal n) ≡ Some n
number_back n small =
    let wide : n < 2 ^ 64 = omega arith in
    let same = digits_value-decimal own n wide in
    number_is (decimal n) (record {
      digits = digits_decimal own n wide;
      plain = unpadded_from (decimal n) (decimal_nonempty n wide) lone;
      small = subst (λ m. m < 2 ^ 32) (sym same) small;
    })
    ∙ ap (λ m. Some m) same
  where
    lone : get_or (decimal n) 0 0 ≡ digit_zero → length (decimal n) ≡ 1
    lone zero_first =
        ⊎_elim (λ (h : 0 < n). absurd (omega (arith, first_decimal n h (omega arith)))) (λ (h : n ≤ 0). ap length (decimal_digit n (omega arith))) (cases_lt 0 n)

-- ---- what `parse` answers

pub not_text : (ds : List ℕ) → (IsUtf8 ds → ⊥) → number_read ds ≡ None
not_text ds not-utf8 =
    failed _ (Some (digits_value 10 ds)) (λ e. not-utf8 (IsUtf8-from_ascii ds (IsAscii-from_digits ds (own.to ds (tested ds e).digits))))

pub parsed : {E : Type 0} (ds : List ℕ) (r : Result ℕ E) → IsInRange 49 57 (get_or ds 0 0) → ParsesUnsigned 32 10 ds r → result_ok r ≡ number_read ds
parsed {E} ds r first reads = from r (parse_plain own 32 ds r reads (λ e. omega (arith, first.0)))
  where
    from : (r : Result ℕ E) → OkIff r ((all_ascii_digits ds ≡ true) × (0 < length ds) × (digits_value 10 ds < 2 ^ 32)) (digits_value 10 ds) → result_ok r ≡ number_read ds
    from (Ok x) h = ap (λ m. Some m) h.1 ∙ sym (number_is ds (record { digits = h.0.0; plain = unpadded_from ds h.0.1 (λ e. omega (arith, first.0)); small = h.0.2 }))
    from (Err why) h = sym (failed _ (Some (digits_value 10 ds)) (λ e. let t = tested ds e in h (t.digits, (unpadded_parts ds t.plain).0, t.small)))
