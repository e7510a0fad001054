-- Two digits write a byte, and only these two do.
use Rattle.std.proofs.Common.{◌≡◌, ℕ, ◌+◌, ◌-◌, ◌*◌, ◌/◌, ◌%◌, ◌^◌, ◌<◌, true, false, List, [], ◌∷◌, Some, Option, ap, ◌∙◌, arith}
use Rattle.std.specs.Fmt.{digits, padded_integral, format_spec}
use Rattle.std.specs.Option.{option_map}
use Rattle.std.proofs.lemmas.Fmt.{hex_byte}
use Rattle.std.proofs.lemmas.Bool.Decides.{nat_tests}
use Rattle.bench.specs.Hex.{hex_digit, hex_pair, hex_value, both, pair_value}
use Rattle.bench.proofs.Options.{both_some}

digit_exact : (c n : ℕ) → hex_value c ≡ Some n → (n < 16) × (hex_digit n ≡ c)
digit_exact c n e = (grind (arith, nat_tests), grind (arith, nat_tests))

digit_back : (n : ℕ) → n < 16 → hex_value (hex_digit n) ≡ Some n
digit_back n small = grind (arith, nat_tests)

pub pair_exact : (h l b : ℕ) → pair_value h l ≡ Some b → (b < 256) × (hex_pair b ≡ h ∷ l ∷ [])
pair_exact h l b e =
    let p = both_some (λ x y. 16 * x + y) (hex_value h) (hex_value l) b e in
    let high = digit_exact h p.0 p.2 in
    let low = digit_exact l p.1 p.3 in
    let above : b / 16 ≡ p.0 = omega (arith, p.4, low.0) in
    let below : b % 16 ≡ p.1 = omega (arith, p.4, low.0) in
    (omega (arith, p.4, high.0, low.0), λ i. (ap hex_digit above ∙ high.1) i ∷ (ap hex_digit below ∙ low.1) i ∷ [])

pub pair_back : (b : ℕ) → b < 256 → pair_value (hex_digit (b / 16)) (hex_digit (b % 16)) ≡ Some b
pair_back b small =
    (λ i. both (λ x y. 16 * x + y) (digit_back (b / 16) (omega arith) i) (digit_back (b % 16) (omega arith) i)) ∙ ap (λ n. Some n) whole
  where
    whole : 16 * (b / 16) + b % 16 ≡ b
    whole = omega arith

-- what a hole `{:02X}` writes of a byte is its pair
pub pair_shown : (b : ℕ) (o : Option (List ℕ)) → b < 256 → o ≡ Some (digits 16 true b)
    → option_map (padded_integral (format_spec 32 0 4 2 (2 ^ 64 - 1)) false []) o ≡ Some (hex_pair b)
pair_shown b o small is = ap (option_map (padded_integral (format_spec 32 0 4 2 (2 ^ 64 - 1)) false [])) is ∙ ap (λ l. Some l) (hex_byte true b small)
