-- What holds of every byte that is a mask, by one computed test over the bytes. Assumes nothing.
use Rattle.std.proofs.Common.{◌≡◌, ℕ, ◌-◌, ◌^◌, ◌<◌, Bool, true, false, cond, not, eqb, ltb, sym, refl, ap, ◌∙◌, subst, zero-add, arith}
use lib.Count.{ones, ones_in, count_leading_zeros}
use Rattle.std.specs.List.{list_all, range_with_len}
use Rattle.std.proofs.lemmas.List.FromFn.{length-range_with_len, get_or-range_with_len}
use Rattle.std.proofs.lemmas.List.Recursion.{and_at}
use Rattle.std.proofs.lemmas.Bool.{and_parts, eqb-true, ltb-true}
use Rattle.routes.specs.Masks.{bits, zeros_then_ones, is_mask, ones_lead, count_below, NineMasks}

-- every number below n passes a test
unfoldable pub every_below : ℕ → (ℕ → Bool) → Bool
every_below n test = list_all test (range_with_len 0 n)

pub passes : (test : ℕ → Bool) (n : ℕ) → every_below n test ≡ true → (m : ℕ) → m < n → test m ≡ true
unfolding every_below
passes test n e m h =
    let all = and_at (list_all test) test refl (λ _ _. refl) (range_with_len 0 n) m 0 (omega (arith, length-range_with_len 0 n)) e in
    subst (λ (k : ℕ). test k ≡ true) (get_or-range_with_len 0 n m 0 h ∙ zero-add m) all

-- two tests agree
abbrev alike : Bool → Bool → Bool
alike true b = b
alike false b = not b

alike_true : (a b : Bool) → alike a b ≡ true → a ≡ b
alike_true true b e = sym e
alike_true false true e = e
alike_true false false e = refl

agree : every_below 256 (λ m. alike (ones_lead m) (is_mask m)) ≡ true
unfolding every_below is_mask zeros_then_ones bits ones ones_in count_leading_zeros
agree = refl

pub ones_lead_masks : (m : ℕ) → m < 256 → ones_lead m ≡ is_mask m
ones_lead_masks m h = alike_true (ones_lead m) (is_mask m) (passes (λ m. alike (ones_lead m) (is_mask m)) 256 agree m h)

pub nine_masks : NineMasks
unfolding count_below is_mask zeros_then_ones bits
nine_masks = record { nine = refl; none = refl; all = refl }

-- a mask is given by how many ones it has
told : every_below 256 (λ m. cond (is_mask m) (eqb m (256 - 2 ^ (8 - ones m))) true) ≡ true
unfolding every_below is_mask zeros_then_ones bits ones ones_in
told = refl

pub mask_byte : (m : ℕ) → is_mask m ≡ true → m < 256
unfolding is_mask
mask_byte m e = ltb-true m 256 (and_parts (ltb m 256) (zeros_then_ones (bits 8 m)) e).0

pub mask_by_ones : (m : ℕ) → is_mask m ≡ true → m ≡ 256 - 2 ^ (8 - ones m)
mask_by_ones m e =
    let pass = passes (λ m. cond (is_mask m) (eqb m (256 - 2 ^ (8 - ones m))) true) 256 told m (mask_byte m e) in
    eqb-true m (256 - 2 ^ (8 - ones m)) (subst (λ (t : Bool). cond t (eqb m (256 - 2 ^ (8 - ones m))) true ≡ true) e pass)

pub same_mask : (m n : ℕ) → is_mask m ≡ true → is_mask n ≡ true → ones m ≡ ones n → m ≡ n
same_mask m n e f o = mask_by_ones m e ∙ ap (λ (k : ℕ). 256 - 2 ^ (8 - k)) o ∙ sym (mask_by_ones n f)
