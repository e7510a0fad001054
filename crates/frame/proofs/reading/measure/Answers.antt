use Rattle.std.proofs.Common.{◌≡◌, ℕ, ◌+◌, ◌<◌, ◌≤◌, ◌==◌, Bool, true, false, cond, List, length, get_or, take, Option, Some, None, Ok, Err, sym, refl, ap, ◌∙◌, ⊎_elim, arith, length-append}
use Rattle.std.specs.Option.{option_to_list, is_some}
use Rattle.std.proofs.lemmas.List.{take_all}
use Rattle.std.proofs.lemmas.List.Folds.{list_any_at, list_any_more}
use Rattle.std.proofs.lemmas.Bool.{eq-eqb, ne_eqb}
use Rattle.frame.specs.Framing.{flag, has_flag, bad_escape}
use Rattle.frame.specs.Escapes.{after, meant, in_escape, after_all, meant_by, unescaped}
use Rattle.frame.specs.Writing.{measured}
use Rattle.frame.specs.declared.escaping.Escaping.{Escaping}
use Rattle.frame.specs.declared.escaping.Escaping.TheVariants.{Outside}
use Rattle.frame.specs.declared.reading.NotUnescaped.TheVariants.{BadEscape}
use Rattle.frame.proofs.Escaped.{after_more, meant_more, bad_is}
use Rattle.frame.proofs.reading.measure.Goals.{then-is_some, else-is_some}
use Rattle.frame.proofs.reading.measure.Goals as goal

-- a byte stands for one byte or for none
len_some : (o : Option ℕ) (t : Bool) → t ≡ is_some o → length (option_to_list o) ≡ cond t 1 0
len_some None t h = rw h refl
len_some (Some b) t h = rw h refl

few : (o : Option ℕ) → length (option_to_list o) ≤ 1
few None = omega arith
few (Some b) = omega arith

pub loop-byte-init : goal.loop-byte-init
unfolding after_all meant_by
loop-byte-init c = (refl, refl, omega arith, refl)

pub loop-byte-preserved : goal.loop-byte-preserved
loop-byte-preserved c =
    let i = c.loop-byte.byte-index in
    let s = c.args.segment.now in
    let b = get_or s i 0 in
    let h : i < length s = omega arith in
    let inv = c.loop-byte.invariant in
    let o : c.step-next.result.1 ≡ meant (after_all Outside (take i s)) b = c.step-next.ensures.meant ∙ ap (λ (x : Escaping). meant x b) inv.0 in
    let longer = length-append (unescaped (take i s)) (option_to_list (meant (after_all Outside (take i s)) b)) in
    let plain : (b == flag) ≡ false = ne_eqb b flag c.if-byte.false in
    let one : c.if-is_some.count ≡ c.loop-byte.count + length (option_to_list c.step-next.result.1) =
    elim c.if-is_some.branch [ then-is_some w ↦ omega (arith, len_some c.step-next.result.1 true w.if-is_some.ensures, w.count-is) | else-is_some w ↦ omega (arith, len_some c.step-next.result.1 false w.if-is_some.ensures, w.count-is) ] in (
      c.step-next.ensures.after ∙ ap (λ (x : Escaping). after x b) inv.0 ∙ sym (after_more s i h),
      omega (arith, ap length (meant_more s i h), longer, ap (λ (x : _). length (option_to_list x)) o, one, inv.1),
      omega (arith, one, few c.step-next.result.1, inv.2),
      list_any_more (λ (x : ℕ). x == flag) s i 0 h ∙ rw (inv.3, plain) refl,
    )

pub returns-then-byte : goal.returns-then-byte
returns-then-byte c =
    let s = c.args.segment.now in
    let found : has_flag s ≡ true = list_any_at (λ (x : ℕ). x == flag) s c.loop-byte.byte-index 0 (omega arith) (eq-eqb _ flag c.if-byte.true) in
    rw found refl

-- at the end the whole segment was read
module _ (s : List ℕ) (i n : ℕ) (e : Escaping) (end : length s ≤ i) (flagless : has_flag (take i s) ≡ false) (read : e ≡ after_all Outside (take i s)) (size : n ≡ length (unescaped (take i s))) where
  all_measured : (t : Bool) → in_escape e ≡ t → measured s ≡ cond t (Err BadEscape) (Ok n)
  all_measured t k =
      let all = take_all i s end in
      let bad : bad_escape s ≡ t = bad_is s ∙ sym (ap in_escape (read ∙ ap (after_all Outside) all)) ∙ k in
      let none : has_flag s ≡ false = sym (ap has_flag all) ∙ flagless in
      rw (none, bad, size, all) refl

pub returns-in-Outside : goal.returns-in-Outside
returns-in-Outside c =
    let inv = c.loop-byte.invariant in
    sym (all_measured _ _ _ c.loop-byte.escaping c.loop-byte-test.false inv.3 inv.0 inv.1 false (ap in_escape c.in-Outside.is))

pub returns-in-Pending : goal.returns-in-Pending
returns-in-Pending c =
    let inv = c.loop-byte.invariant in
    sym (all_measured _ _ _ c.loop-byte.escaping c.loop-byte-test.false inv.3 inv.0 inv.1 true (⊎_elim (ap in_escape) (ap in_escape) c.in-Pending.is))
