-- A receiver's digest and memory hold the whole segment, byte after byte.
use Rattle.std.proofs.Common.{◌≡◌, ℕ, ◌+◌, ◌<◌, ◌≤◌, true, false, eqb, List, [], ◌∷◌, ◌++◌, length, take, set, Some, None, Option, Result, unwrap_or, sym, refl, ap, ◌∙◌, subst, ⊎_elim, append-nil, arith}
use Rattle.std.specs.Option.{option_to_list}
use Rattle.refusals.specs.declared.Refusal.{Refusal}
use Rattle.std.proofs.lemmas.List.{take_more_set, take_all, take-append-le, length_push}
use Rattle.std.proofs.lemmas.Bool.{lt-ltb, le-ltb, eq-eqb, ne_eqb, cases_lt}
use Rattle.frame.specs.Limits.{max_packet}
use Rattle.frame.specs.Framing.{flag}
use Rattle.frame.specs.Escapes.{after, meant, after_all, meant_by, unescaped}
use Rattle.frame.specs.Segment.{Segment, no_bytes, with_byte}
use Rattle.frame.specs.Receiving.{blank, counted, digested, kept, stored, too_short, byte_tells, byte_leaves, byte_places, few, Holds, Receives}
use Rattle.frame.specs.declared.escaping.Escaping.{Escaping}
use Rattle.frame.specs.declared.escaping.Escaping.TheVariants.{Outside}
use Rattle.frame.specs.declared.receiver.Digest.{Digest}
use Rattle.frame.proofs.Escaped.{after_append, meant_append}

pub holds_none : (memory : List ℕ) → Holds blank memory no_bytes
unfolding after_all meant_by
holds_none memory = record { count = refl; front = refl; escaping = refl; faulted = refl }

-- ---- one more byte

-- the part of `Holds` that speaks of the unescaped bytes
record Gathered (count : Option ℕ) (memory unescaped : List ℕ) : Type 0 where
  count_is : count ≡ few unescaped
  front : take (unwrap_or count max_packet) memory ≡ take max_packet unescaped

few_all : (u : List ℕ) → length u ≤ max_packet → few u ≡ Some (length u)
few_all u h = rw (le-ltb max_packet (length u) h) refl

few_none : (u : List ℕ) → max_packet < length u → few u ≡ None
few_none u h = rw (lt-ltb max_packet (length u) h) refl

-- one more byte that has room in the longest packet, and one that has none
gathered_one : (c : ℕ) (memory u : List ℕ) → max_packet ≤ length memory → length u < max_packet → take (length u) memory ≡ take max_packet u
    → Gathered (Some (length u + 1)) (set memory (length u) c) (u ++ c ∷ [])
gathered_one c memory u room fits front =
    let longer = length_push u c in
    record {
      count_is = ap Some (sym longer) ∙ sym (few_all (u ++ c ∷ []) (omega (arith, longer)));
      front =
          take_more_set memory (length u) c (omega arith)
          ∙ ap (λ (l : List ℕ). l ++ c ∷ []) (front ∙ take_all max_packet u (omega arith))
          ∙ sym (take_all max_packet (u ++ c ∷ []) (omega (arith, longer)));
    }

gathered_full : (c : ℕ) (memory u : List ℕ) → max_packet ≤ length u → take max_packet memory ≡ take max_packet u → Gathered None memory (u ++ c ∷ [])
gathered_full c memory u full front = record {
  count_is = sym (few_none (u ++ c ∷ []) (omega (arith, length_push u c)));
  front = front ∙ sym (take-append-le max_packet u (c ∷ []) full);
}

gathered_more : (o : Option ℕ) (count : Option ℕ) (memory u : List ℕ) → max_packet ≤ length memory → Gathered count memory u
    → Gathered (counted o count) (stored o (unwrap_or count max_packet) memory) (u ++ option_to_list o)
gathered_more None count memory u room g = subst (Gathered count memory) (sym (append-nil u)) g
gathered_more (Some c) None memory u room g =
    ⊎_elim
    (λ over. gathered_full c memory u (omega arith) g.front)
    (λ fits. let e = few_all u fits in absurd (cc (g.count_is, e)))
    (cases_lt max_packet (length u))
gathered_more (Some c) (Some n) memory u room g =
    ⊎_elim
    (λ over. let e = few_none u over in absurd (cc (g.count_is, e)))
    (λ fits.
    let is : n ≡ length u = cc (g.count_is, few_all u fits) in
    ⊎_elim
    (λ less. rw (is, lt-ltb (length u) max_packet less) (gathered_one c memory u room less (subst (λ (k : ℕ). take k memory ≡ take max_packet u) is g.front)))
    (λ full.
    let top : n ≡ max_packet = omega arith in
    rw top (gathered_full c memory u full (subst (λ (k : ℕ). take k memory ≡ take max_packet u) top g.front)))
    (cases_lt (length u) max_packet))
    (cases_lt max_packet (length u))

pub holds_byte : (d : Digest) (memory : List ℕ) (s : Segment) (b : ℕ) → max_packet ≤ length memory → Holds d memory s
    → Holds (digested d b) (stored (meant d.escaping b) (kept d) memory) (with_byte s b)
unfolding after_all meant_by
holds_byte d memory s b room h =
    let o = meant d.escaping b in
    let u = unescaped s.came in
    let v : u ++ option_to_list o ≡ unescaped (s.came ++ b ∷ []) =
    ap (λ (e : Escaping). u ++ option_to_list (meant e b)) h.escaping
    ∙ ap (λ (l : List ℕ). u ++ l) (sym (append-nil (option_to_list (meant (after_all Outside s.came) b))))
    ∙ sym (meant_append Outside s.came (b ∷ [])) in
    let k : Gathered (counted o d.count) (stored o (kept d) memory) (unescaped (s.came ++ b ∷ [])) =
    subst (Gathered (counted o d.count) (stored o (kept d) memory)) v (gathered_more o d.count memory u room (record { count_is = h.count; front = h.front })) in
    record {
      count = k.count_is;
      front = k.front;
      escaping = ap (λ (e : Escaping). after e b) h.escaping ∙ sym (after_append Outside s.came (b ∷ []));
      faulted = h.faulted;
    }

-- ---- a call

receives_so : (d : Digest) (b : ℕ) (memory : List ℕ)
    → Receives d b memory (byte_tells d b memory) (byte_leaves d b memory) (byte_places d b memory)
receives_so d b memory = record {
  at_flag = λ s room f h.
      let t : too_short memory ≡ false = le-ltb (length memory) max_packet room in
      let e : eqb b flag ≡ true = eq-eqb b flag f in
      rw (t, e) (d, refl, h, holds_none memory);
  inside = λ s room n h.
      let t : too_short memory ≡ false = le-ltb (length memory) max_packet room in
      let e : eqb b flag ≡ false = ne_eqb b flag n in
      rw (t, e) (refl, holds_byte d memory s b room h);
}

pub receives : (d : Digest) (b : ℕ) (was : List ℕ) (told : Result (Option Digest) Refusal) (d' : Digest) (is : List ℕ)
    → told ≡ byte_tells d b was → d' ≡ byte_leaves d b was → is ≡ byte_places d b was → Receives d b was told d' is
receives d b was told d' is p q m = rw (p, q, m) (receives_so d b was)
