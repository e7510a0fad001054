-- A packet and its bytes give back one another.
use Rattle.std.proofs.Common.{◌≡◌, ℕ, suc, ◌+◌, ◌-◌, ◌*◌, ◌/◌, ◌%◌, ◌<◌, ◌≤◌, true, eqb, List, [], ◌∷◌, ◌++◌, length, get_or, take, sym, refl, ap, ◌∙◌, ⊎_elim, length-append, arith, w8, Fits}
use Rattle.std.specs.Int.{w16, to_le_bytes, byte_at}
use Rattle.std.proofs.lemmas.List.{take_at, get_or_at, get_or-append-add}
use Rattle.std.proofs.lemmas.Bool.{eqb-true, eqb-false, eq-eqb, ne_eqb, cases_Bool}
use Rattle.crc.specs.Crc.{crc}
use Rattle.crc.proofs.Residue.{own_crc_gives_zero, zero_needs_own_crc}
use Rattle.packet.specs.Limits.{min_packet}
use Rattle.packet.specs.Packets.{Parts, covered, sent, packed, parts_of, crc_right, Bytes}

-- what a slice of bytes holds
pub bytes_from : (bs : List ℕ) → ((i : ℕ) → Fits w8 (get_or bs i 0)) → Bytes bs
bytes_from [] h = tt
bytes_from (b ∷ bs) h = ((h 0).fits, bytes_from bs (λ i. h (suc i)))

-- ---- the CRC of bytes that end in two

-- a list of at least two elements ends in two
record Ends (xs : List ℕ) : Type 0 where
  front : List ℕ
  lo : ℕ
  hi : ℕ
  whole : xs ≡ front ++ lo ∷ hi ∷ []
  small : Bytes xs → (lo < 256) × (hi < 256)

ends : (x y : ℕ) (xs : List ℕ) → Ends (x ∷ y ∷ xs)
ends x y [] = record { front = []; lo = x; hi = y; whole = refl; small = λ h. (h.0, h.1.0) }
ends x y (z ∷ xs) =
    let r = ends y z xs in
    record { front = x ∷ r.front; lo = r.lo; hi = r.hi; whole = ap (λ (w : List ℕ). x ∷ w) r.whole; small = λ h. r.small h.1 }

right_is : (ys : List ℕ) (lo hi : ℕ) → crc_right (ys ++ lo ∷ hi ∷ []) ≡ eqb (lo + 256 * hi) (crc ys)
unfolding crc_right
right_is ys lo hi =
    let bs = ys ++ lo ∷ hi ∷ [] in
    let last = lo ∷ hi ∷ [] in
    let e : length bs - 2 ≡ length ys = omega (arith, length-append ys last) in
    let f : length bs - 1 ≡ length ys + 1 = omega (arith, length-append ys last) in
    (λ i. eqb (get_or bs (e i) 0 + 256 * get_or bs (f i) 0) (crc (take (e i) bs)))
    ∙ (λ i. eqb (get_or_at ys lo (hi ∷ []) 0 (length ys) refl i + 256 * get_or-append-add ys last 1 0 i) (crc (take_at ys last (length ys) refl i)))

-- two bytes that say a CRC are that CRC as it is sent
said : (n lo hi : ℕ) → lo < 256 → hi < 256 → lo + 256 * hi ≡ n → sent n ≡ lo ∷ hi ∷ []
said n lo hi h k e =
    let q : n / 256 ≡ hi = omega (arith, e) in
    let f : n % 256 ≡ lo = omega (arith, e, q) in
    λ i. f i ∷ q i ∷ []

-- a CRC as it is sent is its two bytes, low byte first
pub sent_le : (n : ℕ) → n < 65536 → to_le_bytes w16 n ≡ sent n
sent_le n h =
    let low : byte_at 0 n ≡ n % 256 = omega arith in
    let high : byte_at 1 n ≡ n / 256 = omega arith in
    λ i. low i ∷ high i ∷ []

-- over all bytes the CRC is 0 exactly where the last two are right
ends_zero : (ys : List ℕ) (lo hi : ℕ) → lo < 256 → hi < 256 → eqb (crc (ys ++ lo ∷ hi ∷ [])) 0 ≡ eqb (lo + 256 * hi) (crc ys)
ends_zero ys lo hi h k =
    ⊎_elim
    (λ e.
    let is = said (crc ys) lo hi h k (eqb-true (lo + 256 * hi) (crc ys) e) in
    eq-eqb (crc (ys ++ lo ∷ hi ∷ [])) 0 (ap (λ (z : List ℕ). crc (ys ++ z)) (sym is) ∙ own_crc_gives_zero ys) ∙ sym e)
    (λ e.
    ne_eqb (crc (ys ++ lo ∷ hi ∷ [])) 0
    (λ z. let own = zero_needs_own_crc ys lo hi h k z in eqb-false (lo + 256 * hi) (crc ys) e (omega (arith, own.0, own.1)))
    ∙ sym e)
    (cases_Bool (eqb (lo + 256 * hi) (crc ys)))

pub zero_is_right : (bs : List ℕ) → 2 ≤ length bs → Bytes bs → eqb (crc bs) 0 ≡ crc_right bs
zero_is_right [] n h = absurd (omega arith)
zero_is_right (x ∷ []) n h = absurd (omega arith)
zero_is_right (x ∷ (y ∷ xs)) n h =
    let r = ends x y xs in
    let s = r.small h in
    ap (λ (z : List ℕ). eqb (crc z) 0) r.whole
    ∙ ends_zero r.front r.lo r.hi s.0 s.1
    ∙ sym (ap crc_right r.whole ∙ right_is r.front r.lo r.hi)

-- ---- a packet's bytes

-- the parts that a header and data with two bytes behind them stand for
stands_for : (a b c lo hi : ℕ) (xs : List ℕ) →
    parts_of (a ∷ b ∷ c ∷ (xs ++ lo ∷ hi ∷ [])) ≡ record { dest = a; srce = b; kind = c; content = xs }
stands_for a b c lo hi xs =
    let last = lo ∷ hi ∷ [] in
    let e : suc (suc (suc (length (xs ++ last)))) - min_packet ≡ length xs = omega (arith, length-append xs last) in
    (λ i. record { dest = a; srce = b; kind = c; content = (ap (λ (k : ℕ). take k (xs ++ last)) e ∙ take_at xs last (length xs) refl) i })

pub packed_parts : (p : Parts) → parts_of (packed p) ≡ p
unfolding packed
packed_parts p = let n = crc (covered p) in stands_for p.dest p.srce p.kind (n % 256) (n / 256) p.content

pub packed_right : (p : Parts) → crc_right (packed p) ≡ true
unfolding packed
packed_right p =
    let n = crc (covered p) in
    right_is (covered p) (n % 256) (n / 256) ∙ eq-eqb (n % 256 + 256 * (n / 256)) n (omega arith)

pub packed_length : (p : Parts) → length (packed p) ≡ length p.content + min_packet
unfolding packed
packed_length p = omega (arith, length-append p.content (sent (crc (covered p))))

pub packed_zero : (p : Parts) → crc (packed p) ≡ 0
unfolding packed
packed_zero p = own_crc_gives_zero (covered p)

by_ends : (a b c : ℕ) (rest : List ℕ) (r : Ends rest) → Bytes rest → crc_right (a ∷ b ∷ c ∷ rest) ≡ true → packed (parts_of (a ∷ b ∷ c ∷ rest)) ≡ a ∷ b ∷ c ∷ rest
unfolding packed
by_ends a b c rest r h e =
    let w : a ∷ b ∷ c ∷ rest ≡ a ∷ b ∷ c ∷ (r.front ++ r.lo ∷ r.hi ∷ []) = ap (λ (z : List ℕ). a ∷ b ∷ c ∷ z) r.whole in
    let s = r.small h in
    let q : eqb (r.lo + 256 * r.hi) (crc (a ∷ b ∷ c ∷ r.front)) ≡ true =
    sym (right_is (a ∷ b ∷ c ∷ r.front) r.lo r.hi) ∙ sym (ap crc_right w) ∙ e in
    ap packed (ap parts_of w ∙ stands_for a b c r.lo r.hi r.front)
    ∙ ap (λ (z : List ℕ). (a ∷ b ∷ c ∷ r.front) ++ z) (said (crc (a ∷ b ∷ c ∷ r.front)) r.lo r.hi s.0 s.1 (eqb-true _ _ q))
    ∙ sym w

pub one_form : (bs : List ℕ) → min_packet ≤ length bs → Bytes bs → crc_right bs ≡ true → packed (parts_of bs) ≡ bs
one_form [] n h e = absurd (omega arith)
one_form (a ∷ []) n h e = absurd (omega arith)
one_form (a ∷ (b ∷ [])) n h e = absurd (omega arith)
one_form (a ∷ (b ∷ (c ∷ []))) n h e = absurd (omega arith)
one_form (a ∷ (b ∷ (c ∷ (x ∷ [])))) n h e = absurd (omega arith)
one_form (a ∷ (b ∷ (c ∷ (x ∷ (y ∷ xs))))) n h e = by_ends a b c (x ∷ y ∷ xs) (ends x y xs) h.1.1.1 e
