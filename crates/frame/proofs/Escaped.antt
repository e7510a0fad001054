-- Escaped bytes read back, and only they do.
use Rattle.std.proofs.Common.{◌≡◌, ℕ, ◌+◌, ◌<◌, ◌≤◌, true, false, cond, not, ◌&&◌, ◌||◌, eqb, List, [], ◌∷◌, ◌++◌, length, get_or, take, drop, Some, None, sym, refl, ap, ◌∙◌, subst, ⊎_elim, append_assoc, append-nil, arith, length-append}
use Rattle.std.specs.Option.{option_to_list}
use Rattle.std.proofs.lemmas.List.{take_more, take-append-drop}
use Rattle.std.proofs.lemmas.List.Sums.{fold-append}
use Rattle.std.proofs.lemmas.Bool.{eqb-true, cases_Bool, or_cases, or_parts, true≢false}
use Rattle.frame.specs.Framing.{flag, escape, escaped_flag, escaped_escape, escaped_byte, escaped, resolves, bad_escape, has_flag}
use Rattle.frame.specs.Escapes.{after, meant, in_escape, after_all, meant_by, unescaped}
use Rattle.frame.specs.Writing.{ReadsBack, OnlyFramesRead}
use Rattle.frame.specs.declared.escaping.Escaping.{Escaping}
use Rattle.frame.specs.declared.escaping.Escaping.TheVariants.{Outside, Pending, Broken}

-- ---- one part after another

pub after_append : (e : Escaping) (xs ys : List ℕ) → after_all e (xs ++ ys) ≡ after_all (after_all e xs) ys
unfolding after_all
after_append e xs ys = fold-append after e xs ys

pub meant_append : (e : Escaping) (xs ys : List ℕ) → meant_by e (xs ++ ys) ≡ meant_by e xs ++ meant_by (after_all e xs) ys
unfolding after_all meant_by
meant_append e [] ys = refl
meant_append e (x ∷ xs) ys =
    ap (λ (l : List ℕ). option_to_list (meant e x) ++ l) (meant_append (after e x) xs ys)
    ∙ sym (append_assoc (option_to_list (meant e x)) (meant_by (after e x) xs) (meant_by (after_all (after e x) xs) ys))

-- one more byte of a segment
module _ (s : List ℕ) (i : ℕ) (h : i < length s) where
  pub after_more : after_all Outside (take (i + 1) s) ≡ after (after_all Outside (take i s)) (get_or s i 0)
  unfolding after_all
  after_more = ap (after_all Outside) (take_more s i 0 h) ∙ after_append Outside (take i s) (get_or s i 0 ∷ [])

  pub meant_more : unescaped (take (i + 1) s) ≡ unescaped (take i s) ++ option_to_list (meant (after_all Outside (take i s)) (get_or s i 0))
  unfolding meant_by
  meant_more =
      ap (meant_by Outside) (take_more s i 0 h) ∙ meant_append Outside (take i s) (get_or s i 0 ∷ [])
      ∙ ap (λ (l : List ℕ). unescaped (take i s) ++ l) (append-nil (option_to_list (meant (after_all Outside (take i s)) (get_or s i 0))))

-- the front of a segment stands for no more bytes than the whole
pub meant_front : (s : List ℕ) (i : ℕ) → length (unescaped (take i s)) ≤ length (unescaped s)
meant_front s i =
    let rest = meant_by (after_all Outside (take i s)) (drop i s) in
    omega (arith, ap length (sym (meant_append Outside (take i s) (drop i s)) ∙ ap unescaped (take-append-drop i s)), length-append (unescaped (take i s)) rest)

-- ---- a bad escape is one behind which the reading does not come out again

stays_broken : (bs : List ℕ) → after_all Broken bs ≡ Broken
unfolding after_all
stays_broken [] = refl
stays_broken (b ∷ bs) = stays_broken bs

-- what may follow an escape is none itself
no_escape : (b : ℕ) → (eqb b escaped_flag || eqb b escaped_escape) ≡ true → eqb b escape ≡ false
no_escape b h =
    ⊎_elim (λ e. rw (eqb-true b escaped_flag e) refl) (λ e. rw (eqb-true b escaped_escape e) refl)
    (or_cases (eqb b escaped_flag) (eqb b escaped_escape) h)

mutual
  unfolding after_all bad_escape

  pub bad_is : (bs : List ℕ) → bad_escape bs ≡ in_escape (after_all Outside bs)
  bad_is [] = refl
  bad_is (b ∷ bs) = ⊎_elim (λ e. rw e (bad_behind bs)) (λ e. rw e (bad_is bs)) (cases_Bool (eqb b escape))

  bad_behind : (bs : List ℕ) → (not (resolves bs) || bad_escape bs) ≡ in_escape (after_all Pending bs)
  bad_behind [] = refl
  bad_behind (b ∷ bs) =
      ⊎_elim
      (λ e.
      (λ i. not (e i) || ((no_escape b e i && not (resolves bs)) || bad_escape bs))
      ∙ bad_is bs
      ∙ sym (λ i. in_escape (after_all (cond (e i) Outside Broken) bs)))
      (λ e.
      (λ i. not (e i) || bad_escape (b ∷ bs))
      ∙ sym (ap in_escape (stays_broken bs))
      ∙ sym (λ i. in_escape (after_all (cond (e i) Outside Broken) bs)))
      (cases_Bool (eqb b escaped_flag || eqb b escaped_escape))

-- ---- escaping and reading back

-- what escaped bytes leave of a test, of the place of the reading and of the meaning of what stands behind them
record OneBack (b : ℕ) (front rest : List ℕ) : Type 0 where
  flagless : has_flag (front ++ rest) ≡ has_flag rest
  outside : after_all Outside (front ++ rest) ≡ after_all Outside rest
  back : meant_by Outside (front ++ rest) ≡ b ∷ meant_by Outside rest

one_back : (b : ℕ) (rest : List ℕ) → OneBack b (escaped_byte b) rest
unfolding after_all meant_by
one_back b rest =
    ⊎_elim
    (λ e. subst (λ (x : ℕ). OneBack x (escaped_byte x) rest) (sym (eqb-true b flag e)) (record { flagless = refl; outside = refl; back = refl }))
    (λ f.
    ⊎_elim
    (λ e. subst (λ (x : ℕ). OneBack x (escaped_byte x) rest) (sym (eqb-true b escape e)) (record { flagless = refl; outside = refl; back = refl }))
    (λ e.
    subst (λ (l : List ℕ). OneBack b l rest)
    (sym (λ i. cond (f i) (escape ∷ escaped_flag ∷ []) (cond (e i) (escape ∷ escaped_escape ∷ []) (b ∷ []))))
    (record {
      flagless = (λ i. f i || has_flag rest);
      outside = (λ i. after_all (cond (e i) Pending Outside) rest);
      back = (λ i. option_to_list (cond (e i) None (Some b)) ++ meant_by (cond (e i) Pending Outside) rest);
    }))
    (cases_Bool (eqb b escape)))
    (cases_Bool (eqb b flag))

escaped_outside : (p : List ℕ) → after_all Outside (escaped p) ≡ Outside
unfolding after_all
escaped_outside [] = refl
escaped_outside (b ∷ p) = (one_back b (escaped p)).outside ∙ escaped_outside p

escaped_flagless : (p : List ℕ) → has_flag (escaped p) ≡ false
escaped_flagless [] = refl
escaped_flagless (b ∷ p) = (one_back b (escaped p)).flagless ∙ escaped_flagless p

escaped_back : (p : List ℕ) → unescaped (escaped p) ≡ p
unfolding meant_by
escaped_back [] = refl
escaped_back (b ∷ p) = (one_back b (escaped p)).back ∙ ap (λ (l : List ℕ). b ∷ l) (escaped_back p)

pub reads_back : (p : List ℕ) → ReadsBack p
reads_back p = record {
  flagless = escaped_flagless p;
  well_escaped = bad_is (escaped p) ∙ ap in_escape (escaped_outside p);
  back = escaped_back p;
}

-- ---- one form only

-- a byte that is neither flag nor escape is its own escaped form
plain_form : (b : ℕ) (p : List ℕ) → eqb b flag ≡ false → eqb b escape ≡ false → b ∷ escaped p ≡ escaped (b ∷ p)
plain_form b p f e = sym (λ i. cond (f i) (escape ∷ escaped_flag ∷ []) (cond (e i) (escape ∷ escaped_escape ∷ []) (b ∷ [])) ++ escaped p)

never_outside : (bs : List ℕ) → after_all Broken bs ≡ Outside → ⊥
never_outside bs h = let k = stays_broken bs in let z : ◌≡◌ {A = ℕ} 0 1 = cc (k, h) in omega arith

mutual
  unfolding after_all meant_by

  form_outside : (bs : List ℕ) → has_flag bs ≡ false → after_all Outside bs ≡ Outside → bs ≡ escaped (meant_by Outside bs)
  form_outside [] f o = refl
  form_outside (b ∷ bs) f o =
      let g = or_parts (eqb b flag) (has_flag bs) f in
      ⊎_elim
      (λ e.
      ap (λ (x : ℕ). x ∷ bs) (eqb-true b escape e)
      ∙ form_behind bs g.1 (sym (λ i. after_all (cond (e i) Pending Outside) bs) ∙ o)
      ∙ sym (λ i. escaped (option_to_list (cond (e i) None (Some b)) ++ meant_by (cond (e i) Pending Outside) bs)))
      (λ e.
      ap (λ (l : List ℕ). b ∷ l) (form_outside bs g.1 (sym (λ i. after_all (cond (e i) Pending Outside) bs) ∙ o))
      ∙ plain_form b (meant_by Outside bs) g.0 e
      ∙ sym (λ i. escaped (option_to_list (cond (e i) None (Some b)) ++ meant_by (cond (e i) Pending Outside) bs)))
      (cases_Bool (eqb b escape))

  form_behind : (bs : List ℕ) → has_flag bs ≡ false → after_all Pending bs ≡ Outside → escape ∷ bs ≡ escaped (meant_by Pending bs)
  form_behind [] f o = let z : ◌≡◌ {A = ℕ} 0 1 = cc in absurd (omega arith)
  form_behind (b ∷ bs) f o =
      let g = or_parts (eqb b flag) (has_flag bs) f in
      ⊎_elim
      (λ e.
      let is = eqb-true b escaped_flag e in
      ap (λ (x : ℕ). escape ∷ x ∷ bs) is
      ∙ ap (λ (l : List ℕ). escape ∷ escaped_flag ∷ l) (form_outside bs g.1 (sym (ap (λ (x : ℕ). after_all Pending (x ∷ bs)) is) ∙ o))
      ∙ sym (ap (λ (x : ℕ). escaped (meant_by Pending (x ∷ bs))) is))
      (λ n.
      ⊎_elim
      (λ e.
      let is = eqb-true b escaped_escape e in
      ap (λ (x : ℕ). escape ∷ x ∷ bs) is
      ∙ ap (λ (l : List ℕ). escape ∷ escaped_escape ∷ l) (form_outside bs g.1 (sym (ap (λ (x : ℕ). after_all Pending (x ∷ bs)) is) ∙ o))
      ∙ sym (ap (λ (x : ℕ). escaped (meant_by Pending (x ∷ bs))) is))
      (λ e. absurd (never_outside bs (sym (λ i. after_all (cond (n i || e i) Outside Broken) bs) ∙ o)))
      (cases_Bool (eqb b escaped_escape)))
      (cases_Bool (eqb b escaped_flag))

-- the reading came out of every escape
outside_from : (e : Escaping) → in_escape e ≡ false → e ≡ Outside
outside_from Outside h = refl
outside_from Pending h = absurd (true≢false h)
outside_from Broken h = absurd (true≢false h)

pub only_frames_read : (segment : List ℕ) → OnlyFramesRead segment
only_frames_read segment f w =
    form_outside segment f (outside_from (after_all Outside segment) (sym (bad_is segment) ∙ w))
