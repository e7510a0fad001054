-- A session takes texts and bytes.
use Rattle.std.proofs.Common.{◌≡◌, ℕ, ◌+◌, ◌^◌, ◌<◌, Bool, true, false, cond, List, [], ◌∷◌, ◌++◌, length, is_some, is_none, IsSome, IfOk, Some, None, Ok, Err, vec_items, string_bytes, Option, Result, String, sym, refl, ap, ◌∙◌, subst, append_assoc, append-nil, arith, length-append}
use Rattle.std.specs.List.{position_from}
use Rattle.std.specs.Option.{MatchOption, some_prefix}
use Rattle.std.specs.declared.alloc.AllocError.{AllocError}
use Rattle.std.specs.declared.alloc.Global.{Global}
use Rattle.std.proofs.lemmas.List.{length_push, nil_from_length}
use Rattle.bench.specs.Lines.{LineValue, line_read}
use Rattle.session.specs.Texts.{ends_text, cut, uncut, last_text, texts}
use Rattle.session.specs.Obeying.{lines_in, first_bad, bad_text, output, Obeys}
use Rattle.session.specs.Sessions.{Reads, Stands, Fed, said, Takes, EndsText, TakesBytes, Feeds, Finishes}
use Rattle.session.specs.declared.feeding.Session.{Session}
use Rattle.session.specs.declared.feeding.Reading.{Reading}
use Rattle.session.proofs.Cutting.{cut_append, uncut_append, cut_few, few_texts}
use Rattle.session.proofs.Obeyed.{lines_append, bad_append, lines_stop, bad_stop}

module _ {H : Type 0} (obeyed : H → List LineValue → Type 0) (writes : List LineValue → List ℕ) where
  -- ---- one more text, where all before it were lines

  module _ (ts : List (List ℕ)) (t : List ℕ) (fine : first_bad 1 ts ≡ None) where
    lines_more : lines_in (ts ++ t ∷ []) ≡ lines_in ts ++ some_prefix (line_read t ∷ [])
    unfolding lines_in
    lines_more = lines_append 1 ts (t ∷ []) (ap is_some fine)

    bad_more : first_bad 1 (ts ++ t ∷ []) ≡ position_from is_none (1 + length ts) (line_read t ∷ [])
    unfolding first_bad
    bad_more = bad_append 1 ts (t ∷ []) (ap is_some fine)

    -- what was written before it
    said_before : output writes ts ≡ writes (lines_in ts)
    said_before = ap (λ (o : Option ℕ). writes (lines_in ts) ++ bad_text o) fine ∙ append-nil (writes (lines_in ts))

  -- ---- what a session that stands so reads

  module _ (s : Session H) (ts : List (List ℕ)) (t : List ℕ) where
    -- it reads on, where every text was a line
    reads_from : (r : Reading) → s.reading ≡ Some r → Stands obeyed s ts t → Reads r ts t
    reads_from r is h = subst (λ o. MatchOption o (IsSome (first_bad 1 ts)) (λ x. Reads x ts t)) is h.reading

    -- or reads no more, where one was not
    bad_from : s.reading ≡ None → Stands obeyed s ts t → IsSome (first_bad 1 ts)
    bad_from is h = subst (λ o. MatchOption o (IsSome (first_bad 1 ts)) (λ x. Reads x ts t)) is h.reading

    stands_reading : (r : Reading) → s.reading ≡ Some r → obeyed s.handler (lines_in ts) → Reads r ts t → Stands obeyed s ts t
    stands_reading r is lines reads = record {
      obeyed_lines = lines;
      reading = subst (λ o. MatchOption o (IsSome (first_bad 1 ts)) (λ x. Reads x ts t)) (sym is) reads;
    }

    stands_stopped : s.reading ≡ None → obeyed s.handler (lines_in ts) → IsSome (first_bad 1 ts) → Stands obeyed s ts t
    stands_stopped is lines bad = record {
      obeyed_lines = lines;
      reading = subst (λ o. MatchOption o (IsSome (first_bad 1 ts)) (λ x. Reads x ts t)) (sym is) bad;
    }

  -- a line was obeyed
  pub takes_line : (handler : H) (s' : Session H) (ts : List (List ℕ)) (t : List ℕ) (v : LineValue) (out : String Global) (r r' : Reading)
      → obeyed handler (lines_in ts) → Reads r ts t → line_read t ≡ Some v
      → ((vs : List LineValue) → obeyed handler vs → obeyed s'.handler (vs ++ v ∷ []) × (writes (vs ++ v ∷ []) ≡ writes vs ++ string_bytes out))
      → s'.reading ≡ Some r' → vec_items r'.text ≡ [] → r'.count ≡ r.count + 1
      → Takes obeyed writes s' ts (t ∷ []) [] out
  takes_line handler s' ts t v out r r' lines reads is step reading empty counted =
      let more = lines_more ts t reads.lines ∙ ap (λ (o : Option LineValue). lines_in ts ++ some_prefix (o ∷ [])) is in
      let bad = bad_more ts t reads.lines ∙ ap (λ (o : Option LineValue). position_from is_none (1 + length ts) (o ∷ [])) is in
      let done = step (lines_in ts) lines in
      record {
        stands =
            stands_reading s' (ts ++ t ∷ []) [] r' reading (subst (obeyed s'.handler) (sym more) done.0)
            (record { lines = bad; text = empty; count = counted ∙ ap (λ (n : ℕ). n + 1) reads.count ∙ sym (length_push ts t) });
        wrote =
            (λ i. writes (more i) ++ bad_text (bad i)) ∙ append-nil (writes (lines_in ts ++ v ∷ [])) ∙ done.1
            ∙ ap (λ (l : List ℕ). l ++ string_bytes out) (sym (said_before ts t reads.lines));
      }

  -- a text that is no line stopped the session
  pub takes_bad : (s' : Session H) (ts : List (List ℕ)) (t : List ℕ) (out : String Global) (r : Reading)
      → obeyed s'.handler (lines_in ts) → Reads r ts t → line_read t ≡ None → s'.reading ≡ None
      → string_bytes out ≡ bad_text (Some (r.count + 1))
      → Takes obeyed writes s' ts (t ∷ []) [] out
  takes_bad s' ts t out r lines reads is reading text =
      let more = lines_more ts t reads.lines ∙ ap (λ (o : Option LineValue). lines_in ts ++ some_prefix (o ∷ [])) is ∙ append-nil (lines_in ts) in
      let bad = bad_more ts t reads.lines ∙ ap (λ (o : Option LineValue). position_from is_none (1 + length ts) (o ∷ [])) is in
      let number : 1 + length ts ≡ r.count + 1 = omega (arith, reads.count) in
      record {
        stands = stands_stopped s' (ts ++ t ∷ []) [] reading (subst (obeyed s'.handler) (sym more) lines) (ap is_some bad);
        wrote =
            (λ i. writes (more i) ++ bad_text (bad i)) ∙ ap (λ (n : ℕ). writes (lines_in ts) ++ bad_text (Some n)) number
            ∙ (λ i. sym (said_before ts t reads.lines) i ++ sym text i);
      }

  -- a session that stands so keeps the text `t`
  kept_text : (s : Session H) (ts : List (List ℕ)) (t : List ℕ) → Stands obeyed s ts t → (r : Reading) → s.reading ≡ Some r → vec_items r.text ≡ t
  kept_text s ts t h r is = (reads_from s ts t r is h).text

  -- and one that keeps another text stands at that one
  reads_text : (o : Option Reading) (ts : List (List ℕ)) (t t' : List ℕ) → MatchOption o (IsSome (first_bad 1 ts)) (λ r. Reads r ts t)
      → ((r : Reading) → o ≡ Some r → vec_items r.text ≡ t') → MatchOption o (IsSome (first_bad 1 ts)) (λ r. Reads r ts t')
  reads_text None ts t t' bad text = bad
  reads_text (Some r) ts t t' reads text = record { lines = reads.lines; text = text r refl; count = reads.count }

  -- nothing was taken
  pub takes_none : (s : Session H) (ts : List (List ℕ)) (t t' : List ℕ) (out : String Global) → string_bytes out ≡ []
      → Stands obeyed s ts t → ((r : Reading) → s.reading ≡ Some r → vec_items r.text ≡ t') → Takes obeyed writes s ts [] t' out
  takes_none s ts t t' out silent h text = record {
    stands =
        subst (λ (l : List (List ℕ)). Stands obeyed s l t') (sym (append-nil ts))
        (record { obeyed_lines = h.obeyed_lines; reading = reads_text s.reading ts t t' h.reading text });
    wrote = ap (output writes) (append-nil ts) ∙ sym (append-nil (output writes ts)) ∙ ap (λ (l : List ℕ). output writes ts ++ l) (sym silent);
  }

  -- a session that is stopped takes anything, and writes nothing
  pub takes_ignored : (s s' : Session H) (ts more : List (List ℕ)) (t t' : List ℕ) (out : String Global) → string_bytes out ≡ []
      → s.reading ≡ None → s'.handler ≡ s.handler → s'.reading ≡ None → Stands obeyed s ts t → Takes obeyed writes s' ts more t' out
  takes_ignored s s' ts more t t' out silent off handler off' h =
      let over = bad_from s ts t off h in
      let same = lines_stop 1 ts more over in
      let bad = bad_stop 1 ts more over in
      record {
        stands =
            stands_stopped s' (ts ++ more) t' off'
            (subst (λ (x : H). obeyed x (lines_in (ts ++ more))) (sym handler) (subst (obeyed s.handler) (sym same) h.obeyed_lines)) (ap is_some bad ∙ over);
        wrote = (λ i. writes (same i) ++ bad_text (bad i)) ∙ sym (append-nil (output writes ts)) ∙ ap (λ (l : List ℕ). output writes ts ++ l) (sym silent);
      }

  -- ---- the end of a text

  module _ (handler : H) (s' : Session H) (r : Reading) where
    pub obeys_line : (r' : Reading) (v : LineValue) (told : Result (String Global) AllocError) → Obeys obeyed writes handler v told s'.handler
        → line_read (vec_items r.text) ≡ Some v → s'.reading ≡ Some r' → vec_items r'.text ≡ []
        → (r.count + 1 < 2 ^ 64 → r'.count ≡ r.count + 1) → EndsText obeyed writes handler r told s'
    obeys_line r' v (Err none) step is reading empty counted = tt
    obeys_line r' v (Ok out) step is reading empty counted = λ ts t room lines reads.
        takes_line handler s' ts t v out r r' lines reads (ap line_read (sym reads.text) ∙ is) step reading empty (counted (omega (arith, reads.count)))

    pub stops_at : (told : Result (String Global) AllocError) (number : ℕ) → line_read (vec_items r.text) ≡ None → s'.handler ≡ handler
        → s'.reading ≡ None → (r.count + 1 < 2 ^ 64 → number ≡ r.count + 1)
        → IfOk told (λ out. string_bytes out ≡ bad_text (Some number)) → EndsText obeyed writes handler r told s'
    stops_at (Err none) number is same off counted text = tt
    stops_at (Ok out) number is same off counted text = λ ts t room lines reads.
        takes_bad s' ts t out r (subst (λ (x : H). obeyed x (lines_in ts)) (sym same) lines) reads (ap line_read (sym reads.text) ∙ is) off
        (text ∙ ap (λ (n : ℕ). bad_text (Some n)) (counted (omega (arith, reads.count))))

  -- ---- one byte

  -- it ends the text, or does not
  module _ (t : List ℕ) (b : ℕ) where
    cut_here : ends_text (length t) b ≡ true → (cut t (b ∷ []) ≡ (t ++ b ∷ []) ∷ []) × (uncut t (b ∷ []) ≡ [])
    unfolding cut uncut
    cut_here e = ((λ i. cond (e i) ((t ++ b ∷ []) ∷ []) []), (λ i. cond (e i) [] (t ++ b ∷ [])))

    cut_later : ends_text (length t) b ≡ false → (cut t (b ∷ []) ≡ []) × (uncut t (b ∷ []) ≡ t ++ b ∷ [])
    unfolding cut uncut
    cut_later e = ((λ i. cond (e i) ((t ++ b ∷ []) ∷ []) []), (λ i. cond (e i) [] (t ++ b ∷ [])))

  takes_same : (s : Session H) (ts xs ys : List (List ℕ)) (t u : List ℕ) (out : String Global) → xs ≡ ys → t ≡ u → Takes obeyed writes s ts xs t out → Takes obeyed writes s ts ys u out
  takes_same s ts xs ys t u out p q h = subst (λ (l : List (List ℕ)). Takes obeyed writes s ts l u out) p (subst (λ (l : List ℕ). Takes obeyed writes s ts xs l out) q h)

  -- a byte was put behind the text
  module _ (s : Session H) (b : ℕ) (r r' : Reading) (reading : s.reading ≡ Some r) (text : vec_items r'.text ≡ vec_items r.text ++ b ∷ []) (count : r'.count ≡ r.count) where
    reads_pushed : (ts : List (List ℕ)) (t : List ℕ) → Stands obeyed s ts t → Reads r' ts (t ++ b ∷ [])
    reads_pushed ts t h =
        let reads = reads_from s ts t r reading h in
        record { lines = reads.lines; text = text ∙ ap (λ (l : List ℕ). l ++ b ∷ []) reads.text; count = count ∙ reads.count }

    -- the test is of the text that stands
    test_at : (ts : List (List ℕ)) (t : List ℕ) (ends : Bool) → ends_text (length (vec_items r.text)) b ≡ ends → Stands obeyed s ts t → ends_text (length t) b ≡ ends
    test_at ts t ends e h = ap (λ (l : List ℕ). ends_text (length l) b) (sym (reads_from s ts t r reading h).text) ∙ e

    pub byte_ends : (s' : Session H) (told : Result (String Global) AllocError) → ends_text (length (vec_items r.text)) b ≡ true → EndsText obeyed writes s.handler r' told s'
        → IfOk told (TakesBytes obeyed writes s (b ∷ []) s')
    byte_ends s' (Err none) e h = tt
    byte_ends s' (Ok out) e h = λ ts t room stands.
        let c = cut_here t b (test_at ts t true e stands) in
        takes_same s' ts ((t ++ b ∷ []) ∷ []) (cut t (b ∷ [])) [] (uncut t (b ∷ [])) out (sym c.0) (sym c.1)
        (h ts (t ++ b ∷ []) room stands.obeyed_lines (reads_pushed ts t stands))

    pub byte_kept : (s' : Session H) (out : String Global) → string_bytes out ≡ [] → ends_text (length (vec_items r.text)) b ≡ false
        → s'.handler ≡ s.handler → s'.reading ≡ Some r' → TakesBytes obeyed writes s (b ∷ []) s' out
    byte_kept s' out silent e handler reading' ts t room stands =
        let c = cut_later t b (test_at ts t false e stands) in
        let lines = subst (λ (x : H). obeyed x (lines_in ts)) (sym handler) stands.obeyed_lines in
        let on = stands_reading s' ts (t ++ b ∷ []) r' reading' lines (reads_pushed ts t stands) in
        takes_same s' ts [] (cut t (b ∷ [])) (t ++ b ∷ []) (uncut t (b ∷ [])) out (sym c.0) (sym c.1)
        (takes_none s' ts (t ++ b ∷ []) (t ++ b ∷ []) out silent on (kept_text s' ts (t ++ b ∷ []) on))

  pub byte_ignored : (s s' : Session H) (b : ℕ) (out : String Global) → string_bytes out ≡ [] → s.reading ≡ None → s'.handler ≡ s.handler → s'.reading ≡ None
      → TakesBytes obeyed writes s (b ∷ []) s' out
  byte_ignored s s' b out silent off handler off' ts t room stands =
      takes_ignored s s' ts (cut t (b ∷ [])) t (uncut t (b ∷ [])) out silent off handler off' stands

  -- ---- several bytes

  pub takes_nothing : (s : Session H) (out : String Global) → string_bytes out ≡ [] → TakesBytes obeyed writes s [] s out
  unfolding cut uncut
  takes_nothing s out silent ts t room stands = takes_none s ts t t out silent stands (kept_text s ts t stands)

  pub takes_on : (s s' s'' : Session H) (xs ys : List ℕ) (one two both : String Global) → TakesBytes obeyed writes s xs s' one → TakesBytes obeyed writes s' ys s'' two
      → string_bytes both ≡ string_bytes one ++ string_bytes two → TakesBytes obeyed writes s (xs ++ ys) s'' both
  takes_on s s' s'' xs ys one two both first second is ts t room stands =
      let long = length-append xs ys in
      let a = first ts t (omega arith) stands in
      let b = second (ts ++ cut t xs) (uncut t xs) (omega (arith, cut_few t xs, length-append ts (cut t xs))) a.stands in
      takes_same s'' ts (cut t xs ++ cut (uncut t xs) ys) (cut t (xs ++ ys)) (uncut (uncut t xs) ys) (uncut t (xs ++ ys)) both (sym (cut_append t xs ys)) (sym (uncut_append t xs ys))
      (record {
        stands = subst (λ (l : List (List ℕ)). Stands obeyed s'' l (uncut (uncut t xs) ys)) (append_assoc ts (cut t xs) (cut (uncut t xs) ys)) b.stands;
        wrote =
            ap (output writes) (sym (append_assoc ts (cut t xs) (cut (uncut t xs) ys))) ∙ b.wrote
            ∙ ap (λ (l : List ℕ). l ++ string_bytes two) a.wrote ∙ append_assoc (output writes ts) (string_bytes one) (string_bytes two)
            ∙ ap (λ (l : List ℕ). output writes ts ++ l) (sym is);
      })

  -- ---- a whole input

  pub feeds : (s s' : Session H) (chunk : List ℕ) (out : String Global) → TakesBytes obeyed writes s chunk s' out → Feeds obeyed writes s chunk s' out
  feeds s s' chunk out takes input room fed =
      let h = takes (cut [] input) (uncut [] input) (omega (arith, cut_few [] input)) fed in (
        subst (λ (l : List ℕ). Stands obeyed s' (cut [] (input ++ chunk)) l) (sym (uncut_append [] input chunk))
            (subst (λ (l : List (List ℕ)). Stands obeyed s' l (uncut (uncut [] input) chunk)) (sym (cut_append [] input chunk)) h.stands),
        ap (output writes) (cut_append [] input chunk) ∙ h.wrote,
      )

  -- the last text, if there is one
  last_is : (t : List ℕ) → (length t ≡ 0 → ⊥) → last_text t ≡ t ∷ []
  last_is [] h = absurd (h refl)
  last_is (b ∷ t) h = refl

  module _ (s : Session H) where
    pub finishes_stopped : (out : String Global) → string_bytes out ≡ [] → s.reading ≡ None → Finishes obeyed writes s out
    finishes_stopped out silent off input room fed =
        (takes_ignored s s (cut [] input) (last_text (uncut [] input)) (uncut [] input) [] out silent off refl off fed).wrote

    module _ (r : Reading) (reading : s.reading ≡ Some r) where
      pub finishes_empty : (out : String Global) → string_bytes out ≡ [] → length (vec_items r.text) ≡ 0 → Finishes obeyed writes s out
      finishes_empty out silent none input room fed =
          let reads = reads_from s (cut [] input) (uncut [] input) r reading fed in
          let left : uncut [] input ≡ [] = sym reads.text ∙ nil_from_length (vec_items r.text) none in
          ap (λ (t : List ℕ). output writes (cut [] input ++ last_text t)) left ∙ (takes_none s (cut [] input) (uncut [] input) (uncut [] input) out silent fed (kept_text s (cut [] input) (uncut [] input) fed)).wrote

      pub finishes_text : (s' : Session H) (told : Result (String Global) AllocError) → (length (vec_items r.text) ≡ 0 → ⊥) → EndsText obeyed writes s.handler r told s'
          → IfOk told (Finishes obeyed writes s)
      finishes_text s' (Err none) some h = tt
      finishes_text s' (Ok out) some h = λ input room fed.
          let t = uncut [] input in
          let reads = reads_from s (cut [] input) t r reading fed in
          let more : length t ≡ 0 → ⊥ = λ e. some (ap length reads.text ∙ e) in
          ap (λ (l : List (List ℕ)). output writes (cut [] input ++ l)) (last_is t more)
          ∙ (h (cut [] input) t (let few = few_texts [] input in omega (arith, more)) fed.obeyed_lines reads).wrote

  -- from the first byte to the end
  pub runs : (s s' : Session H) (input : List ℕ) (first last out : String Global) → writes [] ≡ [] → Fed obeyed s [] → length input < 2 ^ 64
      → Feeds obeyed writes s input s' first → Finishes obeyed writes s' last → string_bytes out ≡ string_bytes first ++ string_bytes last
      → string_bytes out ≡ output writes (texts input)
  unfolding cut lines_in first_bad
  runs s s' input first last out silent IfOk room feeds finishes is =
      let h = feeds [] (omega arith) IfOk in
      let start : said writes [] ≡ [] = append-nil (writes []) ∙ silent in
      is ∙ ap (λ (l : List ℕ). (l ++ string_bytes first) ++ string_bytes last) (sym start)
      ∙ sym (finishes input room h.0 ∙ ap (λ (l : List ℕ). l ++ string_bytes last) h.1)
