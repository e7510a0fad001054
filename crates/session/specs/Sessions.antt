-- A session that takes an input, part by part.
use Rattle.std.specs.Prelude.{◌≡◌, ℕ, ◌+◌, ◌^◌, ◌<◌, Bool, List, [], ◌∷◌, ◌++◌, length, is_none, IsSome, IfOk, None, vec_items, string_bytes, Option, Result, String}
use Rattle.std.specs.Option.{MatchOption}
use Rattle.std.specs.declared.alloc.AllocError.{AllocError}
use Rattle.std.specs.declared.alloc.Global.{Global}
use Rattle.bench.specs.Lines.{LineValue}
use Rattle.session.specs.Texts.{cut, uncut, texts}
use Rattle.session.specs.Obeying.{lines_in, first_bad, output}
use Rattle.session.specs.declared.feeding.Session.{Session}
use Rattle.session.specs.declared.feeding.Reading.{Reading}

-- once a text was no line, nothing counts any more
abbrev pub is_stopped : {H : Type 0} → Session H → Bool
is_stopped s = is_none s.reading

-- the texts `ts` were lines, and the bytes `t` are those of a text that is not ended
pub record Reads (r : Reading) (ts : List (List ℕ)) (t : List ℕ) : Type 0 where
  pub lines : first_bad 1 ts ≡ None
  pub text : vec_items r.text ≡ t
  pub count : r.count ≡ length ts

-- The session has taken the texts `ts`, and the bytes `t` of a text that is not ended. Once a text was no line, nothing else matters.
pub record Stands {H : Type 0} (obeyed : H → List LineValue → Type 0) (s : Session H) (ts : List (List ℕ)) (t : List ℕ) : Type 0 where
  pub obeyed_lines : obeyed s.handler (lines_in ts)
  pub reading : MatchOption s.reading (IsSome (first_bad 1 ts)) (λ r. Reads r ts t)

-- the session was fed this input
abbrev pub Fed : {H : Type 0} → (H → List LineValue → Type 0) → Session H → List ℕ → Type 0
Fed obeyed s input = Stands obeyed s (cut [] input) (uncut [] input)

-- what was written of an input, before its end
abbrev pub said : (List LineValue → List ℕ) → List ℕ → List ℕ
said writes input = output writes (cut [] input)

-- texts and bytes that were taken are added, and `out` is what this writes
pub record Takes {H : Type 0} (obeyed : H → List LineValue → Type 0) (writes : List LineValue → List ℕ) (s' : Session H) (ts more : List (List ℕ)) (t : List ℕ) (out : String Global) : Type 0 where
  pub stands : Stands obeyed s' (ts ++ more) t
  pub wrote : output writes (ts ++ more) ≡ output writes ts ++ string_bytes out

-- the text that was being read is ended
abbrev pub EndsText : {H : Type 0} → (H → List LineValue → Type 0) → (List LineValue → List ℕ) → H → Reading → Result (String Global) AllocError → Session H → Type 0
EndsText obeyed writes handler r told s' =
    IfOk told (λ out. (ts : List (List ℕ)) (t : List ℕ) → length ts + 1 < 2 ^ 64 → obeyed handler (lines_in ts) → Reads r ts t → Takes obeyed writes s' ts (t ∷ []) [] out)

-- some bytes were taken. Lines are counted by a number of 64 bits
abbrev pub TakesBytes : {H : Type 0} → (H → List LineValue → Type 0) → (List LineValue → List ℕ) → Session H → List ℕ → Session H → String Global → Type 0
TakesBytes obeyed writes s bytes s' out =
    (ts : List (List ℕ)) (t : List ℕ) → length ts + length bytes < 2 ^ 64 → Stands obeyed s ts t → Takes obeyed writes s' ts (cut t bytes) (uncut t bytes) out

-- one byte was taken, and what this wrote was told, or that nothing was
abbrev pub TakesByte : {H : Type 0} → (H → List LineValue → Type 0) → (List LineValue → List ℕ) → Session H → ℕ → Session H → Option (String Global) → Type 0
TakesByte obeyed writes s b s' told =
    MatchOption told ((out : String Global) → string_bytes out ≡ [] → TakesBytes obeyed writes s (b ∷ []) s' out) (TakesBytes obeyed writes s (b ∷ []) s')

-- a session that was fed an input is fed a part more, and writes what this adds
abbrev pub Feeds : {H : Type 0} → (H → List LineValue → Type 0) → (List LineValue → List ℕ) → Session H → List ℕ → Session H → String Global → Type 0
Feeds obeyed writes s chunk s' out =
    (input : List ℕ) → length input + length chunk < 2 ^ 64 → Fed obeyed s input
    → Fed obeyed s' (input ++ chunk) × (said writes (input ++ chunk) ≡ said writes input ++ string_bytes out)

-- a session that was fed an input comes to its end, and writes the rest
abbrev pub Finishes : {H : Type 0} → (H → List LineValue → Type 0) → (List LineValue → List ℕ) → Session H → String Global → Type 0
Finishes obeyed writes s out =
    (input : List ℕ) → length input < 2 ^ 64 → Fed obeyed s input → output writes (texts input) ≡ said writes input ++ string_bytes out
