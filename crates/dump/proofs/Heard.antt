-- What a monitor hears, and what is written of it.
use Rattle.std.specs.Prelude.{◌≡◌, ℕ, ◌≤◌, cond, List, [], ◌∷◌, ◌++◌, length, IfOk, Some, None, Ok, Err, string_bytes, Option, Result, String, ◌≢◌}
use Rattle.std.proofs.Common.{sym, ap, subst, ◌∙◌, ⊎_elim, append-nil, arith}
use Rattle.std.specs.List.{flat_map}
use Rattle.std.specs.declared.alloc.AllocError.{AllocError}
use Rattle.std.specs.declared.alloc.Global.{Global}
use Rattle.std.proofs.lemmas.Bool.{cases_eq, eq-eqb, ne_eqb}
use Rattle.refusals.specs.declared.Refusal.{Refusal}
use Rattle.frame.specs.Framing.{flag}
use Rattle.std.proofs.lemmas.List.Concat.{flat_map-append}
use Rattle.frame.specs.Limits.{max_packet}
use Rattle.frame.specs.Segment.{Segment, no_bytes, with_byte, with_fault}
use Rattle.frame.specs.Arrivals.{Arrival, closed, left_open}
use Rattle.frame.specs.Arrivals.Arrival.{byte, fault}
use Rattle.frame.specs.Receiving.{Holds, Receives}
use Rattle.frame.specs.declared.receiver.Digest.{Digest}
use Rattle.frame.proofs.Cuts.{left_open_append, closed_append}
use Rattle.packet.specs.Packets.{Parts}
use Rattle.packet.specs.Judging.{judge}
use Rattle.packet.specs.declared.causes.DropCause.{DropCause}
use Rattle.packet.specs.declared.judging.Station.TheVariants.{Monitor}
use Rattle.bench.specs.Lines.{LineValue}
use Rattle.session.specs.Obeying.{Obeys}
use Rattle.dump.specs.Texts.{verdict_text, segment_text}
use Rattle.dump.specs.Dumped.{arrivals_of, arrivals, dumped, open_segment}
use Rattle.dump.specs.Hearing.{HoldsSegment, Hears}
use Rattle.dump.specs.Monitored.{Heard}
use Rattle.dump.specs.declared.monitor.BusMonitor.{BusMonitor}

-- ---- one byte

module _ (s : Segment) (b : ℕ) where
  at_flag : b ≡ flag → (left_open s (byte b ∷ []) ≡ no_bytes) × (closed s (byte b ∷ []) ≡ s ∷ [])
  unfolding left_open closed
  at_flag e = let t = eq-eqb b flag e in ((λ i. cond (t i) no_bytes (with_byte s b)), (λ i. cond (t i) (s ∷ []) []))

  inside : (b ≢ flag) → (left_open s (byte b ∷ []) ≡ with_byte s b) × (closed s (byte b ∷ []) ≡ [])
  unfolding left_open closed
  inside n = let t = ne_eqb b flag n in ((λ i. cond (t i) no_bytes (with_byte s b)), (λ i. cond (t i) (s ∷ []) []))

module _ (m m' : BusMonitor) (b : ℕ) (told : Result (Option Digest) Refusal) (receives : Receives m.receiver b m.memory told m'.receiver m'.memory) (same : length m'.memory ≡ length m.memory) where
  -- a segment was closed, and the verdict on it is written
  module _ (d : Digest) (closes : told ≡ Ok (Some d)) (verdict : Result Parts DropCause) (judged : (s : Segment) → Holds d m'.memory s → verdict ≡ judge Monitor s) where
    writes_verdict : (text : String Global) → string_bytes text ≡ verdict_text verdict → Hears m (byte b ∷ []) m' text
    writes_verdict text written s held =
        let room : max_packet ≤ length m.memory = omega (arith, held.room) in
        ⊎_elim
        (λ e.
        let h = receives.at_flag s room e held.holds in
        let is : h.0 ≡ d = cc (closes, h.1) in
        let c = at_flag s b e in (
          record { room = same ∙ held.room; holds = subst (Holds m'.receiver m'.memory) (sym c.0) h.3 },
          written ∙ ap verdict_text (judged s (subst (λ (x : Digest). Holds x m'.memory s) is h.2)) ∙ sym (append-nil (segment_text s))
              ∙ sym (ap (flat_map segment_text) c.1),
        ))
        (λ n. let h = receives.inside s room n held.holds in absurd (cc (closes, h.0)))
        (cases_eq b flag)

    pub hears_segment : (text : Result (String Global) AllocError) → IfOk text (λ t. string_bytes t ≡ verdict_text verdict) → IfOk text (Hears m (byte b ∷ []) m')
    hears_segment (Ok t) h = writes_verdict t h
    hears_segment (Err none) h = tt

  -- the segment goes on
  pub hears_byte : (text : String Global) → told ≡ Ok None → string_bytes text ≡ [] → Hears m (byte b ∷ []) m' text
  hears_byte text goes silent s held =
      let room : max_packet ≤ length m.memory = omega (arith, held.room) in
      ⊎_elim
      (λ e. let h = receives.at_flag s room e held.holds in absurd (cc (goes, h.1)))
      (λ n.
      let h = receives.inside s room n held.holds in
      let c = inside s b n in
      (record { room = same ∙ held.room; holds = subst (Holds m'.receiver m'.memory) (sym c.0) h.1 }, silent ∙ sym (ap (flat_map segment_text) c.1)))
      (cases_eq b flag)

-- ---- several

pub hears_none : (m : BusMonitor) (text : String Global) → string_bytes text ≡ [] → Hears m [] m text
unfolding left_open closed
hears_none m text silent s held = (held, silent)

pub hears_on : (m m' m'' : BusMonitor) (xs ys : List Arrival) (one two both : String Global) → Hears m xs m' one → Hears m' ys m'' two
    → string_bytes both ≡ string_bytes one ++ string_bytes two → Hears m (xs ++ ys) m'' both
hears_on m m' m'' xs ys one two both first second is s held =
    let a = first s held in
    let b = second (left_open s xs) a.0 in (
      subst (HoldsSegment m'') (sym (left_open_append s xs ys)) b.0,
      is ∙ (λ i. a.1 i ++ b.1 i)
          ∙ sym (ap (flat_map segment_text) (closed_append s xs ys) ∙ flat_map-append segment_text (closed s xs) (closed (left_open s xs) ys)),
    )

pub hears_fault : (m m' : BusMonitor) (text : String Global) → m'.memory ≡ m.memory → ((s : Segment) → Holds m.receiver m.memory s → Holds m'.receiver m.memory (with_fault s))
    → string_bytes text ≡ [] → Hears m (fault ∷ []) m' text
unfolding left_open closed
hears_fault m m' text same faults silent s held =
    (record { room = ap length same ∙ held.room; holds = subst (λ (l : List ℕ). Holds m'.receiver l (with_fault s)) (sym same) (faults s held.holds) }, silent)

-- ---- lines

-- a line was obeyed where what it brings was heard
pub obeys_heard : (m m' : BusMonitor) (v : LineValue) (text : String Global) → Hears m (arrivals_of v) m' text → Obeys Heard dumped m v (Ok text) m'
obeys_heard m m' v text hears vs held =
    let came = arrivals vs in
    let more : arrivals (vs ++ v ∷ []) ≡ came ++ arrivals_of v = flat_map-append arrivals_of vs (v ∷ []) ∙ ap (λ (l : List Arrival). came ++ l) (append-nil (arrivals_of v)) in
    let a = hears (open_segment vs) held in (
      subst (λ (l : List Arrival). HoldsSegment m' (left_open no_bytes l)) (sym more)
          (subst (HoldsSegment m') (sym (left_open_append no_bytes came (arrivals_of v))) a.0),
      ap (λ (l : List Arrival). flat_map segment_text (closed no_bytes l)) more
          ∙ ap (flat_map segment_text) (closed_append no_bytes came (arrivals_of v))
          ∙ flat_map-append segment_text (closed no_bytes came) (closed (open_segment vs) (arrivals_of v))
          ∙ ap (λ (l : List ℕ). dumped vs ++ l) (sym a.1),
    )
