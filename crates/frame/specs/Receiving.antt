-- What a receiver keeps of an open segment, byte by byte, and how that stands for the whole segment.
use Rattle.std.specs.Prelude.{◌≡◌, ℕ, ◌+◌, ◌≤◌, Bool, true, false, cond, List, length, take, Some, None, Ok, Err, Option, Result, ◌==◌, ◌≢◌, nat_lt, slice_set, unwrap_or}
use Rattle.refusals.specs.declared.Refusal.{Refusal}
use Rattle.refusals.specs.declared.Refusal.TheVariants.{ShortBuffer}
use Rattle.frame.specs.Limits.{max_packet}
use Rattle.frame.specs.Framing.{flag}
use Rattle.frame.specs.Escapes.{after, meant, after_all, unescaped}
use Rattle.frame.specs.Segment.{Segment, no_bytes, with_byte}
use Rattle.frame.specs.declared.escaping.Escaping.TheVariants.{Outside}
use Rattle.frame.specs.declared.receiver.Digest.{Digest}

-- ---- byte by byte

-- of no bytes
abbrev pub blank : Digest
blank = record { count = Some 0; escaping = Outside; faulted = false }

-- a count with an unescaped byte, if there is one: the longest packet has no room for another
abbrev pub counted : Option ℕ → Option ℕ → Option ℕ
counted None count = count
counted (Some c) None = None
counted (Some c) (Some n) = cond (nat_lt n max_packet) (Some (n + 1)) None

-- with one more byte of the line that is no flag
abbrev pub digested : Digest → ℕ → Digest
digested d b = record { count = counted (meant d.escaping b) d.count; escaping = after d.escaping b; faulted = d.faulted }

abbrev pub fault_digested : Digest → Digest
fault_digested d = record { count = d.count; escaping = d.escaping; faulted = true }

-- how many of its unescaped bytes are in the memory: those up to the longest packet
abbrev pub kept : Digest → ℕ
kept d = unwrap_or d.count max_packet

-- the memory with one more unescaped byte at its place, if there is one
abbrev pub stored : Option ℕ → ℕ → List ℕ → List ℕ
stored None at memory = memory
stored (Some c) at memory = cond (nat_lt at max_packet) (slice_set memory at c) memory

-- ---- a call

-- the memory is too short to hold every packet
abbrev pub too_short : List ℕ → Bool
too_short memory = nat_lt (length memory) max_packet

-- what a byte tells: at a flag, the digest of the segment that it closes
abbrev pub byte_tells : Digest → ℕ → List ℕ → Result (Option Digest) Refusal
byte_tells d b memory = cond (too_short memory) (Err ShortBuffer) (Ok (cond (b == flag) (Some d) None))

abbrev pub byte_leaves : Digest → ℕ → List ℕ → Digest
byte_leaves d b memory = cond (too_short memory) d (cond (b == flag) blank (digested d b))

abbrev pub byte_places : Digest → ℕ → List ℕ → List ℕ
byte_places d b memory =
    cond (too_short memory) memory (cond (b == flag) memory (stored (meant d.escaping b) (kept d) memory))

-- ---- the whole segment

-- how many some bytes are, unless they are more than the longest packet has
abbrev pub few : List ℕ → Option ℕ
few bs = cond (nat_lt max_packet (length bs)) None (Some (length bs))

-- the digest and the memory hold the segment: at the memory's front are the bytes that it stands for, up to the longest packet
pub record Holds (d : Digest) (memory : List ℕ) (s : Segment) : Type 0 where
  pub count : d.count ≡ few (unescaped s.came)
  pub front : take (kept d) memory ≡ take max_packet (unescaped s.came)
  pub escaping : d.escaping ≡ after_all Outside s.came
  pub faulted : d.faulted ≡ s.faulted

-- what one byte does to a receiver that holds a segment, where the memory is long enough: a flag tells the segment's digest and
-- begins the next one, and any other byte is one more byte of it
pub record Receives (was : Digest) (b : ℕ) (memory : List ℕ) (told : Result (Option Digest) Refusal) (is : Digest) (memory' : List ℕ) : Type 0 where
  pub at_flag :
      (s : Segment) → max_packet ≤ length memory → b ≡ flag → Holds was memory s
      → (d : Digest) × (told ≡ Ok (Some d)) × Holds d memory' s × Holds is memory' no_bytes
  pub inside :
      (s : Segment) → max_packet ≤ length memory → (b ≢ flag) → Holds was memory s
      → (told ≡ Ok None) × Holds is memory' (with_byte s b)
