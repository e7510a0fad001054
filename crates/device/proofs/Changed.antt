-- What is found after a change, and that what is accepted does not change as values do.
use Rattle.std.proofs.Common.{◌≡◌, ℕ, Bool, true, false, cond, ◌&&◌, eqb, refl, ap, ◌∙◌}
use Rattle.std.specs.Option.{option_map}
use Rattle.device.specs.declared.VariableKind.{VariableKind}
use Rattle.device.specs.Meaning.{Meaning, Variable, Cell}
use Rattle.device.specs.Lookup.{is_at, variable_at, cell_at, there}
use Rattle.device.specs.Changes.{accepts, takes, same_kind, changed, holding, change, can_store, holding_byte, written, write}
use Rattle.device.proofs.Found.{find_map, there_mapped}
use Rattle.device.proofs.Bytes.{cell_each}

-- ---- variables

-- a change keeps what does not hang on the present value
changed_keeps : {X : Type 0} (look : Variable → X) → ((v : ℕ) (x : Variable) → look (holding v x) ≡ look x) → (k : VariableKind) (a v : ℕ) (x : Variable) → look (changed k a v x) ≡ look x
changed_keeps look blind k a v x =
    elim (same_kind k x.kind && eqb x.address a) as (λ t. look (cond t (holding v x) x) ≡ look x) [ true ↦ blind v x | false ↦ refl ]

pub variable_changed : (k : VariableKind) (m : Meaning) (a v b : ℕ) → variable_at (change k m a v) b ≡ option_map (changed k a v) (variable_at m b)
variable_changed k m a v b = find_map (is_at b) (changed k a v) (changed_keeps (is_at b) (λ _ _. refl) k a v) m.variables

pub accepts_changed : (k l : VariableKind) (m : Meaning) (a v b w : ℕ) → accepts k (change l m a v) b w ≡ accepts k m b w
accepts_changed k l m a v b w =
    ap (there (takes k w)) (variable_changed l m a v b)
    ∙ there_mapped (takes k w) (changed l a v) (variable_at m b)
    ∙ ap (λ (test : Variable → Bool). there test (variable_at m b)) (λ i x. changed_keeps (takes k w) (λ _ _. refl) l a v x i)

-- ---- bytes

pub cell_written : (m : Meaning) (n i v o j : ℕ) → cell_at (write m n i v) o j ≡ option_map (written n i v o j) (cell_at m o j)
cell_written m n i v o j = cell_each (written n i v) m o j

written_keeps : (n i v o j : ℕ) (c : Cell) → (written n i v o j c).writable ≡ c.writable
written_keeps n i v o j c =
    elim (eqb o n && eqb j i) as (λ t. (cond t (holding_byte v c) c).writable ≡ c.writable) [ true ↦ refl | false ↦ refl ]

pub stores_written : (m : Meaning) (n i v o j : ℕ) → can_store (write m n i v) o j ≡ can_store m o j
stores_written m n i v o j =
    ap (there (λ (c : Cell). c.writable)) (cell_written m n i v o j)
    ∙ there_mapped (λ (c : Cell). c.writable) (written n i v o j) (cell_at m o j)
    ∙ ap (λ (test : Cell → Bool). there test (cell_at m o j)) (λ k c. written_keeps n i v o j c k)
