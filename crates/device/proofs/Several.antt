-- Several settings at once: what is accepted does not change as values are set.
use Rattle.std.proofs.Common.{◌≡◌, ℕ, true, List, [], ◌∷◌, sym, refl, ap, ◌∙◌}
use Rattle.std.specs.List.{list_all}
use Rattle.std.proofs.lemmas.Bool.{and_parts, cond-true}
use Rattle.device.specs.declared.VariableKind.TheVariants.{Setting}
use Rattle.device.specs.declared.assignments.Assignment.{Assignment}
use Rattle.device.specs.Meaning.{Meaning}
use Rattle.device.specs.Changes.{change}
use Rattle.device.specs.Assignments.{accepts_all, change_all, offered_all, assigned}
use Rattle.device.proofs.Changed.{accepts_changed}

accepts_all_changed : (m : Meaning) (a v : ℕ) (ps : List Assignment) → accepts_all (change Setting m a v) ps ≡ accepts_all m ps
accepts_all_changed m a v ps = λ i. list_all (λ p. accepts_changed Setting Setting m a v p.address p.value i) ps

-- offering what is accepted makes every change
all_offered : (m : Meaning) (ps : List Assignment) → accepts_all m ps ≡ true → offered_all m ps ≡ change_all m ps
all_offered m [] h = refl
all_offered m (p ∷ ps) h =
    let both = and_parts _ _ h in
    ap (λ n. offered_all n ps) (cond-true _ (change Setting m p.address p.value) m both.0)
    ∙ all_offered (change Setting m p.address p.value) ps (accepts_all_changed m p.address p.value ps ∙ both.1)

pub all_assigned : (m : Meaning) (ps : List Assignment) → true ≡ accepts_all m ps → offered_all m ps ≡ assigned m ps
all_assigned m ps h = all_offered m ps (sym h) ∙ sym (cond-true _ _ _ (sym h))
