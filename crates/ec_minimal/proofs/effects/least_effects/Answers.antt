use Rattle.std.proofs.Common.{◌≡◌, ◌∙◌, ℕ, List, ℤ, map, sym}
use Rattle.ec_logic.specs.Universe.{universe_of}
use Rattle.ec_logic.specs.Atom.{structure_of}
use Rattle.ec_logic.specs.Completed.{filled}
use Rattle.ec_logic.specs.ValidTheory.{IsValidGroup}
use Rattle.ec_theory.specs.Theories.{group_of, sentence_trees, theory_of}
use Rattle.ec_minimal.specs.Effects.{with_effects}
use Rattle.ec_minimal.proofs.FirstLemmas.{item_at, fact_at}
use Rattle.ec_minimal.proofs.EffectLemmas.{effects_first, some_group, on_ok_map}
use Rattle.ec_minimal.proofs.effects.least_effects.Goals as goal

pub fill_group-requires-clause-valid : goal.fill_group-requires-clause-valid
fill_group-requires-clause-valid c =
    let groups = c.args.theory.now.groups.items in
    let first = c.index-effects.result.now in
    let at = item_at group_of groups 0 first (some_group groups c.requires.valid.effects_first) c.index-effects.ensures in
    fact_at (IsValidGroup c.args.theory.now.signature) (map group_of groups) 0 (group_of first) c.requires.valid.groups at

pub returns-clause-filled : goal.returns-clause-filled
returns-clause-filled c =
    let signature = c.args.theory.now.signature in
    let universe = universe_of signature in
    let groups = c.args.theory.now.groups.items in
    let first = c.index-effects.result.now in
    let at = item_at group_of groups 0 first (some_group groups c.requires.valid.effects_first) c.index-effects.ensures in
    let m = structure_of universe c.args.structure.now in
    let same = effects_first signature (sentence_trees c.args.theory.now.remaining.items) (map group_of groups) (group_of first) m at in
    on_ok_map c.fill_group.result
    ((p : ℕ) (vs : List ℤ) → structure_of universe c.fill_group.new.structure p vs ≡ filled universe (group_of first) m p vs)
    ((p : ℕ) (vs : List ℤ) → structure_of universe c.fill_group.new.structure p vs ≡ with_effects (theory_of c.args.theory.now) m p vs)
    c.fill_group.ensures.filled (λ h p vs. h p vs ∙ sym (same p vs))
