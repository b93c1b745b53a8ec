use Rattle.std.proofs.Common.{◌≡◌, length, subst, sym, ◌∙◌}
use Rattle.ec_logic.specs.Universe.{universe_of}
use Rattle.ec_logic.specs.Signature.{Signature}
use Rattle.ec_logic.specs.Atom.{all_atoms, visible_atoms}
use Rattle.ec_theory.specs.Theories.{theory_of}
use Rattle.ec_minimal.specs.Verdicts.{IsVerdict}
use Rattle.ec_audit.proofs.Parts.{is_truth, is_untrue, is_other}
use Rattle.ec_audit.proofs.part.untrue_part.Goals as goal

pub structure_with-requires : goal.structure_with-requires
structure_with-requires c = subst (λ (s : Signature). length c.args.truth.now ≡ length (visible_atoms (universe_of s))) (sym c.requires.of) c.requires.whole

pub least_effects-requires-clause-all : goal.least_effects-requires-clause-all
least_effects-requires-clause-all c = subst (λ (s : Signature). length c.in_ok-structure.structure ≡ length (all_atoms (universe_of s))) c.requires.of c.in_ok-structure.ensures.size

pub is_minimal-requires-clause-all : goal.is_minimal-requires-clause-all
is_minimal-requires-clause-all c =
    let old = subst (λ (s : Signature). length c.in_ok-structure.structure ≡ length (all_atoms (universe_of s))) c.requires.of c.in_ok-structure.ensures.size in
    c.in_ok-least_effects.ensures.size ∙ old

pub returns-in-Minimal : goal.returns-in-Minimal
returns-in-Minimal c =
    let old = subst (λ (s : Signature). length c.in_ok-structure.structure ≡ length (all_atoms (universe_of s))) c.requires.of c.in_ok-structure.ensures.size in
    let new = c.in_ok-least_effects.ensures.size ∙ old in
    is_truth (theory_of c.args.theory.now) c.requires.valid c.args.truth.now c.in_ok-structure.structure c.least_effects.new.structure old new c.requires.whole
    c.in_ok-structure.ensures.same c.in_ok-least_effects.ensures.filled (c.in_ok-is_minimal.ensures.minimal.0 c.in-Minimal.is)

pub returns : goal.returns
returns c =
    let old = subst (λ (s : Signature). length c.in_ok-structure.structure ≡ length (all_atoms (universe_of s))) c.requires.of c.in_ok-structure.ensures.size in
    let new = c.in_ok-least_effects.ensures.size ∙ old in
    let no = is_other c.in_ok-is_minimal.field-0 c.in-Untrue.part c.in-Untrue.is in
    is_untrue (theory_of c.args.theory.now) c.requires.valid c.args.truth.now c.in_ok-structure.structure c.least_effects.new.structure old new c.requires.whole
    c.in_ok-structure.ensures.same c.in_ok-least_effects.ensures.filled c.in-Untrue.part (λ minimal. no (c.in_ok-is_minimal.ensures.minimal.1 minimal))
    (subst (IsVerdict (theory_of c.args.theory.now) _) c.in-Untrue.is c.in_ok-is_minimal.ensures.verdict)
