-- Two truths that meet the list of a theory and have one visible part are the same at each variable.
use Rattle.std.proofs.Common.{◌≡◌, ℕ, ◌+◌, ◌-◌, ◌<◌, ◌≤◌, nat_lt, Bool, true, false, List, length, get_or, ℤ, All, refl, ap, sym, ◌∙◌, arith}
use Rattle.std.proofs.lemmas.Bool.Decides.{nat_tests}
use Rattle.std.proofs.lemmas.List.Elements.{Contains-get_or}
use Rattle.ec_logic.specs.Universe.{universe_of}
use Rattle.ec_logic.specs.Truth.{Structure}
use Rattle.ec_logic.specs.Theory.{Theory}
use Rattle.ec_logic.specs.ValidTheory.{IsValidTheory}
use Rattle.ec_logic.proofs.Minimality.{minimal_models_equal}
use Rattle.ec_folding.specs.Tree.{Tree, never, true_in}
use Rattle.ec_clause.specs.Step.{AllHold}
use Rattle.ec_naming.specs.Extension.{atoms_of, extended}
use Rattle.ec_naming.proofs.Whole.{length-whole}
use Rattle.ec_grounding.specs.Grounded.{sentence_trees, definitions, variables}
use Rattle.ec_grounding.specs.Models.{SupportsTuples, structure_read}
use Rattle.ec_grounding.specs.WellFormed.{AreNumbered, HasVariable, visible_count}
use Rattle.ec_grounding.proofs.ReadStructures.{read_structure, read_truths}
use Rattle.ec_certificate.specs.Shown.{visible_part}
use Rattle.ec_cnf.specs.List.{variable_in, clauses_of}
use Rattle.ec_cnf.proofs.NamedTrees.{true_alike, whole_atoms}
use Rattle.ec_cnf.proofs.AtomsRead.{each_variable, visible_same}
use Rattle.ec_cnf.proofs.Extensions.{first_name, named_trees, truths_of, one_extension, variable_at, formed, minimal_read, visible_read}

-- a name has the truth of its tree
extended_above : (at : ℕ → ℕ) (n : ℕ) (ts : List Tree) (v : ℕ → Bool) (i : ℕ) → nat_lt i n ≡ false → extended at n ts v i ≡ true_in (atoms_of at v) (get_or ts (i - n) never)
extended_above at n ts v i e = rw e refl

module _ (theory : Theory) (valid : IsValidTheory theory) (tuples : All (SupportsTuples (universe_of theory.signature)) theory.groups) (places : AreNumbered (universe_of theory.signature)) where
  module _ (v w : ℕ → Bool) (meets-v : AllHold v (clauses_of theory)) (meets-w : AllHold w (clauses_of theory)) (same : visible_part (visible_count theory) v ≡ visible_part (visible_count theory) w) where
    abbrev read-v : Structure
    read-v = structure_read theory (truths_of theory v)

    abbrev read-w : Structure
    read-w = structure_read theory (truths_of theory w)

    -- they give one structure
    structures_equal : (p : ℕ) (vs : List ℤ) → read-v p vs ≡ read-w p vs
    structures_equal =
        let visible = visible_read theory valid places v ∙ (same ∙ sym (visible_read theory valid places w)) in
        minimal_models_equal theory read-v read-w valid (minimal_read theory valid tuples v meets-v) (minimal_read theory valid tuples w meets-w)
        (λ p vs outside. visible_same theory read-v read-w (read_structure theory valid (truths_of theory v)) (read_structure theory valid (truths_of theory w)) visible p vs outside)

    -- so the atoms that have a variable have the same truths
    atoms_same : (a : ℕ) → HasVariable theory a → truths_of theory v a ≡ truths_of theory w a
    atoms_same = each_variable theory valid (λ a. truths_of theory v a ≡ truths_of theory w a)
        (λ p k vs known e. read_truths theory valid (truths_of theory v) p k vs known e ∙ (structures_equal p vs ∙ sym (read_truths theory valid (truths_of theory w) p k vs known e)))

    -- and so have the trees
    trees_same : (k : ℕ) → k < length (named_trees theory) → true_in (truths_of theory v) (get_or (named_trees theory) k never) ≡ true_in (truths_of theory w) (get_or (named_trees theory) k never)
    trees_same k h =
        let form = formed theory valid places in
        let atoms = whole_atoms (HasVariable theory) (sentence_trees theory) (definitions theory) form.sentence_atoms form.scope_atoms in
        true_alike (HasVariable theory) (truths_of theory v) (truths_of theory w) atoms_same (get_or (named_trees theory) k never) (atoms k never h)

    pub truths_same : (i : ℕ) → 1 ≤ i → i ≤ (clauses_of theory).variables → v i ≡ w i
    truths_same i least most = cases (nat_lt i (first_name theory)) refl
      where
        cases : (t : Bool) → nat_lt i (first_name theory) ≡ t → v i ≡ w i
        cases true e =
            let below : i < first_name theory = grind (arith, nat_tests, e) in
            let within : i - 1 < length (variables theory) = omega (arith, below, least) in
            let variable = variable_at theory (formed theory valid places) (get_or (variables theory) (i - 1) 0) (i - 1) 0 within refl in
            let place : variable_in theory (get_or (variables theory) (i - 1) 0) ≡ i = omega (arith, variable, least) in
            ap v (sym place) ∙ (atoms_same (get_or (variables theory) (i - 1) 0) (Contains-get_or (variables theory) (i - 1) 0 within) ∙ ap w place)
        cases false e =
            let above : first_name theory ≤ i = grind (arith, nat_tests, e) in
            let known : i < first_name theory + length (named_trees theory) = omega (arith, most, length-whole (sentence_trees theory) (definitions theory)) in
            let own-v = (((one_extension theory).meets v).0 meets-v).0 i (omega (arith, most)) in
            let own-w = (((one_extension theory).meets w).0 meets-w).0 i (omega (arith, most)) in
            own-v ∙ (extended_above (variable_in theory) (first_name theory) (named_trees theory) v i e
            ∙ (trees_same (i - first_name theory) (omega (arith, known, above))
            ∙ (sym (extended_above (variable_in theory) (first_name theory) (named_trees theory) w i e) ∙ sym own-w)))
