use Rattle.std.proofs.Common.{◌≡◌, ℕ, List, ℤ, All, sym, subst}
use Rattle.ec_logic.specs.Universe.{universe_of}
use Rattle.ec_logic.specs.Atom.{structure_of}
use Rattle.ec_logic.specs.ClauseTree.{is_supported}
use Rattle.ec_theory.specs.declared.theory.Sentence.{Sentence}
use Rattle.ec_theory.specs.Theories.{group_of, sentence_trees}
use Rattle.ec_minimal.specs.Agrees.{Agrees}
use Rattle.ec_minimal.proofs.AgreeLemmas.{group_law}
use Rattle.ec_minimal.proofs.group.is_group_minimal.Goals as goal

pub returns : goal.returns
returns c =
    let universe = universe_of c.args.signature.now in
    let bits = c.args.structure.now in
    let marks = c.in_ok-supported.supported in
    let S : List Sentence → Type 0 = λ ss. (p : ℕ) (vs : List ℤ) → structure_of universe marks p vs ≡ is_supported universe (structure_of universe bits) (sentence_trees ss) p vs in
    let A : List ℕ → Type 0 = λ ps. All (Agrees universe bits marks) ps in
    let value = c.deref-2.ensures.value in
    group_law universe (group_of c.args.group.now) bits marks c.agree_on_all-same.result c.requires.valid.clause_form
    (subst S c.deref.ensures.value c.in_ok-supported.ensures.supported)
    (λ e. subst A value (c.agree_on_all-same.ensures.same e))
    (λ e a. c.agree_on_all-same.ensures.other e (subst A (sym value) a))
