use Rattle.std.proofs.Common.{◌≡◌, ◌∙◌, false, List, map, sym, ap, subst}
use Rattle.std.specs.List.{AllByRecursion}
use Rattle.ec_logic.specs.Tree.{Formula}
use Rattle.ec_logic.specs.Universe.{universe_of}
use Rattle.ec_logic.specs.Atom.{structure_of}
use Rattle.ec_logic.specs.Axiom.{release_axioms}
use Rattle.ec_logic.specs.Theory.{all_hold}
use Rattle.ec_logic.specs.ValidTheory.{IsSentence, IsValidSentence}
use Rattle.ec_logic.proofs.AxiomSentences.{release_sentences}
use Rattle.ec_theory.specs.Theories.{sentence_trees, theory_of}
use Rattle.ec_theory.specs.View.{formula_tree}
use Rattle.ec_models.proofs.EarlyLaws.{all_by_recursion, early_each, release_untrue, sentence_untrue}
use Rattle.ec_models.proofs.truths.Trial.passes_early.Goals as goal

pub axioms_hold-requires-clause-sentences : goal.axioms_hold-requires-clause-sentences
axioms_hold-requires-clause-sentences c =
    let signature = c.args.self.now.theory.now.signature in
    let axioms = ap (map formula_tree) c.deref.ensures.value ∙ c.requires.judge.release in
    let P : List Formula → Type 0 = λ fs. AllByRecursion (IsSentence signature) fs in
    subst P (sym axioms) (all_by_recursion (IsSentence signature) (release_axioms signature) (release_sentences signature c.requires.valid.signature))

pub returns-then-not-axioms_hold-clause-other : goal.returns-then-not-axioms_hold-clause-other
returns-then-not-axioms_hold-clause-other c =
    let universe = universe_of c.args.self.now.theory.now.signature in
    let axioms = ap (map formula_tree) c.deref.ensures.value ∙ c.requires.judge.release in
    let P : List Formula → Type 0 = λ fs. all_hold universe (structure_of universe c.args.structure.now) fs ≡ false in
    let other = sym c.axioms_hold.ensures.answer ∙ c.if-not-axioms_hold.true in
    λ e. release_untrue (theory_of c.args.self.now.theory.now) c.requires.valid c.args.structure.now c.requires.all (subst P axioms other)

pub sentences_hold-requires-clause-sentences : goal.sentences_hold-requires-clause-sentences
sentences_hold-requires-clause-sentences c =
    let signature = c.args.self.now.theory.now.signature in
    let remaining = sentence_trees c.args.self.now.theory.now.remaining.items in
    let P : List Formula → Type 0 = λ fs. AllByRecursion (IsValidSentence signature) fs in
    subst P (sym c.requires.early) (early_each (IsValidSentence signature) remaining (all_by_recursion (IsValidSentence signature) remaining c.requires.valid.remaining))

pub returns-clause-other : goal.returns-clause-other
returns-clause-other c =
    let universe = universe_of c.args.self.now.theory.now.signature in
    let P : List Formula → Type 0 = λ fs. all_hold universe (structure_of universe c.args.structure.now) fs ≡ false in
    λ e. sentence_untrue (theory_of c.args.self.now.theory.now) c.requires.valid c.args.structure.now c.requires.all (subst P c.requires.early (sym c.sentences_hold.ensures.answer ∙ e))
