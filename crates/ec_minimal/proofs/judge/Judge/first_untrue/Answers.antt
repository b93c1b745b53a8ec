use Rattle.std.proofs.Common.{◌≡◌, ◌∙◌, true, ℕ, List, All, length, map, sym, ap, subst, arith}
use Rattle.std.proofs.lemmas.List.{length-map}
use Rattle.ec_logic.specs.Signature.{Signature}
use Rattle.ec_logic.specs.Tree.{Formula}
use Rattle.ec_logic.specs.Universe.{universe_of}
use Rattle.ec_logic.specs.Atom.{structure_of}
use Rattle.ec_logic.specs.Theory.{all_hold}
use Rattle.ec_logic.specs.ValidTheory.{IsSentence}
use Rattle.ec_logic.proofs.AxiomSentences.{dec_sentences, release_sentences}
use Rattle.ec_theory.specs.declared.theory.Sentence.{Sentence}
use Rattle.ec_theory.specs.Theories.{sentence_trees, theory_of}
use Rattle.ec_theory.specs.View.{formula_tree}
use Rattle.ec_minimal.specs.declared.judge.Judge.{Judge}
use Rattle.ec_minimal.specs.declared.verdict.Part.TheVariants.{Remaining, Axiom, Release}
use Rattle.ec_minimal.specs.Judges.{IsJudgeOf}
use Rattle.ec_minimal.specs.Verdicts.{IsFirstFalse, IsFirstUntrue, remaining, axiom_of, release}
use Rattle.ec_minimal.proofs.ReleaseLemmas.{release_few}
use Rattle.ec_minimal.proofs.judge.Judge.first_untrue.Goals as goal

-- ---- the judge keeps what it is, whose room alone may be used

judge_kept : (signature : Signature) (judge : Judge) (scratch : ℕ) → scratch ≡ judge.scratch → IsJudgeOf signature judge → IsJudgeOf signature (record judge { scratch = scratch })
judge_kept signature judge scratch same is = let P : ℕ → Type 0 = λ n. IsJudgeOf signature (record judge { scratch = n }) in subst P (sym same) is

pub returns-in-Some-clause-judge : goal.returns-in-Some-clause-judge
returns-in-Some-clause-judge c = judge_kept c.args.theory.now.signature c.args.self.now c.first_false_sentence.new.scratch (c.first_false_sentence.ensures.same) c.requires.judge

pub returns-in-Some-first_false_formula-clause-judge : goal.returns-in-Some-first_false_formula-clause-judge
returns-in-Some-first_false_formula-clause-judge c = judge_kept c.args.theory.now.signature c.args.self.now c.first_false_formula.new.scratch (c.first_false_formula.ensures.same ∙ c.first_false_sentence.ensures.same) c.requires.judge

pub returns-in-Some-first_false_formula-2-clause-judge : goal.returns-in-Some-first_false_formula-2-clause-judge
returns-in-Some-first_false_formula-2-clause-judge c = judge_kept c.args.theory.now.signature c.args.self.now c.first_false_formula-2.new.scratch (c.first_false_formula-2.ensures.same ∙ (c.first_false_formula.ensures.same ∙ c.first_false_sentence.ensures.same)) c.requires.judge

pub returns-clause-judge : goal.returns-clause-judge
returns-clause-judge c = judge_kept c.args.theory.now.signature c.args.self.now c.first_false_formula-2.new.scratch (c.first_false_formula-2.ensures.same ∙ (c.first_false_formula.ensures.same ∙ c.first_false_sentence.ensures.same)) c.requires.judge

-- ---- the remaining sentences

untrue_remaining : (c : goal.In-Some) → IsFirstUntrue (theory_of c.args.theory.now) (structure_of (universe_of c.args.theory.now.signature) c.args.structure.now) (Remaining c.in-Some.place)
untrue_remaining c =
    let universe = universe_of c.args.theory.now.signature in
    let P : List Sentence → Type 0 = λ ss. IsFirstFalse universe (structure_of universe c.args.structure.now) (sentence_trees ss) c.in-Some.place in
    remaining (subst P c.deref.ensures.value c.in-Some.ensures.first)

pub returns-in-Some-clause-part : goal.returns-in-Some-clause-part
returns-in-Some-clause-part c = untrue_remaining c

-- ---- DEC5 to DEC12

pub first_false_formula-requires-clause-sentences : goal.first_false_formula-requires-clause-sentences
first_false_formula-requires-clause-sentences c =
    let signature = c.args.theory.now.signature in
    let dec = ap (map formula_tree) c.deref-2.ensures.value ∙ c.requires.judge.dec in
    let P : List Formula → Type 0 = λ fs. All (IsSentence signature) fs in
    subst P (sym dec) (dec_sentences signature c.requires.valid.signature)

untrue_axiom : (c : goal.In-Some-first_false_formula) → IsFirstUntrue (theory_of c.args.theory.now) (structure_of (universe_of c.args.theory.now.signature) c.args.structure.now) (Axiom c.in-Some-first_false_formula.place)
untrue_axiom c =
    let universe = universe_of c.args.theory.now.signature in
    let m = structure_of universe c.args.structure.now in
    let H : List Sentence → Type 0 = λ ss. all_hold universe m (sentence_trees ss) ≡ true in
    let P : List Formula → Type 0 = λ fs. IsFirstFalse universe m fs c.in-Some-first_false_formula.place in
    let dec = ap (map formula_tree) c.deref-2.ensures.value ∙ c.requires.judge.dec in
    axiom_of (subst H c.deref.ensures.value c.in_default.ensures.first) (subst P dec c.in-Some-first_false_formula.ensures.first)

pub returns-in-Some-first_false_formula-clause-part : goal.returns-in-Some-first_false_formula-clause-part
returns-in-Some-first_false_formula-clause-part c = untrue_axiom c

-- ---- the release axioms

pub first_false_formula-requires-2-clause-sentences : goal.first_false_formula-requires-2-clause-sentences
first_false_formula-requires-2-clause-sentences c =
    let signature = c.args.theory.now.signature in
    let axioms = ap (map formula_tree) c.deref-3.ensures.value ∙ c.requires.judge.release in
    let P : List Formula → Type 0 = λ fs. All (IsSentence signature) fs in
    subst P (sym axioms) (release_sentences signature c.requires.valid.signature)

pub first_false_formula-requires-2-clause-few : goal.first_false_formula-requires-2-clause-few
first_false_formula-requires-2-clause-few c =
    let signature = c.args.theory.now.signature in
    let axioms = ap (map formula_tree) c.deref-3.ensures.value ∙ c.requires.judge.release in
    omega (arith, length-map c.deref-3.result.now formula_tree, ap length axioms, release_few signature, c.requires.valid.signature.listable.fluents)

untrue_release : (c : goal.In-Some-first_false_formula-2) → IsFirstUntrue (theory_of c.args.theory.now) (structure_of (universe_of c.args.theory.now.signature) c.args.structure.now) (Release c.in-Some-first_false_formula-2.place)
untrue_release c =
    let universe = universe_of c.args.theory.now.signature in
    let m = structure_of universe c.args.structure.now in
    let H : List Sentence → Type 0 = λ ss. all_hold universe m (sentence_trees ss) ≡ true in
    let A : List Formula → Type 0 = λ fs. all_hold universe m fs ≡ true in
    let P : List Formula → Type 0 = λ fs. IsFirstFalse universe m fs c.in-Some-first_false_formula-2.place in
    let dec = ap (map formula_tree) c.deref-2.ensures.value ∙ c.requires.judge.dec in
    let axioms = ap (map formula_tree) c.deref-3.ensures.value ∙ c.requires.judge.release in
    release (subst H c.deref.ensures.value c.in_default.ensures.first) (subst A dec c.in_default-first_false_formula.ensures.first)
    (subst P axioms c.in-Some-first_false_formula-2.ensures.first)

pub returns-in-Some-first_false_formula-2-clause-part : goal.returns-in-Some-first_false_formula-2-clause-part
returns-in-Some-first_false_formula-2-clause-part c = untrue_release c

-- ---- none is untrue

pub returns-clause-part : goal.returns-clause-part
returns-clause-part c =
    let universe = universe_of c.args.theory.now.signature in
    let m = structure_of universe c.args.structure.now in
    let H : List Sentence → Type 0 = λ ss. all_hold universe m (sentence_trees ss) ≡ true in
    let A : List Formula → Type 0 = λ fs. all_hold universe m fs ≡ true in
    record {
      remaining = subst H c.deref.ensures.value c.in_default.ensures.first;
      axioms = subst A (ap (map formula_tree) c.deref-2.ensures.value ∙ c.requires.judge.dec) c.in_default-first_false_formula.ensures.first;
      release = subst A (ap (map formula_tree) c.deref-3.ensures.value ∙ c.requires.judge.release) c.in_default-first_false_formula-2.ensures.first;
    }
