use Rattle.std.proofs.Common.{ℕ, List, Option, None, Some, map, subst}
use Rattle.ec_logic.specs.Universe.{universe_of}
use Rattle.ec_logic.specs.Atom.{structure_of}
use Rattle.ec_logic.specs.Minimal.{IsMinimalModel}
use Rattle.ec_logic.proofs.FewAtoms.{six_predicates}
use Rattle.ec_theory.specs.declared.theory.Group.{Group}
use Rattle.ec_theory.specs.Theories.{group_of, theory_of}
use Rattle.ec_minimal.specs.declared.verdict.Part.TheVariants.{Group as GroupAt}
use Rattle.ec_minimal.specs.declared.verdict.Verdict.TheVariants.{Minimal, Untrue}
use Rattle.ec_minimal.specs.Firsts.{TellsFirstUnminimal}
use Rattle.ec_minimal.specs.Verdicts.{IsFirstUntrue, group}
use Rattle.ec_minimal.proofs.FirstLemmas.{verdict_law}
use Rattle.ec_minimal.proofs.SupportLemmas.{is_structure}
use Rattle.ec_minimal.proofs.judge.Judge.verdict.Goals as goal

-- ---- a part before the groups

pub first_untrue-requires : goal.first_untrue-requires
first_untrue-requires c = record { judge = c.requires.judge; of = c.requires.of; valid = c.requires.valid }

pub returns-in-Some-clause-judge : goal.returns-in-Some-clause-judge
returns-in-Some-clause-judge c = c.first_untrue.ensures.judge

pub returns-in-Some-clause-verdict : goal.returns-in-Some-clause-verdict
returns-in-Some-clause-verdict c = c.in-Some.ensures.part

pub returns-in-Some-clause-minimal : goal.returns-in-Some-clause-minimal
returns-in-Some-clause-minimal c = verdict_law (theory_of c.args.theory.now) (structure_of (universe_of c.args.theory.now.signature) c.args.structure.now) (Untrue c.in-Some.part) c.in-Some.ensures.part

-- ---- the groups

pub returns-in-Some-2-clause-judge : goal.returns-in-Some-2-clause-judge
returns-in-Some-2-clause-judge c = c.first_untrue.ensures.judge

untrue_group : (c : goal.In-Some-2) → IsFirstUntrue (theory_of c.args.theory.now) (structure_of (universe_of c.args.theory.now.signature) c.args.structure.now) (GroupAt c.in-Some-2.place)
untrue_group c =
    let universe = universe_of c.args.theory.now.signature in
    let m = structure_of universe c.args.structure.now in
    let G : List Group → Type 0 = λ gs. TellsFirstUnminimal universe m (map group_of gs) (Some c.in-Some-2.place) in
    let F : Option ℕ → Type 0 = λ o. TellsFirstUnminimal universe m (map group_of c.deref.result.now) o in
    let before = c.in_default.ensures.part in
    group before.remaining before.axioms before.release (subst G c.deref.ensures.value (subst F c.in-Some-2.is c.in_ok-place.ensures))

pub returns-in-Some-2-clause-verdict : goal.returns-in-Some-2-clause-verdict
returns-in-Some-2-clause-verdict c = untrue_group c

pub returns-in-Some-2-clause-minimal : goal.returns-in-Some-2-clause-minimal
returns-in-Some-2-clause-minimal c = verdict_law (theory_of c.args.theory.now) (structure_of (universe_of c.args.theory.now.signature) c.args.structure.now) (Untrue (GroupAt c.in-Some-2.place)) (untrue_group c)

-- ---- no part is untrue

pub returns-in-None-clause-judge : goal.returns-in-None-clause-judge
returns-in-None-clause-judge c = c.first_untrue.ensures.judge

minimal_model : (c : goal.In-None) → IsMinimalModel (theory_of c.args.theory.now) (structure_of (universe_of c.args.theory.now.signature) c.args.structure.now)
minimal_model c =
    let signature = c.args.theory.now.signature in
    let universe = universe_of signature in
    let m = structure_of universe c.args.structure.now in
    let G : List Group → Type 0 = λ gs. TellsFirstUnminimal universe m (map group_of gs) None in
    let F : Option ℕ → Type 0 = λ o. TellsFirstUnminimal universe m (map group_of c.deref.result.now) o in
    let before = c.in_default.ensures.part in
    record {
      structure = is_structure universe c.args.structure.now (six_predicates signature c.requires.valid.signature) c.requires.all;
      remaining = before.remaining;
      axioms = before.axioms;
      release = before.release;
      groups = subst G c.deref.ensures.value (subst F c.in-None.is c.in_ok-place.ensures);
    }

pub returns-in-None-clause-verdict : goal.returns-in-None-clause-verdict
returns-in-None-clause-verdict c = minimal_model c

pub returns-in-None-clause-minimal : goal.returns-in-None-clause-minimal
returns-in-None-clause-minimal c = verdict_law (theory_of c.args.theory.now) (structure_of (universe_of c.args.theory.now.signature) c.args.structure.now) Minimal (minimal_model c)
