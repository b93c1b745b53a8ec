-- What every structure of a signature is judged by.
use Rattle.std.specs.Prelude.{◌≡◌, ◌≤◌, map}
use Rattle.ec_logic.specs.Signature.{Signature}
use Rattle.ec_logic.specs.TreeList.{formulas_of}
use Rattle.ec_logic.specs.Axiom.{dec_axioms, release_axioms}
use Rattle.ec_logic.specs.Reach.{nesting_of}
use Rattle.ec_logic.specs.ValidTheory.{binder_limit}
use Rattle.ec_theory.specs.View.{formula_tree}
use Rattle.ec_minimal.specs.declared.judge.Judge.{Judge}

-- The judge has the axioms of a signature, and room for the binders of these and of a file's sentences.
pub record IsJudgeOf (signature : Signature) (judge : Judge) : Type 0 where
  pub dec : map formula_tree judge.dec.items ≡ dec_axioms
  pub release : map formula_tree judge.release.items ≡ release_axioms signature
  pub room : binder_limit ≤ judge.scratch
  pub room_for_dec : nesting_of (formulas_of dec_axioms) ≤ judge.scratch
  pub room_for_release : nesting_of (formulas_of (release_axioms signature)) ≤ judge.scratch
