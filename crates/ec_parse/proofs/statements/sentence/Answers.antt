use Rattle.std.proofs.lemmas.Result.{err_from_is_err_and}
use Rattle.ec_parse.specs.Statements.{labelled, unlabelled}
use Rattle.ec_parse.proofs.Turns as turns
use Rattle.ec_parse.proofs.statements.sentence.Goals as goal

pub returns-in_default : goal.returns-in_default
returns-in_default c = unlabelled c.in_ok-tree.ensures

pub returns-in_err-tree-2 : goal.returns-in_err-tree-2
returns-in_err-tree-2 c =
    let p = err_from_is_err_and c.from_residual-in_err-tree-2.result c.from_residual-in_err-tree-2.ensures.1 in
    rw (p.1, p.2, c.in-Some.ensures) (turns.labelled_fails _ _ _ c.in_err-tree-2.ensures)

pub returns : goal.returns
returns c = rw (c.in-Some.ensures, c.in_ok-copied.ensures) (labelled c.in_ok-tree-2.ensures)
