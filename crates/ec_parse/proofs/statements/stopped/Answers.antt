use Rattle.std.proofs.lemmas.Result.{err_from_is_err_and}
use Rattle.ec_parse.specs.Mark.{seen_all}
use Rattle.ec_parse.proofs.Turns as turns
use Rattle.ec_parse.proofs.statements.stopped.Goals as goal

pub returns-in_err-tree-2 : goal.returns-in_err-tree-2
returns-in_err-tree-2 c =
    let p = err_from_is_err_and c.from_residual-in_err-tree-2.result c.from_residual-in_err-tree-2.ensures.1 in
    rw (p.1, p.2, c.in_err-tree-2.ensures.0) (λ x d. turns.no_stop c.in_ok-tree.ensures.0 c.in_ok-tree.ensures.1 c.in_err-tree-2.ensures.1 d)

pub returns : goal.returns
returns c =
    turns.stopped_whole (seen_all c.args.marks.now) (seen_all c.in_ok-tree.rest.now) (seen_all c.in_ok-tree-2.rest.now) c.in_ok-tree.tree c.in_ok-tree-2.tree c.ended.result
    c.in_ok-tree.ensures.0 c.in_ok-tree-2.ensures.0 c.in_ok-tree-2.ensures.1 c.ended.ensures
