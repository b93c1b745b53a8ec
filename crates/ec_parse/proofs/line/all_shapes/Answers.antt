use Rattle.std.proofs.lemmas.Result.{err_from_is_err_and}
use Rattle.ec_parse.specs.Lines.{IsShape}
use Rattle.ec_parse.proofs.LineSteps.{shape_one}
use Rattle.ec_parse.specs.Mark.{seen_all}
use Rattle.ec_parse.specs.Reads.{shapes_of}
use Rattle.ec_parse.proofs.LineSteps as steps
use Rattle.ec_parse.proofs.line.all_shapes.Goals as goal

pub returns-in_err-found : goal.returns-in_err-found
returns-in_err-found c =
    let p = err_from_is_err_and c.from_residual.result c.from_residual.ensures.1 in
    rw (p.1, p.2) (steps.ending_fails IsShape _ _ c.in_err-found.ensures)

pub returns : goal.returns
returns c =
    steps.list_ended IsShape shape_one shapes_of (seen_all c.args.marks.now) (seen_all c.in_ok-found.rest.now) c.in_ok-found.found c.ended.result
    c.in_ok-found.ensures.0 c.in_ok-found.ensures.1 c.ended.ensures
