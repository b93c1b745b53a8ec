use Rattle.std.proofs.lemmas.Result.{err_from_is_err_and}
use Rattle.ec_parse.specs.Lists.{IsName}
use Rattle.ec_parse.proofs.Parted.{name_one}
use Rattle.ec_parse.specs.Mark.{seen_all}
use Rattle.ec_parse.specs.Reads.{words_of}
use Rattle.ec_parse.proofs.LineSteps as steps
use Rattle.ec_parse.proofs.line.all_names.Goals as goal

pub returns-in_err-found : goal.returns-in_err-found
returns-in_err-found c =
    let p = err_from_is_err_and c.from_residual.result c.from_residual.ensures.1 in
    rw (p.1, p.2) (steps.ending_fails IsName _ _ c.in_err-found.ensures)

pub returns : goal.returns
returns c =
    steps.list_ended IsName name_one words_of (seen_all c.args.marks.now) (seen_all c.in_ok-found.rest.now) c.in_ok-found.found c.ended.result
    c.in_ok-found.ensures.0 c.in_ok-found.ensures.1 c.ended.ensures
