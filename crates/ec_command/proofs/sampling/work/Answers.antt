use Rattle.std.proofs.Common.{IsTrue, ◌≤◌, ◌∙◌, arith}
use Rattle.std.proofs.lemmas.Result.{err_from_is_err_and}
use Rattle.ec_command.proofs.Sampled.{made_on}
use Rattle.ec_command.proofs.sampling.work.Goals as goal

pub returns-in_err-size-clause-put : goal.returns-in_err-size-clause-put
returns-in_err-size-clause-put g c = λ told.
    let p = err_from_is_err_and c.from_residual-in_err-size.result c.from_residual-in_err-size.ensures.1 in
    let made = c.in_ok-make.ensures.put told in
    let told_made : IsTrue (g.F.Files.tells c.make.new.files) = c.in_ok-make.ensures.tells ∙ told in
    rw (p.1, p.2) (c.in_err-size.ensures.put told_made c.args.n (g.F.Files.held c.args.files.now) (g.F.Files.failed_starts c.args.files.now) c.requires made)

pub returns-in_err-solved-clause-put : goal.returns-in_err-solved-clause-put
returns-in_err-solved-clause-put g c = λ told.
    let p = err_from_is_err_and c.from_residual-in_err-solved.result c.from_residual-in_err-solved.ensures.1 in
    let made = c.in_ok-make.ensures.put told in
    let told_made : IsTrue (g.F.Files.tells c.make.new.files) = c.in_ok-make.ensures.tells ∙ told in
    let again = made_on c.args.n (g.F.Files.held c.args.files.now) (g.F.Files.held c.make.new.files) (g.F.Files.held c.measure.new.files) c.in_ok-size.ensures.stays made in
    let told_sized : IsTrue (g.F.Files.tells c.measure.new.files) = c.in_ok-size.ensures.tells ∙ told_made in
    let low_sized : g.F.Files.failed_starts c.args.files.now ≤ g.F.Files.failed_starts c.measure.new.files = omega (arith, c.in_ok-make.ensures.failed_starts, c.in_ok-size.ensures.failed_starts) in
    rw (p.1, p.2) (c.in_err-solved.ensures.put told_sized c.args.n (g.F.Files.held c.args.files.now) (g.F.Files.failed_starts c.args.files.now) low_sized c.requires again)

pub returns-in_err-write_list-clause-put : goal.returns-in_err-write_list-clause-put
returns-in_err-write_list-clause-put g c = λ told.
    let p = err_from_is_err_and c.from_residual-in_err-write_list.result c.from_residual-in_err-write_list.ensures.1 in
    let made = c.in_ok-make.ensures.put told in
    let told_made : IsTrue (g.F.Files.tells c.make.new.files) = c.in_ok-make.ensures.tells ∙ told in
    let again = made_on c.args.n (g.F.Files.held c.args.files.now) (g.F.Files.held c.make.new.files) (g.F.Files.held c.measure.new.files) c.in_ok-size.ensures.stays made in
    let told_sized : IsTrue (g.F.Files.tells c.measure.new.files) = c.in_ok-size.ensures.tells ∙ told_made in
    let low_sized : g.F.Files.failed_starts c.args.files.now ≤ g.F.Files.failed_starts c.measure.new.files = omega (arith, c.in_ok-make.ensures.failed_starts, c.in_ok-size.ensures.failed_starts) in
    let solved = c.in_ok-solved.ensures.put told_sized c.args.n (g.F.Files.held c.args.files.now) (g.F.Files.failed_starts c.args.files.now) low_sized c.requires again in
    let told_solved : IsTrue (g.F.Files.tells c.search.new.files) = c.in_ok-solved.ensures.tells ∙ told_sized in
    let low_solved : g.F.Files.failed_starts c.args.files.now ≤ g.F.Files.failed_starts c.search.new.files = omega (arith, low_sized, c.in_ok-solved.ensures.failed_starts) in
    rw (p.1, p.2) (c.in_err-write_list.ensures.put told_solved c.args.n (g.F.Files.held c.args.files.now) (g.F.Files.failed_starts c.args.files.now) low_solved c.requires solved)

pub returns-in_err-verdict-clause-put : goal.returns-in_err-verdict-clause-put
returns-in_err-verdict-clause-put g c = λ told.
    let p = err_from_is_err_and c.from_residual-in_err-verdict.result c.from_residual-in_err-verdict.ensures.1 in
    let made = c.in_ok-make.ensures.put told in
    let told_made : IsTrue (g.F.Files.tells c.make.new.files) = c.in_ok-make.ensures.tells ∙ told in
    let again = made_on c.args.n (g.F.Files.held c.args.files.now) (g.F.Files.held c.make.new.files) (g.F.Files.held c.measure.new.files) c.in_ok-size.ensures.stays made in
    let told_sized : IsTrue (g.F.Files.tells c.measure.new.files) = c.in_ok-size.ensures.tells ∙ told_made in
    let low_sized : g.F.Files.failed_starts c.args.files.now ≤ g.F.Files.failed_starts c.measure.new.files = omega (arith, c.in_ok-make.ensures.failed_starts, c.in_ok-size.ensures.failed_starts) in
    let solved = c.in_ok-solved.ensures.put told_sized c.args.n (g.F.Files.held c.args.files.now) (g.F.Files.failed_starts c.args.files.now) low_sized c.requires again in
    let told_solved : IsTrue (g.F.Files.tells c.search.new.files) = c.in_ok-solved.ensures.tells ∙ told_sized in
    let low_solved : g.F.Files.failed_starts c.args.files.now ≤ g.F.Files.failed_starts c.search.new.files = omega (arith, low_sized, c.in_ok-solved.ensures.failed_starts) in
    let listed = c.in_ok-write_list.ensures.put told_solved c.args.n (g.F.Files.held c.args.files.now) (g.F.Files.failed_starts c.args.files.now) low_solved c.requires solved in
    let told_listed : IsTrue (g.F.Files.tells c.write_list.new.files) = c.in_ok-write_list.ensures.tells ∙ told_solved in
    rw (p.1, p.2) (c.in_err-verdict.ensures.put told_listed c.args.n (g.F.Files.held c.args.files.now) (g.F.Files.failed_starts c.args.files.now) c.in_ok-solved.solved.ending c.in_ok-solved.solved.list c.requires listed)

pub returns-clause-put : goal.returns-clause-put
returns-clause-put g c = λ told.
    let made = c.in_ok-make.ensures.put told in
    let told_made : IsTrue (g.F.Files.tells c.make.new.files) = c.in_ok-make.ensures.tells ∙ told in
    let again = made_on c.args.n (g.F.Files.held c.args.files.now) (g.F.Files.held c.make.new.files) (g.F.Files.held c.measure.new.files) c.in_ok-size.ensures.stays made in
    let told_sized : IsTrue (g.F.Files.tells c.measure.new.files) = c.in_ok-size.ensures.tells ∙ told_made in
    let low_sized : g.F.Files.failed_starts c.args.files.now ≤ g.F.Files.failed_starts c.measure.new.files = omega (arith, c.in_ok-make.ensures.failed_starts, c.in_ok-size.ensures.failed_starts) in
    let solved = c.in_ok-solved.ensures.put told_sized c.args.n (g.F.Files.held c.args.files.now) (g.F.Files.failed_starts c.args.files.now) low_sized c.requires again in
    let told_solved : IsTrue (g.F.Files.tells c.search.new.files) = c.in_ok-solved.ensures.tells ∙ told_sized in
    let low_solved : g.F.Files.failed_starts c.args.files.now ≤ g.F.Files.failed_starts c.search.new.files = omega (arith, low_sized, c.in_ok-solved.ensures.failed_starts) in
    let listed = c.in_ok-write_list.ensures.put told_solved c.args.n (g.F.Files.held c.args.files.now) (g.F.Files.failed_starts c.args.files.now) low_solved c.requires solved in
    let told_listed : IsTrue (g.F.Files.tells c.write_list.new.files) = c.in_ok-write_list.ensures.tells ∙ told_solved in
    record {
      size = c.in_ok-size.ensures.put told_made c.args.n (g.F.Files.held c.args.files.now) (g.F.Files.failed_starts c.args.files.now) c.requires made;
      checked = c.in_ok-verdict.ensures.put told_listed c.args.n (g.F.Files.held c.args.files.now) (g.F.Files.failed_starts c.args.files.now) c.in_ok-solved.solved.ending c.in_ok-solved.solved.list c.requires listed;
    }
