use Rattle.std.proofs.Common.{◌≤◌, length, nat_lt, arith, vec_len, false, ◌≡◌, sym, ap, ◌∙◌}
use Rattle.std.proofs.lemmas.Bool.Decides.{nat_tests}
use Rattle.ec_load.specs.Refusals.{refused, in_file}
use Rattle.ec_load.specs.Opening.{Opens}
use Rattle.ec_load.specs.Answers.{statements_of}
use Rattle.ec_load.proofs.Refusing.{answers_refused}
use Rattle.ec_load.proofs.Reading.{opens_absent, opens_large, opens_said}
use Rattle.ec_load.proofs.opening.opened.Goals as goal

pub returns-then-whole-clause-opens : goal.returns-then-whole-clause-opens
returns-then-whole-clause-opens g c = λ told.
    let place = in_file c.args.from.now c.args.line in
    let held = g.F.Files.held c.args.files.now c.args.file.now in
    answers_refused statements_of (Opens place c.args.file.now held) (refused 3 place c.args.file.now) c.refused_file.result c.refused_file.ensures
    (opens_large place c.args.file.now held c.in-Ok.whole.bytes.items c.in-Ok.whole.past (rw c.text.ensures at (c.in-Ok.ensures.bytes told)) c.if-whole.true)

pub returns-else-whole-clause-opens : goal.returns-else-whole-clause-opens
returns-else-whole-clause-opens g c = λ told.
    let place = in_file c.args.from.now c.args.line in
    let held = g.F.Files.held c.args.files.now c.args.file.now in
    let few : nat_lt 1048576 (vec_len c.in-Ok.whole.bytes) ≡ false = sym c.in-Ok.ensures.past ∙ c.if-whole.false in
    let size : length c.deref.result.now ≤ 1048576 = grind (arith, nat_tests, ap length c.deref.ensures.value) in
    opens_said place c.args.file.now held c.in-Ok.whole.bytes.items c.deref.result.now c.in-Ok.whole.past (rw c.text.ensures at (c.in-Ok.ensures.bytes told)) c.if-whole.false c.deref.ensures.value size c.said.result c.said.ensures.says

pub returns-in-Err-Absent-clause-opens : goal.returns-in-Err-Absent-clause-opens
returns-in-Err-Absent-clause-opens g c = λ told.
    let place = in_file c.args.from.now c.args.line in
    let held = g.F.Files.held c.args.files.now c.args.file.now in
    answers_refused statements_of (Opens place c.args.file.now held) (refused 1 place c.args.file.now) c.refused_file-in-Err-Absent.result c.refused_file-in-Err-Absent.ensures
    (opens_absent place c.args.file.now held (rw c.text.ensures at (c.in-Err-Absent.ensures.missing told (cc))))
