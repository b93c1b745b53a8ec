use Rattle.std.proofs.Common.{◌≡◌, true, arith}
use Rattle.ec_parse.specs.Lines.{is_left_out, sorts, events, fluents, predicates, noninertial, left_out}
use Rattle.ec_parse.proofs.line.declaration.Goals as goal

pub returns-in_ok-all_sort_items-in-Sort : goal.returns-in_ok-all_sort_items-in-Sort
returns-in_ok-all_sort_items-in-Sort c = rw c.in-Sort.is (sorts c.in_ok-all_sort_items-in-Sort.ensures)

pub returns-in-Reified : goal.returns-in-Reified
returns-in-Reified c = rw c.in-Reified.is (c.reified.ensures c.args.word.now)

pub returns-in_ok-all_shapes-in-Event : goal.returns-in_ok-all_shapes-in-Event
returns-in_ok-all_shapes-in-Event c = rw c.in-Event.is (events c.in_ok-all_shapes-in-Event.ensures)

pub returns-in_ok-all_shapes-in-Fluent : goal.returns-in_ok-all_shapes-in-Fluent
returns-in_ok-all_shapes-in-Fluent c = rw c.in-Fluent.is (fluents c.in_ok-all_shapes-in-Fluent.ensures)

pub returns-in_ok-all_shapes-in-Predicate : goal.returns-in_ok-all_shapes-in-Predicate
returns-in_ok-all_shapes-in-Predicate c = rw c.in-Predicate.is (predicates c.in_ok-all_shapes-in-Predicate.ensures)

pub returns-in_ok-all_names-in-Noninertial : goal.returns-in_ok-all_names-in-Noninertial
returns-in_ok-all_names-in-Noninertial c = rw c.in-Noninertial.is (noninertial c.in_ok-all_names-in-Noninertial.ensures)

pub returns-in-Range : goal.returns-in-Range
returns-in-Range c = rw c.in-Range.is (c.range.ensures c.args.word.now)

pub returns-in-Completion : goal.returns-in-Completion
returns-in-Completion c = rw c.in-Completion.is (c.completion.ensures c.args.word.now)

pub returns-in_ok-copied-in-Function : goal.returns-in_ok-copied-in-Function
returns-in_ok-copied-in-Function c =
    let e : is_left_out c.args.keyword ≡ true = let h = c.in-Function.is in grind (arith, h) in
    rw c.in_ok-copied-in-Function.ensures (left_out e)
