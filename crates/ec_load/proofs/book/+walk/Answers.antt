use Rattle.std.proofs.Common.{◌≡◌, ◌≤◌, ◌<◌, List, [], ◌∷◌, ◌++◌, IsTrue, All, length, map, refl, sym, ap, ◌∙◌, arith, subst}
use Rattle.std.specs.Vec.Iter.{into_iter_items}
use Rattle.std.proofs.lemmas.List.Elements.{All-head, All-tail}
use Rattle.std.proofs.lemmas.Result.{err_from_is_err_and}
use Rattle.ec_edge.specs.Pieces.{AllStay}
use Rattle.ec_syntax.specs.declared.statement.Statement as rust
use Rattle.ec_syntax.specs.View.{statement_of}
use Rattle.ec_syntax.specs.Written.{Placed}
use Rattle.ec_load.specs.Refusals.{refused, in_file}
use Rattle.ec_load.specs.Book.{Loads, many, placed_at}
use Rattle.ec_load.specs.Gathered.{gathered}
use Rattle.ec_load.specs.Sound.{AreNamed, counted, counted_placed}
use Rattle.ec_load.specs.Answers.{statements_of}
use Rattle.ec_load.proofs.Walk.{SoFar, walks_refused, opened_fails, opened_walks, own_is_last, steps_own, steps_passed, steps_loaded, so_far_begins, so_far_steps, so_far_ends, so_far_fails, counted_own, nothing_left}
use Rattle.ec_load.proofs.book.+walk.Goals as goal

pub add_file-returns-then-number-ge-MOST_FILES-clause-comes : goal.add_file-returns-then-number-ge-MOST_FILES-clause-comes
add_file-returns-then-number-ge-MOST_FILES-clause-comes g t c = λ told held stays.
    let place = in_file c.args.from.now c.args.line in
    let files = (gathered c.args.book.now).files in
    let all : 64 ≤ length files = omega (arith, c.files-number.ensures.value, c.if-number-ge-MOST_FILES.true) in
    walks_refused (Loads held files place c.args.file.now) (gathered c.args.book.now) (gathered c.args.book.now) (refused 4 place c.args.file.now) c.refused_file.result c.refused_file.ensures (many all)

pub add_file-returns-in_err-statements-clause-comes : goal.add_file-returns-in_err-statements-clause-comes
add_file-returns-in_err-statements-clause-comes g t c = λ told held stays.
    let p = err_from_is_err_and c.from_residual.result c.from_residual.ensures.1 in
    let files = (gathered c.args.book.now).files in
    let room : length files < 64 = omega (arith, c.files-number.ensures.value, c.if-number-ge-MOST_FILES.false) in
    rw (p.1, p.2) (opened_fails held (g.F.Files.held c.args.files.now) files (in_file c.args.from.now c.args.line) c.args.file.now (gathered c.args.book.now) (gathered c.args.book.now) c.in_err-statements.field-0.0 stays room (c.in_err-statements.ensures.opens told))

pub add_file-returns-clause-comes : goal.add_file-returns-clause-comes
add_file-returns-clause-comes g t c = λ told held stays.
    let files = (gathered c.args.book.now).files in
    let room : length files < 64 = omega (arith, c.files-number.ensures.value, c.if-number-ge-MOST_FILES.false) in
    let told_now : IsTrue (g.F.Files.tells c.opened.new.files) = rw c.in_ok-statements.ensures.tells told in
    let stays_now : AllStay held (g.F.Files.held c.opened.new.files) = λ name. c.in_ok-statements.ensures.stays name ∙ stays name in
    opened_walks held (g.F.Files.held c.args.files.now) (in_file c.args.from.now c.args.line) c.args.file.now (statements_of c.in_ok-statements.statements) (gathered c.args.book.now) (gathered c.add_file.new.self) (gathered c.add_statements.new.book) c.files-number.result
    stays room c.files-number.ensures.value (rw c.in_ok-copied.ensures at c.in_ok-add_file.ensures.files) c.in_ok-add_file.ensures.statements (c.in_ok-statements.ensures.opens told) c.add_statements.result (c.add_statements.ensures.comes told_now held stays_now)

pub add_statement-returns-then-passes-clause-comes : goal.add_statement-returns-then-passes-clause-comes
add_statement-returns-then-passes-clause-comes g t c = λ told held stays.
    steps_passed held c.args.number c.args.file.now c.in-Load.other (statement_of c.args.statement) (gathered c.args.book.now) c.in-Load.ensures.0 (sym c.passes.ensures ∙ c.if-passes.true)

pub add_statement-returns-else-passes-clause-comes : goal.add_statement-returns-else-passes-clause-comes
add_statement-returns-else-passes-clause-comes g t c = λ told held stays.
    steps_loaded held c.args.number c.args.file.now c.in-Load.other (statement_of c.args.statement) (gathered c.args.book.now) (gathered c.add_file.new.book) c.in-Load.ensures.0 (sym c.passes.ensures ∙ c.if-passes.false) c.add_file.result (rw c.in-Load.ensures.1 (c.add_file.ensures.comes told held stays))

pub add_statement-returns-in_ok-add-in-Own-clause-comes : goal.add_statement-returns-in_ok-add-in-Own-clause-comes
add_statement-returns-in_ok-add-in-Own-clause-comes g t c = λ told held stays.
    steps_own held c.args.number c.args.file.now (statement_of c.args.statement) (gathered c.args.book.now) (gathered c.add.new.self) c.in-Own.ensures.0 c.in_ok-add-in-Own.ensures.files (own_is_last (gathered c.args.book.now).statements (gathered c.add.new.self).statements c.args.number (statement_of c.in-Own.statement) (statement_of c.args.statement) c.in-Own.ensures.1 c.in_ok-add-in-Own.ensures.statements)

pub add_statement-returns-in_ok-add-in-Own-clause-few : goal.add_statement-returns-in_ok-add-in-Own-clause-few
add_statement-returns-in_ok-add-in-Own-clause-few g t c =
    let last : (gathered c.add.new.self).statements ≡ (gathered c.args.book.now).statements ++ placed_at c.args.number (statement_of c.args.statement) ∷ [] =
    own_is_last (gathered c.args.book.now).statements (gathered c.add.new.self).statements c.args.number (statement_of c.in-Own.statement) (statement_of c.args.statement) c.in-Own.ensures.1 c.in_ok-add-in-Own.ensures.statements in
    omega (arith, ap (λ (xs : List Placed). counted_placed xs) last, counted_own (gathered c.args.book.now).statements c.args.number (statement_of c.args.statement), ap length c.in_ok-add-in-Own.ensures.files)

pub add_statements-loop-statement-init : goal.add_statements-loop-statement-init
add_statements-loop-statement-init g t c =
    let is : into_iter_items c.into_iter-statement-iterator.result ≡ c.args.statements.items = c.into_iter-statement-iterator.ensures.into_iter_gives.0 in
    record {
      so_far = λ told held stays. subst (λ (rest : List rust.Statement). SoFar held c.args.number c.args.file.now (statements_of c.args.statements) (map statement_of rest) (gathered c.args.book.now) (gathered c.args.book.now)) (sym is)
          (so_far_begins held c.args.number c.args.file.now (statements_of c.args.statements) (gathered c.args.book.now));
      named = subst (λ (rest : List rust.Statement). All AreNamed (map statement_of rest)) (sym is) c.requires.named;
      sound = c.requires.sound;
      number = c.requires.number;
      grows = omega arith;
      few = omega (arith, ap (λ (rest : List rust.Statement). counted (map statement_of rest)) is);
      stays = λ name. refl;
      failed_starts = refl;
      tells = refl;
      faults = omega arith;
      absences = omega arith;
    }

pub add_statements-add_statement-requires : goal.add_statements-add_statement-requires
add_statements-add_statement-requires g t c =
    let is : into_iter_items c.loop-statement.statement-iterator ≡ c.in-Some.statement ∷ into_iter_items c.next.new.self = c.in-Some.ensures.steps.0 in
    let named : AreNamed (statement_of c.in-Some.statement) = All-head AreNamed (statement_of c.in-Some.statement) (map statement_of (into_iter_items c.next.new.self)) (subst (λ (rest : List rust.Statement). All AreNamed (map statement_of rest)) is c.loop-statement.invariant.named) in
    λ κs l. (omega (arith, c.decreases, c.loop-statement.invariant.grows), (l, (c.loop-statement.invariant.sound, (c.loop-statement.invariant.number, named))))

pub add_statements-loop-statement-preserved : goal.add_statements-loop-statement-preserved
add_statements-loop-statement-preserved g t c =
    let is : into_iter_items c.loop-statement.statement-iterator ≡ c.in-Some.statement ∷ into_iter_items c.next.new.self = c.in-Some.ensures.steps.0 in
    let s = statement_of c.in-Some.statement in
    let rest = map statement_of (into_iter_items c.next.new.self) in
    let walk = c.loop-statement.invariant in
    record {
      so_far = λ told held stays.
          let told_now : IsTrue (g.F.Files.tells c.loop-statement.files) = rw walk.tells told in
          let stays_now : AllStay held (g.F.Files.held c.loop-statement.files) = λ name. walk.stays name ∙ stays name in
          so_far_steps held c.args.number c.args.file.now (statements_of c.args.statements) s rest (gathered c.args.book.now) (gathered c.loop-statement.book) (gathered c.add_statement.new.book)
          (subst (λ (xs : List rust.Statement). SoFar held c.args.number c.args.file.now (statements_of c.args.statements) (map statement_of xs) (gathered c.args.book.now) (gathered c.loop-statement.book)) is (walk.so_far told held stays))
          (c.in_ok-add_statement.ensures.comes told_now held stays_now);
      named = All-tail AreNamed s rest (subst (λ (xs : List rust.Statement). All AreNamed (map statement_of xs)) is walk.named);
      sound = c.in_ok-add_statement.ensures.sound;
      number = omega (arith, walk.number, c.in_ok-add_statement.ensures.grows);
      grows = omega (arith, walk.grows, c.in_ok-add_statement.ensures.grows);
      few = omega (arith, walk.few, c.in_ok-add_statement.ensures.few, ap (λ (xs : List rust.Statement). counted (map statement_of xs)) is);
      stays = λ name. c.in_ok-add_statement.ensures.stays name ∙ walk.stays name;
      failed_starts = c.in_ok-add_statement.ensures.failed_starts ∙ walk.failed_starts;
      tells = c.in_ok-add_statement.ensures.tells ∙ walk.tells;
      faults = omega (arith, walk.faults, c.in_ok-add_statement.ensures.faults);
      absences = omega (arith, walk.absences, c.in_ok-add_statement.ensures.absences);
    }

pub add_statements-returns-in_err-add_statement-clause-comes : goal.add_statements-returns-in_err-add_statement-clause-comes
add_statements-returns-in_err-add_statement-clause-comes g t c = λ told held stays.
    let p = err_from_is_err_and c.from_residual.result c.from_residual.ensures.1 in
    let is : into_iter_items c.loop-statement.statement-iterator ≡ c.in-Some.statement ∷ into_iter_items c.next.new.self = c.in-Some.ensures.steps.0 in
    let s = statement_of c.in-Some.statement in
    let rest = map statement_of (into_iter_items c.next.new.self) in
    let walk = c.loop-statement.invariant in
    let told_now : IsTrue (g.F.Files.tells c.loop-statement.files) = rw walk.tells told in
    let stays_now : AllStay held (g.F.Files.held c.loop-statement.files) = λ name. walk.stays name ∙ stays name in
    rw (p.1, p.2) (so_far_fails held c.args.number c.args.file.now (statements_of c.args.statements) s rest (gathered c.args.book.now) (gathered c.loop-statement.book) (gathered c.add_statement.new.book) (gathered c.add_statement.new.book) c.in_err-add_statement.field-0.0
    (subst (λ (xs : List rust.Statement). SoFar held c.args.number c.args.file.now (statements_of c.args.statements) (map statement_of xs) (gathered c.args.book.now) (gathered c.loop-statement.book)) is (walk.so_far told held stays))
    (c.in_err-add_statement.ensures.comes told_now held stays_now))

pub add_statements-returns-clause-comes : goal.add_statements-returns-clause-comes
add_statements-returns-clause-comes g t c = λ told held stays.
    let nothing : into_iter_items c.loop-statement.statement-iterator ≡ [] =
    nothing_left (into_iter_items c.loop-statement.statement-iterator) (omega (arith, c.loop-statement.statement-iterator.rest.ok.0, c.in-None.ensures.steps.0)) in
    so_far_ends held c.args.number c.args.file.now (statements_of c.args.statements) (gathered c.args.book.now) (gathered c.loop-statement.book)
    (subst (λ (xs : List rust.Statement). SoFar held c.args.number c.args.file.now (statements_of c.args.statements) (map statement_of xs) (gathered c.args.book.now) (gathered c.loop-statement.book)) nothing (c.loop-statement.invariant.so_far told held stays))
