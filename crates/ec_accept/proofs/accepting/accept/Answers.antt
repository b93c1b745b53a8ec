use Rattle.std.proofs.Common.{refl}
use Rattle.std.proofs.lemmas.Result.{err_from_is_err_and}
use Rattle.ec_syntax.specs.View.{book_of}
use Rattle.ec_accept.proofs.Layers.{accepts_measured, accepts_unmeasured, accepts_unread, accepts_unsaid, few_visible, is_light}
use Rattle.ec_accept.proofs.accepting.accept.Goals as goal

pub returns-in_err-book-clause-accepted : goal.returns-in_err-book-clause-accepted
returns-in_err-book-clause-accepted g c = λ told.
    let p = err_from_is_err_and c.from_residual.result c.from_residual.ensures.1 in
    rw (p.1, p.2) (accepts_unread (g.F.Files.held c.args.files.now) c.args.root.now c.in_err-book.field-0.0 (c.in_err-book.ensures.book told))

pub returns-in_err-theory-clause-accepted : goal.returns-in_err-theory-clause-accepted
returns-in_err-theory-clause-accepted g c = λ told.
    let p = err_from_is_err_and c.from_residual-in_err-theory.result c.from_residual-in_err-theory.ensures.1 in
    let book = book_of c.in_ok-book.book in
    rw (p.1, p.2) (accepts_unsaid (g.F.Files.held c.args.files.now) c.args.root.now book (c.in_ok-book.ensures.book told) c.in_err-theory.field-0.0 c.in_err-theory.ensures.says)

pub returns-in_err-measured-clause-accepted : goal.returns-in_err-measured-clause-accepted
returns-in_err-measured-clause-accepted g c = λ told.
    let p = err_from_is_err_and c.from_residual-in_err-measured.result c.from_residual-in_err-measured.ensures.1 in
    rw (p.1, p.2)
    (accepts_unmeasured (g.F.Files.held c.args.files.now) c.args.root.now (book_of c.in_ok-book.book) c.in_ok-theory.theory (c.in_ok-book.ensures.book told) c.in_ok-theory.ensures.says
    c.in_err-measured.field-0.0 c.in_err-measured.ensures.measures)

pub returns-clause-accepted : goal.returns-clause-accepted
returns-clause-accepted g c = λ told.
    accepts_measured (g.F.Files.held c.args.files.now) c.args.root.now (book_of c.in_ok-book.book) c.in_ok-theory.theory (c.in_ok-book.ensures.book told) c.in_ok-theory.ensures.says
    c.in_ok-measured.measured c.in_ok-measured.ensures.measures

pub returns-clause-few : goal.returns-clause-few
returns-clause-few g c = few_visible c.args.root.now c.in_ok-theory.theory c.in_ok-measured.measured c.in_ok-measured.ensures.measures

pub returns-clause-light : goal.returns-clause-light
returns-clause-light g c = is_light c.args.root.now c.in_ok-theory.theory c.in_ok-measured.measured c.in_ok-measured.ensures.measures

pub returns-clause-files : goal.returns-clause-files
returns-clause-files g c = λ told. record { book = book_of c.in_ok-book.book; is = c.in_ok-book.ensures.book told; are = refl }
