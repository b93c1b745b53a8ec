use Rattle.std.proofs.Common.{◌≡◌, refl, ap, ◌∙◌}
use Rattle.std.proofs.lemmas.Result.{err_from_is_err_and}
use Rattle.ec_syntax.specs.Written.{Book}
use Rattle.ec_load.specs.Gathered.{gathered}
use Rattle.ec_load.proofs.Walk.{root_fails, root_loads}
use Rattle.ec_load.proofs.book.load.Goals as goal

pub returns-in_err-add_file-clause-book : goal.returns-in_err-add_file-clause-book
returns-in_err-add_file-clause-book g c = λ told.
    let held = g.F.Files.held c.args.files.now in
    let p = err_from_is_err_and c.from_residual-in_err-add_file.result c.from_residual-in_err-add_file.ensures.1 in
    let root : c.in_ok-root.root ≡ c.args.root.now = c.in_ok-root.ensures ∙ c.as_bytes.ensures.value in
    let files = ap (λ (b : Book). b.files) c.new-book.ensures in
    rw (p.1, p.2) (root_fails held c.args.root.now c.in_ok-root.root (gathered c.new-book.result) (gathered c.add_file.new.book) c.in_err-add_file.field-0.0 files root (c.in_err-add_file.ensures.comes told held (λ name. refl)))

pub returns-clause-book : goal.returns-clause-book
returns-clause-book g c = λ told.
    let held = g.F.Files.held c.args.files.now in
    let root : c.in_ok-root.root ≡ c.args.root.now = c.in_ok-root.ensures ∙ c.as_bytes.ensures.value in
    let files = ap (λ (b : Book). b.files) c.new-book.ensures in
    let statements = ap (λ (b : Book). b.statements) c.new-book.ensures in
    root_loads held c.args.root.now c.in_ok-root.root (gathered c.new-book.result) (gathered c.add_file.new.book) c.in_ok-finish.field-0 files statements root c.in_ok-finish.ensures.book (c.in_ok-add_file.ensures.comes told held (λ name. refl))
