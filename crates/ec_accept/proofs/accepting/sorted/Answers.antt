use Rattle.std.proofs.Common.{Err, subst}
use Rattle.ec_sort.specs.Answers.{IsChecked}
use Rattle.ec_sort.specs.declared.fault.SortFault.{SortFault}
use Rattle.ec_syntax.specs.View.{book_of}
use Rattle.ec_accept.proofs.Checkable.{checkable}
use Rattle.ec_accept.proofs.Codes.{book_other}
use Rattle.ec_accept.proofs.accepting.sorted.Goals as goal

pub check-requires : goal.check-requires
check-requires c = checkable (book_of c.args.book.now) c.requires

pub returns-in-Err-Refused-clause-text : goal.returns-in-Err-Refused-clause-text
returns-in-Err-Refused-clause-text c =
    let book = book_of c.args.book.now in
    let refused = subst (λ (e : SortFault). IsChecked book (Err e)) c.in-Err-Refused.field-0-is c.in-Err-Refused.ensures.answer in
    book_other book c.in-Err-Refused.refusal refused
