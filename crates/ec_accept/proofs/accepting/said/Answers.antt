use Rattle.ec_syntax.specs.View.{book_of}
use Rattle.ec_accept.proofs.Layers.{said_sorted, said_unsorted, says_parts}
use Rattle.ec_accept.proofs.accepting.said.Goals as goal

pub returns-in-Ok-clause-says : goal.returns-in-Ok-clause-says
returns-in-Ok-clause-says c = said_sorted (book_of c.args.book.now) c.in-Ok.sorted c.in-Ok.ensures.sorts c.split_into.result c.split_into.ensures.splits

pub returns-in-Err-clause-says : goal.returns-in-Err-clause-says
returns-in-Err-clause-says c = said_unsorted (book_of c.args.book.now) c.in-Err.fault c.in-Err.ensures.sorts

pub returns-in-Ok-clause-parts : goal.returns-in-Ok-clause-parts
returns-in-Ok-clause-parts c = says_parts (book_of c.args.book.now) c.in-Ok.sorted c.in-Ok.ensures.sorts c.split_into.result c.split_into.ensures.parts
