use Rattle.std.proofs.Common.{◌≡◌, ◌++◌, drop, map}
use Rattle.ec_syntax.specs.View.{placed_of}
use Rattle.ec_sort.specs.Books.{first_refusal, labelled_tree, sentences_of, wanted_of}
use Rattle.ec_sort.proofs.gathering.gather.Given as goal

abbrev pub invariant-loop-placed : goal.invariant-loop-placed
invariant-loop-placed l =
    let files = l.book.files.items in
    let rest = map placed_of (drop l.placed-index l.book.statements.items) in
    let all = map placed_of l.book.statements.items in
    record {
      refusal : first_refusal l.names files rest ≡ first_refusal l.names files all;
      labelled : map labelled_tree l.gathered.labelled.items ++ sentences_of l.names files rest ≡ sentences_of l.names files all;
      wanted : l.gathered.wanted.items ++ wanted_of files rest ≡ wanted_of files all;
    }
