-- What has been read of a book, as a book.
use Rattle.std.specs.Prelude.{map}
use Rattle.ec_syntax.specs.View.{placed_of}
use Rattle.ec_syntax.specs.Written.{Book}
use Rattle.ec_load.specs.declared.gathering.Gathering.{Gathering}

abbrev pub gathered : Gathering → Book
gathered g = record { files = g.files.keys; statements = map placed_of g.statements.items }
