-- What a statement comes to in a book.
use Rattle.std.specs.Prelude.{◌≡◌, Some, None}
use Rattle.ec_syntax.specs.Written.{Statement}
use Rattle.ec_syntax.specs.View.{statement_of}
use Rattle.ec_load.specs.Book.{load_of}
use Rattle.ec_load.specs.declared.part.Part.{Part}
use Rattle.ec_load.specs.declared.part.Part.TheVariants.{Load, Own}

abbrev pub IsPart : Part → Statement → Type 0
IsPart (Load line file) s = (load_of s.content ≡ Some file) × (s.line ≡ line)
IsPart (Own same) s = (load_of s.content ≡ None) × (statement_of same ≡ s)
