use Rattle.std.proofs.Common.{length}
use Rattle.ec_lex.proofs.Runs.{Lexed}
use Rattle.ec_lex.proofs.lexer.tokens.Given as goal

abbrev pub invariant-bytes : goal.invariant-bytes
invariant-bytes l = Lexed l.bytes l.line l.rest l.found.items

abbrev pub decreases-bytes : goal.decreases-bytes
decreases-bytes l = length l.rest
