use Rattle.std.proofs.Common.{◌≡◌, take}
use Rattle.ec_parse.specs.Mark.{marks, seen_all}
use Rattle.ec_parse.proofs.mark.marks_at.Given as goal

abbrev pub invariant-loop-token : goal.invariant-loop-token
invariant-loop-token l = seen_all l.found.items ≡ marks (take l.token-index l.tokens)
