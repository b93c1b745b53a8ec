use Rattle.std.proofs.Common.{◌≡◌, ◌+◌, drop}
use Rattle.ec_parse.specs.Cut.{line_len}
use Rattle.ec_parse.proofs.cut.line_rest.Given as goal

abbrev pub invariant-loop-token : goal.invariant-loop-token
invariant-loop-token l = (l.len ≡ l.token-index) × (l.len + line_len l.last (drop l.token-index l.tokens) ≡ line_len l.before l.tokens)
