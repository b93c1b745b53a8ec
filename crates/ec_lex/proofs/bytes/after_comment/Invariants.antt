use Rattle.std.proofs.Common.{◌≡◌, ◌≤◌, length}
use Rattle.ec_lex.specs.Lex.{past_comment}
use Rattle.ec_lex.proofs.bytes.after_comment.Given as goal

abbrev pub invariant-loop-first : goal.invariant-loop-first
invariant-loop-first l = (past_comment l.rest ≡ past_comment l.bytes) × (length l.rest ≤ length l.bytes)

abbrev pub decreases-loop-first : goal.decreases-loop-first
decreases-loop-first l = length l.rest
