use Rattle.std.proofs.Common.{refl}
use Rattle.ec_parse.specs.Lines.{completion, labelled_completion}
use Rattle.ec_parse.proofs.line.completion.Goals as goal

pub returns-then-ends : goal.returns-then-ends
returns-then-ends c = λ u. rw (c.in-Some.ensures, c.if-ends.ensures.end refl, c.in_ok-first.ensures) completion

pub returns : goal.returns
returns c = λ u. rw (c.in-Some.ensures, c.in-Some-upper.ensures, c.if-not-ends.ensures.end refl, c.in_ok-first.ensures, c.in_ok-predicate.ensures) labelled_completion
