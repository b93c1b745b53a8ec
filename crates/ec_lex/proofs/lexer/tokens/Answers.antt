use Rattle.std.proofs.Common.{sym, arith}
use Rattle.std.proofs.lemmas.Result.{err_from_is_err_and}
use Rattle.std.proofs.lemmas.Bool.Decides.{nat_tests}
use Rattle.ec_lex.proofs.Runs as runs
use Rattle.ec_lex.proofs.Forms.{formed}
use Rattle.ec_lex.proofs.lexer.tokens.Goals as goal

pub bytes-preserved-then-is_blank : goal.bytes-preserved-then-is_blank
bytes-preserved-then-is_blank c = runs.turn_blank _ _ _ _ _ _ c.bytes.invariant c.in-Some.ensures.cases.0 (sym c.if-is_blank.ensures)

pub bytes-preserved-then-first-eq10 : goal.bytes-preserved-then-first-eq10
bytes-preserved-then-first-eq10 c = runs.turn_line _ _ _ _ _ _ c.bytes.invariant c.in-Some.ensures.cases.0 c.if-first-eq10.true

pub bytes-preserved-then-first-eq59 : goal.bytes-preserved-then-first-eq59
bytes-preserved-then-first-eq59 c =
    runs.turn_comment _ _ _ _ _ _ _ c.bytes.invariant c.in-Some.ensures.cases.0 c.if-first-eq59.true c.after_comment-rest.ensures.rest c.after_comment-rest.ensures.shorter

pub bytes-smaller : goal.bytes-smaller
bytes-smaller c = c.in_ok-token.ensures.1

pub bytes-preserved : goal.bytes-preserved
bytes-preserved c = runs.turn_cut _ _ _ _ _ _ _ c.bytes.invariant c.in_ok-token.ensures.0 c.in_ok-token.ensures.1 c.in_ok-push.ensures.items

pub returns-in_err-token-clause-reading : goal.returns-in_err-token-clause-reading
returns-in_err-token-clause-reading c =
    let p = err_from_is_err_and c.from_residual.result c.from_residual.ensures.1 in
    rw (p.1, p.2) (runs.cut_fault _ _ _ _ _ c.bytes.invariant c.in_err-token.ensures)

pub returns-in_default-front-clause-reading : goal.returns-in_default-front-clause-reading
returns-in_default-front-clause-reading c =
    runs.ends_bad _ _ _ _ _ _ c.bytes.invariant c.in-Some.ensures.cases.0 (sym c.if-is_blank.ensures) (grind (arith, nat_tests)) (grind (arith, nat_tests)) c.in_default-front.ensures

pub returns-clause-reading : goal.returns-clause-reading
returns-clause-reading c = runs.ends _ _ _ _ c.bytes.invariant (runs.nothing_left _ c.in_default.ensures.cases)

pub returns-clause-forms : goal.returns-clause-forms
returns-clause-forms c = formed c.args.bytes.now _ (runs.ends _ _ _ _ c.bytes.invariant (runs.nothing_left _ c.in_default.ensures.cases))
