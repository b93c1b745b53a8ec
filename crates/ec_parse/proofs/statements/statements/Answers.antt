use Rattle.std.proofs.Common.{◌≡◌, ◌∙◌, ◌<◌, ◌≤◌, get_or, ap, length, arith, rules}
use Rattle.std.proofs.lemmas.Result.{err_from_is_err_and}
use Rattle.ec_parse.specs.Mark.{seen_all}
use Rattle.ec_parse.specs.Mark as m
use Rattle.ec_parse.proofs.Marks.{seen_behind, past_end}
use Rattle.ec_parse.proofs.Turns as turns
use Rattle.ec_parse.proofs.statements.statements.Goals as goal

pub statement_len-len-requires-clause-marks : goal.statement_len-len-requires-clause-marks
statement_len-len-requires-clause-marks c =
    let same : seen_all c.deref.result.now ≡ m.marks c.args.tokens.now = ap seen_all c.deref.ensures.value ∙ c.in_ok-marks.ensures in
    rw (c.split_at-in-Some.ensures.back, c.split_at.ensures.back) (seen_behind c.deref.result.now c.args.tokens.now c.statements.place same)

pub returns-in_err-content : goal.returns-in_err-content
returns-in_err-content c =
    let p = err_from_is_err_and c.from_residual-in_err-content.result c.from_residual-in_err-content.ensures.1 in
    let here : c.in-Some.first.now ≡ get_or c.args.tokens.now c.statements.place c.in-Some.first.now = search rules in
    let ahead = turns.ahead_of _ _ _ _ _ _ _ _ _ c.deref.ensures.value c.in_ok-marks.ensures c.split_at.ensures.back c.split_at-in-Some.ensures.back c.form_at-form.ensures c.statement_len-len.ensures.value c.split_at-in-Some-2.ensures.front in
    let inside : c.statements.place < length c.args.tokens.now = omega (arith, c.in-Some.ensures.lookup) in
    rw (p.1, p.2) (turns.place_fails _ _ _ _ _ _ _ _ _ _ c.statements.invariant.0 inside here ahead c.in_err-content.ensures)

pub statements-preserved : goal.statements-preserved
statements-preserved c =
    let here : c.in-Some.first.now ≡ get_or c.args.tokens.now c.statements.place c.in-Some.first.now = search rules in
    let ahead = turns.ahead_of _ _ _ _ _ _ _ _ _ c.deref.ensures.value c.in_ok-marks.ensures c.split_at.ensures.back c.split_at-in-Some.ensures.back c.form_at-form.ensures c.statement_len-len.ensures.value c.split_at-in-Some-2.ensures.front in
    let inside : c.statements.place < length c.args.tokens.now = omega (arith, c.in-Some.ensures.lookup) in
    let within = c.statement_len-len.ensures.within in (
      turns.place_goes _ _ _ _ _ _ _ _ _ _ _ c.statements.invariant.0 inside here ahead c.in_ok-content.ensures c.in_ok-push.ensures.items,
      omega (arith, within, c.split_at.ensures.back_len, inside),
    )

pub returns : goal.returns
returns c =
    let past : length c.args.tokens.now ≤ c.statements.place = omega (arith, c.in_default.ensures.lookup) in
    turns.cut_ends _ _ _ c.statements.invariant.0 (past_end _ _ past)
