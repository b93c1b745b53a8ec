use Rattle.std.proofs.Common.{sym, ◌∙◌, arith}
use Rattle.ec_lex.proofs.Ascii.{token_utf8, text_utf8}
use Rattle.ec_lex.proofs.Cut as cut
use Rattle.ec_lex.proofs.lexer.taken.Goals as goal

pub returns-in-Some-bad_in : goal.returns-in-Some-bad_in
returns-in-Some-bad_in c =
    cut.fails_line _ _ _ _ _ _ _ _ _ c.requires c.split_at.ensures.front c.split_at.ensures.back (sym c.in-Some.ensures) c.line_text.ensures.text (sym c.in-Some-bad_in.ensures)

pub of-requires : goal.of-requires
of-requires c = text_utf8 _ (sym c.in_default-bad_in.ensures)

pub returns-in-Some : goal.returns-in-Some
returns-in-Some c = (
  cut.cuts_line _ _ _ _ _ _ _ _ _ c.requires c.split_at.ensures.front c.split_at.ensures.back (sym c.in-Some.ensures) (c.in_ok-word.ensures ∙ c.line_text.ensures.text) c.line_text.ensures.rest
      (rw c.in_ok-word.ensures (sym c.in_default-bad_in.ensures)),
  omega (arith, cut.some _ _ _ c.requires, c.line_text.ensures.shorter, c.split_at.ensures.back_len),
)

pub of-requires-2 : goal.of-requires-2
of-requires-2 c = rw c.split_at.ensures.front (token_utf8 c.args.kind _ c.requires.token)

pub returns-then-is_large : goal.returns-then-is_large
returns-then-is_large c =
    cut.fails_large _ _ _ _ _ c.requires (c.in_ok-text.ensures ∙ c.split_at.ensures.front) (rw c.in_ok-text.ensures (sym c.in_default.ensures)) (rw c.in_ok-text.ensures (sym c.if-is_large.ensures))

pub returns : goal.returns
returns c = (
  cut.cuts_word _ _ _ _ _ _ c.requires (c.in_ok-text.ensures ∙ c.split_at.ensures.front) c.split_at.ensures.back (rw c.in_ok-text.ensures (sym c.in_default.ensures)) (rw c.in_ok-text.ensures (sym c.if-is_large.ensures)),
  omega (arith, cut.some _ _ _ c.requires, c.split_at.ensures.back_len),
)
