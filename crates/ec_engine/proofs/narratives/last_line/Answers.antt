use Rattle.std.proofs.Common.{List, ℕ, [], ◌∷◌, ◌++◌, ap, ◌∙◌}
use Rattle.ec_engine.proofs.Words.{same_words}
use Rattle.ec_engine.proofs.narratives.last_line.Goals as goal

pub returns : goal.returns
returns c = c.in_ok-push.ensures.items ∙ ap (λ (words : List ℕ). words ++ 10 ∷ []) (rw c.new-out.ensures.items at c.in_ok-push_ending.ensures ∙ same_words c.args.ending)
