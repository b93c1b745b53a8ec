use Rattle.std.proofs.Common.{ap, sym, [], ◌∙◌, append-nil, reverse}
use Rattle.ec_walk.specs.Scopes.{words, behind}
use Rattle.ec_walk.proofs.ScopeLemmas.{map-reverse, opened-reverse}
use Rattle.ec_walk.proofs.scope.turned.Goals as goal

pub returns : goal.returns
returns c =
    ap words c.reverse.ensures.items ∙ map-reverse behind c.in_ok-scope.scope.items ∙ ap (λ xs. reverse (words xs)) c.in_ok-scope.ensures.items
    ∙ sym (append-nil (reverse (words c.args.variables.now))) ∙ sym (opened-reverse [] (words c.args.variables.now))
