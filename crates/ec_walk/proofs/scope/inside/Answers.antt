use Rattle.std.proofs.Common.{◌≡◌, ℕ, List, ◌++◌, reverse, arith, sym, ap, ◌∙◌}
use Rattle.std.proofs.lemmas.List.{map-append, take_all}
use Rattle.ec_walk.specs.Scopes.{words, behind}
use Rattle.ec_walk.proofs.ScopeLemmas.{map-reverse, opened-reverse}
use Rattle.ec_walk.proofs.scope.inside.Goals as goal

pub returns : goal.returns
returns c =
    let whole : words c.loop-binder.inner.items ≡ c.args.binders.now = c.loop-binder.invariant ∙ take_all _ _ (omega arith) in
    let turned : words c.reverse.new.self.items ≡ reverse c.args.binders.now = ap words c.reverse.ensures.items ∙ map-reverse behind c.loop-binder.inner.items ∙ ap reverse whole in
    ap words c.in_ok-extend_from_slice.ensures.items ∙ map-append behind c.reverse.new.self.items c.args.scope.now ∙ ap (λ (ys : List (List ℕ)). ys ++ words c.args.scope.now) turned
    ∙ sym (opened-reverse (words c.args.scope.now) c.args.binders.now)
