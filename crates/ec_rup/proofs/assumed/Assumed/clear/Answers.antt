use Rattle.std.proofs.Common.{rules, ◌≡◌, ℕ, List, [], None, length, replicate, ap, ◌∙◌, subst}
use Rattle.ec_rup.specs.Marked.{AreMarked}
use Rattle.ec_rup.proofs.Marking.{unmarked_none}
use Rattle.ec_rup.proofs.assumed.Assumed.clear.Goals as goal

pub returns : goal.returns
returns c =
    let p = c.loop-variable.self-inside.values in
    let none : c.loop-variable.self-inside.marked.items ≡ [] = search rules in
    let places : length p ≡ length c.args.self.now = c.loop-variable.invariant.1 ∙ ap length c.self.view_is in
    unmarked_none p (subst (λ (m : List ℕ). AreMarked p m) none c.loop-variable.invariant.0) ∙ ap (λ n. replicate n None) places
