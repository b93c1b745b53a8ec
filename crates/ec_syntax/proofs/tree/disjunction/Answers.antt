use Rattle.std.proofs.Common.{length, ◌≡◌, rules}
use Rattle.ec_syntax.proofs.Joining.{joined_by_or}
use Rattle.ec_syntax.proofs.tree.disjunction.Goals as goal

pub returns : goal.returns
returns c =
    let some : length c.args.others.items ≡ 0 → ⊥ = search rules in
    joined_by_or _ _ _ some c.in_ok-parts.ensures
