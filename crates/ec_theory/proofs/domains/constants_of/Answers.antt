use Rattle.std.proofs.Common.{◌≡◌, true, false, rules}
use Rattle.ec_logic.specs.Universe.{is_constant_in}
use Rattle.ec_theory.proofs.DomainLemmas.{one_kept, none_kept}
use Rattle.ec_theory.proofs.domains.constants_of.Goals as goal

pub loop-constant-preserved : goal.loop-constant-preserved
loop-constant-preserved c =
    let test = is_constant_in c.args.signature.now c.args.sort in
    let kept : test c.loop-constant.constant ≡ true = search rules in
    rw c.in_ok-push.ensures.items (one_kept test c.loop-constant.values.items c.value_from.result c.loop-constant.constant c.loop-constant.invariant kept c.value_from.ensures)

pub loop-constant-preserved-then-not-constant_in : goal.loop-constant-preserved-then-not-constant_in
loop-constant-preserved-then-not-constant_in c =
    let test = is_constant_in c.args.signature.now c.args.sort in
    let passed : test c.loop-constant.constant ≡ false = search rules in
    none_kept test c.loop-constant.values.items c.loop-constant.constant c.loop-constant.invariant passed
