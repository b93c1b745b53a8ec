use Rattle.std.proofs.Common.{rules, ◌≡◌, ◌+◌}
use Rattle.std.specs.Prelude.{IfSome}
use Rattle.std.proofs.lemmas.Option.{IfSome_then}
use Rattle.ec_audit.proofs.Within.{rising_below}
use Rattle.ec_audit.proofs.audit.size_for.Goals as goal

pub returns-in-Some : goal.returns-in-Some
returns-in-Some c =
    let next : IfSome c.checked_add.result (λ size. size ≡ c.in-Some.last.now + 1) = search rules in
    IfSome_then c.checked_add.result next (λ size is. rising_below c.args.variables.now c.in-Some.last.now size c.requires c.in-Some.ensures.value is)
