use Rattle.std.proofs.Common.{refl}
use Rattle.ec_theory.specs.Theories.{theory_of}
use Rattle.ec_engine.specs.declared.showing.ShowEnd.TheVariants as end
use Rattle.ec_engine.proofs.Endings.{by_unit, show_ends}
use Rattle.ec_engine.proofs.showing.show_accepted.Goals as goal

pub returns-in-Ok-clause-put : goal.returns-in-Ok-clause-put
returns-in-Ok-clause-put g c = λ held file accepted read.
    rw c.shown.ensures (show_ends held file _ _ _ _ (λ (_ : Unit {0}). end.Shown c.in-Ok.counts) tt c.put_counts.result
    (record { theory = theory_of c.args.accepted.now.theory; accepted = accepted; read = c.args.accepted.now.files.items; are_read = read; are = c.in-Ok.ensures }, refl)
    (by_unit c.put_counts.result) c.put_counts.ensures.ok c.put_counts.ensures.part)
