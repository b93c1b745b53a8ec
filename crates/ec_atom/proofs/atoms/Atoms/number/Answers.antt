use Rattle.std.proofs.Common.{refl}
use Rattle.ec_atom.proofs.BoundLemmas.{many_yes, many_no}
use Rattle.ec_atom.proofs.atoms.Atoms.number.Goals as goal

pub returns-then-has_many-clause-many : goal.returns-then-has_many-clause-many
returns-then-has_many-clause-many c = (λ e. many_yes c.args.theory.now.signature c.has_many.result c.has_many.ensures c.if-has_many.true, λ l. refl)

pub returns-in-Ok-clause-many : goal.returns-in-Ok-clause-many
returns-in-Ok-clause-many c = (λ e. cc, λ l. absurd (many_no c.args.theory.now.signature c.has_many.result c.has_many.ensures c.if-has_many.false l))

pub returns-in-Err-clause-many : goal.returns-in-Err-clause-many
returns-in-Err-clause-many c = (λ e. cc, λ l. absurd (many_no c.args.theory.now.signature c.has_many.result c.has_many.ensures c.if-has_many.false l))
