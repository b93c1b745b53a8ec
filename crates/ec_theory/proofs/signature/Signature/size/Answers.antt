use Rattle.ec_theory.specs.Rows.{signature_of}
use Rattle.ec_theory.proofs.TableLemmas.{sized_size}
use Rattle.ec_theory.proofs.signature.Signature.size.Goals as goal

pub returns : goal.returns
returns c = rw (← c.self.view_is) (sized_size (signature_of c.self.inside.rows) c.self.inside.sizes.items c.args.sort c.size_at.result c.self.invariant (rw c.deref.ensures.value at c.size_at.ensures))
