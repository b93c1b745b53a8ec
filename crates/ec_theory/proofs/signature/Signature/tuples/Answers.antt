use Rattle.ec_theory.specs.Rows.{signature_of}
use Rattle.ec_theory.proofs.TableLemmas.{sized_tuples}
use Rattle.ec_theory.proofs.signature.Signature.tuples.Goals as goal

pub returns : goal.returns
returns c = rw (← c.self.view_is) (sized_tuples (signature_of c.self.inside.rows) c.self.inside.sizes.items c.args.sorts.now c.product_of_sizes.result c.self.invariant (rw c.deref.ensures.value at c.product_of_sizes.ensures.count))
