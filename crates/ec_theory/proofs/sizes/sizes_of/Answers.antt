use Rattle.ec_theory.specs.Rows.{signature_of}
use Rattle.ec_theory.proofs.TableLemmas.{sized}
use Rattle.ec_theory.proofs.sizes.sizes_of.Goals as goal

pub returns : goal.returns
returns c =
    let events = rw (c.deref.ensures.value, c.deref-2.ensures.value) at c.ground_terms_of-events.ensures in
    let fluents = rw (c.deref-3.ensures.value, c.deref-4.ensures.value) at c.ground_terms_of-fluents.ensures in
    sized (signature_of c.args.rows.now) c.in_ok-sizes.sizes.items c.ground_terms_of-events.result c.ground_terms_of-fluents.result c.requires c.in_ok-sizes.ensures events fluents
